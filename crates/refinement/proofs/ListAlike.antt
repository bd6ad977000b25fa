-- Nothing counts that was there before an init or an opening: neither what is lent nor which list of objects it is.
-- Assumes nothing.
use mathlib.Core.Path.{◌≡◌, refl, sym, ◌∙◌}
use mathlib.Core.Bool.{true}
use mathlib.Core.List.{List, []}
use Prim.Native.Nat.{ℕ, ◌*◌}
use lib.IntN.{ℤ}
use Rattle.rules.specs.Runs.{Call, starts_anew}
use Rattle.rules.specs.Lent.{Lent}
use Rattle.laws.specs.Meaning.{AllBytes}
use Rattle.plain.specs.Objects.{Plain}
use Rattle.services.specs.Services.{HeapCall, refusal_of, Asked, asked, served_to, responses, buffers}
use Rattle.refinement.specs.AsList.{list_responses, sum_of, AllOpenBytes, from}
use Rattle.refinement.proofs.AsList.{as_list}

-- the start is accepted
abbrev pub Started : ℕ → Call → Lent → Type 0
Started t c l = refusal_of (served_to (asked t (HeapCall c) []) l).reply ≡ 0

abbrev pub blank_list : ℕ → Plain
blank_list t = record { size = 4 * t; objects = [] }

-- two lents of any content
pub responses_alike : (t : ℕ) (c : Call) (l l' : Lent) (xs : List Asked) → starts_anew c ≡ true → Started t c l → Started t c l' → responses (from t c xs) l ≡ responses (from t c xs) l'
responses_alike t c l l' xs starts z z' = as_list.same_responses t c l (blank_list t) xs starts z refl ∙ sym (as_list.same_responses t c l' (blank_list t) xs starts z' refl)

pub buffers_alike : (t : ℕ) (c : Call) (l l' : Lent) (xs : List Asked) → starts_anew c ≡ true → Started t c l → Started t c l' → AllBytes l.memory.pool → AllBytes l'.memory.pool
    → AllOpenBytes (from t c xs) → buffers (from t c xs) l ≡ buffers (from t c xs) l'
buffers_alike t c l l' xs starts z z' bytes bytes' files =
    as_list.same_buffers t c l (blank_list t) xs starts z refl bytes files ∙ sym (as_list.same_buffers t c l' (blank_list t) xs starts z' refl bytes' files)

-- two lists of any objects, that have 4t blocks
pub lists_alike : (t : ℕ) (c : Call) (l : Lent) (p q : Plain) (xs : List Asked) → starts_anew c ≡ true → Started t c l → p.size ≡ 4 * t → q.size ≡ 4 * t
    → list_responses (from t c xs) p ≡ list_responses (from t c xs) q
lists_alike t c l p q xs starts z size size' = sym (as_list.same_responses t c l p xs starts z size) ∙ as_list.same_responses t c l q xs starts z size'

-- and whatever was counted
pub sums_alike : (t : ℕ) (c : Call) (l : Lent) (xs : List Asked) (d e : ℤ) → starts_anew c ≡ true → Started t c l → sum_of (from t c xs) l d ≡ sum_of (from t c xs) l e
sums_alike t c l xs d e starts z = as_list.used_is_sum t c l xs d starts z ∙ sym (as_list.used_is_sum t c l xs e starts z)
