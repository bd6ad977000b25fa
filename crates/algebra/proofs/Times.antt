-- A root list so many times over: how long it is, its words, and that they have the same members.
-- Assumes nothing.
use mathlib.Core.Path.{◌≡◌, refl, ap, sym, ◌∙◌}
use mathlib.Core.Logic.{⊎_elim}
use mathlib.Core.List.Memᴰ
use mathlib.Core.List.{List, ◌++◌, Memᴰ}
use Prim.Native.Nat.{ℕ, zero, suc, ◌*◌, ◌%◌}
use native.Mathlib.Nat.{zero-mul, suc-mul}
use native.Mathlib.Omega.{arith}
use lib.ListN.{length, length-append}
use Rattle.rules.specs.Tests.{tabulate}
use Rattle.rules.specs.Words.{words_of}
use Rattle.laws.proofs.Words.{words_of_append}
use Rattle.algebra.specs.Algebra.{SameMembers}
use Rattle.algebra.specs.Samples.{times}

pub times_length : (n : ℕ) (xs : List ℕ) → length (times n xs) ≡ n * length xs
unfolding times
times_length zero xs = sym (zero-mul (length xs))
times_length (suc n) xs = length-append xs (times n xs) ∙ rw (times_length n xs, suc-mul n (length xs)) (omega arith)

times_words : (n : ℕ) (xs : List ℕ) → length xs % 4 ≡ 0 → words_of (times n xs) ≡ times n (words_of xs)
unfolding times words_of tabulate
times_words zero xs whole = refl
times_words (suc n) xs whole = words_of_append xs (times n xs) whole ∙ ap (λ (ws : List ℕ). words_of xs ++ ws) (times_words n xs whole)

times_members : (n : ℕ) (xs : List ℕ) (x : ℕ) → Memᴰ x (times n xs) → Memᴰ x xs
unfolding times
times_members zero xs x m = absurd (Memᴰ.not-nil m)
times_members (suc n) xs x m = ⊎_elim (λ i. i) (times_members n xs x) (Memᴰ.append_cases xs m)

-- once or more, the same root words
pub times_same : (n : ℕ) (xs : List ℕ) → length xs % 4 ≡ 0 → SameMembers (words_of xs) (words_of (times (suc n) xs))
unfolding times
times_same n xs whole = rw (times_words (suc n) xs whole) (λ x. (Memᴰ.append_left (times n (words_of xs)), times_members (suc n) (words_of xs) x))
