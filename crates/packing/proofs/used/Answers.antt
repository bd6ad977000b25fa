-- `used`: byte by byte.
-- Assumes nothing.
use mathlib.Core.Path.{◌≡◌, refl, sym, ◌∙◌}
use mathlib.Core.List.{List, [], ◌∷◌}
use Prim.Native.Nat.{ℕ, ◌+◌}
use borrow.Author.Rules.{rules}
use Rattle.std.specs.List.{sum_by}
use Rattle.std.proofs.lemmas.List.Sums.{sum_by-cons}
use Rattle.rules.specs.Tests.{count}
use Rattle.rules.specs.Entries.{entries_of}
use Rattle.rules.specs.Tables.{is_used, used}
use Rattle.laws.proofs.Lists.{count_append}
use Rattle.packing.proofs.used.Goals as goal

-- those of a byte, and the others
one_more : (b : ℕ) (packed : List ℕ) → used (entries_of (b ∷ [])) + used (entries_of packed) ≡ used (entries_of (b ∷ packed))
unfolding used entries_of
one_more b packed = sym (count_append is_used (entries_of (b ∷ [])) (entries_of packed))

all_used : (packed : List ℕ) → sum_by (λ b. used (entries_of (b ∷ []))) packed ≡ used (entries_of packed)
unfolding used entries_of count
all_used [] = refl
all_used (b ∷ packed) = let more = sum_by-cons (λ b. used (entries_of (b ∷ []))) b packed in more ∙ rw (all_used packed) (one_more b packed)

pub returns : goal.returns
returns c =
    let n : c.sum-n.result ≡ sum_by (λ b. used (entries_of (b ∷ []))) c.args.packed.now = search rules in
    c.from.ensures ∙ n ∙ all_used c.args.packed.now
