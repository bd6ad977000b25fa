-- `marker::root`: word i - 1 of the caller's roots is root i, behind the first.
-- Assumes nothing.
use mathlib.Core.Path.{◌≡◌, refl, sym, ◌∙◌}
use mathlib.Core.List.{List, ◌∷◌}
use Prim.Native.Nat.{ℕ, zero, suc, ◌-◌, ◌/◌, ◌≤◌}
use native.Mathlib.Omega.{arith}
use lib.ListN.{length, get_or}
use Rattle.rules.specs.Words.{word_at, words_of}
use Rattle.laws.proofs.Words.{get_d_words_of}
use Rattle.marker.proofs.root.Goals as goal

behind : (first : ℕ) (roots : List ℕ) (i : ℕ) → (i ≡ 0 → ⊥) → i ≤ length roots / 4 → get_or (first ∷ words_of roots) i 0 ≡ word_at roots (i - 1)
behind first roots zero ne l = absurd (ne refl)
behind first roots (suc i) ne l = let e : suc i - 1 ≡ i = omega arith in rw e (get_d_words_of roots i (omega arith))

pub returns : goal.returns
returns c =
    c.word.ensures ∙ sym (behind c.args.first c.args.roots.now c.args.i c.if-i-eq0.false c.requires)
