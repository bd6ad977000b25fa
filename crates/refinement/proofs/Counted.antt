-- The sum of the changes, one answer further.
-- Assumes nothing.
use mathlib.Core.Path.{◌≡◌}
use mathlib.Core.Bool.{true, false}
use Prim.Native.Nat.{ℕ, suc}
use lib.IntN.{ℤ, pos, ◌+ℤ◌, +ℤ_idr}
use native.Mathlib.Omega.{arith}
use borrow.Author.Tests.{ne_eqb}
use Rattle.rules.specs.Outcomes.{Answer, only_refusal}
use Rattle.rules.specs.Runs.{Call, starts_anew}
use Rattle.laws.proofs.Refusals.{both_false}
use Rattle.services.specs.Services.{HeapCall, answered}
use Rattle.refinement.specs.AsList.{used_first, counted_in}

-- the sum, one answer of a call further
abbrev pub counted : Call → Answer → ℤ → ℤ
counted c a d = counted_in (HeapCall c) (answered a) d

-- the three ways to count an answer: a refused one, one that adds its change, one that starts anew
module _ (c : Call) (d : ℤ) where
  pub counted_refused : (r : ℕ) → counted c (only_refusal (suc r)) d ≡ d
  unfolding counted_in
  counted_refused r = rw (ne_eqb (suc r) 0 (λ e. omega arith), both_false _) (+ℤ_idr d)

  pub counted_change : (a : Answer) → starts_anew c ≡ false → counted c a d ≡ d +ℤ a.change
  unfolding counted_in
  counted_change a e = rw e

  pub counted_anew : (a : Answer) → starts_anew c ≡ true → a.refusal ≡ 0 → counted c a d ≡ pos (used_first (HeapCall c))
  unfolding counted_in
  counted_anew a e z = rw (e, z)
