-- `may_start`: where the blocks may start there is a candidate, and a bit of `starts`.
-- Assumes nothing.
use mathlib.Core.Path.{◌≡◌, subst}
use Prim.Native.Nat.{ℕ}
use native.Mathlib.Omega.{arith}
use borrow.Author.Tests.{eqb-true, not-false}
use Rattle.laws.proofs.Bits.{bit_of_zero}
use Rattle.rules.specs.Bits.{bit_of}
use Rattle.search.specs.Starts.{Starts}
use Rattle.search.proofs.Searches.{none_set}
use Rattle.search.proofs.may_start.Goals as goal

pub returns-then-candidates-eq0 : goal.returns-then-candidates-eq0
returns-then-candidates-eq0 c = λ _ j l al all. omega (arith, subst (λ (x : ℕ). bit_of x j ≡ 1) c.if-candidates-eq0.true (c.candidates.ensures j l all), bit_of_zero j)

pub returns : goal.returns
returns c =
    let a = c.args in
    λ none. none_set a.free a.next a.count (subst (λ (x : ℕ). Starts a.free a.next a.count x) (eqb-true c.starts.result 0 (not-false _ none)) c.starts.ensures)
