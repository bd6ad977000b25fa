-- Two outcomes of a call that do not tell two heaps apart: the same answer, buffer and table, and pools that match in every allocated block.
-- Assumes nothing.
use mathlib.Core.Path.{◌≡◌}
use mathlib.Core.List.{List}
use Prim.Native.Nat.{ℕ}
use Rattle.rules.specs.Outcomes.{Outcome}
use Rattle.rules.specs.Runs.{Call}
use Rattle.laws.proofs.Matching.{Matching}
use Rattle.laws.proofs.Twice.{Twin}
use Rattle.unwinding.specs.Answers.{SameAnswer, equal}

pub record Same (call : Call) (stack stack' : List ℕ) (x y : Outcome) : Type 0 where
  pub answer : SameAnswer stack stack' x.answer y.answer call
  pub filled : x.filled ≡ y.filled
  pub table : x.heap.entries ≡ y.heap.entries
  pub match : Matching x.heap.entries x.heap.pool y.heap.pool

-- whatever the stacks, of a call that does not look at them
pub same_twin : (call : Call) (stack stack' : List ℕ) {x y : Outcome} → Twin x y → Same call stack stack' x y
same_twin call stack stack' t = record { answer = equal t.answer; filled = t.filled; table = t.table; match = t.match }
