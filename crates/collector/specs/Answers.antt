-- What a collection answers and leaves: as an outcome on the heap, and as a result on lent memory.
-- Assumes nothing.
use Rattle.std.specs.Prelude.{List, ℕ, pos, Result as Returned, Ok, Err}
use Rattle.rules.specs.Outcomes.{Heap, Answer, Outcome, leaves_with, collection}
use Rattle.rules.specs.Memory.{memory, Result, result}
use Rattle.refusals.specs.Codes.{code}
use Rattle.refusals.specs.declared.Refusal.{Refusal}
use Rattle.collector.specs.declared.Collected.{Collected}

abbrev pub answer_of : Returned Collected Refusal → Answer
answer_of (Ok c) = collection 0 c.kept c.rescans c.change
answer_of (Err r) = collection (code r) 0 0 (pos 0)

abbrev pub outcome_of : Returned Collected Refusal → Heap → List ℕ → Outcome
outcome_of r h stack = leaves_with (answer_of r) h stack

abbrev pub result_of : Returned Collected Refusal → List ℕ → List ℕ → List ℕ → Result
result_of r pool table stack = result (answer_of r) (memory pool table) stack
