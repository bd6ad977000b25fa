-- Where an object is then: as an answer, and as an outcome on the heap.
-- Assumes nothing.
use Rattle.std.specs.Prelude.{Result, Ok, Err}
use Rattle.rules.specs.Outcomes.{Heap, Answer, Outcome, leaves, placement, only_refusal}
use Rattle.refusals.specs.Codes.{code}
use Rattle.refusals.specs.declared.Refusal.{Refusal}
use Rattle.objects.specs.declared.Placed.{Placed}

-- a block and the change; of a refusal every other part is zero
abbrev pub place_of : Result Placed Refusal → Answer
place_of (Ok p) = placement 0 p.block.0 p.change
place_of (Err r) = only_refusal (code r)

abbrev pub placed_in : Result Placed Refusal → Heap → Outcome
placed_in r h = leaves (place_of r) h
