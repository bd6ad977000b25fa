-- The refusal of a call that reads the table: the first of its tests that holds on the heap, where 1 is also a length that does not fit t, and 2 a spare bit that is set.
-- Assumes nothing.
use Rattle.std.specs.Prelude.{List, ℕ}
use Rattle.rules.specs.Outcomes.{Heap}
use Rattle.rules.specs.Refusals.{Test, first_of}
use Rattle.rules.specs.Runs.{Survey}
use Rattle.rules.specs.Memory.{memory, tests_in}
use Rattle.rules.specs.Planes.{planes, heap_at}

abbrev pub refusal_by : ℕ → List ℕ → List ℕ → (Heap → List Test) → ℕ
refusal_by t pool table tests = first_of (tests_in (planes t) (Survey 0) (memory pool table) (first_of (tests (heap_at t pool table))))
