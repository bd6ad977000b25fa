-- What each call answers and leaves, as a result on lent memory.
-- Assumes nothing.
use Rattle.std.specs.Prelude.{List, ℕ, ℤ, Result as Returned}
use Rattle.rules.specs.Outcomes.{placement}
use Rattle.rules.specs.Memory.{Result}
use Rattle.refusals.specs.declared.Refusal.{Refusal}
use Rattle.heap.specs.Answers.{given, answer_of}
use Rattle.objects.specs.declared.Placed.{Placed}
use Rattle.objects.specs.Answers.{place_of}

-- a block and the change
abbrev pub placed : Returned Placed Refusal → List ℕ → List ℕ → Result
placed r pool table = given (place_of r) pool table

-- the change
abbrev pub freed : Returned ℤ Refusal → List ℕ → List ℕ → Result
freed r pool table = given (answer_of (λ d. placement 0 0 d) r) pool table
