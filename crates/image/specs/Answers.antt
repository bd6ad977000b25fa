-- What the writing of an image answers and leaves, as a result on lent memory with the buffer that was lent for it.
-- Assumes nothing.
use Rattle.std.specs.Prelude.{List, ℕ, Result, Ok, Err}
use Rattle.rules.specs.Outcomes.{writing}
use Rattle.rules.specs.Memory.{memory, Result as ResultOf, filling}
use Rattle.refusals.specs.declared.Refusal.{Refusal}
use Rattle.refusals.specs.Codes.{code}

-- of a refusal the length is zero
abbrev pub written : Result ℕ Refusal → List ℕ → List ℕ → List ℕ → ResultOf
written (Ok n) pool table image = filling (writing 0 n) (memory pool table) image
written (Err r) pool table image = filling (writing (code r) 0) (memory pool table) image
