-- What the opening of an image answers and leaves, as a result on lent memory with the root list that was lent for it.
-- Assumes nothing.
use Rattle.std.specs.Prelude.{List, ℕ, Result, Ok, Err}
use Rattle.rules.specs.Outcomes.{opening}
use Rattle.rules.specs.Memory.{memory, Result as ResultOf, filling}
use Rattle.refusals.specs.declared.Refusal.{Refusal}
use Rattle.refusals.specs.Codes.{code}
use Rattle.opener.specs.declared.Opened.{Opened}

-- of a refusal the other answers are zero
abbrev pub opened : Result Opened Refusal → List ℕ → List ℕ → List ℕ → ResultOf
opened (Ok o) pool table roots = filling (opening 0 o.base o.roots) (memory pool table) roots
opened (Err r) pool table roots = filling (opening (code r) 0 0) (memory pool table) roots
