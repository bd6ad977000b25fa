-- What marking a block finds, and what it leaves.
-- Assumes nothing.
use Rattle.std.specs.Prelude.{◌≡◌, ◌≢◌, List, ℕ, set}
use Rattle.rules.specs.Entries.{HEAD, TAIL, MARK}
use Rattle.rules.specs.Tables.{entry_at}
use Rattle.rules.specs.Planes.{Holds}
use Rattle.entries.specs.declared.Met.{Met}
use Rattle.entries.specs.declared.Met.TheVariants.{Head, Tail, Other}

-- block k of the entries es was so, and the table then holds them with a HEAD there made MARK
abbrev pub MarksHead : ℕ → List ℕ → ℕ → List ℕ → Met → Type 0
MarksHead t es k table Head = (entry_at es k ≡ HEAD) × Holds t (set es k MARK) table
MarksHead t es k table Tail = (entry_at es k ≡ TAIL) × Holds t es table
MarksHead t es k table Other = (entry_at es k ≢ HEAD) × ((entry_at es k ≢ TAIL) × Holds t es table)
