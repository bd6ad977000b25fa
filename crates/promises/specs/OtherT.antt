-- The number by which a call is refused that is given another t than the heap's.
-- Assumes nothing.
use Rattle.std.specs.Prelude.{ℕ, eqb}
use Rattle.rules.specs.Tests.{pick}
use Rattle.rules.specs.Runs.{Call}
use Rattle.rules.specs.Memory.{fault_in}

-- the fault of the file that it reads, or 1
abbrev pub at_other_t : Call → ℕ
at_other_t c = pick (eqb (fault_in c) 0) 1 (fault_in c)
