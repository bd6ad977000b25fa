-- The blocks that are left, from the present state, end where all the blocks end from the first.
-- Assumes nothing.
use mathlib.Core.Path.{◌≡◌}
use mathlib.Core.Bool.{false}
use Prim.Native.Nat.{◌-◌}
use lib.ListN.{length}
use Rattle.rules.specs.Planes.{IsTable}
use Rattle.rules.specs.Marking.{pass_from}
use Rattle.visitor.specs.Variables.{context_of, idle}
use Rattle.marker.proofs.rescan.Given as goal

abbrev pub invariant-loop-i : goal.invariant-loop-i
invariant-loop-i l =
    IsTable l.t l.table
    × (length l.table ≡ length l.initial.table)
    × (length l.stack ≡ length l.initial.stack)
    × (pass_from (context_of l.base.0 l.pool l.initial.stack) l.i (l.n - l.i) (idle l.t l.table l.overflow) ≡ pass_from (context_of l.base.0 l.pool l.initial.stack) 0 l.n (idle l.t l.initial.table false))
