-- The rescans that are left, from the present state, end where all end from the state after the roots; a rescan lowers how many there can be.
-- Assumes nothing.
use mathlib.Core.Path.{◌≡◌}
use Prim.Native.Nat.{◌+◌, ◌≤◌}
use lib.ListN.{length}
use Rattle.rules.specs.Planes.{IsTable}
use Rattle.rules.specs.Marking.{rescan}
use Rattle.laws.proofs.Marking.{to_rescan}
use Rattle.visitor.specs.Variables.{context_of, idle}
use Rattle.marker.proofs.mark.Given as goal

abbrev pub invariant-loop-overflow : goal.invariant-loop-overflow
invariant-loop-overflow l =
    (l.rescans + to_rescan (idle l.t l.table l.overflow) ≤ to_rescan (idle l.t l.initial.table l.initial.overflow))
    × IsTable l.t l.table
    × (length l.table ≡ length l.initial.table)
    × (length l.stack ≡ length l.initial.stack)
    × (rescan (context_of l.base.0 l.pool l.initial.stack) (idle l.t l.table l.overflow) l.rescans ≡ rescan (context_of l.base.0 l.pool l.initial.stack) (idle l.t l.initial.table l.initial.overflow) 0)

abbrev pub decreases-loop-overflow : goal.decreases-loop-overflow
decreases-loop-overflow l = to_rescan (idle l.t l.table l.overflow)
