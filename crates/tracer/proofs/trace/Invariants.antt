-- Tracing the next object from the present state ends where tracing the first one ends. The measure is the HEADs and the depth.
-- Assumes nothing.
use mathlib.Core.Path.{◌≡◌}
use Prim.Native.Nat.{◌<◌}
use lib.ListN.{length}
use Rattle.rules.specs.Planes.{entries_in}
use Rattle.rules.specs.Marking.{trace}
use Rattle.laws.proofs.Marking.{to_drain}
use Rattle.visitor.specs.Variables.{context_of, state_of, CanTrace}
use Rattle.tracer.proofs.trace.Given as goal

abbrev pub invariant-loop-base : goal.invariant-loop-base
invariant-loop-base l =
    CanTrace l.base.0 l.t l.pool l.table l.stack l.left
    × (l.next.0 < length (entries_in l.t l.table))
    × (length l.table ≡ length l.initial.table)
    × (length l.stack ≡ length l.initial.stack)
    × (trace (context_of l.base.0 l.pool l.initial.stack) l.next.0 (state_of l.t l.table l.stack l.left) ≡ trace (context_of l.base.0 l.pool l.initial.stack) l.initial.next.0 (state_of l.t l.initial.table l.initial.stack l.initial.left))

abbrev pub decreases-loop-base : goal.decreases-loop-base
decreases-loop-base l = to_drain (state_of l.t l.table l.stack l.left)
