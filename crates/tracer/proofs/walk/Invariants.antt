-- What is left to walk from the present state ends where all the words end from the state at the start. The measure is the words left.
-- Assumes nothing.
use mathlib.Core.Path.{◌≡◌}
use Prim.Native.Nat.{◌/◌, ◌≤◌}
use lib.ListN.{length}
use Rattle.rules.specs.Planes.{entries_in, IsTable}
use Rattle.rules.specs.Marking.{walk_words}
use Rattle.visitor.specs.Variables.{context_of, state_of, Knows}
use Rattle.tracer.proofs.walk.Given as goal

abbrev pub invariant-loop-i : goal.invariant-loop-i
invariant-loop-i l =
    (l.i ≤ l.initial.i)
    × (l.walked.depth ≤ length l.stack / 4)
    × IsTable l.t l.table
    × (length l.table ≡ length l.initial.table)
    × (length l.stack ≡ length l.initial.stack)
    × Knows (entries_in l.t l.table) l.walked
    × (walk_words (context_of l.base.0 l.pool l.initial.stack) l.first l.i (state_of l.t l.table l.stack l.walked) ≡ walk_words (context_of l.base.0 l.pool l.initial.stack) l.first l.initial.i (state_of l.t l.initial.table l.initial.stack l.initial.walked))
