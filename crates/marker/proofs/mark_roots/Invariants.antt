-- The roots that are left, from the present state, end where all the roots end from the first.
-- Assumes nothing.
use mathlib.Core.Path.{◌≡◌}
use mathlib.Core.Bool.{false}
use mathlib.Core.List.{◌∷◌}
use lib.ListN.{length, drop}
use Rattle.rules.specs.Words.{words_of}
use Rattle.rules.specs.Planes.{IsTable}
use Rattle.rules.specs.Marking.{mark_roots}
use Rattle.visitor.specs.Variables.{context_of, idle}
use Rattle.marker.proofs.mark_roots.Given as goal

abbrev pub invariant-loop-i : goal.invariant-loop-i
invariant-loop-i l =
    IsTable l.t l.table
    × (length l.table ≡ length l.fn.table)
    × (length l.stack ≡ length l.fn.stack)
    × (mark_roots (context_of l.base.0 l.pool l.fn.stack) (drop l.i (l.first ∷ words_of l.roots)) (idle l.t l.table l.overflow) ≡ mark_roots (context_of l.base.0 l.pool l.fn.stack) (l.first ∷ words_of l.roots) (idle l.t l.fn.table false))
