-- `first_fit`: blocks may start nowhere before the start in hand, nor where they would hold a block that is not FREE, so the search may go on after that
-- block. The answer is the lowest start, and there is one lowest start.
-- Assumes nothing.
use mathlib.Core.Path.{◌≡◌}
use Prim.Native.Nat.{◌-◌}
use Rattle.entries.specs.Lent.{entries_of}
use Rattle.laws.specs.Meaning.{Run}
use Rattle.search.specs.Starts.{Next}
use Rattle.table.proofs.first_fit.Given as goal

abbrev pub invariant-loop-i : goal.invariant-loop-i
invariant-loop-i l = (l.start.0 ≡ l.initial.start.0) × Run (entries_of l.table) l.i l.initial.start.0

abbrev pub decreases-loop-i : goal.decreases-loop-i
decreases-loop-i l = l.count - l.i

abbrev pub invariant-starts : goal.invariant-starts
invariant-starts l = Next (entries_of l.table) l.count 0 l.start.0

abbrev pub decreases-starts : goal.decreases-starts
decreases-starts l = l.n - l.start.0
