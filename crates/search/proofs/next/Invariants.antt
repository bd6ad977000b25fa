-- `next`: before the word in hand the blocks may start nowhere, so the first bit that is found in it is the next start.
-- Assumes nothing.
use Prim.Native.Nat.{◌+◌, ◌-◌, ◌*◌, ◌≤◌, ◌<◌}
use Rattle.entries.specs.Lent.{entries_of}
use Rattle.search.specs.Starts.{NoStart}
use Rattle.search.proofs.next.Given as goal

abbrev pub invariant-loop-at : goal.invariant-loop-at
invariant-loop-at l = (l.at ≤ 128) × ((l.first < 32 * (l.at + 1)) × NoStart (entries_of l.table) l.count l.first (32 * l.at))

abbrev pub decreases-loop-at : goal.decreases-loop-at
decreases-loop-at l = 128 - l.at
