-- `pass`: what is known where the search begins is known at every word, with that word's bits in hand.
-- Assumes nothing.
use Prim.Native.Nat.{◌≤◌}
use Rattle.entries.specs.Lent.{entries_of}
use Rattle.search.proofs.Searches.{Passed}
use Rattle.search.proofs.pass.Given as goal

abbrev pub invariant-loop-at : goal.invariant-loop-at
invariant-loop-at l = (l.at ≤ 128) × Passed (entries_of l.table) l.count l.i l.at l.free
