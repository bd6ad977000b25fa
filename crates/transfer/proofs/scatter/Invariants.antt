-- `scatter`: what remains is the pool of the entries from the next 64 on.
-- Assumes nothing.
use Rattle.entries.specs.Lent.{entries_of}
use Rattle.transfer.proofs.Placing.{Fills}
use Rattle.transfer.proofs.scatter.Given as goal

abbrev pub invariant-loop-i : goal.invariant-loop-i
invariant-loop-i l = Fills (entries_of l.table) l.bytes l.initial.pool l.pool l.i l.next
