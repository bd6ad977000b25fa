-- `place_group`: the block of the first bit gets the next block of the bytes and the bit is cleared, as long as there is one. What is left is the blocks of the bits that are left.
-- Assumes nothing.
use Rattle.transfer.proofs.Placing.{Places}
use Rattle.transfer.proofs.place_group.Given as goal

abbrev pub invariant-loop-left : goal.invariant-loop-left
invariant-loop-left l = Places l.initial.pool l.bytes l.i l.passed l.used l.pool l.next l.left

abbrev pub decreases-loop-left : goal.decreases-loop-left
decreases-loop-left l = l.left
