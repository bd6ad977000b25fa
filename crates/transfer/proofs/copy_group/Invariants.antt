-- `copy_group`: the block of the first bit is copied and the bit cleared, as long as there is one. What remains is the blocks of the bits that are left.
-- Assumes nothing.
use Rattle.transfer.proofs.Copying.{Copies}
use Rattle.transfer.proofs.copy_group.Given as goal

abbrev pub invariant-loop-left : goal.invariant-loop-left
invariant-loop-left l = Copies l.initial.image l.pool l.i l.at l.used l.image l.to l.left

abbrev pub decreases-loop-left : goal.decreases-loop-left
decreases-loop-left l = l.left
