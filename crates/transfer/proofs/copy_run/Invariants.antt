-- `copy_run`: block by block. What remains is the source from the next block on.
-- Assumes nothing.
use Prim.Native.Nat.{◌*◌}
use lib.ListN.{drop}
use Rattle.transfer.proofs.Copying.{Remains}
use Rattle.transfer.proofs.copy_run.Given as goal

abbrev pub invariant-loop-i : goal.invariant-loop-i
invariant-loop-i l = Remains l.initial.target 0 l.source l.target (16 * l.i) (drop (16 * l.i) l.source)
