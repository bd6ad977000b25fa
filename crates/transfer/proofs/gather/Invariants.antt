-- `gather`: what remains is the used blocks from the next 64 on.
-- Assumes nothing.
use Prim.Native.Nat.{◌*◌}
use lib.ListN.{drop}
use Rattle.entries.specs.Lent.{entries_of}
use Rattle.rules.specs.Images.{used_from}
use Rattle.transfer.proofs.Copying.{Remains}
use Rattle.transfer.proofs.gather.Given as goal

abbrev pub invariant-loop-i : goal.invariant-loop-i
invariant-loop-i l = let es = entries_of l.table in Remains l.initial.image l.at (used_from l.pool 0 es) l.image l.to (used_from l.pool (64 * l.i) (drop (64 * l.i) es))
