-- `past_tails`: the blocks passed are TAILs; the first 64 that hold another end the scan.
-- Assumes nothing.
use Prim.Native.Nat.{◌*◌}
use Rattle.entries.specs.Lent.{entries_of}
use Rattle.backscan.proofs.Tails.{Tails}
use Rattle.backscan.proofs.past_tails.Given as goal

abbrev pub invariant-loop-at : goal.invariant-loop-at
invariant-loop-at l = Tails (entries_of l.table) (64 * l.at) (64 * l.i)
