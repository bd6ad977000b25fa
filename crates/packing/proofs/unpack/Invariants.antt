-- `unpack`: the table is unpacked from its front on. Past the end of the packed table a byte reads as zero, which is four FREE entries.
-- Assumes nothing.
use Rattle.rules.specs.Entries.{entries_of}
use Rattle.packing.specs.Packing.{UnpackedTo}
use Rattle.packing.proofs.unpack.Given as goal

abbrev pub invariant-loop-i : goal.invariant-loop-i
invariant-loop-i l = UnpackedTo l.t (entries_of l.packed) l.table l.i
