-- `non_tails`: a block is TAIL if its low bit is clear and its high bit is set.
-- Assumes nothing.
use native.Mathlib.Omega.{arith}
use Rattle.entries.specs.Lent.{entries_of}
use Rattle.backscan.proofs.Tails.{non_tails_are}
use Rattle.backscan.proofs.non_tails.Goals as goal

pub returns : goal.returns
returns c =
    let a = c.args in
    let g = c.group-g in
    non_tails_are (entries_of a.table.now) a.i g.result.low g.result.high (omega arith) g.ensures
