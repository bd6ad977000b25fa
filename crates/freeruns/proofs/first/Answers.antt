-- `first`: the zeros that stand below the lowest set bit.
-- Assumes nothing.
use Rattle.freeruns.proofs.Rows.{zeros_below}
use Rattle.freeruns.proofs.first.Goals as goal

pub returns : goal.returns
returns c = zeros_below 64 c.args.bits
