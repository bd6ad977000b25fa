-- `row_from`: the bits that are set at the front, behind the shift.
-- Assumes nothing.
use native.Mathlib.Omega.{arith}
use Rattle.freeruns.proofs.Rows.{zeros_at, whole_row}
use Rattle.freeruns.proofs.row_from.Goals as goal

pub returns : goal.returns
returns c = whole_row c.args.bits c.args.j _ (omega arith) (zeros_at c.trailing_ones.ensures)
