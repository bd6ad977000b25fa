-- `numbers::negated` meets its contract. Assumes nothing.
use Rattle.std.proofs.Common.{arith}
use Rattle.numbers.proofs.Signed.{difference_fits, negated_is}
use Rattle.numbers.proofs.negated.Goals as goal

pub overflow_sub-result : goal.overflow_sub-result
overflow_sub-result c = difference_fits 0 c.args.freed (omega arith) c.requires

pub returns : goal.returns
returns c = negated_is c.args.freed c.requires
