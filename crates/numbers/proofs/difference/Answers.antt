-- `numbers::difference` meets its contract. Assumes nothing.
use Rattle.numbers.proofs.Signed.{difference_fits, difference_is}
use Rattle.numbers.proofs.difference.Goals as goal

pub overflow_sub-result : goal.overflow_sub-result
overflow_sub-result c = difference_fits c.args.after c.args.before c.requires.0 c.requires.1

pub returns : goal.returns
returns c = difference_is c.args.after c.args.before c.requires.0 c.requires.1
