-- `set_part`: what is left of the part, stored from where the loop stands, gives what all of it would.
-- Assumes nothing.
use borrow.Author.Rules.{rules}
use Rattle.laws.proofs.Widths.{in_slice}
use Rattle.memory.proofs.set_part.Goals as goal

pub overflow_add-bytes : goal.overflow_add-bytes
overflow_add-bytes c = in_slice c.args.bytes.now (search rules) (search rules)
