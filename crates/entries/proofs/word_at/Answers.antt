-- `word_at`: four bytes of the plane.
-- Assumes nothing.
use borrow.Author.Rules.{rules}
use Rattle.laws.proofs.Widths.{in_slice}
use Rattle.entries.proofs.word_at.Goals as goal

pub overflow_mul-i : goal.overflow_mul-i
overflow_mul-i c = in_slice c.args.plane.now (search rules) (search rules)

pub returns : goal.returns
returns c = c.bits.ensures
