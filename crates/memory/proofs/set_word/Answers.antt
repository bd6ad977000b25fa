-- `set_word` stores the four bytes where the rule has the word.
-- Assumes nothing.
use borrow.Author.Rules.{rules}
use Rattle.rules.specs.Words.{with_word}
use Rattle.laws.proofs.Widths.{in_slice}
use Rattle.memory.proofs.set_word.Goals as goal

pub overflow_mul-i : goal.overflow_mul-i
overflow_mul-i c = in_slice c.args.bytes.now (search rules) (search rules)

pub returns : goal.returns
unfolding with_word
returns c = c.set_four_bytes.ensures
