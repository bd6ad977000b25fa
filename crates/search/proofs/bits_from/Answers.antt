-- `bits_from`: the mask of the law.
-- Assumes nothing.
use borrow.Author.Rules.{rules}
use Rattle.laws.proofs.Widths.{in_32_bits}
use Rattle.search.proofs.Searches.{mask_from}
use Rattle.search.proofs.bits_from.Goals as goal

pub overflow_mul-at : goal.overflow_mul-at
overflow_mul-at c = in_32_bits (search rules)

pub returns : goal.returns
returns c = rw c.saturating_sub.ensures (mask_from c.args.from c.args.at)
