-- `block_offset`: the block's number fits.
-- Assumes nothing.
use borrow.Author.Rules.{rules}
use Rattle.laws.proofs.Widths.{in_32_bits}
use Rattle.transfer.proofs.block_offset.Goals as goal

pub overflow_mul-i : goal.overflow_mul-i
overflow_mul-i c = in_32_bits (search rules)

pub overflow_add-i : goal.overflow_add-i
overflow_add-i c = in_32_bits (search rules)
