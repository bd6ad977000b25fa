-- `Block::plus`: the sum fits 32 bits.
-- Assumes nothing.
use Rattle.std.proofs.Common.{rules}
use Rattle.laws.proofs.Widths.{in_32_bits}
use Rattle.numbers.proofs.Block.plus.Goals as goal

pub overflow_add-result : goal.overflow_add-result
overflow_add-result c = in_32_bits (search rules)
