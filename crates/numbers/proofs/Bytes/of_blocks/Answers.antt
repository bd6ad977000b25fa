-- `Bytes::of_blocks`: the product fits 32 bits.
-- Assumes nothing.
use Rattle.std.proofs.Common.{rules}
use Rattle.laws.proofs.Widths.{in_32_bits}
use Rattle.numbers.proofs.Bytes.of_blocks.Goals as goal

pub overflow_mul-result : goal.overflow_mul-result
overflow_mul-result c = in_32_bits (search rules)
