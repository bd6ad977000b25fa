-- `Bytes::blocks` is the rule's own quotient.
-- Assumes nothing.
use Rattle.std.proofs.Common.{refl, rules}
use Rattle.rules.specs.Calls.{blocks_for}
use Rattle.laws.proofs.Widths.{in_32_bits}
use Rattle.numbers.proofs.Bytes.blocks.Goals as goal

pub overflow_add-result : goal.overflow_add-result
overflow_add-result c = in_32_bits (search rules)

pub returns : goal.returns
unfolding blocks_for
returns c = refl
