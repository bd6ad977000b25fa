-- `Address::of_block` is the rule's own sum.
-- Assumes nothing.
use Rattle.std.proofs.Common.{refl, rules}
use Rattle.rules.specs.Pointers.{address_of}
use Rattle.laws.proofs.Widths.{as_u64}
use Rattle.numbers.proofs.Address.of_block.Goals as goal

pub overflow_mul-result : goal.overflow_mul-result
overflow_mul-result c = as_u64 (search rules)

pub overflow_add-result : goal.overflow_add-result
overflow_add-result c = as_u64 (search rules)

pub returns : goal.returns
unfolding address_of
returns c = refl
