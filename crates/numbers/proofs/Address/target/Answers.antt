-- `Address::target` is the block at the address that the word holds.
-- Assumes nothing.
use Rattle.std.proofs.Common.{ap, ◌∙◌}
use Rattle.rules.specs.Pointers.{target_of}
use Rattle.numbers.proofs.Address.target.Goals as goal

pub returns : goal.returns
returns c = c.block_at.ensures ∙ ap (target_of _ _) c.from.ensures
