-- `set_two_bytes` stores the rule's two bytes.
-- Assumes nothing.
use mathlib.Core.Path.{ap, ◌∙◌}
use lib.Seq.{sets}
use Rattle.memory.proofs.Conversions.{two_written}
use Rattle.memory.proofs.set_two_bytes.Goals as goal

pub returns : goal.returns
returns c =
    let a = c.args in
    c.set_bytes.ensures ∙ ap (sets a.bytes.now a.at) (c.to_le_bytes.ensures ∙ two_written a.n)
