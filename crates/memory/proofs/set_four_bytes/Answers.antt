-- `set_four_bytes` stores the rule's four bytes.
-- Assumes nothing.
use mathlib.Core.Path.{ap, ◌∙◌}
use lib.Seq.{sets}
use Rattle.memory.proofs.Conversions.{bytes_written}
use Rattle.memory.proofs.set_four_bytes.Goals as goal

pub returns : goal.returns
returns c =
    let a = c.args in
    c.set_bytes.ensures ∙ ap (sets a.bytes.now a.at) (c.to_le_bytes.ensures ∙ bytes_written a.w)
