-- `plane_bytes` is the rule's own division.
-- Assumes nothing.
use mathlib.Core.Path.{refl}
use borrow.Author.Rules.{rules}
use Rattle.rules.specs.Planes.{plane_bytes}
use Rattle.laws.proofs.Widths.{in_32_bits}
use Rattle.entries.proofs.plane_bytes.Goals as goal

pub overflow_add-result : goal.overflow_add-result
overflow_add-result c = in_32_bits (search rules)

pub returns : goal.returns
unfolding plane_bytes
returns c = refl
