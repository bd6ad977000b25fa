-- `blocks`: four for each t.
-- Assumes nothing.
use mathlib.Core.Path.{sym}
use borrow.Author.Rules.{rules}
use Rattle.laws.proofs.Planes.{length_entries_in}
use Rattle.laws.proofs.Widths.{in_32_bits}
use Rattle.entries.proofs.blocks.Goals as goal

pub overflow_mul-result : goal.overflow_mul-result
overflow_mul-result c = in_32_bits (search rules)

pub returns : goal.returns
returns c = λ table. sym (length_entries_in c.args.t table)
