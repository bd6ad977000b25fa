-- `well_formed`: the entries are tested from the front on, eight bytes of each plane at a time and then single ones.
-- Assumes nothing.
use Rattle.std.proofs.Common.{◌*◌}
use Rattle.entries.specs.Lent.{entries_of}
use Rattle.whole.specs.Shapes.{TestedFrom}
use Rattle.whole.proofs.well_formed.Given as goal

abbrev pub invariant-loop-i : goal.invariant-loop-i
invariant-loop-i l = TestedFrom (entries_of l.table) 0 (8 * (8 * l.i)) l.bad l.before

abbrev pub invariant-loop-j : goal.invariant-loop-j
invariant-loop-j l = TestedFrom (entries_of l.table) 0 (8 * l.j) l.bad l.before
