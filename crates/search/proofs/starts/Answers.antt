-- `starts`: fewer than four blocks may start where a row does, four or more only where four are FREE at an aligned block.
-- Assumes nothing.
use native.Mathlib.Omega.{arith}
use Rattle.search.proofs.Searches.{starts_few, starts_fours, starts_none, starts_many}
use Rattle.search.proofs.starts.Goals as goal

pub returns-then-count-lt4 : goal.returns-then-count-lt4
returns-then-count-lt4 c =
    starts_few c.args.free c.args.next c.args.count (omega arith) c.row_starts.result c.requires c.if-count-lt4.true c.row_starts.ensures

pub returns-then-fours-eq0 : goal.returns-then-fours-eq0
returns-then-fours-eq0 c =
    starts_none c.args.free c.args.next c.args.count (omega arith) c.if-count-lt4.false c.if-fours-eq0.true

pub returns-then-count-gt32 : goal.returns-then-count-gt32
returns-then-count-gt32 c =
    starts_fours c.args.free c.args.next c.args.count (omega arith) c.if-count-lt4.false

pub returns : goal.returns
returns c =
    starts_many c.args.free c.args.next c.args.count (omega arith) c.if-count-lt4.false c.row_starts-2.result c.if-count-gt32.false c.row_starts-2.ensures
