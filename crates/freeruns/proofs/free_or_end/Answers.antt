-- `free_or_end`: a block is FREE if both its bits are clear; the mask leaves those of the table, and past its end there are none.
-- Assumes nothing.
use native.Mathlib.Omega.{arith}
use borrow.Author.Rules.{rules}
use Rattle.entries.specs.Lent.{entries_of}
use Rattle.laws.proofs.Widths.{in_32_bits}
use Rattle.freeruns.proofs.Frees.{none_free, free_whole, free_left}
use Rattle.freeruns.proofs.free_or_end.Goals as goal

pub overflow_mul-i : goal.overflow_mul-i
overflow_mul-i c = in_32_bits (search rules)

pub returns-then-left-eq0 : goal.returns-then-left-eq0
returns-then-left-eq0 c =
    let a = c.args in
    none_free (entries_of a.table.now) a.i (omega (arith, c.blocks-2.ensures))

pub returns-then-left-lt32 : goal.returns-then-left-lt32
returns-then-left-lt32 c =
    let a = c.args in
    let g = c.group-g in
    free_left (entries_of a.table.now) a.i g.result.low g.result.high (omega arith) (omega arith) g.ensures c.saturating_sub-left.result c.if-left-lt32.true
    (omega (arith, c.blocks-2.ensures, c.if-left-eq0.false))

pub returns : goal.returns
returns c =
    let a = c.args in
    let g = c.group-g in
    free_whole (entries_of a.table.now) a.i g.result.low g.result.high (omega arith) (omega arith) g.ensures (omega (arith, c.blocks-2.ensures))
