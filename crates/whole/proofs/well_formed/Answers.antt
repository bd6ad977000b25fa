-- `well_formed`: the entries are tested from the front on, eight bytes of each plane at a time and then single ones.
-- Assumes nothing.
use Rattle.std.proofs.Common.{◌≡◌, ◌+◌, ◌*◌, arith}
use Rattle.laws.proofs.Widths.{in_32_bits}
use Rattle.entries.specs.Lent.{entries_of}
use Rattle.whole.proofs.Planes.{short, all_entries}
use Rattle.whole.proofs.Testing.{tested_all, tests_on}
use Rattle.whole.proofs.well_formed.Goals as goal

pub overflow_mul-i : goal.overflow_mul-i
overflow_mul-i c = in_32_bits (record { fits = omega (arith, short c.args.table.now.is_table c.planes-planes.ensures.lows) })

pub loop-i-preserved : goal.loop-i-preserved
loop-i-preserved c =
    let l = c.loop-i in
    let next : 8 * l.i + 8 ≡ 8 * (l.i + 1) = omega arith in
    rw next at (tests_on _ _ _ (8 * l.i) 8 _ _ _ _ c.planes-planes.ensures.hold l.invariant c.test_eight-r.ensures)

pub overflow_mul-grouped : goal.overflow_mul-grouped
overflow_mul-grouped c = in_32_bits (record { fits = omega (arith, short c.args.table.now.is_table c.planes-planes.ensures.lows) })

pub loop-j-preserved : goal.loop-j-preserved
loop-j-preserved c = tests_on _ _ _ c.loop-j.j 1 _ _ _ _ c.planes-planes.ensures.hold c.loop-j.invariant c.test_one-r.ensures

pub returns : goal.returns
returns c =
    let l = c.loop-j in
    tested_all (entries_of c.args.table.now) (8 * l.j) l.bad l.before (omega (arith, all_entries c.args.table.now.is_table c.planes-planes.ensures.lows)) l.invariant
