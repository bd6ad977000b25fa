-- `row_starts`: the two numbers have the starts of rows of `length`, and a shifted copy of both makes the rows longer by the shift.
-- Assumes nothing.
use Prim.Native.Nat.{◌+◌, ◌-◌, ◌*◌, ◌^◌}
use native.Mathlib.Omega.{arith}
use borrow.Author.Rules.{rules}
use Rattle.laws.proofs.Widths.{in_32_bits}
use Rattle.freeruns.proofs.Rows.{row_one, begins_turn, starts_turn, starts_done}
use Rattle.freeruns.proofs.row_starts.Goals as goal

pub loop-length-init : goal.loop-length-init
loop-length-init c = (search rules, (search rules, (omega arith, row_one (c.args.bits + 2 ^ 32 * c.args.next))))

pub overflow_mul-length : goal.overflow_mul-length
overflow_mul-length c = in_32_bits (search rules)

pub loop-length-preserved : goal.loop-length-preserved
loop-length-preserved c =
    let l = c.loop-length in
    let a = c.args in (
      omega arith,
      (
        omega arith,
        begins_turn (a.bits + 2 ^ 32 * a.next) l.length l.length (2 * l.length) l.starts l.after l.invariant.1.1.0 (omega arith) (omega arith) (omega arith) (omega arith) l.invariant.1.1.1,
      ),
    )

pub returns-then-rest-eq0 : goal.returns-then-rest-eq0
returns-then-rest-eq0 c =
    let l = c.loop-length in
    let a = c.args in
    starts_done a.bits a.next l.length 0 a.count l.starts l.after l.invariant.1.1.0 l.invariant.1.1.1 (omega (arith, c.if-rest-eq0.true))

pub returns : goal.returns
returns c =
    let l = c.loop-length in
    let a = c.args in
    starts_turn a.bits a.next l.length (a.count - l.length) a.count l.starts l.after l.invariant.1.1.0 l.invariant.1.1.1 (omega (arith, c.if-rest-eq0.false)) (omega arith) (omega (arith, c.loop-length-test.false)) (omega arith)
