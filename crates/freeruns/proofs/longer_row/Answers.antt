-- `longer_row`: as long as a row of one bit more starts somewhere, the whole row there is the next length.
-- Assumes nothing.
use mathlib.Core.Logic.{inr}
use Prim.Native.Nat.{◌<◌}
use native.Mathlib.Omega.{arith}
use borrow.Author.Rules.{rules}
use Rattle.laws.proofs.Widths.{in_32_bits}
use Rattle.freeruns.proofs.Rows.{zeros_below, none_longer, first_longer}
use Rattle.freeruns.proofs.longer_row.Goals as goal

pub overflow_add-best : goal.overflow_add-best
overflow_add-best c = in_32_bits (search rules)

pub returns-then-found-eq0 : goal.returns-then-found-eq0
returns-then-found-eq0 c =
    let l = c.loop-best in
    record {
      least = l.invariant.0;
      found = l.invariant.1;
      most = λ count j few row. none_longer c.args.bits l.best c.row_starts-found.result (omega arith) c.row_starts-found.ensures c.if-found-eq0.true count j row;
    }

pub loop-best-smaller : goal.loop-best-smaller
loop-best-smaller c =
    let longer : c.loop-best.best < c.row_from-best.result =
    first_longer _ _ _ _ (omega arith) c.if-found-eq0.false c.row_starts-found.ensures (zeros_below 32 _) _ c.row_from-best.ensures in
    omega (arith, longer)

pub loop-best-preserved : goal.loop-best-preserved
loop-best-preserved c =
    let longer : c.loop-best.best < c.row_from-best.result =
    first_longer _ _ _ _ (omega arith) c.if-found-eq0.false c.row_starts-found.ensures (zeros_below 32 _) _ c.row_from-best.ensures in
    (omega (arith, longer), inr (_, c.row_from-best.ensures.row))

pub returns : goal.returns
returns c =
    let l = c.loop-best in
    record { least = l.invariant.0; found = l.invariant.1; most = λ count j few row. omega arith }
