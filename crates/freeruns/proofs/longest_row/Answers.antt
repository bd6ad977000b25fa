-- `longest_row`: a row that is longer than three has a row of four.
-- Assumes nothing.
use mathlib.Core.Path.{refl}
use mathlib.Core.Logic.{inl}
use native.Mathlib.Omega.{arith}
use Rattle.freeruns.proofs.Rows.{no_four}
use Rattle.freeruns.proofs.longest_row.Goals as goal

pub returns-then-n-ge3 : goal.returns-then-n-ge3
returns-then-n-ge3 c =
    let a = c.args in
    record {
      least = omega arith;
      found = inl refl;
      most = λ count j few row. omega (arith, no_four a.bits c.if-pairs-eq0.true count j row, c.if-n-ge3.true);
    }

pub returns : goal.returns
returns c = c.longer_row.ensures
