-- What was used and is no longer is freed: the difference of the two counts.
-- Assumes nothing.
use mathlib.Core.Path.{◌≡◌}
use mathlib.Core.List.{List}
use Prim.Native.Nat.{ℕ, ◌≤◌}
use native.Mathlib.Omega.{arith}
use Rattle.rules.specs.Tables.{used}
use Rattle.rules.specs.Marking.{sweep}
use Rattle.rules.specs.Planes.{entries_in}
use Rattle.sweeper.proofs.Sweeping.{used_swept}
use Rattle.sweeper.proofs.sweep.Goals as goal

-- what is swept has no more used blocks
fewer : (es es' : List ℕ) → es' ≡ sweep es → used es' ≤ used es
fewer es es' e = rw e (used_swept es)

pub overflow_sub-result : goal.overflow_sub-result
overflow_sub-result c =
    let l = fewer (entries_in c.args.t c.args.table.now) (entries_in c.args.t c.sweep.new.table) c.sweep.ensures.entries in
    omega (arith, l, (rw c.new-2.ensures at c.count-after.ensures).0, (rw c.new.ensures at c.count-before.ensures).0)

pub returns : goal.returns
returns c =
    let s = c.sweep.ensures in
    let l = fewer (entries_in c.args.t c.args.table.now) (entries_in c.args.t c.sweep.new.table) s.entries in (
      s.is_table,
      record {
        entries = s.entries;
        kept = (rw c.new-2.ensures at c.count-after.ensures).1;
        freed = omega (arith, l, (rw c.new-2.ensures at c.count-after.ensures).0, (rw c.new.ensures at c.count-before.ensures).0);
      },
    )
