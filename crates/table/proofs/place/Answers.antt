-- `place`: the head is stored, and then the TAILs from the next block on; together they are the run of stores that placed says.
-- Assumes nothing.
use mathlib.Core.Path.{◌≡◌, ap, ◌∙◌}
use Prim.Native.Nat.{suc}
use native.Mathlib.Numerals.{add-one}
use native.Mathlib.Omega.{arith}
use lib.ListN.{length, length-set}
use Rattle.rules.specs.Tables.{placed}
use Rattle.rules.specs.Planes.{entries_in}
use Rattle.laws.proofs.Planes.{few_entries}
use Rattle.table.proofs.place.Goals as goal

pub set_run-requires : goal.set_run-requires
set_run-requires c = (c.requires.0, omega (arith, c.requires.1))

pub plus-requires : goal.plus-requires
plus-requires c =
    omega (arith, c.requires.1, few_entries _ _ c.requires.0)

pub set_run-requires-2 : goal.set_run-requires-2
set_run-requires-2 c =
    let es = entries_in c.args.t c.args.table.now in
    (c.set_run.ensures.is_table, omega (arith, c.requires.1, c.plus.ensures, ap length c.set_run.ensures.entries ∙ length-set es c.args.k.0 1))

pub returns : goal.returns
unfolding placed
returns c =
    let e : c.plus.result.0 ≡ suc c.args.k.0 = c.plus.ensures ∙ add-one _ in
    rw (e, c.set_run.ensures.entries) at c.set_run-2.ensures
