-- `heap::survey` meets its contract. Assumes nothing.
use native.Mathlib.Omega.{arith}
use Rattle.std.proofs.lemmas.Result.{err_from_is_err_and}
use Rattle.refusals.proofs.Codes.{not_accepted}
use Rattle.rules.specs.Planes.{entries_in}
use Rattle.laws.proofs.Tables.{used_le, objects_le, longest_says}
use Rattle.heap.proofs.Ends.{survey_refused, survey_checked, survey_done}
use Rattle.heap.proofs.survey.Goals as goal

pub returns-in_err-heap : goal.returns-in_err-heap
returns-in_err-heap c =
    let p = err_from_is_err_and c.from_residual.result c.from_residual.ensures.1 in
    rw (p.1, p.2) (survey_refused _ _ _ _ c.in_err-heap.ensures (not_accepted _))

pub new-table-requires : goal.new-table-requires
new-table-requires c = (survey_checked _ _ _ _ c.in_ok-heap.ensures).is

pub overflow_cast-result : goal.overflow_cast-result
overflow_cast-result c =
    let a = c.args in
    omega (arith, (survey_checked _ _ _ _ c.in_ok-heap.ensures).shape.few, (rw c.new-table.ensures at c.count-counts.ensures).0, used_le (entries_in a.heap.now.t a.heap.now.table.now))

pub overflow_cast-result-2 : goal.overflow_cast-result-2
overflow_cast-result-2 c =
    let a = c.args in
    omega (arith, (survey_checked _ _ _ _ c.in_ok-heap.ensures).shape.few, (rw c.new-table.ensures at c.count-counts.ensures).1, objects_le (entries_in a.heap.now.t a.heap.now.table.now))

pub overflow_cast-result-3 : goal.overflow_cast-result-3
overflow_cast-result-3 c =
    let a = c.args in
    omega (arith, (survey_checked _ _ _ _ c.in_ok-heap.ensures).shape.few, rw c.new-table.ensures at c.longest.ensures, (longest_says (entries_in a.heap.now.t a.heap.now.table.now)).run.room)

pub returns : goal.returns
returns c =
    survey_done _ _ _ _ c.in_ok-heap.ensures _ _ _ c.args.heap.now.are_bytes
    (rw c.new-table.ensures at c.count-counts.ensures).0 (rw c.new-table.ensures at c.count-counts.ensures).1 (rw c.new-table.ensures at c.longest.ensures)
