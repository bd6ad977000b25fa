-- `checks::request` meets its contract. Assumes nothing.
use mathlib.Core.List.{[]}
use mathlib.Core.Path.{refl, sym, ◌∙◌}
use Rattle.laws.proofs.Refusals.{first_yes, first_last}
use Rattle.rules.specs.Memory.{memory}
use Rattle.rules.specs.Planes.{planes}
use Rattle.laws.proofs.Memory.{refused_first_in, refused_next_in}
use Rattle.refusals.proofs.Codes.{not_accepted, passed_on}
use Rattle.checks.proofs.request.Goals as goal

pub returns-in_err-heap : goal.returns-in_err-heap
returns-in_err-heap c =
    let a = c.args.heap.now in
    passed_on _ _ c.from_residual.ensures.1 ∙ refused_first_in (planes a.t) (memory [] a.table.now) _ _ refl refl c.in_err-heap.ensures (not_accepted _)

pub returns-then-is_zero : goal.returns-then-is_zero
returns-then-is_zero c =
    let a = c.args.heap.now in
    refused_next_in (planes a.t) (memory [] a.table.now) _ _ refl c.in_ok-heap.ensures refl (sym (first_yes _ _ (sym c.is_zero.ensures ∙ c.if-is_zero.true)))

pub returns : goal.returns
returns c =
    let a = c.args.heap.now in
    refused_next_in (planes a.t) (memory [] a.table.now) _ _ refl c.in_ok-heap.ensures refl (sym (first_last _ (sym c.is_zero.ensures ∙ c.if-is_zero.false)))
