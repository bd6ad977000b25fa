-- `checks::resize` meets its contract. Assumes nothing.
use mathlib.Core.List.{[]}
use mathlib.Core.Path.{refl, ◌∙◌}
use Rattle.rules.specs.Memory.{memory}
use Rattle.rules.specs.Planes.{planes}
use Rattle.laws.proofs.Memory.{refused_first_in, refused_next_in}
use Rattle.checks.proofs.FirstTests.{is_table_of}
use Rattle.refusals.proofs.Codes.{not_accepted, passed_on}
use Rattle.checks.proofs.resize.Goals as goal

pub returns-in_err-request : goal.returns-in_err-request
returns-in_err-request c =
    let a = c.args.heap.now in
    passed_on _ _ c.from_residual.ensures.1 ∙ refused_first_in (planes a.t) (memory [] a.table.now) _ _ refl refl c.in_err-request.ensures (not_accepted _)

pub new-requires : goal.new-requires
new-requires c = (is_table_of _ _ _ _ _ c.in_ok-request.ensures refl).0

pub returns : goal.returns
returns c =
    let a = c.args.heap.now in
    refused_next_in (planes a.t) (memory [] a.table.now) _ _ refl c.in_ok-request.ensures refl (rw c.new.ensures at c.named.ensures)
