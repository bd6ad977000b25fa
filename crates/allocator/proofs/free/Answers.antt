-- `allocator::free` meets its contract. Assumes nothing.
use mathlib.Core.Path.{◌∙◌}
use Rattle.std.proofs.lemmas.Result.{err_from_is_err_and}
use Rattle.refusals.proofs.Codes.{not_accepted}
use Rattle.objects.proofs.Held.{signed}
use Rattle.allocator.proofs.Ends.{free_refused, free_checked, free_named, free_done}
use Rattle.allocator.proofs.free.Goals as goal

pub returns-in_err-object : goal.returns-in_err-object
returns-in_err-object c =
    let p = err_from_is_err_and c.from_residual.result c.from_residual.ensures.1 in
    rw (p.1, p.2) (free_refused _ _ _ _ _ (let e = c.new.ensures in rw (e.base, e.t, e.pool, e.table) at c.in_err-object.ensures) (not_accepted _))

pub free_object-requires : goal.free_object-requires
free_object-requires c =
    let e = c.new.ensures in
    let test = rw (e.base, e.t, e.pool, e.table) at c.in_ok-object.ensures in
    ((free_checked _ _ _ _ _ test).is, (free_named _ _ _ _ _ test).inside)

pub returns : goal.returns
returns c =
    let done = c.free_object.ensures in
    let e = c.new.ensures in
    free_done _ _ _ _ _ (rw (e.base, e.t, e.pool, e.table) at c.in_ok-object.ensures) _ _ (λ i. (c.type_inv.table i).fits) done.0 (signed _ c.free_object.type_inv ∙ done.1)
