-- `blockheap::blockheap_write_image` meets its contract: clamping changes no answer. Assumes nothing.
use mathlib.Core.Path.{refl}
use mathlib.Core.List.{[]}
use lib.ListN.{length}
use Rattle.rules.specs.Runs.{WriteImage}
use Rattle.blockheap.proofs.Served.{by_filling}
use Rattle.blockheap.proofs.blockheap_write_image.Goals as goal

pub returns-in-Ok : goal.returns-in-Ok
returns-in-Ok c =
    let a = c.args in
    let e = c.new.ensures in
    by_filling a.t (WriteImage a.base a.roots.now (length a.image.now)) [] _ _ a.image.now (rw (e.base, e.t, e.pool, e.table) at c.in-Ok.ensures) c.clamped.ensures (rw c.from.ensures refl)

pub returns-in-Err : goal.returns-in-Err
returns-in-Err c =
    let a = c.args in
    let e = c.new.ensures in
    rw c.from-in-Err.ensures
    (by_filling a.t (WriteImage a.base a.roots.now (length a.image.now)) [] _ _ a.image.now (rw (e.base, e.t, e.pool, e.table) at c.in-Err.ensures) c.clamped.ensures (rw c.from.ensures refl))
