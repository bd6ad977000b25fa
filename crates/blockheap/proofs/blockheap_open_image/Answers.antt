-- `blockheap::blockheap_open_image` meets its contract: clamping changes no answer. Assumes nothing.
use mathlib.Core.Path.{refl}
use mathlib.Core.List.{[]}
use lib.ListN.{length}
use Rattle.rules.specs.Runs.{OpenImage}
use Rattle.blockheap.proofs.Served.{by_filling}
use Rattle.blockheap.proofs.blockheap_open_image.Goals as goal

pub returns-in-Ok : goal.returns-in-Ok
returns-in-Ok c =
    let a = c.args in
    by_filling a.t (OpenImage a.image.now (length a.roots.now)) [] _ _ a.roots.now c.in-Ok.ensures c.clamped.ensures refl

pub returns-in-Err : goal.returns-in-Err
returns-in-Err c =
    let a = c.args in
    rw c.from.ensures
    (by_filling a.t (OpenImage a.image.now (length a.roots.now)) [] _ _ a.roots.now c.in-Err.ensures c.clamped.ensures refl)
