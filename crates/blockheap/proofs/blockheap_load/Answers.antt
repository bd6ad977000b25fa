-- `blockheap::blockheap_load` meets its contract: clamping changes no answer. Assumes nothing.
use mathlib.Core.Path.{refl}
use mathlib.Core.List.{[]}
use Rattle.rules.specs.Runs.{Load}
use Rattle.blockheap.proofs.Served.{by_call}
use Rattle.blockheap.proofs.blockheap_load.Goals as goal

pub returns-in-Ok : goal.returns-in-Ok
returns-in-Ok c =
    let a = c.args in
    let e = c.new.ensures in
    by_call a.t (Load a.base a.block a.word) [] _ _ (rw (e.base, e.t, e.pool, e.table) at c.in-Ok.ensures) c.clamped.ensures (rw (c.from.ensures, c.of_number.ensures, c.clamped-2.ensures) refl)

pub returns-in-Err : goal.returns-in-Err
returns-in-Err c =
    let a = c.args in
    let e = c.new.ensures in
    rw c.from-in-Err.ensures
    (by_call a.t (Load a.base a.block a.word) [] _ _ (rw (e.base, e.t, e.pool, e.table) at c.in-Err.ensures) c.clamped.ensures (rw (c.from.ensures, c.of_number.ensures, c.clamped-2.ensures) refl))
