-- `blockheap::blockheap_log_read` meets its contract: clamping changes no answer. Assumes nothing.
use mathlib.Core.Path.{◌∙◌}
use mathlib.Core.List.{[]}
use Rattle.programs.proofs.Laws.{run_clamped}
use Rattle.logs.specs.Log.{read}
use Rattle.services.proofs.Entries.{read_served}
use Rattle.blockheap.proofs.blockheap_log_read.Goals as goal

pub returns-in-Ok : goal.returns-in-Ok
returns-in-Ok c =
    let a = c.args in
    let e = c.new.ensures in
    read_served a.t [] _ a.base a.first a.index _
    (rw (e.base, e.t, e.pool, e.table, c.from.ensures, c.clamped.ensures, c.from-2.ensures) at c.in-Ok.ensures ∙ run_clamped a.t (read a.base a.first a.index) [] _)

pub returns-in-Err : goal.returns-in-Err
returns-in-Err c =
    let a = c.args in
    let e = c.new.ensures in
    rw c.from-in-Err.ensures
    (read_served a.t [] _ a.base a.first a.index _
    (rw (e.base, e.t, e.pool, e.table, c.from.ensures, c.clamped.ensures, c.from-2.ensures) at c.in-Err.ensures ∙ run_clamped a.t (read a.base a.first a.index) [] _))
