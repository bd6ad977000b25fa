-- `blockheap::blockheap_log_append` meets its contract: clamping changes no answer. Assumes nothing.
use mathlib.Core.Path.{◌∙◌}
use borrow.Author.Rules.{rules}
use mir.Syntax.{w32}
use mir.ValLaws.{to_z-of_z}
use Rattle.programs.proofs.Laws.{run_clamped}
use Rattle.logs.specs.Log.{append}
use Rattle.services.proofs.Entries.{append_served}
use Rattle.blockheap.proofs.blockheap_log_append.Goals as goal

pub returns-in-Ok : goal.returns-in-Ok
returns-in-Ok c =
    let a = c.args in
    rw (to_z-of_z w32 c.in-Ok.logged.change (search rules))
    (append_served a.t a.stack.now _ a.base a.first a.time a.tips a.roots.now _
    (rw (c.from.ensures, c.clamped.ensures, c.from-2.ensures) at c.in-Ok.ensures ∙ run_clamped a.t (append a.base a.first a.time a.tips a.roots.now a.stack.now) a.stack.now _))

pub returns-in-Err : goal.returns-in-Err
returns-in-Err c =
    let a = c.args in
    rw (c.from-in-Err.ensures, to_z-of_z w32 c.in-Err.declined.change (search rules))
    (append_served a.t a.stack.now _ a.base a.first a.time a.tips a.roots.now _
    (rw (c.from.ensures, c.clamped.ensures, c.from-2.ensures) at c.in-Err.ensures ∙ run_clamped a.t (append a.base a.first a.time a.tips a.roots.now a.stack.now) a.stack.now _))
