-- `blockheap::blockheap_log_drop` meets its contract: clamping changes no answer. Assumes nothing.
use mathlib.Core.Path.{◌∙◌}
use mathlib.Core.List.{[]}
use borrow.Author.Rules.{rules}
use mir.Syntax.{w32}
use mir.ValLaws.{to_z-of_z}
use Rattle.programs.proofs.Laws.{run_clamped}
use Rattle.logs.specs.Log.{drop}
use Rattle.services.proofs.Entries.{drop_served}
use Rattle.blockheap.proofs.blockheap_log_drop.Goals as goal

pub returns-in-Ok : goal.returns-in-Ok
returns-in-Ok c =
    let a = c.args in
    rw (to_z-of_z w32 c.in-Ok.logged.change (search rules))
    (drop_served a.t [] _ a.base a.first _
    (rw (c.from.ensures, c.clamped.ensures, c.from-2.ensures) at c.in-Ok.ensures ∙ run_clamped a.t (drop a.base a.first) [] _))

pub returns-in-Err : goal.returns-in-Err
returns-in-Err c =
    let a = c.args in
    rw c.from-in-Err.ensures
    (drop_served a.t [] _ a.base a.first _
    (rw (c.from.ensures, c.clamped.ensures, c.from-2.ensures) at c.in-Err.ensures ∙ run_clamped a.t (drop a.base a.first) [] _))
