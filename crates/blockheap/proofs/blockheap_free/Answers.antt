-- `blockheap::blockheap_free` meets its contract: clamping changes no answer. Assumes nothing.
use mathlib.Core.Path.{refl}
use mathlib.Core.List.{[]}
use borrow.Author.Rules.{rules}
use mir.Syntax.{w32}
use mir.ValLaws.{to_z-of_z}
use Rattle.rules.specs.Runs.{Free}
use Rattle.blockheap.proofs.Served.{by_call}
use Rattle.blockheap.proofs.blockheap_free.Goals as goal

pub returns-in-Ok : goal.returns-in-Ok
returns-in-Ok c =
    let a = c.args in
    rw (to_z-of_z w32 c.in-Ok.freed (search rules))
    (by_call a.t (Free a.base a.block) [] _ _ c.in-Ok.ensures c.clamped.ensures (rw (c.from.ensures, c.of_number.ensures) refl))

pub returns-in-Err : goal.returns-in-Err
returns-in-Err c =
    let a = c.args in
    rw c.from-in-Err.ensures
    (by_call a.t (Free a.base a.block) [] _ _ c.in-Err.ensures c.clamped.ensures (rw (c.from.ensures, c.of_number.ensures) refl))
