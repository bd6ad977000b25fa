-- The entry is made, or there is no room yet. Assumes nothing.
use mathlib.Core.Path.{refl}
use mathlib.Core.List.{[]}
use borrow.Author.Rules.{rules}
use mir.Syntax.{w32}
use mir.ValLaws.{to_z-of_z}
use Rattle.appender.proofs.Asking.{stays_checked}
use Rattle.appender.proofs.Bounds.{entry_address}
use Rattle.appender.proofs.Replies.{adds, adds_again}
use Rattle.appender.proofs.add.Goals as goal

pub add_again-requires : goal.add_again-requires
add_again-requires c = (c.requires.0, stays_checked _ _ _ [] _ c.in_default.ensures c.requires.1)

pub returns-in_default : goal.returns-in_default
returns-in_default c ks last =
    let a = c.args in
    adds_again a.t a.base.0 a.first a.time a.tips a.roots.now ks a.stack.now a.pool.now a.table.now _ _ _ (rw c.of_blocks.ensures at c.in_default.ensures) (c.add_again.ensures ks last)

pub enter-requires : goal.enter-requires
enter-requires c = (entry_address _ _ _ (rw c.of_blocks.ensures at c.in-Ok.ensures) refl, stays_checked _ _ _ [] _ c.in-Ok.ensures c.requires.1)

pub returns : goal.returns
returns c ks last =
    let a = c.args in
    let p = c.in-Ok.placed in
    adds a.t a.base.0 a.first a.time a.tips a.roots.now ks a.stack.now a.pool.now a.table.now _ _ p (rw c.of_blocks.ensures at c.in-Ok.ensures)
    (to_z-of_z w32 p.change (search rules)) (c.enter.ensures ks a.stack.now last)
