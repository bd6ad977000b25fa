-- The three stores, one behind the other. Assumes nothing.
use mathlib.Core.Path.{◌∙◌}
use mathlib.Core.List.{[]}
use borrow.Author.Rules.{rules}
use mir.Syntax.{w32}
use mir.ValLaws.{to_z-of_z}
use Rattle.appender.proofs.Asking.{stays_checked}
use Rattle.appender.proofs.Bounds.{below_address}
use Rattle.appender.proofs.Replies.{enters_first, enters_behind}
use Rattle.appender.proofs.enter.Goals as goal

pub of_block-requires : goal.of_block-requires
of_block-requires c = below_address _ _ c.requires.0

pub store_checked-requires-2 : goal.store_checked-requires-2
store_checked-requires-2 c = stays_checked _ _ _ [] _ c.store_checked.ensures c.requires.1

pub store_checked-requires-in-Some : goal.store_checked-requires-in-Some
store_checked-requires-in-Some c = stays_checked _ _ _ [] _ c.store_checked-2.ensures (stays_checked _ _ _ [] _ c.store_checked.ensures c.requires.1)

pub returns-in-Some : goal.returns-in-Some
returns-in-Some c ks stack last =
    let a = c.args in
    rw (to_z-of_z w32 a.change (search (rules, c.ranges)))
    (enters_behind a.t a.base.0 a.first a.time a.tips a.k.0 a.w a.change a.table.now a.pool.now _ _ _ _ c.store_checked.ensures c.store_checked-2.ensures
    (c.to_word-own.ensures ∙ c.of_block.ensures) ks stack last _ _ _ c.in-Some.is c.store_checked-in-Some.ensures)

pub returns-in-None : goal.returns-in-None
returns-in-None c ks stack last =
    let a = c.args in
    rw (to_z-of_z w32 a.change (search (rules, c.ranges)))
    (enters_first a.t a.base.0 a.first a.time a.tips a.k.0 a.w a.change a.table.now a.pool.now _ _ _ _ c.store_checked.ensures c.store_checked-2.ensures
    (c.to_word-own.ensures ∙ c.of_block.ensures) ks stack last c.in-None.is)
