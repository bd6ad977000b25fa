-- After the collection the entry is made, or there is still no room. Assumes nothing.
use mathlib.Core.Path.{refl}
use mathlib.Core.List.{[]}
use borrow.Author.Rules.{rules}
use Rattle.laws.proofs.Widths.{as_i32}
use Rattle.appender.proofs.Asking.{stays_checked}
use Rattle.appender.proofs.Bounds.{read_back, changes_fit, changes_sum, allocate_change, collect_change, entry_address}
use Rattle.appender.proofs.Replies.{reclaimed_by, again_adds, again_full}
use Rattle.appender.proofs.add_again.Goals as goal

pub returns-in_default : goal.returns-in_default
returns-in_default c ks last =
    let a = c.args in
    let d = c.map_or-change.result in
    let reclaimed = reclaimed_by c.collect_with-collected.result d (search rules) in
    again_full a.t a.base.0 a.first a.time a.tips a.roots.now ks a.stack.now a.pool.now a.table.now c.collect_with-collected.result _ _ _ _ c.collect_with-collected.ensures
    reclaimed _ (rw c.of_blocks.ensures at c.in_default.ensures) (read_back d (collect_change _ _ _ _ _ c.collect_with-collected.ensures reclaimed))

pub overflow_add-total : goal.overflow_add-total
overflow_add-total c =
    let d = c.map_or-change.result in
    let reclaimed = reclaimed_by c.collect_with-collected.result d (search rules) in
    as_i32 (changes_fit d c.in-Ok.placed.change (collect_change _ _ _ _ _ c.collect_with-collected.ensures reclaimed) (allocate_change _ _ _ _ c.in-Ok.ensures))

pub enter-requires : goal.enter-requires
enter-requires c =
    (entry_address _ _ _ (rw c.of_blocks.ensures at c.in-Ok.ensures) refl, stays_checked _ _ _ [] _ c.in-Ok.ensures (stays_checked _ _ _ _ _ c.collect_with-collected.ensures c.requires.1))

pub returns : goal.returns
returns c ks last =
    let a = c.args in
    let d = c.map_or-change.result in
    let p = c.in-Ok.placed in
    let reclaimed = reclaimed_by c.collect_with-collected.result d (search rules) in
    again_adds a.t a.base.0 a.first a.time a.tips a.roots.now ks a.stack.now a.pool.now a.table.now c.collect_with-collected.result _ _ _ _ c.collect_with-collected.ensures
    reclaimed p (rw c.of_blocks.ensures at c.in-Ok.ensures)
    (changes_sum d p.change (collect_change _ _ _ _ _ c.collect_with-collected.ensures reclaimed) (allocate_change _ _ _ _ c.in-Ok.ensures)) (c.enter.ensures ks _ last)
