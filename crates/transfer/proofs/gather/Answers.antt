-- `gather`: what remains is the used blocks from the next 64 on.
-- Assumes nothing.
use Prim.Native.Nat.{◌+◌, ◌*◌, ◌≤◌, ◌<◌}
use native.Mathlib.Omega.{arith}
use lib.ListN.{length}
use Rattle.entries.specs.Lent.{entries_of}
use Rattle.rules.specs.Images.{used_from}
use Rattle.laws.proofs.Images.{length_used}
use Rattle.transfer.proofs.Copying.{remains_none, remains_room, remains_next, in_groups, past_groups, few_groups, groups_end, group_next, group_inside}
use Rattle.transfer.proofs.gather.Goals as goal

pub copy_group-to-requires : goal.copy_group-to-requires
copy_group-to-requires c =
    let a = c.args in
    let es = entries_of a.table.now in
    let l = c.loop-i in
    let g = c.group-g in
    let inside : 64 * l.i < length es = omega (arith, in_groups c.loop-i-test.true c.div_ceil-i-end.ensures, c.blocks-2.ensures) in
    let room : a.at + length (used_from a.pool.now 0 es) ≤ length a.image.now = omega (arith, length_used a.pool.now 0 es (omega (arith, c.requires.0)), c.requires.1) in (
      few_groups c.args.table.now.is_table inside,
      (remains_room l.invariant (group_next a.pool.now es l.i _ _ g.ensures) room, group_inside a.pool.now es l.i _ _ g.ensures c.requires.0),
    )

pub loop-i-preserved : goal.loop-i-preserved
loop-i-preserved c =
    let a = c.args in
    let copied = c.copy_group-to.ensures in
    remains_next c.loop-i.invariant (group_next a.pool.now (entries_of a.table.now) c.loop-i.i _ _ c.group-g.ensures) copied.0 copied.1

pub returns : goal.returns
returns c =
    let a = c.args in
    let es = entries_of a.table.now in
    let past : length es ≤ 64 * c.loop-i.i = omega (arith, past_groups c.loop-i-test.false c.div_ceil-i-end.ensures, c.blocks-2.ensures) in
    (remains_none c.loop-i.invariant (groups_end a.pool.now es c.loop-i.i past)).0
