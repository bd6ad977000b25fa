-- `scatter`: what remains is the pool of the entries from the next 64 on.
-- Assumes nothing.
use Prim.Native.Nat.{◌*◌, ◌≤◌, ◌<◌}
use native.Mathlib.Omega.{arith}
use lib.ListN.{length}
use Rattle.entries.specs.Lent.{entries_of}
use Rattle.laws.proofs.Tables.{used_le}
use Rattle.laws.proofs.Planes.{few_entries}
use Rattle.transfer.proofs.Copying.{in_groups, past_groups}
use Rattle.transfer.proofs.Placing.{fills_none, fills_next, fills_room}
use Rattle.transfer.proofs.scatter.Goals as goal

pub fill_group-next-requires-clause-i_bound : goal.fill_group-next-requires-clause-i_bound
fill_group-next-requires-clause-i_bound c =
    let a = c.args in
    let es = entries_of a.table.now in
    let room = fills_room es a.bytes.now a.pool.now c.requires.1 c.loop-i.invariant in
    (omega (arith, room, c.requires.1, used_le es, few_entries _ _ a.table.now.is_table), room)

pub loop-i-preserved : goal.loop-i-preserved
loop-i-preserved c =
    let a = c.args in
    let es = entries_of a.table.now in
    let f = c.fill_group-next.ensures in
    let inside : 64 * c.loop-i.i < length es = omega (arith, in_groups c.loop-i-test.true c.div_ceil-i-end.ensures, c.blocks-2.ensures) in
    fills_next es a.bytes.now a.pool.now c.requires.1 c.loop-i.invariant inside f.0 f.1

pub returns : goal.returns
returns c =
    let a = c.args in
    let past : length (entries_of a.table.now) ≤ 64 * c.loop-i.i = omega (arith, past_groups c.loop-i-test.false c.div_ceil-i-end.ensures, c.blocks-2.ensures) in
    fills_none _ a.bytes.now _ c.requires.1 c.loop-i.invariant past c.requires.0
