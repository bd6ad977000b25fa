-- `copy_group`: the block of the first bit is copied and the bit cleared, as long as there is one. What remains is the blocks of the bits that are left.
-- Assumes nothing.
use native.Mathlib.Omega.{arith}
use borrow.Author.Rules.{rules}
use Rattle.laws.proofs.Widths.{in_slice}
use Rattle.transfer.proofs.Copying.{copies_none, copy_turn, copies_next}
use Rattle.transfer.proofs.copy_group.Goals as goal

pub block_offset-requires : goal.block_offset-requires
block_offset-requires c =
    let turn = copy_turn c.loop-left.invariant c.loop-left-test.true c.first-j.ensures c.requires.1.0 in
    (c.requires.0, omega (arith, c.requires.0, turn.first.few))

pub overflow_add-from_end : goal.overflow_add-from_end
overflow_add-from_end c =
    let turn = copy_turn c.loop-left.invariant c.loop-left-test.true c.first-j.ensures c.requires.1.0 in
    in_slice c.args.pool.now (omega (arith, turn.inside, c.index-from.ensures, c.block_offset.ensures)) (search rules)

pub overflow_add-to_end : goal.overflow_add-to_end
overflow_add-to_end c =
    let turn = copy_turn c.loop-left.invariant c.loop-left-test.true c.first-j.ensures c.requires.1.0 in
    in_slice c.args.image.now (omega (arith, turn.room, c.loop-left.auto.image)) (search rules)

pub slice_bounds-copy_block-end : goal.slice_bounds-copy_block-end
slice_bounds-copy_block-end c =
    let turn = copy_turn c.loop-left.invariant c.loop-left-test.true c.first-j.ensures c.requires.1.0 in
    omega (arith, turn.inside, c.index-from.ensures, c.block_offset.ensures)

pub slice_bounds-copy_block-end-in-loop-left : goal.slice_bounds-copy_block-end-in-loop-left
slice_bounds-copy_block-end-in-loop-left c =
    let turn = copy_turn c.loop-left.invariant c.loop-left-test.true c.first-j.ensures c.requires.1.0 in
    turn.room

pub loop-left-preserved : goal.loop-left-preserved
loop-left-preserved c =
    let turn = copy_turn c.loop-left.invariant c.loop-left-test.true c.first-j.ensures c.requires.1.0 in
    copies_next c.loop-left.invariant turn _ c.index-from.result (omega (arith, c.index-from.ensures, c.block_offset.ensures)) c.copy_block.ensures

pub returns : goal.returns
returns c = copies_none c.loop-left.invariant c.loop-left-test.false
