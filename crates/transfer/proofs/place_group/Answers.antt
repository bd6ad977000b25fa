-- `place_group`: the block of the first bit gets the next block of the bytes and the bit is cleared, as long as there is one. What is left is the blocks of the bits that are left.
-- Assumes nothing.
use native.Mathlib.Omega.{arith}
use borrow.Author.Rules.{rules}
use Rattle.laws.proofs.Widths.{in_32_bits, in_slice}
use Rattle.transfer.proofs.Placing.{places_none, place_turn, places_next}
use Rattle.transfer.proofs.place_group.Goals as goal

pub overflow_add-from_end : goal.overflow_add-from_end
overflow_add-from_end c =
    let turn = place_turn c.loop-left.invariant c.loop-left-test.true c.first-j.ensures c.requires.i_bound.1.0 c.requires.i_bound.1.1 in
    in_slice c.args.bytes.now (omega (arith, turn.enough, c.index-from.ensures, c.of_blocks.ensures)) (search rules)

pub block_offset-requires : goal.block_offset-requires
block_offset-requires c =
    let turn = place_turn c.loop-left.invariant c.loop-left-test.true c.first-j.ensures c.requires.i_bound.1.0 c.requires.i_bound.1.1 in
    (c.requires.i_bound.0, turn.first.few)

pub overflow_add-to_end : goal.overflow_add-to_end
overflow_add-to_end c =
    let turn = place_turn c.loop-left.invariant c.loop-left-test.true c.first-j.ensures c.requires.i_bound.1.0 c.requires.i_bound.1.1 in
    in_slice c.args.pool.now (omega (arith, turn.inside, c.index-to.ensures, c.block_offset.ensures, c.loop-left.auto.pool)) (search rules)

pub slice_bounds-copy_block-end : goal.slice_bounds-copy_block-end
slice_bounds-copy_block-end c =
    let turn = place_turn c.loop-left.invariant c.loop-left-test.true c.first-j.ensures c.requires.i_bound.1.0 c.requires.i_bound.1.1 in
    omega (arith, turn.enough, c.index-from.ensures, c.of_blocks.ensures)

pub slice_bounds-copy_block-end-in-loop-left : goal.slice_bounds-copy_block-end-in-loop-left
slice_bounds-copy_block-end-in-loop-left c =
    let turn = place_turn c.loop-left.invariant c.loop-left-test.true c.first-j.ensures c.requires.i_bound.1.0 c.requires.i_bound.1.1 in
    omega (arith, turn.inside, c.index-to.ensures, c.block_offset.ensures)

pub overflow_add-next : goal.overflow_add-next
overflow_add-next c =
    let turn = place_turn c.loop-left.invariant c.loop-left-test.true c.first-j.ensures c.requires.i_bound.1.0 c.requires.i_bound.1.1 in
    in_32_bits (record { fits = omega (arith, turn.few) })

pub loop-left-preserved : goal.loop-left-preserved
loop-left-preserved c =
    let turn = place_turn c.loop-left.invariant c.loop-left-test.true c.first-j.ensures c.requires.i_bound.1.0 c.requires.i_bound.1.1 in
    places_next c.loop-left.invariant turn _ c.index-to.result c.index-from.result (omega (arith, c.index-to.ensures, c.block_offset.ensures)) (omega (arith, c.index-from.ensures, c.of_blocks.ensures)) c.copy_block.ensures

pub returns : goal.returns
returns c = places_none c.loop-left.invariant c.loop-left-test.false
