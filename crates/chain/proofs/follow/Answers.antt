-- What is left of the heads leads to what all of them come to, turn by turn.
-- Assumes nothing.
use native.Mathlib.Omega.{arith}
use Rattle.chain.proofs.Walking.{ended, too_many, below, stopped, walk_on}
use Rattle.chain.proofs.follow.Goals as goal

pub returns-then-w-eq-MAX_BLOCKS : goal.returns-then-w-eq-MAX_BLOCKS
returns-then-w-eq-MAX_BLOCKS c = too_many _ _ _ _ _ c.loop-w.invariant c.is_zero.ensures c.loop-w-test.true c.if-w-eq-MAX_BLOCKS.true

pub advance-requires : goal.advance-requires
advance-requires c = below _ _ _ _ _ c.loop-w.invariant c.is_zero.ensures c.loop-w-test.true c.if-w-eq-MAX_BLOCKS.false

pub returns-in_err-w : goal.returns-in_err-w
returns-in_err-w c =
    rw c.from_residual.ensures (stopped _ _ _ _ _ c.loop-w.invariant c.is_zero.ensures c.loop-w-test.true c.if-w-eq-MAX_BLOCKS.false c.in_err-w.ensures)

pub loop-w-smaller : goal.loop-w-smaller
loop-w-smaller c =
    let more = below _ _ _ _ _ c.loop-w.invariant c.is_zero.ensures c.loop-w-test.true c.if-w-eq-MAX_BLOCKS.false in
    let turned = walk_on _ _ _ _ _ c.loop-w.invariant c.is_zero.ensures c.loop-w-test.true c.if-w-eq-MAX_BLOCKS.false _ c.in_ok-w.ensures in
    omega (arith, turned.0, more)

pub loop-w-preserved : goal.loop-w-preserved
loop-w-preserved c = (walk_on _ _ _ _ _ c.loop-w.invariant c.is_zero.ensures c.loop-w-test.true c.if-w-eq-MAX_BLOCKS.false _ c.in_ok-w.ensures).1

pub returns : goal.returns
returns c = ended _ _ _ _ _ c.loop-w.invariant c.is_zero.ensures c.loop-w-test.false
