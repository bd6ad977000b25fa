-- The blocks that are left, from the present state, end where all the blocks end from the first.
-- Assumes nothing.
use mathlib.Core.Path.{◌≡◌, refl, ◌∙◌}
use Prim.Native.Nat.{◌-◌}
use native.Mathlib.Omega.{arith}
use Rattle.laws.proofs.Planes.{few_entries}
use Rattle.visitor.specs.Variables.{idle}
use Rattle.tracer.proofs.Turning.{shape_same}
use Rattle.marker.proofs.Turning.{pass_next, pass_last}
use Rattle.marker.proofs.rescan.Goals as goal

pub loop-i-init : goal.loop-i-init
loop-i-init c =
    let n = c.blocks-n.result in
    let e : n - 0 ≡ n = omega arith in
    (c.requires.is_table, refl, refl, rw e)

pub plus-k-requires : goal.plus-k-requires
plus-k-requires c = omega (arith, few_entries c.args.t c.args.table.now c.requires.is_table, c.blocks-n.ensures c.args.table.now)

pub rescan_block-overflow-requires : goal.rescan_block-overflow-requires
rescan_block-overflow-requires c =
    let a = c.args in
    let l = c.loop-i in record { shape = shape_same a.base.0 a.t a.pool.now a.table.now l.table c.requires l.invariant.0; k_in_bounds = omega (arith, c.blocks-n.ensures l.table) }

pub loop-i-preserved : goal.loop-i-preserved
loop-i-preserved c =
    let a = c.args in
    let l = c.loop-i in
    let r = c.rescan_block-overflow in
    let e : c.plus-k.result.0 ≡ l.i = omega arith in (
      r.ensures.0,
      r.auto.table ∙ l.invariant.1,
      r.auto.stack ∙ l.invariant.2,
      pass_next a.base.0 a.pool.now a.stack.now l.i c.blocks-n.result l.stack (idle a.t l.table l.overflow)
          c.loop-i-test.true l.invariant.2 (rw e at r.ensures.1) l.invariant.3,
    )

pub returns : goal.returns
returns c =
    let a = c.args in
    let l = c.loop-i in
    let n = c.blocks-n in (
      l.invariant.0,
      pass_last a.base.0 a.t a.pool.now a.stack.now l.i n.result a.table.now (idle a.t l.table l.overflow)
          c.loop-i-test.false (n.ensures a.table.now) l.invariant.3,
    )
