-- The rescans that are left, from the present state, end where all end from the state after the roots; a rescan lowers how many there can be.
-- Assumes nothing.
use mathlib.Core.Path.{refl, ◌∙◌}
use mathlib.Core.List.{◌∷◌}
use native.Mathlib.Omega.{arith}
use Rattle.rules.specs.Words.{words_of}
use Rattle.laws.proofs.Planes.{few_entries}
use Rattle.laws.proofs.Marking.{rescan_most}
use Rattle.laws.proofs.Widths.{as_u32}
use Rattle.visitor.specs.Variables.{idle}
use Rattle.tracer.proofs.Turning.{shape_same}
use Rattle.marker.proofs.Turning.{rescanned, mark_end}
use Rattle.marker.proofs.mark.Goals as goal

pub loop-overflow-init : goal.loop-overflow-init
loop-overflow-init c = (omega arith, c.mark_roots-overflow.ensures.0, refl, refl, refl)

pub rescan-overflow-requires : goal.rescan-overflow-requires
rescan-overflow-requires c =
    let a = c.args in
    shape_same a.base.0 a.t a.pool.now a.table.now c.loop-overflow.table c.requires.shape c.loop-overflow.invariant.1

pub overflow_add-rescans : goal.overflow_add-rescans
overflow_add-rescans c =
    let l = c.loop-overflow in
    let r = c.rescan-overflow in
    let turned = rescanned c.args.base.0 c.args.t c.args.pool.now c.mark_roots-overflow.new.stack l.stack l.table r.new.table l.overflow r.result c.loop-overflow-test.true l.invariant.3 r.ensures.1 in
    let a = c.args in
    let m = c.mark_roots-overflow in
    as_u32 (omega (arith, turned.less, c.loop-overflow.invariant.0, rescan_most (idle a.t m.new.table m.result), few_entries a.t m.new.table m.ensures.0))

pub loop-overflow-smaller : goal.loop-overflow-smaller
loop-overflow-smaller c =
    let l = c.loop-overflow in
    let r = c.rescan-overflow in
    let turned = rescanned c.args.base.0 c.args.t c.args.pool.now c.mark_roots-overflow.new.stack l.stack l.table r.new.table l.overflow r.result c.loop-overflow-test.true l.invariant.3 r.ensures.1 in
    turned.less

pub loop-overflow-preserved : goal.loop-overflow-preserved
loop-overflow-preserved c =
    let l = c.loop-overflow in
    let r = c.rescan-overflow in
    let turned = rescanned c.args.base.0 c.args.t c.args.pool.now c.mark_roots-overflow.new.stack l.stack l.table r.new.table l.overflow r.result c.loop-overflow-test.true l.invariant.3 r.ensures.1 in
    (omega (arith, turned.less, l.invariant.0), r.ensures.0, r.auto.table ∙ l.invariant.2, r.auto.stack ∙ l.invariant.3, turned.same l.rescans ∙ l.invariant.4)

pub returns : goal.returns
returns c =
    let a = c.args in
    let l = c.loop-overflow in
    let m = c.mark_roots-overflow in (
      l.invariant.1,
      mark_end a.base.0 a.t a.pool.now m.new.stack a.stack.now (a.first ∷ words_of a.roots.now) a.table.now m.new.table l.table m.result l.overflow l.rescans
          m.auto.stack c.loop-overflow-test.false m.ensures.1 l.invariant.4,
    )
