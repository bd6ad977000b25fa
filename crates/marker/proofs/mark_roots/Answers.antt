-- The roots that are left, from the present state, end where all the roots end from the first.
-- Assumes nothing.
use mathlib.Core.Path.{refl, ◌∙◌}
use mathlib.Core.List.{◌∷◌}
use native.Mathlib.Omega.{arith}
use Rattle.rules.specs.Words.{words_of}
use Rattle.laws.proofs.Words.{length_words_of}
use Rattle.laws.proofs.Marking.{roots_end}
use Rattle.laws.proofs.Widths.{in_32_bits}
use Rattle.visitor.specs.Variables.{context_of, idle}
use Rattle.tracer.proofs.Turning.{shape_same}
use Rattle.marker.proofs.Turning.{roots_next}
use Rattle.marker.proofs.mark_roots.Goals as goal

pub overflow_add-count : goal.overflow_add-count
overflow_add-count c = in_32_bits (record { fits = omega (arith, c.requires.roots_len_bound) })

pub loop-i-init : goal.loop-i-init
loop-i-init c = (c.requires.shape.is_table, refl, refl, refl)

pub mark_root-overflow-requires : goal.mark_root-overflow-requires
mark_root-overflow-requires c = shape_same c.args.base.0 c.args.t c.args.pool.now c.args.table.now c.loop-i.table c.requires.shape c.loop-i.invariant.0

pub loop-i-preserved : goal.loop-i-preserved
loop-i-preserved c =
    let a = c.args in
    let l = c.loop-i in
    let r = c.mark_root-overflow in (
      r.ensures.0,
      r.auto.table ∙ l.invariant.1,
      r.auto.stack ∙ l.invariant.2,
      roots_next a.base.0 a.pool.now a.stack.now (a.first ∷ words_of a.roots.now) l.i c.root.result l.stack (idle a.t l.table l.overflow)
          (omega (arith, c.loop-i-test.true, length_words_of a.roots.now)) l.invariant.2 c.root.ensures r.ensures.1 l.invariant.3,
    )

pub returns : goal.returns
returns c =
    let a = c.args in
    let l = c.loop-i in (
      l.invariant.0,
      roots_end (context_of a.base.0 a.pool.now a.stack.now) (a.first ∷ words_of a.roots.now) l.i (idle a.t l.table l.overflow)
          (omega (arith, c.loop-i-test.false, length_words_of a.roots.now)) l.invariant.3,
    )
