-- Tracing the next object from the present state ends where tracing the first one ends. The measure is the HEADs and the depth.
-- Assumes nothing.
use mathlib.Core.Path.{◌≡◌, refl, ap, ◌∙◌}
use mathlib.Core.Bool.{Bool, true, false}
use Prim.Native.Nat.{ℕ, ◌<◌}
use native.Mathlib.Omega.{arith}
use lib.Dec.{ltb}
use Rattle.std.specs.Int.{from_bool}
use Rattle.rules.specs.Marking.{trace}
use Rattle.visitor.specs.Variables.{context_of, idle}
use Rattle.tracer.proofs.Turning.{can_start, popped, trace_end}
use Rattle.tracer.proofs.trace.Goals as goal

-- 1 stands for the overflow
some_lost : (overflow : Bool) {n : ℕ} → n ≡ from_bool overflow → ltb 0 n ≡ overflow
some_lost true e = rw e
some_lost false e = rw e

pub loop-base-init : goal.loop-base-init
loop-base-init c =
    let a = c.args in
    (can_start a.base.0 a.t a.pool.now a.table.now a.stack.now _ c.requires.shape refl c.first.ensures c.first-2.ensures, c.requires.k_in_bounds, refl, refl, refl)

pub walk-walked-requires : goal.walk-walked-requires
walk-walked-requires c =
    let l = c.loop-base in record { shape = l.invariant.0.shape; depth_in_bounds = (l.invariant.0.deep, (l.invariant.1, l.invariant.0.knows)) }

pub returns-then-walked-eq0 : goal.returns-then-walked-eq0
returns-then-walked-eq0 c =
    let a = c.args in
    let l = c.loop-base in
    let w = c.walk-walked in (
      w.ensures.is_table,
      trace_end a.base.0 a.t a.pool.now a.stack.now l.table l.stack l.left l.invariant.0 l.invariant.3 l.next.0 w.new.table w.new.stack w.result
          w.ensures c.if-walked-eq0.true ∙ l.invariant.4
          ∙ ap (λ (o : Bool). trace (context_of a.base.0 a.pool.now a.stack.now) a.k.0 (idle a.t a.table.now o)) (some_lost _ c.from.ensures),
    )

pub word-requires : goal.word-requires
word-requires c = omega (arith, c.walk-walked.ensures.deep, c.if-walked-eq0.false)

pub loop-base-smaller : goal.loop-base-smaller
loop-base-smaller c =
    let a = c.args in
    let l = c.loop-base in
    let w = c.walk-walked in
    let stacked : 0 < w.result.depth = omega (arith, c.if-walked-eq0.false) in
    (popped a.base.0 a.t a.pool.now a.stack.now l.table l.stack l.left l.invariant.0 l.invariant.3 l.next.0 w.new.table w.new.stack w.result
    w.ensures c.from-next.result.0 stacked (c.from-next.ensures ∙ c.word.ensures)).less

pub loop-base-preserved : goal.loop-base-preserved
loop-base-preserved c =
    let a = c.args in
    let l = c.loop-base in
    let w = c.walk-walked in
    let left : 0 < w.result.depth = omega (arith, c.if-walked-eq0.false) in
    let turned =
    popped a.base.0 a.t a.pool.now a.stack.now l.table l.stack l.left l.invariant.0 l.invariant.3 l.next.0 w.new.table w.new.stack w.result
    w.ensures c.from-next.result.0 left (c.from-next.ensures ∙ c.word.ensures) in
    (turned.can, turned.inside, w.auto.table ∙ l.invariant.2, w.auto.stack ∙ l.invariant.3, turned.same ∙ l.invariant.4)
