-- `sweep`: the table is swept from its front on, a word of each plane at a time and then single bytes.
-- Assumes nothing.
use Rattle.std.proofs.Common.{◌≡◌, ◌+◌, ◌*◌, ◌∙◌, arith}
use Rattle.rules.specs.Planes.{plane_bytes, entries_in}
use Rattle.laws.proofs.Widths.{in_32_bits}
use Rattle.whole.proofs.Planes.{short}
use Rattle.whole.proofs.Steps.{swept_start, swept_end}
use Rattle.whole.proofs.sweep.Goals as goal

pub loop-i-init : goal.loop-i-init
loop-i-init c = record { long = rw c.plane_bytes-half.ensures c.requires.sized.long; swept = swept_start c.args.t c.args.table.now c.requires.clean }

pub overflow_mul-i : goal.overflow_mul-i
overflow_mul-i c = in_32_bits (record { fits = omega (arith, short c.requires c.plane_bytes-half.ensures) })

pub loop-i-preserved : goal.loop-i-preserved
loop-i-preserved c =
    let a = c.args in
    let l = c.loop-i in
    let e = c.sweep_four-keeping in
    let next : 4 * (l.i + 1) ≡ 4 * l.i + 4 = omega arith in
    record {
      long = e.auto.table ∙ l.invariant.long;
      swept = rw next (e.ensures a.t (entries_in a.t a.table.now) c.plane_bytes-half.ensures l.invariant.swept);
    }

pub overflow_mul-swept : goal.overflow_mul-swept
overflow_mul-swept c = in_32_bits (record { fits = omega (arith, short c.requires c.plane_bytes-half.ensures) })

pub loop-j-preserved : goal.loop-j-preserved
loop-j-preserved c =
    let a = c.args in
    let l = c.loop-j in
    let e = c.sweep_one-keeping in
    record {
      long = e.auto.table ∙ l.invariant.long;
      swept = e.ensures a.t (entries_in a.t a.table.now) c.plane_bytes-half.ensures l.invariant.swept;
    }

pub returns : goal.returns
returns c =
    let l = c.loop-j in
    let half = c.plane_bytes-half.ensures in
    let e : l.j ≡ plane_bytes c.args.t = omega (arith, half) in
    swept_end c.args.t c.args.table.now l.table l.keeping (record { few = c.requires.sized.few; long = rw half at l.invariant.long })
    (rw e at l.invariant.swept)
