-- `past_tails`: the blocks passed are TAILs; the first 64 that hold another end the scan.
-- Assumes nothing.
use mathlib.Core.Path.{◌≡◌}
use Prim.Native.Nat.{◌+◌, ◌-◌, ◌*◌}
use native.Mathlib.Omega.{arith}
use Rattle.entries.specs.Lent.{entries_of}
use Rattle.laws.proofs.Planes.{few_entries}
use Rattle.laws.proofs.Widths.{in_32_bits}
use Rattle.backscan.proofs.Tails.{last_is, tails_join, up_to_last, tails_here, back_to, back_first}
use Rattle.backscan.proofs.past_tails.Goals as goal

pub overflow_mul-at : goal.overflow_mul-at
overflow_mul-at c = in_32_bits (record { fits = omega (arith, few_entries _ _ c.args.table.now.is_table, c.requires) })

pub overflow_add-at : goal.overflow_add-at
overflow_add-at c =
    in_32_bits (record { fits = omega (arith, c.in-Some.ensures.bound, few_entries _ _ c.args.table.now.is_table, c.requires) })

pub plus-requires : goal.plus-requires
plus-requires c = omega (arith, c.in-Some.ensures.bound, few_entries _ _ c.args.table.now.is_table, c.requires)

pub returns-in-Some : goal.returns-in-Some
returns-in-Some c =
    let a = c.args in
    let l = c.loop-at in
    let o = c.non_tails in
    let found = c.in-Some in
    let es = entries_of a.table.now in
    let e : c.plus.result.0 ≡ 64 * (l.at - 1) + found.last = omega arith in
    rw e
    (back_to es (l.at - 1) 63 o.result (up_to_last es (l.at - 1) o.result (omega arith) o.ensures) (64 * a.i) found.last
    (last_is found.ensures.bound found.ensures.power_le found.ensures.next_power_gt) (omega arith) (λ k h r. l.invariant k (omega arith) r))

pub loop-at-preserved : goal.loop-at-preserved
loop-at-preserved c =
    let a = c.args in
    let l = c.loop-at in
    let o = c.non_tails in
    let es = entries_of a.table.now in
    tails_join es (64 * (l.at - 1)) (64 * l.at) (64 * a.i)
    (λ k h r. tails_here es (l.at - 1) 63 o.result (up_to_last es (l.at - 1) o.result (omega arith) o.ensures) c.in_default.ensures.none k h (omega arith)) l.invariant

pub returns : goal.returns
returns c =
    let a = c.args in
    rw c.first-2.ensures (back_first (entries_of a.table.now) (64 * a.i) (λ k h r. c.loop-at.invariant k (omega arith) r))
