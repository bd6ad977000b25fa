-- `start`: the object starts in the 64 blocks of block k, or before them.
-- Assumes nothing.
use mathlib.Core.Path.{◌≡◌, sym, ap, ◌∙◌}
use Prim.Native.Nat.{◌+◌, ◌*◌, ◌/◌, ◌%◌}
use native.Mathlib.Omega.{arith}
use Rattle.entries.specs.Lent.{entries_of}
use Rattle.rules.specs.Tables.{start_of}
use Rattle.laws.proofs.Planes.{few_entries}
use Rattle.laws.proofs.Widths.{in_32_bits}
use Rattle.backscan.proofs.Tails.{last_is, up_to_mask, start_here, start_before}
use Rattle.backscan.proofs.start.Goals as goal

pub overflow_mul-i : goal.overflow_mul-i
overflow_mul-i c = in_32_bits (record { fits = omega (arith, few_entries _ _ c.args.table.now.is_table, c.requires) })

pub overflow_add-i : goal.overflow_add-i
overflow_add-i c =
    in_32_bits (record { fits = omega (arith, c.in-Some.ensures.bound, few_entries _ _ c.args.table.now.is_table, c.requires) })

pub plus-requires : goal.plus-requires
plus-requires c = omega (arith, c.in-Some.ensures.bound, few_entries _ _ c.args.table.now.is_table, c.requires)

pub returns-in-Some : goal.returns-in-Some
returns-in-Some c =
    let a = c.args in
    let es = entries_of a.table.now in
    let k = c.index-at in
    let bits = c.non_tails in
    let found = c.in-Some in
    let e : c.plus.result.0 ≡ 64 * (k.result / 64) + found.last = omega arith in
    let o = up_to_mask es (k.result / 64) (k.result % 64) bits.result (omega arith) bits.ensures in
    e ∙ sym (start_here es k.result _ o found.last (last_is found.ensures.bound found.ensures.power_le found.ensures.next_power_gt)) ∙ ap (start_of es) k.ensures

pub returns-in-None : goal.returns-in-None
returns-in-None c =
    let a = c.args in
    let es = entries_of a.table.now in
    let k = c.index-at in
    let bits = c.non_tails in
    let o = up_to_mask es (k.result / 64) (k.result % 64) bits.result (omega arith) bits.ensures in
    sym (start_before es k.result _ o c.past_tails.result.0 c.in-None.ensures.none c.past_tails.ensures) ∙ ap (start_of es) k.ensures
