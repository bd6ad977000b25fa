-- `entry_at`: block k has bit k mod 8 of byte k / 8 of each plane.
-- Assumes nothing.
use native.Mathlib.Omega.{arith}
use Rattle.laws.proofs.Widths.{in_32_bits, as_u8}
use Rattle.entries.proofs.Holding.{block_byte, high_byte, bit_small, both_read}
use Rattle.entries.proofs.Table.entry_at.Goals as goal

pub overflow_add-high : goal.overflow_add-high
overflow_add-high c =
    in_32_bits (record { fits = omega (arith, c.index-i.ensures, c.plane_bytes.ensures, high_byte c.args.self.now.t c.args.self.now.bytes.now c.args.k.0 c.args.self.now.is_table.sized.few c.requires) })

pub bounds-self-i : goal.bounds-self-i
bounds-self-i c =
    omega (arith, c.index-i.ensures, c.args.self.now.is_table.sized.long, block_byte c.args.self.now.t c.args.self.now.bytes.now c.args.k.0 c.requires)

pub bounds-self-high : goal.bounds-self-high
bounds-self-high c =
    omega (arith, c.index-i.ensures, c.plane_bytes.ensures, c.args.self.now.is_table.sized.long, block_byte c.args.self.now.t c.args.self.now.bytes.now c.args.k.0 c.requires)

pub overflow_mul-bit : goal.overflow_mul-bit
overflow_mul-bit c = as_u8 (record { fits = omega (arith, bit_small _ _ _ c.bit-2.ensures) })

pub overflow_add-bit : goal.overflow_add-bit
overflow_add-bit c = as_u8 (record { fits = omega (arith, bit_small _ _ _ c.bit.ensures, bit_small _ _ _ c.bit-2.ensures) })

pub returns-in-0 : goal.returns-in-0
returns-in-0 c =
    let e = both_read c.args.self.now.t c.args.self.now.bytes.now c.args.k.0 _ _ _ _ c.index-i.ensures c.plane_bytes.ensures c.requires c.bit.ensures c.bit-2.ensures in
    omega (arith, c.in-0.is)

pub returns-in-1 : goal.returns-in-1
returns-in-1 c =
    let e = both_read c.args.self.now.t c.args.self.now.bytes.now c.args.k.0 _ _ _ _ c.index-i.ensures c.plane_bytes.ensures c.requires c.bit.ensures c.bit-2.ensures in
    omega (arith, c.in-1.is)

pub returns-in-2 : goal.returns-in-2
returns-in-2 c =
    let e = both_read c.args.self.now.t c.args.self.now.bytes.now c.args.k.0 _ _ _ _ c.index-i.ensures c.plane_bytes.ensures c.requires c.bit.ensures c.bit-2.ensures in
    omega (arith, c.in-2.is)

pub returns-in_default : goal.returns-in_default
returns-in_default c =
    let e = both_read c.args.self.now.t c.args.self.now.bytes.now c.args.k.0 _ _ _ _ c.index-i.ensures c.plane_bytes.ensures c.requires c.bit.ensures c.bit-2.ensures in
    omega (arith, bit_small _ _ _ c.bit.ensures, bit_small _ _ _ c.bit-2.ensures)
