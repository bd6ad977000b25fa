-- `set_mark`: a HEAD has the low bit, and a MARK has both.
-- Assumes nothing.
use Prim.Native.Nat.{◌+◌, ◌/◌, ◌<◌}
use native.Mathlib.Omega.{arith}
use lib.ListN.{length}
use Rattle.laws.proofs.Widths.{in_32_bits}
use Rattle.entries.proofs.Holding.{block_byte, high_byte}
use Rattle.entries.proofs.Marked.{head_inside, marked}
use Rattle.entries.proofs.set_mark.Goals as goal

pub overflow_add-high : goal.overflow_add-high
overflow_add-high c =
    in_32_bits (record { fits = omega (arith, c.index-i.ensures, c.plane_bytes.ensures, high_byte c.args.t c.args.table.now c.args.k.0 c.requires.0.sized.few (head_inside c.args.t c.args.table.now c.args.k.0 c.requires.1)) })

pub bounds-table-high : goal.bounds-table-high
bounds-table-high c =
    let byte_inside : c.plane_bytes.result + c.index-i.result / 8 < length c.args.table.now =
    omega (
      arith,
      c.index-i.ensures,
      c.plane_bytes.ensures,
      c.requires.0.sized.long,
      block_byte c.args.t c.args.table.now c.args.k.0 (head_inside c.args.t c.args.table.now c.args.k.0 c.requires.1),
    ) in
    byte_inside

pub bounds-table-high-2 : goal.bounds-table-high-2
bounds-table-high-2 c =
    let byte_inside : c.plane_bytes.result + c.index-i.result / 8 < length c.args.table.now =
    omega (
      arith,
      c.index-i.ensures,
      c.plane_bytes.ensures,
      c.requires.0.sized.long,
      block_byte c.args.t c.args.table.now c.args.k.0 (head_inside c.args.t c.args.table.now c.args.k.0 c.requires.1),
    ) in
    byte_inside

pub returns : goal.returns
returns c =
    rw (c.plane_bytes.ensures, c.index-i.ensures) (marked c.args.t c.args.table.now c.args.k.0 c.requires.0 c.requires.1)
