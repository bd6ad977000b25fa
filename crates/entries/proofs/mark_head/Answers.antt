-- `mark_head`: what is not in the table is FREE; else the two bits tell.
-- Assumes nothing.
use Prim.Native.Nat.{ℕ, ◌+◌, ◌/◌}
use native.Mathlib.Omega.{arith}
use Rattle.laws.proofs.Planes.{room_entries}
use Rattle.laws.proofs.Widths.{in_32_bits}
use Rattle.entries.proofs.Marked.{met_outside, met_other, met_tail, met_head, byte_stored}
use Rattle.entries.proofs.mark_head.Goals as goal

pub overflow_add-up : goal.overflow_add-up
overflow_add-up c =
    in_32_bits (record { fits = omega (arith, c.plane_bytes.ensures, c.index-i.ensures, c.requires.0.sized.few, c.requires.1, (room_entries c.args.t).1) })

pub returns-then-table-up : goal.returns-then-table-up
returns-then-table-up c =
    met_outside c.args.t c.args.table.now c.args.k.0 c.requires.0 (omega (arith, c.if-table-up.true, c.plane_bytes.ensures, c.index-i.ensures, c.requires.0.sized.long))

pub returns-then-from-high-eq0 : goal.returns-then-from-high-eq0
returns-then-from-high-eq0 c =
    let half : ℕ = c.plane_bytes.result in
    let i : ℕ = c.index-i.result in
    met_other c.args.t c.args.table.now c.args.k.0 c.requires.0 i half c.index-i.ensures c.plane_bytes.ensures c.if-table-up.false
    (c.slice_known-3-1.given (i / 8)).fits (c.slice_known-3-1.given (half + i / 8)).fits (rw (c.from.ensures, c.from-high.ensures) at c.if-from-high-eq0.true)

pub returns-then-high-one-ne0 : goal.returns-then-high-one-ne0
returns-then-high-one-ne0 c =
    let half : ℕ = c.plane_bytes.result in
    let i : ℕ = c.index-i.result in
    met_tail c.args.t c.args.table.now c.args.k.0 c.requires.0 i half c.index-i.ensures c.plane_bytes.ensures c.if-table-up.false
    (c.slice_known-3-1.given (i / 8)).fits (c.slice_known-3-1.given (half + i / 8)).fits (rw (c.from.ensures, c.from-high.ensures) at c.if-from-high-eq0.false) (rw c.from-high.ensures at c.if-high-one-ne0.true)

pub overflow_cast-table : goal.overflow_cast-table
overflow_cast-table c =
    let half : ℕ = c.plane_bytes.result in
    let i : ℕ = c.index-i.result in
    record {
      fits = rw c.from-high.ensures (byte_stored c.args.t c.args.table.now c.args.k.0 c.requires.0 i half c.index-i.ensures c.plane_bytes.ensures c.if-table-up.false
          (c.slice_known-3-1.given (i / 8)).fits (c.slice_known-3-1.given (half + i / 8)).fits);
    }

pub returns : goal.returns
returns c =
    let half : ℕ = c.plane_bytes.result in
    let i : ℕ = c.index-i.result in
    rw c.from-high.ensures
    (met_head c.args.t c.args.table.now c.args.k.0 c.requires.0 i half c.index-i.ensures c.plane_bytes.ensures c.if-table-up.false
    (c.slice_known-3-1.given (i / 8)).fits (c.slice_known-3-1.given (half + i / 8)).fits (rw (c.from.ensures, c.from-high.ensures) at c.if-from-high-eq0.false) (rw c.from-high.ensures at c.if-high-one-ne0.false))
