-- `planes`: the table's bytes, cut where the second plane begins.
-- Assumes nothing.
use native.Mathlib.Omega.{arith}
use Rattle.laws.proofs.Planes.{room_entries}
use Rattle.laws.proofs.Widths.{in_32_bits}
use Rattle.entries.proofs.Cut.{held_in_planes}
use Rattle.entries.proofs.Table.planes.Goals as goal

pub overflow_mul-result : goal.overflow_mul-result
overflow_mul-result c =
    let s = c.args.self.now in
    in_32_bits (record { fits = omega (arith, c.plane_bytes-half.ensures, s.is_table.sized.few, (room_entries s.t).1) })

pub returns-clause-hold : goal.returns-clause-hold
returns-clause-hold c =
    let s = c.args.self.now in
    held_in_planes s.t c.plane_bytes-half.result s.bytes.now s.is_table c.plane_bytes-half.ensures
