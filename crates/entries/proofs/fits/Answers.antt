-- `fits` compares the lengths.
-- Assumes nothing.
use native.Mathlib.Omega.{arith}
use Rattle.laws.proofs.Planes.{room_entries}
use Rattle.laws.proofs.Widths.{in_32_bits}
use Rattle.entries.proofs.fits.Goals as goal

pub overflow_mul-result : goal.overflow_mul-result
overflow_mul-result c = in_32_bits (record { fits = omega (arith, (room_entries c.args.t).1) })

pub returns : goal.returns
returns c = rw c.plane_bytes.ensures
