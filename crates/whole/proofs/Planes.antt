-- A plane of a table is short, and has all entries.
-- Assumes nothing.
use Rattle.std.proofs.Common.{◌≡◌, ℕ, ◌*◌, ◌≤◌, List, length, arith}
use Rattle.rules.specs.Planes.{plane_bytes, entries_in, IsTable}
use Rattle.laws.proofs.Planes.{length_entries_in, room_entries}

module _ {t half : ℕ} {table : List ℕ} (is : IsTable t table) (is_half : half ≡ plane_bytes t) where
  pub short : half ≤ 512
  short = omega (arith, is_half, is.sized.few, (room_entries t).1)

  -- eight to a byte
  pub all_entries : length (entries_in t table) ≤ 8 * half
  all_entries = omega (arith, is_half, length_entries_in t table, (room_entries t).0)
