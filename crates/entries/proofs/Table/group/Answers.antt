-- `group`: the bits of both planes from byte n * i on. Past the planes there is no block, and the entry is FREE.
-- Assumes nothing.
use mathlib.Core.Path.{◌≡◌, refl, ap}
use mathlib.Core.Bool.{Bool, true, false}
use mathlib.Core.List.{List}
use Prim.Native.Nat.{ℕ, ◌+◌, ◌-◌, ◌*◌, ◌≤◌, ◌<◌}
use native.Mathlib.Omega.{arith}
use lib.Dec.{ltb}
use lib.ListN.{length, get_or-eq_default}
use borrow.Author.Tests.{ltb-true, ltb-false}
use Rattle.rules.specs.Tests.{pick}
use Rattle.rules.specs.Bits.{bit_at}
use Rattle.rules.specs.Entries.{FREE}
use Rattle.rules.specs.Tables.{entry_at}
use Rattle.rules.specs.Planes.{plane_bytes, entry_in, entries_in, IsTable}
use Rattle.laws.proofs.Planes.{length_entries_in, room_entries, entry_clean}
use Rattle.laws.proofs.Widths.{in_32_bits}
use Rattle.memory.specs.Bits.{BitsFrom}
use Rattle.entries.specs.Groups.{InLanes}
use Rattle.entries.proofs.Table.group.Goals as goal

-- m bytes of each plane are read: all n, or all that are left
in_group : (t : ℕ) (table : List ℕ) (n i m low high : ℕ) → IsTable t table → n * i + m ≤ plane_bytes t → (m < n → n * i + m ≡ plane_bytes t)
    → BitsFrom table (n * i) m low → BitsFrom table (plane_bytes t + n * i) m high → InLanes (8 * n) (entries_in t table) i low high
unfolding entry_in
in_group t table n i m low high is room all lows highs j h = rw (lows j, highs j) (go (ltb j (8 * m)) refl)
  where
    go : (x : Bool) → ltb j (8 * m) ≡ x
        → entry_at (entries_in t table) (8 * n * i + j) ≡ pick x (bit_at table (8 * (n * i) + j)) 0 + 2 * pick x (bit_at table (8 * (plane_bytes t + n * i) + j)) 0
    go true l =
        let e : 8 * (n * i) + j ≡ 8 * n * i + j = omega arith in
        let f : 8 * (plane_bytes t + n * i) + j ≡ 8 * plane_bytes t + (8 * n * i + j) = omega arith in
        rw (e, f) (entry_clean t table is.clean (8 * n * i + j) (omega (arith, room, ltb-true j (8 * m) l)))
    go false l =
        let past = ltb-false j (8 * m) l in
        let e = all (omega (arith, past, h)) in
        get_or-eq_default (entries_in t table) FREE (omega (arith, e, past, length_entries_in t table, (room_entries t).0))

-- a plane has few bytes, and the first that is read is one of them
record Starts (half at : ℕ) : Type 0 where
  short : half ≤ 512
  inside : at < half

starts : {t : ℕ} {table : List ℕ} {half n : ℕ} (i : ℕ) {n' : ℕ} → IsTable t table → half ≡ plane_bytes t → 8 * n * i < length (entries_in t table) → n' ≡ n → Starts half (n' * i)
starts {t = t} {table = table} i is is_half h e = record {
  short = omega (arith, is_half, is.sized.few, (room_entries t).1);
  inside = rw e (omega (arith, h, is_half, length_entries_in t table, (room_entries t).0));
}

pub overflow_mul-at : goal.overflow_mul-at
overflow_mul-at g c =
    let s = starts c.args.i c.args.self.now.is_table c.plane_bytes-half.ensures c.requires c.BYTES.ensures in
    in_32_bits (record { fits = omega arith })

pub overflow_add-at : goal.overflow_add-at
overflow_add-at g c =
    let s = starts c.args.i c.args.self.now.is_table c.plane_bytes-half.ensures c.requires c.BYTES.ensures in
    in_32_bits (record { fits = omega (arith, c.BYTES-2.ensures, g.met.W.FromBytes.few_bytes) })

pub overflow_add-half : goal.overflow_add-half
overflow_add-half g c =
    let s = starts c.args.i c.args.self.now.is_table c.plane_bytes-half.ensures c.requires c.BYTES.ensures in
    in_32_bits (record { fits = omega arith })

pub overflow_add-half-2 : goal.overflow_add-half-2
overflow_add-half-2 g c =
    let s = starts c.args.i c.args.self.now.is_table c.plane_bytes-half.ensures c.requires c.BYTES.ensures in
    in_32_bits (record { fits = omega arith })

pub overflow_mul-half : goal.overflow_mul-half
overflow_mul-half g c =
    let s = starts c.args.i c.args.self.now.is_table c.plane_bytes-half.ensures c.requires c.BYTES.ensures in
    in_32_bits (record { fits = omega arith })

pub returns-then-at-BYTES : goal.returns-then-at-BYTES
returns-then-at-BYTES g c =
    let s = starts c.args.i c.args.self.now.is_table c.plane_bytes-half.ensures c.requires c.BYTES.ensures in
    let n = c.BYTES.ensures in
    let half = c.plane_bytes-half.ensures in
    let e : c.BYTES.result * c.args.i ≡ g.W.FromBytes.BYTES * c.args.i = ap (λ (x : ℕ). x * c.args.i) n in
    in_group c.args.self.now.t c.args.self.now.bytes.now g.W.FromBytes.BYTES c.args.i g.W.FromBytes.BYTES _ _ c.args.self.now.is_table (omega (arith, half, c.BYTES-2.ensures)) (λ l. absurd (omega arith))
    (rw n at c.bits.ensures) (rw (half, n) at c.bits-then-at-BYTES.ensures)

pub last_bits-requires : goal.last_bits-requires
last_bits-requires g c =
    let s = starts c.args.i c.args.self.now.is_table c.plane_bytes-half.ensures c.requires c.BYTES.ensures in
    (omega arith, (omega (arith, c.BYTES-2.ensures), omega (arith, c.plane_bytes-half.ensures, c.args.self.now.is_table.sized.long)))

pub last_bits-requires-2 : goal.last_bits-requires-2
last_bits-requires-2 g c =
    let s = starts c.args.i c.args.self.now.is_table c.plane_bytes-half.ensures c.requires c.BYTES.ensures in
    (omega arith, (omega (arith, c.BYTES-2.ensures), omega (arith, c.plane_bytes-half.ensures, c.args.self.now.is_table.sized.long)))

pub returns : goal.returns
returns g c =
    let s = starts c.args.i c.args.self.now.is_table c.plane_bytes-half.ensures c.requires c.BYTES.ensures in
    let n = c.BYTES.ensures in
    let half = c.plane_bytes-half.ensures in
    let w = g.W.FromBytes.BYTES in
    let e : c.BYTES.result * c.args.i ≡ w * c.args.i = ap (λ (x : ℕ). x * c.args.i) n in
    let m : 2 * plane_bytes c.args.self.now.t - (plane_bytes c.args.self.now.t + w * c.args.i) ≡ plane_bytes c.args.self.now.t - w * c.args.i = omega (arith, s, half, e) in
    in_group c.args.self.now.t c.args.self.now.bytes.now w c.args.i (plane_bytes c.args.self.now.t - w * c.args.i) _ _ c.args.self.now.is_table (omega (arith, s, half, e)) (λ l. omega (arith, s, half, e))
    (rw (half, n) at c.last_bits.ensures) (rw (half, n, m) at c.last_bits-2.ensures)
