-- The planes of a table, each cut out as a part: they hold its entries, and their words 32 of them.
-- Assumes nothing.
use mathlib.Core.Path.{◌≡◌, ◌∙◌}
use mathlib.Core.List.{List}
use Prim.Native.Nat.{ℕ, ◌+◌, ◌-◌, ◌*◌, ◌/◌, ◌%◌, ◌≤◌, ◌<◌}
use native.Mathlib.Decide.{dec_lt}
use native.Mathlib.Omega.{arith}
use lib.ListN.{length, get_or-eq_default}
use borrow.Author.Tests.{lt-ltb}
use borrow.Rule.Slice.PartMut.{mid_of}
use Rattle.rules.specs.Tests.{tabulate}
use Rattle.rules.specs.Bits.{bit_of, bit_at}
use Rattle.rules.specs.Entries.{FREE}
use Rattle.rules.specs.Tables.{entry_at}
use Rattle.rules.specs.Planes.{plane_bytes, entry_in, entries_in, IsTable}
use Rattle.laws.proofs.Lists.{length_tabulate, get_d_tabulate}
use Rattle.laws.proofs.Bits.{bit_of_zero}
use Rattle.laws.proofs.Planes.{length_entries_in, room_entries, entry_clean}
use Rattle.memory.specs.Bits.{BitsFrom}
use Rattle.memory.proofs.Parts.{part_length}
use Rattle.memory.proofs.Reading.{part_bit}
use Rattle.entries.specs.Groups.{InPlanes, InParts, InWords}

-- ---- past the end of a part of some bytes

module _ (bytes : List ℕ) (a n : ℕ) where
  -- there is no bit
  part_past : a + n ≤ length bytes → (k : ℕ) → 8 * n ≤ k → bit_at (mid_of a n bytes) k ≡ 0
  unfolding bit_at
  part_past room k h =
      let past : length (mid_of a n bytes) ≤ k / 8 = omega (arith, part_length bytes a n room) in
      rw (get_or-eq_default (mid_of a n bytes) 0 past) (bit_of_zero (k % 8))

-- ---- the planes of a table, each with `half` bytes

module _ (t half : ℕ) (table : List ℕ) (is : IsTable t table) (is_half : half ≡ plane_bytes t) where
  pub held_in_planes : InPlanes (entries_in t table) (mid_of 0 (half - 0) table) (mid_of half (2 * half - half) table)
  unfolding entry_in
  held_in_planes k = go (dec_lt k (8 * half))
    where
      go : Dec (k < 8 * half) → entry_at (entries_in t table) k ≡ bit_at (mid_of 0 (half - 0) table) k + 2 * bit_at (mid_of half (2 * half - half) table) k
      go (yes l) =
          let z : 8 * 0 + k ≡ k = omega arith in
          rw (part_bit table 0 (half - 0) k (omega arith), part_bit table half (2 * half - half) k (omega arith), z, is_half)
          (entry_clean t table is.clean k (omega (arith, is_half)))
      go (no l) =
          rw (part_past table 0 (half - 0) (omega (arith, is.sized.long, is_half)) k (omega arith), part_past table half (2 * half - half) (omega (arith, is.sized.long, is_half)) k (omega arith))
          (get_or-eq_default (entries_in t table) FREE (omega (arith, is_half, length_entries_in t table, (room_entries t).0)))

  -- each is as long as a plane
  pub plane_lengths : (length (mid_of 0 (half - 0) table) ≡ half) × (length (mid_of half (2 * half - half) table) ≡ half)
  plane_lengths =
      let low = part_length table 0 (half - 0) (omega (arith, is.sized.long, is_half)) in
      let high = part_length table half (2 * half - half) (omega (arith, is.sized.long, is_half)) in
      (omega (arith, low), omega (arith, high))

-- ---- n bytes of each plane

module _ (es lows highs : List ℕ) (at n : ℕ) where
  -- the entries in them
  abbrev pub entries_of : List ℕ
  entries_of = tabulate (8 * n) (λ (k : ℕ). entry_at es (8 * at + k))

  pub entry_of : (k : ℕ) → k < 8 * n → entry_at entries_of k ≡ entry_at es (8 * at + k)
  entry_of k h = get_d_tabulate (8 * n) (λ (k : ℕ). entry_at es (8 * at + k)) k FREE h

  pub part_planes : at + n ≤ length lows → at + n ≤ length highs → InPlanes es lows highs → InPlanes entries_of (mid_of at n lows) (mid_of at n highs)
  part_planes room room' planes k = go (dec_lt k (8 * n))
    where
      go : Dec (k < 8 * n) → entry_at entries_of k ≡ bit_at (mid_of at n lows) k + 2 * bit_at (mid_of at n highs) k
      go (yes l) = entry_of k l ∙ rw (part_bit lows at n k l, part_bit highs at n k l) (planes (8 * at + k))
      go (no l) =
          rw (part_past lows at n room k (omega arith), part_past highs at n room' k (omega arith))
          (get_or-eq_default entries_of FREE (omega (arith, length_tabulate (8 * n) (λ (k : ℕ). entry_at es (8 * at + k)))))

-- ---- n bytes of each from byte n * i on

pub in_parts : (n : ℕ) (lows highs : List ℕ) (i low high : ℕ) → BitsFrom lows (n * i) n low → BitsFrom highs (n * i) n high → InParts (8 * n) lows highs i low high
in_parts n lows highs i low high lo hi es planes j h =
    let e : 8 * (n * i) + j ≡ 8 * n * i + j = omega arith in
    let l : bit_of low j ≡ bit_at lows (8 * n * i + j) = rw (lt-ltb j (8 * n) h, e) at (lo j) in
    let u : bit_of high j ≡ bit_at highs (8 * n * i + j) = rw (lt-ltb j (8 * n) h, e) at (hi j) in
    rw (l, u) (planes (8 * n * i + j))

-- a word of each
pub in_words : (lows highs : List ℕ) (i low high : ℕ) → BitsFrom lows (4 * i) 4 low → BitsFrom highs (4 * i) 4 high → InWords lows highs i low high
in_words = in_parts 4
