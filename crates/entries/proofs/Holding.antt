-- In which byte an entry lies, and what stores make of it.
-- Assumes nothing.
use mathlib.Core.Path.{◌≡◌, refl, sym, ap, ◌∙◌}
use mathlib.Core.List.{List}
use Prim.Native.Nat.{ℕ, ◌+◌, ◌*◌, ◌/◌, ◌%◌, ◌≤◌, ◌<◌}
use native.Mathlib.Omega.{arith}
use lib.ListN.{length, get_or, set, length-set}
use Rattle.rules.specs.Bits.{bit_of, bit_at}
use Rattle.rules.specs.Entries.{FREE}
use Rattle.rules.specs.Tables.{entry_at}
use Rattle.rules.specs.Planes.{plane_bytes, entry_in, entries_in}
use Rattle.laws.proofs.Bits.{bit_of_lt, bit_at_stored, bit_at_kept}
use Rattle.laws.proofs.Planes.{length_entries_in, room_entries, get_d_entries_in, entry_in_byte}
use Rattle.entries.specs.Groups.{lane}

-- ---- in which byte an entry lies

-- the byte of a block is in the plane
pub block_byte : (t : ℕ) (table : List ℕ) (k : ℕ) → k < length (entries_in t table) → k / 8 < plane_bytes t
block_byte t table k h = omega (arith, h, length_entries_in t table, (room_entries t).0)

-- and that of its high bit is one of few
pub high_byte : (t : ℕ) (table : List ℕ) (k : ℕ) → t ≤ 1024 → k < length (entries_in t table) → plane_bytes t + k / 8 < 1024
high_byte t table k few h = omega (arith, few, block_byte t table k h, (room_entries t).1)

-- entry k is in byte k / 8 of each plane
pub entry_byte : (t : ℕ) (table : List ℕ) (k : ℕ) → entry_in t table k ≡ bit_of (get_or table (k / 8) 0) (k % 8) + 2 * bit_of (get_or table (plane_bytes t + k / 8) 0) (k % 8)
entry_byte t table k =
    let e : 8 * (k / 8) + k % 8 ≡ k = omega arith in
    rw e at (entry_in_byte t table (k / 8) (k % 8) (omega arith))

-- bit j of byte i of each plane, where a plane has `half` bytes
pub entry_in_is : (t half : ℕ) → half ≡ plane_bytes t → (table : List ℕ) (i j : ℕ) → j < 8 → entry_in t table (8 * i + j) ≡ lane (get_or table i 0) (get_or table (half + i) 0) j
entry_in_is t half is_half table i j h = rw is_half (entry_in_byte t table i j h)

-- entry k with its low bit by itself
pub entry_high : (t : ℕ) (table : List ℕ) (k : ℕ) → entry_in t table k ≡ bit_at table k + 2 * bit_of (get_or table (plane_bytes t + k / 8) 0) (k % 8)
unfolding bit_at
entry_high = entry_byte

-- what is equal to a bit is below 2
pub bit_small : (r b j : ℕ) → r ≡ bit_of b j → r < 2
bit_small r b j e = rw e (bit_of_lt b j)

-- ---- a block's entry is read, by its number i and the length of a plane

pub both_read : (t : ℕ) (table : List ℕ) (k i half a b : ℕ) → i ≡ k → half ≡ plane_bytes t → k < length (entries_in t table) → a ≡ bit_of (get_or table (i / 8) 0) (i % 8)
    → b ≡ bit_of (get_or table (half + i / 8) 0) (i % 8) → a + 2 * b ≡ entry_at (entries_in t table) k
both_read t table k i half a b ei eh h ea eb =
    rw (ea, eb, ei, eh) (sym (entry_byte t table k)) ∙ sym (get_d_entries_in t table k FREE (omega (arith, h, length_entries_in t table)))

pub low_read : (t : ℕ) (table : List ℕ) (k i a : ℕ) → i ≡ k → k < length (entries_in t table) → a ≡ bit_of (get_or table (i / 8) 0) (i % 8) → entry_at (entries_in t table) k % 2 ≡ a
low_read t table k i a ei h ea =
    let b : ℕ = bit_of (get_or table (plane_bytes t + i / 8) 0) (i % 8) in
    let e : a + 2 * b ≡ entry_at (entries_in t table) k = both_read t table k i (plane_bytes t) a b ei refl h ea refl in
    omega (arith, e, bit_small a (get_or table (i / 8) 0) (i % 8) ea)

-- ---- what stores make of an entry

module _ (t : ℕ) (table : List ℕ) (i : ℕ) (long : length table ≡ 2 * plane_bytes t) (inside : i < plane_bytes t) where
  -- a byte of high bits is stored: the entries in it
  pub high_stored : (v k : ℕ) → k / 8 ≡ i → entry_in t (set table (plane_bytes t + i) v) k ≡ bit_at table k + 2 * bit_of v (k % 8)
  unfolding entry_in
  high_stored v k e =
      let q : (8 * plane_bytes t + k) / 8 ≡ plane_bytes t + i = omega (arith, e) in
      let r : (8 * plane_bytes t + k) % 8 ≡ k % 8 = omega arith in
      rw (bit_at_kept table (plane_bytes t + i) v k (λ o. omega (arith, o, e, inside)), bit_at_stored table (plane_bytes t + i) v (8 * plane_bytes t + k) (omega (arith, long, inside)) q, r)

  -- and the others
  pub high_kept : (v k : ℕ) → k < 8 * plane_bytes t → (k / 8 ≡ i → ⊥) → entry_in t (set table (plane_bytes t + i) v) k ≡ entry_in t table k
  unfolding entry_in
  high_kept v k h n =
      rw (bit_at_kept table (plane_bytes t + i) v k (λ o. omega (arith, o, h)), bit_at_kept table (plane_bytes t + i) v (8 * plane_bytes t + k) (λ o. n (omega (arith, o))))

-- both bytes are stored
module _ (t : ℕ) (table : List ℕ) (i low high : ℕ) (long : length table ≡ 2 * plane_bytes t) (inside : i < plane_bytes t) where
  kept_long : length (set table i low) ≡ 2 * plane_bytes t
  kept_long = length-set table i low ∙ long

  pub both_stored : (k : ℕ) → k / 8 ≡ i → entry_in t (set (set table i low) (plane_bytes t + i) high) k ≡ bit_of low (k % 8) + 2 * bit_of high (k % 8)
  both_stored k e =
      high_stored t (set table i low) i kept_long inside high k e
      ∙ ap (λ (x : ℕ). x + 2 * bit_of high (k % 8)) (bit_at_stored table i low k (omega (arith, long, inside)) e)

  pub both_kept : (k : ℕ) → k < 8 * plane_bytes t → (k / 8 ≡ i → ⊥) → entry_in t (set (set table i low) (plane_bytes t + i) high) k ≡ entry_in t table k
  unfolding entry_in
  both_kept k h n =
      high_kept t (set table i low) i kept_long inside high k h n
      ∙ rw (bit_at_kept table i low k n, bit_at_kept table i low (8 * plane_bytes t + k) (λ o. omega (arith, o, inside)))
