-- A HEAD becomes MARK: what the store of one bit leaves, and how the two bits of a block are told apart.
-- Assumes nothing.
use mathlib.Core.Path.{◌≡◌, refl, sym, ◌∙◌}
use mathlib.Core.Logic.{◌≢◌}
use mathlib.Core.List.{List}
use Prim.Native.Nat.{ℕ, zero, suc, ◌+◌, ◌*◌, ◌/◌, ◌%◌, ◌^◌, ◌≤◌, ◌<◌}
use native.Mathlib.Decide.{ℕ_discrete}
use native.Mathlib.Nat.{one-le-pow}
use native.Mathlib.Omega.{arith}
use lib.Bits.{bit_and, bit_or, bit_xor, differ, or_lt, xor_lt, xor_step, xor_shr}
use lib.Dec.{eqb}
use lib.ListN.{length, get_or, set, length-set, get_or-eq_default}
use lib.Seq.{get_or-set_same, get_or-set_other}
use borrow.Author.Tests.{eq-eqb, ne_eqb}
use Rattle.rules.specs.Bits.{bit_of, bit_at}
use Rattle.rules.specs.Entries.{FREE, HEAD, TAIL, MARK}
use Rattle.rules.specs.Tables.{entry_at}
use Rattle.rules.specs.Planes.{plane_bytes, entry_in, entries_in, IsTable, Holds}
use Rattle.laws.proofs.Below.{all_below, below, equal_below}
use Rattle.laws.proofs.Bits.{two_bits, bit_of_lt, bit_of_or, bit_at_lt}
use Rattle.laws.proofs.Planes.{length_entries_in, room_entries, entry_clean, holds_of}
use Rattle.laws.proofs.Tables.{entry_inside}
use Rattle.entries.proofs.Holding.{block_byte, entry_byte, entry_high, high_stored, high_kept}
use Rattle.entries.proofs.Masks.{one_bit}

-- ---- a HEAD becomes MARK

-- bit s of a byte is set
abbrev pub with_one : ℕ → ℕ → ℕ
with_one b s = bit_or b (1 * 2 ^ s % 256)

one_set : (b s : ℕ) → s < 8 → bit_of (with_one b s) s ≡ 1
one_set b s h =
    bit_of_or b (1 * 2 ^ s % 256) s ∙ rw (one_bit s s h h, eq-eqb s s (omega arith)) (omega (arith, bit_of_lt b s))

others_stay : (b s j : ℕ) → s < 8 → j < 8 → (j ≡ s → ⊥) → bit_of (with_one b s) j ≡ bit_of b j
others_stay b s j hs hj n = bit_of_or b (1 * 2 ^ s % 256) j ∙ rw (one_bit s j hs hj, ne_eqb j s n) (omega arith)

-- a HEAD is in the table
pub head_inside : (t : ℕ) (table : List ℕ) (k : ℕ) → entry_at (entries_in t table) k ≡ HEAD → k < length (entries_in t table)
head_inside t table k e = entry_inside (entries_in t table) k (λ f. omega (arith, e, f))

module _ (t : ℕ) (table : List ℕ) (k : ℕ) (is : IsTable t table) (head : entry_at (entries_in t table) k ≡ HEAD) where
  abbrev es : List ℕ
  es = entries_in t table

  abbrev byte : ℕ
  byte = get_or table (plane_bytes t + k / 8) 0

  abbrev after : List ℕ
  after = set table (plane_bytes t + k / 8) (with_one byte (k % 8))

  in_plane : k / 8 < plane_bytes t
  in_plane = block_byte t table k (head_inside t table k head)

  -- the entry of every place of the planes
  entry_after : (j : ℕ) → j < 8 * plane_bytes t → entry_in t after j ≡ entry_at (set es k MARK) j
  entry_after j h = go (ℕ_discrete j k) (ℕ_discrete (j / 8) (k / 8))
    where
      was : entry_at es j ≡ entry_in t table j
      was = entry_clean t table is.clean j h

      long : length table ≡ 2 * plane_bytes t
      long = is.sized.long

      go : Dec (j ≡ k) → Dec (j / 8 ≡ k / 8) → entry_in t after j ≡ entry_at (set es k MARK) j
      go (yes e) _ =
          let q : j / 8 ≡ k / 8 = omega (arith, e) in
          let at : entry_at es k ≡ entry_in t table k = rw e at was in
          let low : bit_at table k ≡ 1 = omega (arith, head, at, entry_high t table k, bit_at_lt table k) in
          high_stored t table (k / 8) long in_plane (with_one byte (k % 8)) j q
          ∙ rw (e, low, one_set byte (k % 8) (omega arith), get_or-set_same es k MARK FREE (head_inside t table k head)) (omega arith)
      go (no n) (yes q) =
          let other : bit_of (with_one byte (k % 8)) (j % 8) ≡ bit_of byte (j % 8) = others_stay byte (k % 8) (j % 8) (omega arith) (omega arith) (λ e. n (omega (arith, e, q))) in
          let at : entry_in t table j ≡ bit_at table j + 2 * bit_of byte (j % 8) = rw q at (entry_high t table j) in
          high_stored t table (k / 8) long in_plane (with_one byte (k % 8)) j q ∙ rw other (sym (get_or-set_other es k j MARK FREE n ∙ was ∙ at))
      go (no n) (no o) = high_kept t table (k / 8) long in_plane (with_one byte (k % 8)) j h o ∙ sym (get_or-set_other es k j MARK FREE n ∙ was)

  pub marked : Holds t (set es k MARK) after
  marked =
      holds_of t (set es k MARK) after
      (record { few = is.sized.few; long = length-set table (plane_bytes t + k / 8) (with_one byte (k % 8)) ∙ is.sized.long })
      (length-set es k MARK ∙ length_entries_in t table) entry_after

-- ---- which of the two bits is set

-- a byte under the mask of one bit
masked : (b s : ℕ) → b < 256 → s < 8 → bit_and b (1 * 2 ^ s % 4294967296) ≡ bit_of b s * 2 ^ s
unfolding bit_of
masked b s hb hs =
    equal_below 256 (λ (b : ℕ). bit_and b (1 * 2 ^ s % 4294967296)) (λ (b : ℕ). bit_of b s * 2 ^ s)
    (below 8 (λ (s : ℕ). all_below 256 (λ (b : ℕ). eqb (bit_and b (1 * 2 ^ s % 4294967296)) (bit_of b s * 2 ^ s))) tt s hs) b hb

-- the same bit, whether it is set in 8 bits or in 32
pub wide_one : (s : ℕ) → s < 8 → 1 * 2 ^ s % 4294967296 ≡ 1 * 2 ^ s % 256
wide_one = equal_below 8 (λ (s : ℕ). 1 * 2 ^ s % 4294967296) (λ (s : ℕ). 1 * 2 ^ s % 256) tt

masked_none : (b s : ℕ) → b < 256 → s < 8 → bit_and b (1 * 2 ^ s % 4294967296) ≡ 0 → bit_of b s ≡ 0
masked_none b s hb hs z = go (bit_of b s) (bit_of_lt b s) (sym (masked b s hb hs) ∙ z)
  where
    go : (x : ℕ) → x < 2 → x * 2 ^ s ≡ 0 → x ≡ 0
    go zero l e = refl
    go (suc zero) l e = absurd (omega (arith, e, one-le-pow s 2 (omega arith)))
    go (suc (suc x)) l e = absurd (omega arith)

masked_some : (b s : ℕ) → b < 256 → s < 8 → (bit_and b (1 * 2 ^ s % 4294967296) ≡ 0 → ⊥) → bit_of b s ≡ 1
masked_some b s hb hs n = go (bit_of b s) (bit_of_lt b s) (λ e. n (masked b s hb hs ∙ e))
  where
    go : (x : ℕ) → x < 2 → (x * 2 ^ s ≡ 0 → ⊥) → x ≡ 1
    go zero l e = absurd (e (omega arith))
    go (suc zero) l e = refl
    go (suc (suc x)) l e = absurd (omega arith)

least_bit : (x l h : ℕ) → l < 2 → h < 2 → (x * 2 + differ l h) % 2 ≡ differ l h
least_bit x = two_bits (λ (l h : ℕ). (x * 2 + differ l h) % 2 ≡ differ l h) (omega arith) (omega arith) (omega arith) (omega arith)

bit_of_xor : (a b j : ℕ) → bit_of (bit_xor a b) j ≡ differ (bit_of a j) (bit_of b j)
unfolding bit_of
bit_of_xor a b j = rw (xor_shr a b j, xor_step (a / 2 ^ j) (b / 2 ^ j)) (least_bit _ (a / 2 ^ j % 2) (b / 2 ^ j % 2) (omega arith) (omega arith))

-- bits that are alike, and bits that differ
alike : (l h : ℕ) → l < 2 → h < 2 → differ l h ≡ 0 → l ≡ h
alike = two_bits (λ (l h : ℕ). differ l h ≡ 0 → l ≡ h) (λ q. refl) (λ q. omega arith) (λ q. omega arith) (λ q. refl)

unlike : (l h : ℕ) → l < 2 → h < 2 → differ l h ≡ 1 → l + h ≡ 1
unlike = two_bits (λ (l h : ℕ). differ l h ≡ 1 → l + h ≡ 1) (λ q. omega arith) (λ q. refl) (λ q. refl) (λ q. omega arith)

-- what block k is, by the masks
module _ (t : ℕ) (table : List ℕ) (k : ℕ) (is : IsTable t table) where
  stays : Holds t (entries_in t table) table
  stays = record { is_table = is; entries = refl }

  -- it is none of the planes'
  pub met_outside : 2 * plane_bytes t ≤ plane_bytes t + k / 8 → (entry_at (entries_in t table) k ≢ HEAD) × ((entry_at (entries_in t table) k ≢ TAIL) × Holds t (entries_in t table) table)
  met_outside h =
      let free : entry_at (entries_in t table) k ≡ FREE = get_or-eq_default (entries_in t table) FREE (omega (arith, h, length_entries_in t table, (room_entries t).0)) in
      (λ e. omega (arith, e, free), (λ e. omega (arith, e, free), stays))

  -- it is number i, where a plane has `half` bytes
  module _ (i half : ℕ) (number_is : i ≡ k) (half_is : half ≡ plane_bytes t) (near : half + i / 8 < length table) (hl : get_or table (i / 8) 0 < 256) (hh : get_or table (half + i / 8) 0 < 256) where
    abbrev low : ℕ
    low = get_or table (i / 8) 0

    abbrev high : ℕ
    high = get_or table (half + i / 8) 0

    abbrev one : ℕ
    one = 1 * 2 ^ (i % 8) % 4294967296

    at_both : entry_at (entries_in t table) k ≡ bit_of low (i % 8) + 2 * bit_of high (i % 8)
    at_both = rw (number_is, half_is) (entry_clean t table is.clean k (omega (arith, near, number_is, half_is, is.sized.long)) ∙ entry_byte t table k)

    one_of_them : (bit_and (bit_xor low high) one ≡ 0 → ⊥) → bit_of low (i % 8) + bit_of high (i % 8) ≡ 1
    one_of_them n =
        unlike (bit_of low (i % 8)) (bit_of high (i % 8)) (bit_of_lt low (i % 8)) (bit_of_lt high (i % 8))
        (sym (bit_of_xor low high (i % 8)) ∙ masked_some (bit_xor low high) (i % 8) (xor_lt 8 low high hl hh) (omega arith) n)

    pub met_other : bit_and (bit_xor low high) one ≡ 0 → (entry_at (entries_in t table) k ≢ HEAD) × ((entry_at (entries_in t table) k ≢ TAIL) × Holds t (entries_in t table) table)
    met_other z =
        let same : bit_of low (i % 8) ≡ bit_of high (i % 8) =
        alike (bit_of low (i % 8)) (bit_of high (i % 8)) (bit_of_lt low (i % 8)) (bit_of_lt high (i % 8))
        (sym (bit_of_xor low high (i % 8)) ∙ masked_none (bit_xor low high) (i % 8) (xor_lt 8 low high hl hh) (omega arith) z) in
        (λ e. omega (arith, e, at_both, same, bit_of_lt high (i % 8)), (λ e. omega (arith, e, at_both, same, bit_of_lt high (i % 8)), stays))

    pub met_tail : (bit_and (bit_xor low high) one ≡ 0 → ⊥) → (bit_and high one ≡ 0 → ⊥) → (entry_at (entries_in t table) k ≡ TAIL) × Holds t (entries_in t table) table
    met_tail n m = (omega (arith, at_both, one_of_them n, masked_some high (i % 8) hh (omega arith) m), stays)

    pub met_head : (bit_and (bit_xor low high) one ≡ 0 → ⊥) → bit_and high one ≡ 0
        → (entry_at (entries_in t table) k ≡ HEAD) × Holds t (set (entries_in t table) k MARK) (set table (half + i / 8) (bit_or high one))
    met_head n z =
        let head : entry_at (entries_in t table) k ≡ HEAD = omega (arith, at_both, one_of_them n, masked_none high (i % 8) hh (omega arith) z) in
        (head, rw (wide_one (i % 8) (omega arith), number_is, half_is) (marked t table k is head))

    pub byte_stored : bit_or high one < 256
    byte_stored = rw (wide_one (i % 8) (omega arith)) (or_lt 8 high (1 * 2 ^ (i % 8) % 256) hh (omega arith))
