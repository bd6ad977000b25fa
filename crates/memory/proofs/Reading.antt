-- The bits of bytes in one number: none for no bytes, and one byte more below them. The bytes of a part that is read, and none past the end.
-- Assumes nothing.
use mathlib.Core.Path.{◌≡◌, refl, sym, ◌∙◌}
use mathlib.Core.Bool.{Bool, true, false}
use mathlib.Core.List.{List}
use Prim.Native.Nat.{ℕ, zero, suc, ◌+◌, ◌-◌, ◌*◌, ◌/◌, ◌%◌, ◌≤◌, ◌<◌}
use native.Mathlib.Omega.{arith}
use lib.Dec.{ltb}
use lib.ListN.{length, get_or, get_or-eq_default}
use borrow.Author.Tests.{ltb-true, ltb-false, lt-ltb, le-ltb}
use borrow.Rule.Slice.PartMut.{mid_of}
use Rattle.rules.specs.Tests.{pick}
use Rattle.rules.specs.Bits.{bit_of, bit_at}
use Rattle.laws.proofs.Bits.{bit_of_zero, bit_at_byte, joined_low, joined_high}
use Rattle.memory.specs.Bits.{BitsFrom}
use Rattle.memory.proofs.Parts.{part_at}

-- the bits of a part are those of the bytes
pub part_bit : (bytes : List ℕ) (a n k : ℕ) → k < 8 * n → bit_at (mid_of a n bytes) k ≡ bit_at bytes (8 * a + k)
unfolding bit_at
part_bit bytes a n k h =
    let q : (8 * a + k) / 8 ≡ a + k / 8 = omega arith in
    let r : (8 * a + k) % 8 ≡ k % 8 = omega arith in
    rw (q, r, part_at bytes a n (a + k / 8) (k / 8) refl (omega arith))

-- no bytes have no bits
pub no_bytes : (bytes : List ℕ) (at : ℕ) → BitsFrom bytes at 0 0
no_bytes bytes at j = rw (le-ltb j 0 (omega arith)) (bit_of_zero j)

-- the byte at `at` below the n bytes from the next on
pub one_more : (bytes : List ℕ) (at next n r : ℕ) → next ≡ suc at → get_or bytes at 0 < 256 → BitsFrom bytes next n r → BitsFrom bytes at (suc n) (r * 256 + get_or bytes at 0)
one_more bytes at next n r e small has j = go (ltb j 8) refl (ltb j (8 * suc n)) refl
  where
    b : ℕ
    b = get_or bytes at 0

    above : 8 ≤ j → (y : Bool) → ltb j (8 * suc n) ≡ y → bit_of r (j - 8) ≡ pick y (bit_at bytes (8 * at + j)) 0
    above past true q =
        let i : 8 * next + (j - 8) ≡ 8 * at + j = omega (arith, past, e) in
        rw (lt-ltb (j - 8) (8 * n) (omega (arith, past, ltb-true j (8 * suc n) q)), i) at (has (j - 8))
    above past false q = rw (le-ltb (j - 8) (8 * n) (omega (arith, past, ltb-false j (8 * suc n) q))) at (has (j - 8))

    go : (x : Bool) → ltb j 8 ≡ x → (y : Bool) → ltb j (8 * suc n) ≡ y → bit_of (r * 256 + b) j ≡ pick y (bit_at bytes (8 * at + j)) 0
    go true l true q = joined_low b r 8 j small (ltb-true j 8 l) ∙ sym (bit_at_byte bytes at j (ltb-true j 8 l))
    go true l false q = absurd (omega (arith, ltb-true j 8 l, ltb-false j (8 * suc n) q))
    go false g y q =
        let past = ltb-false j 8 g in
        let i : 8 + (j - 8) ≡ j = omega (arith, past) in
        let up : bit_of (r * 256 + b) j ≡ bit_of r (j - 8) = rw i at (joined_high b r 8 (j - 8) small) in
        up ∙ above past y q

-- the bytes that are left, and past them each bit is 0
pub to_the_end : (bytes : List ℕ) (at n r : ℕ) → at ≤ length bytes → length bytes ≤ at + n → BitsFrom bytes at (length bytes - at) r → BitsFrom bytes at n r
unfolding bit_at
to_the_end bytes at n r inside few has j = has j ∙ go (ltb j (8 * (length bytes - at))) refl (ltb j (8 * n)) refl
  where
    go : (x : Bool) → ltb j (8 * (length bytes - at)) ≡ x → (y : Bool) → ltb j (8 * n) ≡ y → pick x (bit_at bytes (8 * at + j)) 0 ≡ pick y (bit_at bytes (8 * at + j)) 0
    go true l true q = refl
    go true l false q = absurd (omega (arith, ltb-true j (8 * (length bytes - at)) l, ltb-false j (8 * n) q))
    go false l true q =
        let past : length bytes ≤ (8 * at + j) / 8 = omega (arith, ltb-false j (8 * (length bytes - at)) l) in
        rw (get_or-eq_default bytes 0 past) (sym (bit_of_zero ((8 * at + j) % 8)))
    go false l false q = refl

-- all bytes
module _ (bytes : List ℕ) (small : (i : ℕ) → get_or bytes i 0 < 256) where
  -- the number of n of them, from place i on
  abbrev pub number_from : ℕ → ℕ → ℕ
  number_from i zero = 0
  number_from i (suc n) = number_from (suc i) n * 256 + get_or bytes i 0

  pub number_bits : (i n : ℕ) → BitsFrom bytes i n (number_from i n)
  number_bits i zero = no_bytes bytes i
  number_bits i (suc n) = one_more bytes i (suc i) n (number_from (suc i) n) refl (small i) (number_bits (suc i) n)

-- the bits of a part are those of the bytes from where it starts
pub of_part : (bytes : List ℕ) (at n r : ℕ) → BitsFrom (mid_of at n bytes) 0 n r → BitsFrom bytes at n r
of_part bytes at n r has j = has j ∙ go (ltb j (8 * n)) refl
  where
    go : (x : Bool) → ltb j (8 * n) ≡ x → pick x (bit_at (mid_of at n bytes) (8 * 0 + j)) 0 ≡ pick x (bit_at bytes (8 * at + j)) 0
    go true l =
        let z : 8 * 0 + j ≡ j = omega arith in
        rw z (part_bit bytes at n j (ltb-true j (8 * n) l))
    go false l = refl
