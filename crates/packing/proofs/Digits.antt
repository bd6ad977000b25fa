-- Numbers in base 4: those of low and of high bits joined to one of entries, and the two bytes of eight digits.
-- Assumes nothing.
use mathlib.Core.Path.{◌≡◌, refl, ap, ◌∙◌}
use mathlib.Core.List.{[], ◌∷◌}
use Prim.Native.Nat.{ℕ, zero, suc, ◌+◌, ◌*◌, ◌/◌, ◌%◌, ◌<◌}
use native.Mathlib.Nat.{mod-eq_of_lt}
use native.Mathlib.Omega.{arith}
use lib.Bits.{bit_and, bit_or, and_zero_r, and_mask, and_block, or_block}
use lib.Pow.{high, low}
use Rattle.rules.specs.Words.{two_bytes_of}
use Rattle.rules.specs.Bits.{bit_of}
use Rattle.laws.proofs.Bits.{two_bits, bit_of_first, bit_of_shr}
use Rattle.packing.specs.Packing.{base4}

-- numbers with the same digits
pub base4_same : (n : ℕ) (d e : ℕ → ℕ) → ((j : ℕ) → j < n → d j ≡ e j) → base4 n d ≡ base4 n e
unfolding base4
base4_same zero d e same = refl
base4_same (suc n) d e same = rw (base4_same n (λ (j : ℕ). d (suc j)) (λ (j : ℕ). e (suc j)) (λ j l. same (suc j) (omega arith)), same 0 (omega arith))

-- the two bits of an entry
or_bits : (l h : ℕ) → l < 2 → h < 2 → bit_or l (h * 2) ≡ l + 2 * h
or_bits = two_bits (λ (l h : ℕ). bit_or l (h * 2) ≡ l + 2 * h) refl refl refl refl

-- low bits, and high bits one place further up, make entries
pub or_digits : (n : ℕ) (l h : ℕ → ℕ) → ((j : ℕ) → l j < 2) → ((j : ℕ) → h j < 2) → bit_or (base4 n l) (base4 n h * 2) ≡ base4 n (λ (j : ℕ). l j + 2 * h j)
unfolding base4
or_digits zero l h hl hh = refl
or_digits (suc n) l h hl hh =
    let l' : ℕ → ℕ = λ (j : ℕ). l (suc j) in
    let h'' : ℕ → ℕ = λ (j : ℕ). h (suc j) in
    let e : (base4 n h'' * 4 + h 0) * 2 ≡ base4 n h'' * 2 * 4 + h 0 * 2 = omega arith in
    rw (
      e,
      or_block 2 (base4 n l') (base4 n h'' * 2) (l 0) (h 0 * 2) (omega (arith, hl 0)) (omega (arith, hh 0)),
      or_digits n l' h'' (λ j. hl (suc j)) (λ j. hh (suc j)),
      or_bits (l 0) (h 0) (hl 0) (hh 0),
    )

-- of a number the bits at even places are digits
pub even_bits : (n x : ℕ) → bit_and x (base4 n (λ (_ : ℕ). 1)) ≡ base4 n (λ (j : ℕ). bit_of x (2 * j))
unfolding base4
even_bits zero x = and_zero_r x
even_bits (suc n) x =
    let ones : ℕ = base4 n (λ (_ : ℕ). 1) in
    let e : x / 4 * 4 + x % 4 ≡ x = omega arith in
    let low : x % 4 % 2 ≡ x % 2 = omega arith in
    let up = even_bits n (x / 4) ∙ base4_same n (λ (j : ℕ). bit_of (x / 4) (2 * j)) (λ (j : ℕ). bit_of x (2 * suc j)) (λ j l. let s : 2 + 2 * j ≡ 2 * suc j = omega arith in bit_of_shr x 2 (2 * j) ∙ ap (bit_of x) s) in
    rw e at (and_block 2 (x / 4) ones (x % 4) 1 (omega arith) (omega arith)) ∙ rw (up, and_mask (x % 4) 1, low, bit_of_first x)

-- eight bits leave room for a shift by one
pub bits_lt : (bit : ℕ → ℕ) → ((j : ℕ) → bit j < 2) → base4 8 bit < 32768
unfolding base4
bits_lt bit s = omega (arith, s 0, s 1, s 2, s 3, s 4, s 5, s 6, s 7)

-- a number by its two bytes
of_two : (a b : ℕ) → a < 256 → b < 256 → two_bytes_of (b * 256 + a) ≡ a ∷ b ∷ []
unfolding two_bytes_of
of_two a b ha hb = rw (low b 8 ha, high b 8 ha, mod-eq_of_lt hb)

-- four digits to a byte
pub two_bytes : (d : ℕ → ℕ) → ((j : ℕ) → d j < 4) → two_bytes_of (base4 8 d) ≡ (d 0 + 4 * d 1 + 16 * d 2 + 64 * d 3) ∷ (d 4 + 4 * d 5 + 16 * d 6 + 64 * d 7) ∷ []
unfolding base4
two_bytes d s =
    let a : ℕ = d 0 + 4 * d 1 + 16 * d 2 + 64 * d 3 in
    let b : ℕ = d 4 + 4 * d 5 + 16 * d 6 + 64 * d 7 in
    let e : base4 8 d ≡ b * 256 + a = omega arith in
    rw e (of_two a b (omega (arith, s 0, s 1, s 2, s 3)) (omega (arith, s 4, s 5, s 6, s 7)))
