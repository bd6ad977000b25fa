-- Bits of numbers and of bytes: what and, or, not and shifts make of a bit, and that a number is its bits.
-- Assumes nothing.
use mathlib.Core.Path.{◌≡◌, sym, ap, ◌∙◌}
use mathlib.Core.Logic.{◌≢◌}
use mathlib.Core.List.{List}
use Prim.Native.Nat.{ℕ, zero, suc, ◌+◌, ◌-◌, ◌*◌, ◌/◌, ◌%◌, ◌^◌, ◌≤◌, ◌<◌, min, max}
use native.Mathlib.Nat.{lt_of_lt_of_le, pow-suc, pow-succ', one-le-pow, div-div-eq-div-mul, zero-div, div-eq_of_lt, le-div_iff_mul-le, div-lt_iff_lt-mul}
use native.Mathlib.Decide.{dec_lt}
use native.Mathlib.Omega.{arith}
use lib.ListN.{length, get_or, set}
use lib.Bits.{bit_and, bit_or, or_add_and, and_le_l, and_le_r, and_step, or_step, and_shr, or_shr, and_mask, shifted_half, shifted_even}
use lib.Count.{count_leading_zeros, leading_top}
use lib.Pow.{pow-add, pow_mono, high, low}
use lib.Seq.{get_or-set_same, get_or-set_other}
use Rattle.rules.specs.Bits.{bit_of, bit_at, byte_of}
use Rattle.laws.proofs.Below.{equal_below}

-- what holds at 0 to 7 holds below 8
pub eight : (P : ℕ → Type 0) → P 0 → P 1 → P 2 → P 3 → P 4 → P 5 → P 6 → P 7 → (j : ℕ) → j < 8 → P j
eight P a b c d e f g h zero l = a
eight P a b c d e f g h (suc zero) l = b
eight P a b c d e f g h (suc (suc zero)) l = c
eight P a b c d e f g h (suc (suc (suc zero))) l = d
eight P a b c d e f g h (suc (suc (suc (suc zero)))) l = e
eight P a b c d e f g h (suc (suc (suc (suc (suc zero))))) l = f
eight P a b c d e f g h (suc (suc (suc (suc (suc (suc zero)))))) l = g
eight P a b c d e f g h (suc (suc (suc (suc (suc (suc (suc zero))))))) l = h
eight P a b c d e f g h (suc (suc (suc (suc (suc (suc (suc (suc j)))))))) l = absurd (omega arith)

-- what holds of 0 and of 1 holds of a bit
pub one_bit : (P : ℕ → Type 0) → P 0 → P 1 → (b : ℕ) → b < 2 → P b
one_bit P p q zero h = p
one_bit P p q (suc zero) h = q
one_bit P p q (suc (suc b)) h = absurd (omega arith)

-- and of two
pub two_bits : (P : ℕ → ℕ → Type 0) → P 0 0 → P 0 1 → P 1 0 → P 1 1 → (l h : ℕ) → l < 2 → h < 2 → P l h
two_bits P p q r s l h hl hh = one_bit (λ (l : ℕ). P l h) (one_bit (P 0) p q h hh) (one_bit (P 1) r s h hh) l hl

-- ---- one bit

pub bit_of_lt : (a j : ℕ) → bit_of a j < 2
unfolding bit_of
bit_of_lt a j = omega arith

pub bit_of_first : (a : ℕ) → bit_of a 0 ≡ a % 2
unfolding bit_of
bit_of_first a = omega arith

-- the bits above the first
pub bit_of_suc : (a j : ℕ) → bit_of a (suc j) ≡ bit_of (a / 2) j
unfolding bit_of
bit_of_suc a j = rw (pow-succ' 2 j, div-div-eq-div-mul a 2 (2 ^ j))

pub bit_of_zero : (j : ℕ) → bit_of 0 j ≡ 0
unfolding bit_of
bit_of_zero j = rw (zero-div (2 ^ j))

-- above a number's bits each is 0
pub bit_of_above : (a j : ℕ) → a < 2 ^ j → bit_of a j ≡ 0
unfolding bit_of
bit_of_above a j h = rw (div-eq_of_lt h)

-- ---- operations

least_bit : (x a b : ℕ) → (x * 2 + min (a % 2) (b % 2)) % 2 ≡ min (a % 2) (b % 2)
least_bit x a b = omega arith

most_bit : (x a b : ℕ) → (x * 2 + max (a % 2) (b % 2)) % 2 ≡ max (a % 2) (b % 2)
most_bit x a b = omega arith

pub bit_of_and : (a b j : ℕ) → bit_of (bit_and a b) j ≡ min (bit_of a j) (bit_of b j)
unfolding bit_of
bit_of_and a b j = rw (and_shr a b j, and_step (a / 2 ^ j) (b / 2 ^ j)) (least_bit _ (a / 2 ^ j) (b / 2 ^ j))

pub bit_of_or : (a b j : ℕ) → bit_of (bit_or a b) j ≡ max (bit_of a j) (bit_of b j)
unfolding bit_of
bit_of_or a b j = rw (or_shr a b j, or_step (a / 2 ^ j) (b / 2 ^ j)) (most_bit _ (a / 2 ^ j) (b / 2 ^ j))

-- two numbers joined are 0 only if both are
pub or_none : (a b : ℕ) → bit_or a b ≡ 0 → (a ≡ 0) × (b ≡ 0)
or_none a b z = omega (arith, or_add_and a b, and_le_l a b, and_le_r a b)

-- a shift down
pub bit_of_shr : (a s j : ℕ) → bit_of (a / 2 ^ s) j ≡ bit_of a (s + j)
unfolding bit_of
bit_of_shr a s j = rw (div-div-eq-div-mul a (2 ^ s) (2 ^ j), pow-add 2 s j)

-- a shift up
pub bit_of_shl : (a s j : ℕ) → bit_of (a * 2 ^ s) (s + j) ≡ bit_of a j
bit_of_shl a zero j =
    let e : a * 2 ^ 0 ≡ a = omega arith in
    let z : 0 + j ≡ j = omega arith in
    rw (e, z)
bit_of_shl a (suc s) j =
    let e : suc s + j ≡ suc (s + j) = omega arith in
    rw e (bit_of_suc (a * 2 ^ suc s) (s + j) ∙ rw (shifted_half a s) (bit_of_shl a s j))

pub bit_of_below : (a s j : ℕ) → j < s → bit_of (a * 2 ^ s) j ≡ 0
bit_of_below a zero j h = absurd (omega arith)
bit_of_below a (suc s) zero h = bit_of_first (a * 2 ^ suc s) ∙ shifted_even a s
bit_of_below a (suc s) (suc j) h = bit_of_suc (a * 2 ^ suc s) j ∙ rw (shifted_half a s) (bit_of_below a s j (omega arith))

-- all bits changed
pub bit_of_not : (k a j : ℕ) → a < 2 ^ k → j < k → bit_of (2 ^ k - 1 - a) j ≡ 1 - bit_of a j
bit_of_not zero a j h l = absurd (omega arith)
bit_of_not (suc k) a zero h l =
    let e : (2 ^ suc k - 1 - a) % 2 ≡ 1 - a % 2 = omega (arith, pow-suc 2 k, h) in
    bit_of_first (2 ^ suc k - 1 - a) ∙ e ∙ ap (λ (x : ℕ). 1 - x) (sym (bit_of_first a))
bit_of_not (suc k) a (suc j) h l =
    let e : (2 ^ suc k - 1 - a) / 2 ≡ 2 ^ k - 1 - a / 2 = omega (arith, pow-suc 2 k, h) in
    let up : bit_of (2 ^ k - 1 - a / 2) j ≡ 1 - bit_of (a / 2) j = bit_of_not k (a / 2) j (omega (arith, pow-suc 2 k, h)) (omega arith) in
    bit_of_suc (2 ^ suc k - 1 - a) j ∙ rw (e, bit_of_suc a j) up

-- the lower bits alone
pub bit_of_ones : (k j : ℕ) → j < k → bit_of (2 ^ k - 1) j ≡ 1
bit_of_ones k j h =
    let e : 2 ^ k - 1 - 0 ≡ 2 ^ k - 1 = omega arith in
    rw (e, bit_of_zero j) at (bit_of_not k 0 j (one-le-pow k 2 (omega arith)) h)

pub bit_of_mod : (a k j : ℕ) → j < k → bit_of (a % 2 ^ k) j ≡ bit_of a j
bit_of_mod a k j h =
    let l = bit_of_lt a j in
    let e : min (bit_of a j) 1 ≡ bit_of a j = omega (arith, l) in
    rw (← and_mask a k) (bit_of_and a (2 ^ k - 1) j ∙ ap (min (bit_of a j)) (bit_of_ones k j h) ∙ e)

-- ---- a number without the lowest bit that is set in it

-- s is that bit
pub record LowestBit (a s : ℕ) : Type 0 where
  pub below : (j : ℕ) → j < s → bit_of a j ≡ 0
  pub set : bit_of a s ≡ 1

-- half of an even number has it one lower, and half of the number before that is the number before the half
lowest_half : (a s : ℕ) → LowestBit a (suc s) → LowestBit (a / 2) s × ((a - 1) / 2 ≡ a / 2 - 1)
lowest_half a s x =
    let even : a % 2 ≡ 0 = sym (bit_of_first a) ∙ x.below 0 (omega arith) in
    let low : LowestBit (a / 2) s = record { below = λ j l. sym (bit_of_suc a j) ∙ x.below (suc j) (omega arith); set = sym (bit_of_suc a s) ∙ x.set } in
    (low, omega arith)

-- the number before has a 0 there
before_at : (a s : ℕ) → LowestBit a s → bit_of (a - 1) s ≡ 0
before_at a zero x = let odd = sym (bit_of_first a) ∙ x.set in bit_of_first (a - 1) ∙ omega arith
before_at a (suc s) x = let h = lowest_half a s x in bit_of_suc (a - 1) s ∙ ap (λ (n : ℕ). bit_of n s) h.1 ∙ before_at (a / 2) s h.0

-- and the same bits above it
before_above : (a s j : ℕ) → LowestBit a s → s < j → bit_of (a - 1) j ≡ bit_of a j
before_above a s zero x l = absurd (omega arith)
before_above a zero (suc j) x l =
    let odd = sym (bit_of_first a) ∙ x.set in
    let half : (a - 1) / 2 ≡ a / 2 = omega arith in
    bit_of_suc (a - 1) j ∙ ap (λ (n : ℕ). bit_of n j) half ∙ sym (bit_of_suc a j)
before_above a (suc s) (suc j) x l =
    let h = lowest_half a s x in
    bit_of_suc (a - 1) j ∙ ap (λ (n : ℕ). bit_of n j) h.1 ∙ before_above (a / 2) s j h.0 (omega arith) ∙ sym (bit_of_suc a j)

module _ (a s : ℕ) (x : LowestBit a s) where
  -- the bit is gone
  pub lowest_gone : bit_of (bit_and a (a - 1)) s ≡ 0
  lowest_gone = omega (arith, bit_of_and a (a - 1) s, before_at a s x)

  -- the others stay
  pub lowest_others : (j : ℕ) → j ≢ s → bit_of (bit_and a (a - 1)) j ≡ bit_of a j
  lowest_others j ne = bit_of_and a (a - 1) j ∙ go (dec_lt j s)
    where
      go : Dec (j < s) → min (bit_of a j) (bit_of (a - 1) j) ≡ bit_of a j
      go (yes l) = omega (arith, x.below j l)
      go (no l) = omega (arith, before_above a s j x (omega arith))

  -- the number is smaller
  pub lowest_less : 0 < a → bit_and a (a - 1) < a
  lowest_less some = omega (arith, and_le_r a (a - 1))

-- ---- a number is its bits

pub bits_same : (k a b : ℕ) → a < 2 ^ k → b < 2 ^ k → ((j : ℕ) → j < k → bit_of a j ≡ bit_of b j) → a ≡ b
bits_same zero a b ha hb same = omega arith
bits_same (suc k) a b ha hb same =
    let la : a < 2 ^ k * 2 = rw (pow-suc 2 k) at ha in
    let lb : b < 2 ^ k * 2 = rw (pow-suc 2 k) at hb in
    let up : a / 2 ≡ b / 2 = bits_same k (a / 2) (b / 2) (omega arith) (omega arith) (λ j l. sym (bit_of_suc a j) ∙ same (suc j) (omega arith) ∙ bit_of_suc b j) in
    let low : a % 2 ≡ b % 2 = sym (bit_of_first a) ∙ same 0 (omega arith) ∙ bit_of_first b in
    omega (arith, up, low)

-- ---- the highest bit that is set, by the zeros above it

-- the bit of a number's highest set digit
pub bit_of_top : (a j : ℕ) → 2 ^ j ≤ a → a < 2 ^ suc j → bit_of a j ≡ 1
unfolding bit_of
bit_of_top a j l h =
    let p : 0 < 2 ^ j = one-le-pow j 2 (omega arith) in
    let some : 1 ≤ a / 2 ^ j = (le-div_iff_mul-le p).1 (omega (arith, l)) in
    let few : a / 2 ^ j < 2 = (div-lt_iff_lt-mul p).1 (rw (pow-succ' 2 j) at h) in
    omega (arith, some, few)

-- n of k bits stand above the last that is set
pub record TopBit (k a n : ℕ) : Type 0 where
  pub few : n < k
  pub set : bit_of a (k - 1 - n) ≡ 1
  pub above : (j : ℕ) → k - 1 - n < j → bit_of a j ≡ 0

pub top_bit : (k a : ℕ) → 0 < a → a < 2 ^ k → TopBit k a (count_leading_zeros k a)
top_bit k a some h =
    let top = leading_top k a some h in
    let e : top.0 ≡ k - 1 - count_leading_zeros k a = omega (arith, top.1) in
    record {
      few = omega (arith, top.1);
      set = rw (← e) (bit_of_top a top.0 top.2 top.3);
      above = λ j l. bit_of_above a j (lt_of_lt_of_le top.3 (pow_mono (omega (arith, e))));
    }

-- ---- a number above another

-- below s the bits are those of a
pub joined_low : (a b s j : ℕ) → a < 2 ^ s → j < s → bit_of (b * 2 ^ s + a) j ≡ bit_of a j
joined_low a b s j h l = sym (bit_of_mod (b * 2 ^ s + a) s j l) ∙ ap (λ (x : ℕ). bit_of x j) (low b s h)

-- from s on they are those of b
pub joined_high : (a b s j : ℕ) → a < 2 ^ s → bit_of (b * 2 ^ s + a) (s + j) ≡ bit_of b j
joined_high a b s j h = sym (bit_of_shr (b * 2 ^ s + a) s j) ∙ ap (λ (x : ℕ). bit_of x j) (high b s h)

-- ---- bytes

pub byte_bits : (b : ℕ) → b < 256 → byte_of (bit_of b) ≡ b
unfolding byte_of bit_of
byte_bits = equal_below 256 (λ (b : ℕ). byte_of (bit_of b)) (λ (b : ℕ). b) tt

pub bit_of_byte : (bit : ℕ → ℕ) → ((j : ℕ) → bit j < 2) → (j : ℕ) → j < 8 → bit_of (byte_of bit) j ≡ bit j
unfolding byte_of bit_of
bit_of_byte bit small =
    let s = small in
    eight (λ (j : ℕ). byte_of bit / 2 ^ j % 2 ≡ bit j)
    (omega (arith, s 0, s 1, s 2, s 3, s 4, s 5, s 6, s 7)) (omega (arith, s 0, s 1, s 2, s 3, s 4, s 5, s 6, s 7))
    (omega (arith, s 0, s 1, s 2, s 3, s 4, s 5, s 6, s 7)) (omega (arith, s 0, s 1, s 2, s 3, s 4, s 5, s 6, s 7))
    (omega (arith, s 0, s 1, s 2, s 3, s 4, s 5, s 6, s 7)) (omega (arith, s 0, s 1, s 2, s 3, s 4, s 5, s 6, s 7))
    (omega (arith, s 0, s 1, s 2, s 3, s 4, s 5, s 6, s 7)) (omega (arith, s 0, s 1, s 2, s 3, s 4, s 5, s 6, s 7))

pub byte_of_same : (f g : ℕ → ℕ) → ((j : ℕ) → j < 8 → f j ≡ g j) → byte_of f ≡ byte_of g
unfolding byte_of
byte_of_same f g e = rw (e 0 (omega arith), e 1 (omega arith), e 2 (omega arith), e 3 (omega arith), e 4 (omega arith), e 5 (omega arith), e 6 (omega arith), e 7 (omega arith))

-- the bits of byte i
pub bit_at_byte : (bs : List ℕ) (i j : ℕ) → j < 8 → bit_at bs (8 * i + j) ≡ bit_of (get_or bs i 0) j
unfolding bit_at
bit_at_byte bs i j h =
    let q : (8 * i + j) / 8 ≡ i = omega arith in
    let r : (8 * i + j) % 8 ≡ j = omega arith in
    rw (q, r)

pub bit_at_lt : (bs : List ℕ) (k : ℕ) → bit_at bs k < 2
unfolding bit_at
bit_at_lt bs k = bit_of_lt (get_or bs (k / 8) 0) (k % 8)

-- ---- a byte that is stored

-- its bits
pub bit_at_stored : (bs : List ℕ) (i v k : ℕ) → i < length bs → k / 8 ≡ i → bit_at (set bs i v) k ≡ bit_of v (k % 8)
unfolding bit_at
bit_at_stored bs i v k h e = rw (e, get_or-set_same bs i v 0 h)

-- and those of the others
pub bit_at_kept : (bs : List ℕ) (i v k : ℕ) → (k / 8 ≡ i → ⊥) → bit_at (set bs i v) k ≡ bit_at bs k
unfolding bit_at
bit_at_kept bs i v k n = rw (get_or-set_other bs i (k / 8) v 0 n)
