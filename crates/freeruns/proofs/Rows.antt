-- 32 bits in a number: the zeros at both ends, and rows of bits, which may go on in a second number.
-- Assumes nothing.
use mathlib.Core.Path.{◌≡◌, refl, sym, ap, ◌∙◌}
use mathlib.Core.Logic.{◌≢◌}
use Prim.Native.Nat.{ℕ, zero, suc, ◌+◌, ◌-◌, ◌*◌, ◌/◌, ◌%◌, ◌^◌, ◌≤◌, ◌<◌, min, max}
use native.Mathlib.Nat.{lt_of_lt_of_le, one-le-pow}
use native.Mathlib.Decide.{ℕ_discrete, dec_lt}
use native.Mathlib.Omega.{arith}
use lib.Bits.{bit_and, bit_or, and_le_l}
use lib.Count.{count_trailing_zeros, count_leading_zeros, leading_of_zero}
use lib.Pow.{pow_mono, shr_le}
use Rattle.rules.specs.Bits.{bit_of}
use Rattle.laws.proofs.Bits.{bit_of_lt, bit_of_first, bit_of_suc, bit_of_zero, bit_of_above, bit_of_and, bit_of_or, bit_of_shr, bit_of_shl, bit_of_below, bit_of_not, bit_of_mod, bits_same, TopBit, top_bit}
use Rattle.freeruns.specs.Rows.{Zeros, ZerosOf, ZerosAbove, Row, RowStarts, WholeRow}

-- 32 bits, all set
abbrev pub ALL : ℕ
ALL = 0xFFFF_FFFF

-- ---- the zeros at both ends

-- those below the lowest that is set
pub zeros_below : (k a : ℕ) → ZerosOf k a (count_trailing_zeros k a)
unfolding count_trailing_zeros
zeros_below zero a = record { few = omega arith; before = λ j l. absurd (omega arith); next = λ l. absurd (omega arith) }
zeros_below (suc k) a = go (a % 2) refl (zeros_below k (a / 2))
  where
    go : (x : ℕ) → a % 2 ≡ x → ZerosOf k (a / 2) (count_trailing_zeros k (a / 2)) → ZerosOf (suc k) a (lib.Count.under x (count_trailing_zeros k (a / 2)))
    go (suc x) p r = record { few = omega arith; before = λ j l. absurd (omega arith); next = λ l. bit_of_first a ∙ omega arith }
    go zero p r = record {
      few = omega (arith, r.few);
      before = λ j l. up j l;
      next = λ l. bit_of_suc a (count_trailing_zeros k (a / 2)) ∙ r.next (omega arith);
    }
      where
        up : (j : ℕ) → j < suc (count_trailing_zeros k (a / 2)) → bit_of a j ≡ 0
        up zero l = bit_of_first a ∙ p
        up (suc j) l = bit_of_suc a j ∙ r.before j (omega arith)

-- those above the highest
zeros_above : (a : ℕ) → a < 2 ^ 32 → ZerosAbove a (count_leading_zeros 32 a)
zeros_above a h = go (ℕ_discrete a 0)
  where
    go : Dec (a ≡ 0) → ZerosAbove a (count_leading_zeros 32 a)
    go (yes z) = rw (z, leading_of_zero 32) record { few = omega arith; above = λ j l. bit_of_zero (31 - j); next = λ l. absurd (omega arith) }
    go (no some) =
        let top : TopBit 32 a (count_leading_zeros 32 a) = top_bit 32 a (omega arith) h in
        record { few = omega (arith, top.few); above = λ j l. top.above (31 - j) (omega (arith, top.few)); next = λ l. top.set }

-- the library's counts of them
pub zeros_at : {k a n : ℕ} → n ≡ count_trailing_zeros k a → ZerosOf k a n
zeros_at {k} {a} e = rw e (zeros_below k a)

pub above_at : {a n : ℕ} → a < 2 ^ 32 → n ≡ count_leading_zeros 32 a → ZerosAbove a n
above_at {a} h e = rw e (zeros_above a h)

-- a number that is not 0 has a first bit
pub first_of : (w a n : ℕ) → a < 2 ^ w → a ≢ 0 → ZerosOf w a n → n < w
first_of w a n h some z = go (dec_lt n w)
  where
    go : Dec (n < w) → n < w
    go (yes l) = l
    go (no l) = absurd (some (bits_same w a 0 h (omega (arith, one-le-pow w 2 (omega arith))) (λ j m. z.before j (omega arith) ∙ sym (bit_of_zero j))))

pub first_inside : (a : ℕ) → a < 2 ^ 32 → a ≢ 0 → count_trailing_zeros 32 a < 32
first_inside a h some = first_of 32 a _ h some (zeros_below 32 a)

pub first_lt : (a n : ℕ) → a < 2 ^ 64 → a ≢ 0 → Zeros a n → n < 64
first_lt = first_of 64

-- above the 32 bits each is 0
pub none_above : (a j : ℕ) → a < 2 ^ 32 → 32 ≤ j → bit_of a j ≡ 0
none_above a j h l = bit_of_above a j (lt_of_lt_of_le h (pow_mono {i = 32} l))

-- a bit that is set is one of the 32
pub set_lt : (a j : ℕ) → a < 2 ^ 32 → bit_of a j ≢ 0 → j < 32
set_lt a j h some = go (dec_lt j 32)
  where
    go : Dec (j < 32) → j < 32
    go (yes l) = l
    go (no l) = absurd (some (none_above a j h (omega arith)))

-- ---- two numbers, one after the other

pub low_bit : (a b j : ℕ) → a < 2 ^ 32 → j < 32 → bit_of (a + 2 ^ 32 * b) j ≡ bit_of a j
low_bit a b j h l =
    let e : (a + 2 ^ 32 * b) % 2 ^ 32 ≡ a = omega arith in
    sym (bit_of_mod (a + 2 ^ 32 * b) 32 j l) ∙ ap (λ (x : ℕ). bit_of x j) e

pub high_bit : (a b j : ℕ) → a < 2 ^ 32 → 32 ≤ j → bit_of (a + 2 ^ 32 * b) j ≡ bit_of b (j - 32)
high_bit a b j h l =
    let e : (a + 2 ^ 32 * b) / 2 ^ 32 ≡ b = omega arith in
    let at : 32 + (j - 32) ≡ j = omega arith in
    ap (bit_of (a + 2 ^ 32 * b)) (sym at) ∙ sym (bit_of_shr (a + 2 ^ 32 * b) 32 (j - 32)) ∙ ap (λ (x : ℕ). bit_of x (j - 32)) e

-- what a turn leaves of the first number, where b follows: the bits that are set at j and at s after j
module _ (a b s : ℕ) (ha : a < 2 ^ 32) (some : 0 < s) (few : s ≤ 32) where
  abbrev pub turned : ℕ
  turned = bit_and a (bit_or (a / 2 ^ s) (b * 2 ^ (32 - s) % 2 ^ 32))

  turned_lt : turned < 2 ^ 32
  turned_lt = omega (arith, and_le_l a (bit_or (a / 2 ^ s) (b * 2 ^ (32 - s) % 2 ^ 32)))

  shifted : (j : ℕ) → j < 32 → max (bit_of a (s + j)) (bit_of (b * 2 ^ (32 - s) % 2 ^ 32) j) ≡ bit_of (a + 2 ^ 32 * b) (s + j)
  shifted j l = go (dec_lt (s + j) 32)
    where
      cut : bit_of (b * 2 ^ (32 - s) % 2 ^ 32) j ≡ bit_of (b * 2 ^ (32 - s)) j
      cut = bit_of_mod (b * 2 ^ (32 - s)) 32 j l

      go : Dec (s + j < 32) → max (bit_of a (s + j)) (bit_of (b * 2 ^ (32 - s) % 2 ^ 32) j) ≡ bit_of (a + 2 ^ 32 * b) (s + j)
      go (yes m) = omega (arith, cut, bit_of_below b (32 - s) j (omega arith), low_bit a b (s + j) ha m)
      go (no m) =
          let e : 32 - s + (s + j - 32) ≡ j = omega arith in
          let up : bit_of (b * 2 ^ (32 - s)) j ≡ bit_of b (s + j - 32) = rw e at (bit_of_shl b (32 - s) (s + j - 32)) in
          omega (arith, cut, up, none_above a (s + j) ha (omega arith), high_bit a b (s + j) ha (omega arith))

  pub turned_bit : (j : ℕ) → j < 32 → bit_of turned j ≡ min (bit_of (a + 2 ^ 32 * b) j) (bit_of (a + 2 ^ 32 * b) (s + j))
  turned_bit j l =
      let o : bit_of (bit_or (a / 2 ^ s) (b * 2 ^ (32 - s) % 2 ^ 32)) j ≡ max (bit_of a (s + j)) (bit_of (b * 2 ^ (32 - s) % 2 ^ 32) j) =
      bit_of_or (a / 2 ^ s) (b * 2 ^ (32 - s) % 2 ^ 32) j ∙ ap (λ (x : ℕ). max x (bit_of (b * 2 ^ (32 - s) % 2 ^ 32) j)) (bit_of_shr a s j) in
      bit_of_and a (bit_or (a / 2 ^ s) (b * 2 ^ (32 - s) % 2 ^ 32)) j ∙ rw (o, shifted j l, low_bit a b j ha l)

-- ---- rows of bits

-- x has a bit where a row of n bits of `whole` starts, and no other
pub record Begins (whole n x : ℕ) : Type 0 where
  pub set : (j : ℕ) → Row whole n j → bit_of x j ≡ 1
  pub only : (j : ℕ) → bit_of x j ≢ 0 → Row whole n j

-- each bit is a row of one
pub row_one : (bits : ℕ) → Begins bits 1 bits
row_one bits = record {
  set = λ j row. let e : j + 0 ≡ j = omega arith in rw e at (row 0 (omega arith));
  only = λ j some d l. let e : j + d ≡ j = omega arith in rw e (omega (arith, bit_of_lt bits j));
}

-- rows that start at j and at s after j make one that is s longer
module _ (whole n s x : ℕ) (h : s ≤ n) (r : Begins whole n x) (j b : ℕ) (here : b ≡ min (bit_of x j) (bit_of x (s + j))) where
  join_set : Row whole (n + s) j → b ≡ 1
  join_set row =
      let first = r.set j (λ d l. row d (omega arith)) in
      let second = r.set (s + j) (λ d l. let e : s + j + d ≡ j + (s + d) = omega arith in rw e (row (s + d) (omega arith))) in
      omega (arith, here, first, second)

  join_only : b ≢ 0 → Row whole (n + s) j
  join_only some d l = go (dec_lt d n)
    where
      go : Dec (d < n) → bit_of whole (j + d) ≡ 1
      go (yes m) = r.only j (λ z. some (omega (arith, here, z))) d m
      go (no m) =
          let e : j + d ≡ s + j + (d - s) = omega arith in
          rw e (r.only (s + j) (λ z. some (omega (arith, here, z))) (d - s) (omega arith))

-- a turn of both numbers
module _ (whole n s m a b : ℕ) (ha : a < 2 ^ 32) (some : 0 < s) (few : s ≤ 32) (h : s ≤ n) (sum : n + s ≡ m) (r : Begins whole n (a + 2 ^ 32 * b)) where
  both_bits : (j : ℕ) → bit_of (turned a b s ha some few + 2 ^ 32 * bit_and b (b / 2 ^ s)) j ≡ min (bit_of (a + 2 ^ 32 * b) j) (bit_of (a + 2 ^ 32 * b) (s + j))
  both_bits j = go (dec_lt j 32)
    where
      small : turned a b s ha some few < 2 ^ 32
      small = turned_lt a b s ha some few

      go : Dec (j < 32) → bit_of (turned a b s ha some few + 2 ^ 32 * bit_and b (b / 2 ^ s)) j ≡ min (bit_of (a + 2 ^ 32 * b) j) (bit_of (a + 2 ^ 32 * b) (s + j))
      go (yes l) = low_bit (turned a b s ha some few) (bit_and b (b / 2 ^ s)) j small l ∙ turned_bit a b s ha some few j l
      go (no l) =
          let e : s + j - 32 ≡ s + (j - 32) = omega arith in
          let up : bit_of (a + 2 ^ 32 * b) (s + j) ≡ bit_of b (s + (j - 32)) = high_bit a b (s + j) ha (omega arith) ∙ ap (bit_of b) e in
          high_bit (turned a b s ha some few) (bit_and b (b / 2 ^ s)) j small (omega arith) ∙ bit_of_and b (b / 2 ^ s) (j - 32)
          ∙ rw (bit_of_shr b s (j - 32), up, high_bit a b j ha (omega arith))

  pub begins_turn : (turned a b s ha some few < 2 ^ 32) × Begins whole m (turned a b s ha some few + 2 ^ 32 * bit_and b (b / 2 ^ s))
  begins_turn = (
    turned_lt a b s ha some few,
    rw (← sum) record {
      set = λ j row. join_set whole n s (a + 2 ^ 32 * b) h r j _ (both_bits j) row;
      only = λ j set. join_only whole n s (a + 2 ^ 32 * b) h r j _ (both_bits j) set;
    },
  )

-- the last turn, of the first alone
module _ (bits next n s m a b : ℕ) (ha : a < 2 ^ 32) (r : Begins (bits + 2 ^ 32 * next) n (a + 2 ^ 32 * b)) where
  pub starts_turn : (some : 0 < s) (few : s ≤ 32) → s ≤ n → n + s ≡ m → RowStarts bits next m (turned a b s ha some few)
  starts_turn some few h sum = rw (← sum) record {
    set = λ j l row. join_set (bits + 2 ^ 32 * next) n s (a + 2 ^ 32 * b) h r j _ (turned_bit a b s ha some few j l) row;
    only = λ j l set. join_only (bits + 2 ^ 32 * next) n s (a + 2 ^ 32 * b) h r j _ (turned_bit a b s ha some few j l) set;
  }

  -- or none, where the rows are long enough
  pub starts_done : n ≡ m → RowStarts bits next m a
  starts_done sum = rw (← sum) record {
    set = λ j l row. sym (low_bit a b j ha l) ∙ r.set j row;
    only = λ j l set. r.only j (λ z. set (sym (low_bit a b j ha l) ∙ z));
  }

-- ---- rows of one number

-- a row of one number is one where zeros follow
row_alone : (bits n j : ℕ) → Row bits n j → Row (bits + 2 ^ 32 * 0) n j
row_alone bits n j row d l = let e : bits + 2 ^ 32 * 0 ≡ bits = omega arith in rw e (row d l)

alone_row : (bits n j : ℕ) → Row (bits + 2 ^ 32 * 0) n j → Row bits n j
alone_row bits n j row d l = let e : bits + 2 ^ 32 * 0 ≡ bits = omega arith in rw e at (row d l)

-- where no row of n + 1 bits starts, none is longer than n
pub none_longer : (bits n r : ℕ) → bits < 2 ^ 32 → RowStarts bits 0 (n + 1) r → r ≡ 0 → (count j : ℕ) → Row bits count j → count ≤ n
none_longer bits n r h starts z count j row = go (dec_lt n count)
  where
    go : Dec (n < count) → count ≤ n
    go (yes l) =
        let first : bit_of bits j ≡ 1 = let e : j + 0 ≡ j = omega arith in rw e at (row 0 (omega arith)) in
        let inside = set_lt bits j h (λ z. omega (arith, z, first)) in
        let e : bit_of r j ≡ 1 = starts.set j inside (row_alone bits (n + 1) j (λ d m. row d (omega arith))) in
        absurd (omega (arith, ap (λ (x : ℕ). bit_of x j) z, e, bit_of_zero j))
    go (no l) = omega arith

-- where no row of four bits starts, none is longer than three
pub no_four : (bits : ℕ) → bit_and (bit_and bits (bits / 2 ^ 1)) (bit_and bits (bits / 2 ^ 1) / 2 ^ 2) ≡ 0 → (count j : ℕ) → Row bits count j → count ≤ 3
no_four bits z count j row = go (dec_lt 3 count)
  where
    pairs : ℕ
    pairs = bit_and bits (bits / 2 ^ 1)

    at : (d : ℕ) → d < count → bit_of bits (d + j) ≡ 1
    at d l = let e : j + d ≡ d + j = omega arith in rw e at (row d l)

    pair : (k : ℕ) → bit_of bits k ≡ 1 → bit_of bits (1 + k) ≡ 1 → bit_of pairs k ≡ 1
    pair k a b = omega (arith, bit_of_and bits (bits / 2 ^ 1) k, bit_of_shr bits 1 k, a, b)

    go : Dec (3 < count) → count ≤ 3
    go (no l) = omega arith
    go (yes l) =
        let e : 0 + j ≡ j = omega arith in
        let f : 1 + (2 + j) ≡ 3 + j = omega arith in
        let first : bit_of pairs j ≡ 1 = pair j (rw e at (at 0 (omega arith))) (at 1 (omega arith)) in
        let second : bit_of pairs (2 + j) ≡ 1 = pair (2 + j) (at 2 (omega arith)) (rw f (at 3 (omega arith))) in
        absurd (omega (arith, bit_of_and pairs (pairs / 2 ^ 2) j, bit_of_shr pairs 2 j, first, second, ap (λ (x : ℕ). bit_of x j) z, bit_of_zero j))

-- ---- the whole row from a bit on

-- the bits that are set at the front, behind a shift
module _ (bits j n : ℕ) (small : bits < 2 ^ 32) (z : ZerosOf 32 (ALL - bits / 2 ^ j) n) where
  clear : (d : ℕ) → d < 32 → bit_of (ALL - bits / 2 ^ j) d ≡ 1 - bit_of bits (j + d)
  clear d l = bit_of_not 32 (bits / 2 ^ j) d (omega (arith, shr_le bits j)) l ∙ ap (λ (x : ℕ). 1 - x) (bit_of_shr bits j d)

  pub whole_row : WholeRow bits j n
  whole_row = record {
    row = λ d l. omega (arith, clear d (omega (arith, z.few)), z.before d l, bit_of_lt bits (j + d));
    next = λ e. go e (dec_lt n 32);
  }
    where
      go : bit_of bits (j + n) ≡ 1 → Dec (n < 32) → ⊥
      go e (yes l) = omega (arith, e, clear n l, z.next l)
      go e (no l) = omega (arith, e, none_above bits (j + n) small (omega arith))

-- it ends with the 32 bits at the latest
pub row_inside : (bits j n : ℕ) → bits < 2 ^ 32 → j < 32 → WholeRow bits j n → j + n ≤ 32
row_inside bits j n small few whole = go (dec_lt 32 (j + n))
  where
    e : j + (32 - j) ≡ 32
    e = omega arith

    go : Dec (32 < j + n) → j + n ≤ 32
    go (yes l) = absurd (omega (arith, rw e at (whole.row (32 - j) (omega arith)), none_above bits 32 small (omega arith)))
    go (no l) = omega arith

-- where a row of n + 1 bits starts, the whole row is longer than n
pub whole_longer : (bits n j count : ℕ) → Row (bits + 2 ^ 32 * 0) (n + 1) j → WholeRow bits j count → n < count
whole_longer bits n j count row whole = go (dec_lt n count)
  where
    go : Dec (n < count) → n < count
    go (yes l) = l
    go (no l) = absurd (whole.next (alone_row bits (n + 1) j row count (omega arith)))

-- so it is at the first of the places where one starts
module _ (bits n starts s : ℕ) (small : starts < 2 ^ 32) (some : starts ≢ 0) (r : RowStarts bits 0 (n + 1) starts) (z : ZerosOf 32 starts s) where
  pub starts_inside : s < 32
  starts_inside = first_of 32 starts s small some z

  pub first_longer : (count : ℕ) → WholeRow bits s count → n < count
  first_longer count = whole_longer bits n s count (r.only s starts_inside (λ e. omega (arith, e, z.next starts_inside)))
