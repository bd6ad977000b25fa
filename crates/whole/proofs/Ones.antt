-- Entries are counted as the ones of numbers that have a bit for each.
-- Assumes nothing.
use Rattle.std.proofs.Common.{◌≡◌, ℕ, zero, suc, ◌+◌, ◌-◌, ◌*◌, ◌/◌, ◌^◌, ◌<◌, ◌≤◌, min, Bool, false, List, [], ◌∷◌, length, sym, refl, ap, ◌∙◌, pow-suc, arith}
use lib.Bits.{bit_and, bit_or, and_le_l, or_lt}
use lib.Count.{ones, ones_step, ones-le}
use Rattle.rules.specs.Tests.{count, tabulate}
use Rattle.rules.specs.Bits.{bit_of}
use Rattle.rules.specs.Entries.{FREE}
use Rattle.rules.specs.Tables.{entry_at, is_used, is_head, used, objects}
use Rattle.laws.proofs.Lists.{one, count_cons, count_le, length_tabulate}
use Rattle.laws.proofs.Bits.{bit_of_lt, bit_of_first, bit_of_suc, bit_of_and, bit_of_or, bit_of_not}
use Rattle.entries.specs.Groups.{InLanes}
use Rattle.whole.proofs.Lanes.{used_bit, head_bit}

-- ---- a table of values

module _ (f : ℕ → Bool) where
  -- the first, and the others
  count_first : (n : ℕ) (g : ℕ → ℕ) → count f (tabulate (suc n) g) ≡ one (f (g 0)) + count f (tabulate n (λ (k : ℕ). g (suc k)))
  unfolding tabulate
  count_first n g = count_cons f (g 0) (tabulate n (λ (k : ℕ). g (suc k)))

  count_empty : (g : ℕ → ℕ) → count f (tabulate 0 g) ≡ 0
  unfolding tabulate count
  count_empty g = refl

  count_same : (n : ℕ) (g h : ℕ → ℕ) → ((k : ℕ) → g k ≡ h k) → count f (tabulate n g) ≡ count f (tabulate n h)
  count_same zero g h e = count_empty g ∙ sym (count_empty h)
  count_same (suc n) g h e =
      omega (arith, count_first n g, count_first n h, ap (λ (x : ℕ). one (f x)) (e 0), count_same n (λ (k : ℕ). g (suc k)) (λ (k : ℕ). h (suc k)) (λ k. e (suc k)))

  -- n of them, and then m
  count_on : (n m : ℕ) (g : ℕ → ℕ) → count f (tabulate (n + m) g) ≡ count f (tabulate n g) + count f (tabulate m (λ (j : ℕ). g (n + j)))
  count_on zero m g =
      let e : 0 + m ≡ m = omega arith in
      rw e (omega (arith, count_empty g, count_same m g (λ (j : ℕ). g (0 + j)) (λ j. let z : j ≡ 0 + j = omega arith in ap g z)))
  count_on (suc n) m g =
      let e : suc n + m ≡ suc (n + m) = omega arith in
      rw e (omega (
        arith,
        count_first (n + m) g,
        count_first n g,
        count_on n m (λ (k : ℕ). g (suc k)),
        count_same m (λ (j : ℕ). g (suc (n + j))) (λ (j : ℕ). g (suc n + j)) (λ j. let z : suc (n + j) ≡ suc n + j = omega arith in ap g z),
      ))

  -- x has a one for each that passes
  pub count_ones : (n x : ℕ) (g : ℕ → ℕ) → x < 2 ^ n → ((j : ℕ) → j < n → one (f (g j)) ≡ bit_of x j) → count f (tabulate n g) ≡ ones x
  count_ones zero x g small bits = omega (arith, count_empty g, ones-le 0 x small)
  count_ones (suc n) x g small bits =
      let up = count_ones n (x / 2) (λ (k : ℕ). g (suc k)) (omega (arith, pow-suc 2 n, small)) (λ j h. bits (suc j) (omega arith) ∙ bit_of_suc x j) in
      omega (arith, count_first n g, bits 0 (omega arith), bit_of_first x, ones_step x, up)

-- ---- the entries of a table

-- what is read past the last entry is not counted
count_all : (f : ℕ → Bool) → f FREE ≡ false → (es : List ℕ) (n : ℕ) → length es ≤ n → count f (tabulate n (entry_at es)) ≡ count f es
unfolding count
count_all f free [] zero h = count_empty f (entry_at [])
count_all f free [] (suc n) h =
    omega (arith, count_first f n (entry_at []), ap one free, count_same f n (λ (k : ℕ). entry_at [] (suc k)) (entry_at []) (λ k. refl), count_all f free [] n (omega arith))
count_all f free (e ∷ es) zero h = absurd (omega arith)
count_all f free (e ∷ es) (suc n) h =
    omega (arith, count_first f n (entry_at (e ∷ es)), count_same f n (λ (k : ℕ). entry_at (e ∷ es) (suc k)) (entry_at es) (λ k. refl), count_cons f e es, count_all f free es n (omega arith))

module _ (f : ℕ → Bool) (es : List ℕ) where
  -- how many pass in the first i words of each plane
  abbrev pub up_to : ℕ → ℕ
  up_to i = count f (tabulate (32 * i) (entry_at es))

  pub few : (i : ℕ) → up_to i ≤ 32 * i
  few i = omega (arith, count_le f (tabulate (32 * i) (entry_at es)), length_tabulate (32 * i) (entry_at es))

  -- a word more, where x has a one for each of its entries that passes
  turn : (i x : ℕ) → x < 2 ^ 32 → ((j : ℕ) → j < 32 → one (f (entry_at es (32 * i + j))) ≡ bit_of x j) → up_to i + ones x ≡ up_to (i + 1)
  turn i x small bits =
      let e : 32 * (i + 1) ≡ 32 * i + 32 = omega arith in
      rw e (omega (arith, count_on f (32 * i) 32 (entry_at es), count_ones f 32 x (λ (j : ℕ). entry_at es (32 * i + j)) small bits))

module _ (es : List ℕ) where
  -- n are counted before word i
  module _ (i n low high : ℕ) (hl : low < 2 ^ 32) (hh : high < 2 ^ 32) (lanes : InLanes 32 es i low high) where
    pub used_turn : n ≡ up_to is_used es i → n + ones (bit_or low high) ≡ up_to is_used es (i + 1)
    used_turn e =
        rw e
        (turn is_used es i (bit_or low high) (or_lt 32 low high hl hh)
        (λ j h. rw (lanes j h) (used_bit (bit_of low j) (bit_of high j) (bit_of_lt low j) (bit_of_lt high j)) ∙ sym (bit_of_or low high j)))

    pub heads_turn : n ≡ up_to is_head es i → n + ones (bit_and low (2 ^ 32 - 1 - high)) ≡ up_to is_head es (i + 1)
    heads_turn e =
        rw e
        (turn is_head es i (bit_and low (2 ^ 32 - 1 - high)) (omega (arith, and_le_l low (2 ^ 32 - 1 - high), hl))
        (λ j h.
        let b : bit_of (bit_and low (2 ^ 32 - 1 - high)) j ≡ min (bit_of low j) (1 - bit_of high j) = bit_of_and low (2 ^ 32 - 1 - high) j ∙ ap (min (bit_of low j)) (bit_of_not 32 high j hh h) in
        rw (lanes j h) (head_bit (bit_of low j) (bit_of high j) (bit_of_lt low j) (bit_of_lt high j)) ∙ sym b))

  -- the words have all entries
  module _ (i : ℕ) (all : length es ≤ 32 * i) where
    pub used_end : up_to is_used es i ≡ used es
    unfolding used
    used_end = count_all is_used refl es (32 * i) all

    pub heads_end : up_to is_head es i ≡ objects es
    unfolding objects
    heads_end = count_all is_head refl es (32 * i) all
