-- Where count blocks may start, by the FREE bits of 32 blocks and of the 32 after them, and the search by 32.
-- Assumes nothing.
use mathlib.Core.Path.{◌≡◌, refl, sym, ◌∙◌}
use mathlib.Core.Logic.{◌≢◌, inl, inr, ⊎_elim}
use mathlib.Core.Bool.{Bool, true, false}
use mathlib.Core.List.{List}
use Prim.Native.Nat.{ℕ, ◌+◌, ◌-◌, ◌*◌, ◌/◌, ◌%◌, ◌^◌, ◌≤◌, ◌<◌, min, max}
use native.Mathlib.Decide.{dec_lt}
use native.Mathlib.Omega.{arith}
use lib.Bits.{bit_and, bit_or, and_le_l}
use lib.Dec.{eqb, leb, ltb}
use lib.ListN.{length, get_or}
use borrow.Author.Tests.{eqb-true, eq-eqb, leb-true, le-leb, lt-leb, ltb-true, ltb-false}
use Rattle.rules.specs.Tests.{pick}
use Rattle.rules.specs.Bits.{bit_of}
use Rattle.rules.specs.Entries.{FREE, HEAD}
use Rattle.rules.specs.Tables.{entry_at}
use Rattle.laws.specs.Meaning.{Aligned, Run, Fits}
use Rattle.laws.proofs.Below.{equal_below}
use Rattle.laws.proofs.Bits.{bit_of_lt, bit_of_zero, bit_of_and, bit_of_shr, bit_of_shl, bit_of_below, bit_of_ones, bit_of_mod}
use Rattle.freeruns.specs.Rows.{FreeIn, ZerosOf, RowStarts, WholeRow}
use Rattle.search.specs.Starts.{NoStart, AllSet, NoneSet, Starts, Next, FreeFor}
use Rattle.freeruns.proofs.Rows.{ALL, low_bit, high_bit, turned_bit, row_inside}
use Rattle.freeruns.proofs.Frees.{inside, free_run, run_free, bit_free, free_bit}

-- ---- aligned blocks with four FREE ones

-- a bit for each of 32 blocks at which four blocks are aligned
abbrev ALIGNED : ℕ
ALIGNED = 0x1111_1111

aligned_bit : (j : ℕ) → j < 32 → bit_of ALIGNED j ≡ pick (eqb (j % 4) 0) 1 0
unfolding bit_of
aligned_bit = equal_below 32 (bit_of ALIGNED) (λ (j : ℕ). pick (eqb (j % 4) 0) 1 0) tt

-- its bit is set, and no other
set_aligned : (j : ℕ) → j < 32 → bit_of ALIGNED j ≡ 1 → j % 4 ≡ 0
set_aligned j h set = go (eqb (j % 4) 0) refl (sym (aligned_bit j h) ∙ set)
  where
    go : (v : Bool) → eqb (j % 4) 0 ≡ v → ◌≡◌ {A = ℕ} (pick v 1 0) 1 → j % 4 ≡ 0
    go true e _ = eqb-true (j % 4) 0 e
    go false e z = absurd (omega arith)

aligned_set : (j : ℕ) → j < 32 → j % 4 ≡ 0 → bit_of ALIGNED j ≡ 1
aligned_set j h e = aligned_bit j h ∙ rw (eq-eqb (j % 4) 0 e)

abbrev fours_of : ℕ → ℕ
fours_of bits = bit_and (bit_and (bit_and (bit_and bits (bits / 2)) (bits / 4)) (bits / 8)) ALIGNED

fours_bit : (bits j : ℕ) → bit_of (fours_of bits) j ≡ min (min (min (min (bit_of bits j) (bit_of bits (1 + j))) (bit_of bits (2 + j))) (bit_of bits (3 + j))) (bit_of ALIGNED j)
fours_bit bits j =
    bit_of_and (bit_and (bit_and (bit_and bits (bits / 2)) (bits / 4)) (bits / 8)) ALIGNED j
    ∙ rw (bit_of_and (bit_and (bit_and bits (bits / 2)) (bits / 4)) (bits / 8) j, bit_of_and (bit_and bits (bits / 2)) (bits / 4) j, bit_of_and bits (bits / 2) j, bit_of_shr bits 1 j, bit_of_shr bits 2 j, bit_of_shr bits 3 j)

-- ---- the bits at which count blocks may start

module _ (free next b : ℕ) (small : free < 2 ^ 32) where
  -- the first bit of a row
  row_first : (r : ℕ) → 0 < b → RowStarts free next b r → (j : ℕ) → j < 32 → bit_of r j ≡ 1 → bit_of free j ≡ 1
  row_first r some rows j l set =
      let e : j + 0 ≡ j = omega arith in
      sym (low_bit free next j small l) ∙ rw e at (rows.only j l (λ z. omega (arith, z, set)) 0 some)

  -- a row starts where they are set
  row_there : (r : ℕ) → b ≤ 32 → RowStarts free next b r → (j : ℕ) → j < 32 → AllSet free next b j → bit_of r j ≡ 1
  row_there r few rows j l all = rows.set j l (λ d h. all d h (omega arith))

  -- fewer than four
  pub starts_few : (r : ℕ) → 0 < b → b < 4 → RowStarts free next b r → Starts free next b r
  starts_few r some few rows = record {
    all = λ j l _ all. row_there r (omega arith) rows j l all;
    is_free = row_first r some rows;
    aligned = λ j l set. inl few;
  }

  -- four or more
  module _ (many : 4 ≤ b) where
    four_there : (j : ℕ) → j < 32 → Aligned b j → AllSet free next b j → bit_of (fours_of free) j ≡ 1
    four_there j l al all =
        let e : 0 + j ≡ j = omega arith in
        let first : bit_of free j ≡ 1 = rw e at (at 0 (omega arith)) in
        omega (arith, fours_bit free j, first, at 1 (omega arith), at 2 (omega arith), at 3 (omega arith), aligned_set j l front)
      where
        front : j % 4 ≡ 0
        front = ⊎_elim (λ few. absurd (omega arith)) (λ e. e) al

        at : (d : ℕ) → d < 4 → bit_of free (d + j) ≡ 1
        at d h =
            let e : j + d ≡ d + j = omega arith in
            sym (low_bit free next (d + j) small (omega (arith, front))) ∙ rw e at (all d (omega arith) (omega arith))

    four_free : (j : ℕ) → bit_of (fours_of free) j ≡ 1 → bit_of free j ≡ 1
    four_free j set = omega (arith, set, fours_bit free j, bit_of_lt free j)

    four_aligned : (j : ℕ) → j < 32 → bit_of (fours_of free) j ≡ 1 → Aligned b j
    four_aligned j l set = inr (set_aligned j l (omega (arith, set, fours_bit free j, bit_of_lt ALIGNED j)))

    -- too many to look at them all
    pub starts_fours : Starts free next b (fours_of free)
    starts_fours = record { all = four_there; is_free = λ j _ set. four_free j set; aligned = four_aligned }

    -- no four
    pub starts_none : fours_of free ≡ 0 → Starts free next b 0
    starts_none z = rw z at starts_fours

    -- as many as are looked at
    pub starts_many : (r : ℕ) → b ≤ 32 → RowStarts free next b r → Starts free next b (bit_and (fours_of free) r)
    starts_many r few rows = record {
      all = λ j l al all. omega (arith, bit_of_and (fours_of free) r j, four_there j l al all, row_there r few rows j l all);
      is_free = λ j l set. four_free j (four_set j set);
      aligned = λ j l set. four_aligned j l (four_set j set);
    }
      where
        four_set : (j : ℕ) → bit_of (bit_and (fours_of free) r) j ≡ 1 → bit_of (fours_of free) j ≡ 1
        four_set j set = omega (arith, set, bit_of_and (fours_of free) r j, bit_of_lt (fours_of free) j)

-- ---- a word that is passed

-- 32 times i blocks further on, blocks are aligned as they are here
aligned_on : (b i j : ℕ) → Aligned b j → Aligned b (32 * i + j)
aligned_on b i j = ⊎_elim (λ few. inl few) (λ e. inr (omega (arith, e)))

aligned_back : (b i j : ℕ) → Aligned b (32 * i + j) → Aligned b j
aligned_back b i j = ⊎_elim (λ few. inl few) (λ e. inr (omega (arith, e)))

-- a start that is none
pub none_set : (free next b : ℕ) → Starts free next b 0 → NoneSet free next b
none_set free next b starts j l al all = omega (arith, starts.all j l al all, bit_of_zero j)

-- one block, and two or more
pub one_free : (free next b : ℕ) → free < 2 ^ 32 → 0 < b → (j : ℕ) → j < 32 → AllSet free next b j → bit_of free j ≡ 1
one_free free next b small some j l all =
    let e : j + 0 ≡ j = omega arith in
    sym (low_bit free next j small l) ∙ rw e at (all 0 some (omega arith))

pub pair_free : (free next b : ℕ) → (small : free < 2 ^ 32) → 2 ≤ b → (j : ℕ) → j < 32 → AllSet free next b j
    → bit_of (bit_and free (bit_or (free / 2 ^ 1) (next * 2 ^ 31 % 2 ^ 32))) j ≡ 1
pair_free free next b small two j l all =
    let e : j + 0 ≡ j = omega arith in
    let f : j + 1 ≡ 1 + j = omega arith in
    let one : bit_of (free + 2 ^ 32 * next) j ≡ 1 = rw e at (all 0 (omega arith) (omega arith)) in
    let other : bit_of (free + 2 ^ 32 * next) (1 + j) ≡ 1 = rw f at (all 1 (omega arith) (omega arith)) in
    turned_bit free next 1 small (omega arith) (omega arith) j l ∙ omega (arith, one, other)

-- what is known where word `at` is read next: where blocks may start before the word before it, and that word's bits, from word i on
pub record Passed (es : List ℕ) (b i at free : ℕ) : Type 0 where
  pub from : i ≤ at
  pub small : free < 2 ^ 32
  pub bits : (k : ℕ) → 32 * i ≤ k → k < 32 * at → 32 * at ≤ k + 32 → entry_at es k ≡ FREE → bit_of free (k + 32 - 32 * at) ≡ 1
  pub none : NoStart es b (32 * i) (32 * at - 32)

pub passed_first : (es : List ℕ) (b i : ℕ) → Passed es b i i 0
passed_first es b i = record {
  from = omega arith;
  small = omega arith;
  bits = λ k h l m f. absurd (omega arith);
  none = λ q l h f. omega arith;
}

-- a word more
pub passed_on : (es : List ℕ) (b i at free next : ℕ) → Passed es b i at free → next < 2 ^ 32 → ((j : ℕ) → j < 32 → entry_at es (32 * at + j) ≡ FREE → bit_of next j ≡ 1) → NoneSet free next b
    → Passed es b i (at + 1) next
passed_on es b i at free next p few read none = record {
  from = omega (arith, p.from);
  small = few;
  bits = λ k h l m f.
      let e : 32 * at + (k - 32 * at) ≡ k = omega arith in
      let g : k - 32 * at ≡ k + 32 - 32 * (at + 1) = omega arith in
      rw g at (read (k - 32 * at) (omega arith) (rw e f));
  none = λ q l h f. go q l h f (dec_lt q (32 * at - 32));
}
  where
    at_d : (q : ℕ) → 32 * i ≤ q → q < 32 * at → 32 * at ≤ q + 32 → Fits es b q → (d : ℕ) → d < b → q + 32 - 32 * at + d < 64 → Dec (q + 32 - 32 * at + d < 32)
        → bit_of (free + 2 ^ 32 * next) (q + 32 - 32 * at + d) ≡ 1
    at_d q l h m f d s room (yes low) =
        let e : q + d + 32 - 32 * at ≡ q + 32 - 32 * at + d = omega arith in
        low_bit free next (q + 32 - 32 * at + d) p.small low ∙ rw e at (p.bits (q + d) (omega arith) (omega arith) (omega arith) (f.run.free d s))
    at_d q l h m f d s room (no low) =
        let e : 32 * at + (q + 32 - 32 * at + d - 32) ≡ q + d = omega arith in
        high_bit free next (q + 32 - 32 * at + d) p.small (omega arith) ∙ read (q + 32 - 32 * at + d - 32) (omega arith) (rw e (f.run.free d s))

    go : (q : ℕ) → 32 * i ≤ q → q < 32 * (at + 1) - 32 → Fits es b q → Dec (q < 32 * at - 32) → ⊥
    go q l h f (yes m) = p.none q l m f
    go q l h f (no m) =
        let e : 32 * (at - 1) + (q + 32 - 32 * at) ≡ q = omega arith in
        none (q + 32 - 32 * at) (omega arith) (aligned_back b (at - 1) (q + 32 - 32 * at) (rw e f.aligned))
        (λ d s room. at_d q l (omega arith) (omega arith) f d s room (dec_lt (q + 32 - 32 * at + d) 32))

-- the search may go on at the word before
pub passed_to : (es : List ℕ) (b i at free r : ℕ) → Passed es b i at free → r ≤ max i (at - 1) → NoStart es b (32 * i) (32 * r)
passed_to es b i at free r p h q l m f = p.none q l (omega arith) f

-- ---- the search

-- no start in two parts that join is no start in both
pub no_start_join : (es : List ℕ) (b s m e : ℕ) → NoStart es b s m → NoStart es b m e → NoStart es b s e
no_start_join es b s m e x y q l h r = go (dec_lt q m)
  where
    go : Dec (q < m) → ⊥
    go (yes k) = x q l k r
    go (no k) = y q (omega arith) h r

-- what comes next behind blocks at which none start comes next before them
pub next_join : (es : List ℕ) (b s m r : ℕ) → s ≤ m → NoStart es b s m → Next es b m r → Next es b s r
next_join es b s m r h none next = record {
  inside = next.inside;
  from = omega (arith, next.from);
  none_before = no_start_join es b s m r none next.none_before;
  aligned = next.aligned;
}

-- blocks that would go over a used block or the table's end, i blocks after the start in hand, start nowhere up to there
pub none_over : (es : List ℕ) (b s i : ℕ) → NoStart es b 0 s → i < b → get_or es (s + i) HEAD ≢ FREE → NoStart es b 0 (s + (i + 1))
none_over es b s i none h ends q l m f = go (dec_lt q s)
  where
    go : Dec (q < s) → ⊥
    go (yes k) = none q l k f
    go (no k) = ends (run_free es b q (s + i) f.run (omega arith) (omega arith))

-- the bits of the FREE blocks of 32 from block s on
pub record FreeFrom (es : List ℕ) (s i bits : ℕ) : Type 0 where
  pub set : (j : ℕ) → j < 32 → s ≤ 32 * i + j → get_or es (32 * i + j) HEAD ≡ FREE → bit_of bits j ≡ 1
  pub only : (j : ℕ) → j < 32 → bit_of bits j ≡ 1 → (s ≤ 32 * i + j) × (get_or es (32 * i + j) HEAD ≡ FREE)

-- those that a mask leaves which has the bits from block s on
free_masked : (es : List ℕ) (s i bits mask : ℕ) → FreeIn es i bits → ((j : ℕ) → j < 32 → bit_of mask j ≡ pick (leb s (32 * i + j)) 1 0) → FreeFrom es s i (bit_and bits mask)
free_masked es s i bits mask holds onward = record {
  set = λ j l h free. omega (arith, bit_of_and bits mask j, free_bit es i bits holds j l free, passes j l h);
  only = λ j l set. (reach j (leb s (32 * i + j)) refl (sym (onward j l) ∙ omega (arith, set, bit_of_and bits mask j, bit_of_lt mask j)), bit_free es i bits holds j l (omega (arith, set, bit_of_and bits mask j, bit_of_lt bits j)));
}
  where
    passes : (j : ℕ) → j < 32 → s ≤ 32 * i + j → bit_of mask j ≡ 1
    passes j l h = rw (le-leb s (32 * i + j) h) at (onward j l)

    reach : (j : ℕ) (v : Bool) → leb s (32 * i + j) ≡ v → ◌≡◌ {A = ℕ} (pick v 1 0) 1 → s ≤ 32 * i + j
    reach j true e _ = leb-true s (32 * i + j) e
    reach j false e z = absurd (omega arith)

-- such a mask
pub mask_from : (s i j : ℕ) → j < 32 → bit_of (ALL * 2 ^ (s - 32 * i) % 2 ^ 32) j ≡ pick (leb s (32 * i + j)) 1 0
mask_from s i j l = go (dec_lt j (s - 32 * i))
  where
    cut : bit_of (ALL * 2 ^ (s - 32 * i) % 2 ^ 32) j ≡ bit_of (ALL * 2 ^ (s - 32 * i)) j
    cut = bit_of_mod (ALL * 2 ^ (s - 32 * i)) 32 j l

    go : Dec (j < s - 32 * i) → bit_of (ALL * 2 ^ (s - 32 * i) % 2 ^ 32) j ≡ pick (leb s (32 * i + j)) 1 0
    go (yes m) = rw (lt-leb s (32 * i + j) (omega arith)) (cut ∙ bit_of_below ALL (s - 32 * i) j m)
    go (no m) =
        let e : s - 32 * i + (j - (s - 32 * i)) ≡ j = omega arith in
        rw (le-leb s (32 * i + j) (omega arith)) (cut ∙ rw e at (bit_of_shl ALL (s - 32 * i) (j - (s - 32 * i))) ∙ bit_of_ones 32 (j - (s - 32 * i)) (omega arith))

-- a turn of it
module _ (es : List ℕ) (b s i bits mask next r : ℕ) (few : bits < 2 ^ 32) (none : NoStart es b s (32 * i)) (holds : FreeIn es i bits)
    (onward : (j : ℕ) → j < 32 → bit_of mask j ≡ pick (leb s (32 * i + j)) 1 0) (holds_next : FreeIn es (i + 1) next) (starts : Starts (bit_and bits mask) next b r) where
  abbrev free : ℕ
  free = bit_and bits mask

  small : free < 2 ^ 32
  small = omega (arith, and_le_l bits mask)

  there : FreeFrom es s i free
  there = free_masked es s i bits mask holds onward

  -- where blocks may start there is a bit
  start_set : (j : ℕ) → j < 32 → s ≤ 32 * i + j → Fits es b (32 * i + j) → bit_of r j ≡ 1
  start_set j l h f = starts.all j l (aligned_back b i j f.aligned) (λ d m room. go d m room (dec_lt (j + d) 32))
    where
      free_at : (d : ℕ) → d < b → get_or es (32 * i + (j + d)) HEAD ≡ FREE
      free_at d m = run_free es b (32 * i + j) (32 * i + (j + d)) f.run (omega arith) (omega arith)

      go : (d : ℕ) → d < b → j + d < 64 → Dec (j + d < 32) → bit_of (free + 2 ^ 32 * next) (j + d) ≡ 1
      go d m room (yes k) = low_bit free next (j + d) (small) k ∙ there.set (j + d) k (omega arith) (free_at d m)
      go d m room (no k) =
          let e : 32 * (i + 1) + (j + d - 32) ≡ 32 * i + (j + d) = omega arith in
          high_bit free next (j + d) (small) (omega arith) ∙ free_bit es (i + 1) next holds_next (j + d - 32) (omega arith) (rw e (free_at d m))

  -- before bit n, if no bit is set before it, they start nowhere
  none_to : (n : ℕ) → n ≤ 32 → ((j : ℕ) → j < n → bit_of r j ≡ 0) → NoStart es b s (32 * i + n)
  none_to n h clear q l m f = go (dec_lt q (32 * i))
    where
      go : Dec (q < 32 * i) → ⊥
      go (yes k) = none q l k f
      go (no k) =
          let e : 32 * i + (q - 32 * i) ≡ q = omega arith in
          omega (arith, clear (q - 32 * i) (omega arith), start_set (q - 32 * i) (omega arith) (omega arith) (rw e f))

  -- the first bit is the next start
  pub found_next : (n : ℕ) → n < 32 → ZerosOf 32 r n → Next es b s (32 * i + n)
  found_next n l z =
      let at = there.only n l (starts.is_free n l (z.next l)) in
      record {
        inside = omega (arith, inside es (32 * i + n) at.1);
        from = at.0;
        none_before = none_to n (omega arith) z.before;
        aligned = λ _. aligned_on b i n (starts.aligned n l (z.next l));
      }

  -- where there is none they start nowhere up to the next word
  pub none_here : r ≡ 0 → NoStart es b s (32 * (i + 1))
  none_here z = let e : 32 * i + 32 ≡ 32 * (i + 1) = omega arith in rw e at (none_to 32 (omega arith) (λ j _. rw z (bit_of_zero j)))

-- the end of the table
pub end_next : (es : List ℕ) (b s i : ℕ) → s ≤ length es → length es ≤ 32 * i → NoStart es b s (32 * i) → Next es b s (length es)
end_next es b s i room past none = record {
  inside = omega arith;
  from = room;
  none_before = λ q l h f. none q l (omega arith) f;
  aligned = λ l. absurd (omega arith);
}

-- ---- how many are FREE from a block on

-- as far as the row of their bits goes: a used block comes next if it stops before the last bit
module _ (es : List ℕ) (k bits n : ℕ) (small : bits < 2 ^ 32) (holds : FreeIn es (k / 32) bits) (room : k < length es) (row : WholeRow bits (k % 32) n) where
  pub free_ahead : FreeFor es k n (ltb (k % 32 + n) 32)
  free_ahead = record {
    run = run (dec_lt 0 n);
    next = λ e free. row.next (free_bit es (k / 32) bits holds (k % 32 + n) (ltb-true _ _ e) (rw at_n free));
    more = λ e. omega (arith, ltb-false (k % 32 + n) 32 e);
  }
    where
      at_n : 32 * (k / 32) + (k % 32 + n) ≡ k + n
      at_n = omega arith

      free : (d : ℕ) → d < n → get_or es (k + d) HEAD ≡ FREE
      free d l =
          let e : 32 * (k / 32) + (k % 32 + d) ≡ k + d = omega arith in
          rw e at (bit_free es (k / 32) bits holds (k % 32 + d) (omega (arith, row_inside bits (k % 32) n small (omega arith) row)) (row.row d l))

      run : Dec (0 < n) → Run es n k
      run (yes m) = free_run es n k m free
      run (no m) = record { room = omega arith; free = λ j l. absurd (omega arith) }
