-- Bits of the FREE blocks of 32.
-- Assumes nothing.
use mathlib.Core.Path.{◌≡◌, refl, sym, ap, ◌∙◌}
use mathlib.Core.Bool.{Bool, true, false}
use mathlib.Core.List.{List, [], ◌∷◌}
use Prim.Native.Nat.{ℕ, zero, suc, ◌+◌, ◌-◌, ◌*◌, ◌%◌, ◌^◌, ◌≤◌, ◌<◌, min}
use native.Mathlib.Decide.{dec_lt}
use native.Mathlib.Omega.{arith}
use lib.Bits.{bit_and, bit_or, or_lt}
use lib.ListN.{length, get_or, get_or-eq_default}
use lib.Pow.{pow-lt, pow_mono, ones_lt}
use borrow.Author.Tests.{eqb-true, eq-eqb}
use Rattle.rules.specs.Tests.{pick}
use Rattle.rules.specs.Bits.{bit_of}
use Rattle.rules.specs.Entries.{FREE, HEAD}
use Rattle.rules.specs.Tables.{entry_at, is_free}
use Rattle.laws.specs.Meaning.{Run}
use Rattle.laws.proofs.Bits.{bit_of_lt, bit_of_zero, bit_of_above, bit_of_and, bit_of_or, bit_of_not, bit_of_ones}
use Rattle.laws.proofs.Planes.{neither_bit}
use Rattle.entries.specs.Groups.{InLanes}
use Rattle.freeruns.specs.Rows.{FreeIn, Row}
use Rattle.freeruns.proofs.Rows.{ALL, set_lt}

-- ---- entries, read with HEADs past the end of the table

-- inside a list the default does not matter
get_d_inside : (es : List ℕ) (k d : ℕ) → k < length es → get_or es k d ≡ entry_at es k
get_d_inside [] k d h = absurd (omega arith)
get_d_inside (e ∷ es) zero d h = refl
get_d_inside (e ∷ es) (suc k) d h = get_d_inside es k d (omega arith)

-- a FREE entry is one of the table's
pub inside : (es : List ℕ) (k : ℕ) → get_or es k HEAD ≡ FREE → k < length es
inside es k free = go (dec_lt k (length es))
  where
    go : Dec (k < length es) → k < length es
    go (yes l) = l
    go (no l) = absurd (omega (arith, free, get_or-eq_default es HEAD {n = k} (omega arith)))

pub free_run : (es : List ℕ) (n s : ℕ) → 0 < n → ((d : ℕ) → d < n → get_or es (s + d) HEAD ≡ FREE) → Run es n s
free_run es n s some free = record {
  room = omega (arith, inside es (s + (n - 1)) (free (n - 1) (omega arith)));
  free = λ d l. sym (get_d_inside es (s + d) HEAD (inside es (s + d) (free d l))) ∙ free d l;
}

pub run_free : (es : List ℕ) (n s k : ℕ) → Run es n s → s ≤ k → k < s + n → get_or es k HEAD ≡ FREE
run_free es n s k r h l =
    let e : s + (k - s) ≡ k = omega arith in
    get_d_inside es k HEAD (omega (arith, r.room)) ∙ rw e at (r.free (k - s) (omega arith))

-- ---- a bit for each that is FREE

set_free : (e : ℕ) → ◌≡◌ {A = ℕ} (pick (is_free e) 1 0) 1 → e ≡ FREE
set_free e = go (is_free e) refl
  where
    go : (b : Bool) → is_free e ≡ b → ◌≡◌ {A = ℕ} (pick b 1 0) 1 → e ≡ FREE
    go true t z = eqb-true e FREE t
    go false t z = absurd (omega arith)

free_set : (e : ℕ) → e ≡ FREE → ◌≡◌ {A = ℕ} (pick (is_free e) 1 0) 1
free_set e f = rw (eq-eqb e FREE f)

module _ (es : List ℕ) (i bits : ℕ) (holds : FreeIn es i bits) where
  -- a block whose bit is set is FREE, and one that is FREE has its bit set
  pub bit_free : (j : ℕ) → j < 32 → bit_of bits j ≡ 1 → get_or es (32 * i + j) HEAD ≡ FREE
  bit_free j l set = set_free (get_or es (32 * i + j) HEAD) (sym (holds j l) ∙ set)

  pub free_bit : (j : ℕ) → j < 32 → get_or es (32 * i + j) HEAD ≡ FREE → bit_of bits j ≡ 1
  free_bit j l free = holds j l ∙ free_set (get_or es (32 * i + j) HEAD) free

-- no FREE block is past the end
past_end : (es : List ℕ) (i j : ℕ) → length es ≤ 32 * i + j → ◌≡◌ {A = ℕ} 0 (pick (is_free (get_or es (32 * i + j) HEAD)) 1 0)
past_end es i j h = ap (λ (e : ℕ). pick (is_free e) 1 0) (sym (get_or-eq_default es HEAD {n = 32 * i + j} h))

pub none_free : (es : List ℕ) (i : ℕ) → length es ≤ 32 * i → FreeIn es i 0
none_free es i h j l = bit_of_zero j ∙ past_end es i j (omega arith)

-- ---- from the two numbers of 32 entries

-- the lowest `left` bits
mask_is : (left : ℕ) → left < 32 → 1 * 2 ^ left % 2 ^ 32 ≡ 2 ^ left
mask_is left h = let l : 2 ^ left < 2 ^ 32 = pow-lt {i = left} {j = 32} h in omega (arith, l)

module _ (es : List ℕ) (i low high : ℕ) (hl : low < 2 ^ 32) (hh : high < 2 ^ 32) (g : InLanes 32 es i low high) where
  abbrev free : ℕ
  free = ALL - bit_or low high

  -- past the end of the table each is FREE
  word_bit : (j : ℕ) → j < 32 → bit_of free j ≡ pick (is_free (entry_at es (32 * i + j))) 1 0
  word_bit j l =
      bit_of_not 32 (bit_or low high) j (or_lt 32 low high hl hh) l
      ∙ rw (bit_of_or low high j, g j l) (neither_bit (bit_of low j) (bit_of high j) (bit_of_lt low j) (bit_of_lt high j))

  pub word_free : (j : ℕ) → j < 32 → entry_at es (32 * i + j) ≡ FREE → bit_of free j ≡ 1
  word_free j l is = word_bit j l ∙ free_set (entry_at es (32 * i + j)) is

  here : (j : ℕ) → j < 32 → 32 * i + j < length es → bit_of free j ≡ pick (is_free (get_or es (32 * i + j) HEAD)) 1 0
  here j l m = rw (get_d_inside es (32 * i + j) HEAD m) (word_bit j l)

  -- all 32 are blocks of the table
  pub free_whole : 32 * i + 32 ≤ length es → FreeIn es i free
  free_whole h j l = here j l (omega arith)

  -- fewer are left
  pub free_left : (left : ℕ) → left < 32 → 32 * i + left ≡ length es → FreeIn es i (bit_and free (1 * 2 ^ left % 2 ^ 32 - 1))
  free_left left h e j l = bit_of_and free (1 * 2 ^ left % 2 ^ 32 - 1) j ∙ rw (mask_is left h) (go (dec_lt j left))
    where
      go : Dec (j < left) → min (bit_of free j) (bit_of (2 ^ left - 1) j) ≡ pick (is_free (get_or es (32 * i + j) HEAD)) 1 0
      go (yes m) =
          let same : min (bit_of free j) (bit_of (2 ^ left - 1) j) ≡ bit_of free j = omega (arith, bit_of_ones left j m, bit_of_lt free j) in
          same ∙ here j l (omega arith)
      go (no m) =
          let z : bit_of (2 ^ left - 1) j ≡ 0 = bit_of_above (2 ^ left - 1) j (omega (arith, ones_lt left, pow_mono {i = left} {j = j} (omega arith))) in
          let none : min (bit_of free j) (bit_of (2 ^ left - 1) j) ≡ 0 = omega (arith, z) in
          none ∙ past_end es i j (omega arith)

-- ---- rows of bits are runs

module _ (es : List ℕ) (i bits : ℕ) (small : bits < 2 ^ 32) (holds : FreeIn es i bits) where
  pub row_run : (n j : ℕ) → 0 < n → Row bits n j → Run es n (32 * i + j)
  row_run n j some row =
      free_run es n (32 * i + j) some
      (λ d l.
      let e : 32 * i + (j + d) ≡ 32 * i + j + d = omega arith in
      let set = row d l in
      rw e at (bit_free es i bits holds (j + d) (set_lt bits (j + d) small (λ z. omega (arith, z, set))) set))

  pub run_row : (c s : ℕ) → 32 * i ≤ s → s + c ≤ 32 * i + 32 → Run es c s → Row bits c (s - 32 * i)
  run_row c s h l r d m =
      let e : 32 * i + (s - 32 * i + d) ≡ s + d = omega arith in
      free_bit es i bits holds (s - 32 * i + d) (omega arith) (rw e (run_free es c s (s + d) r (omega arith) (omega arith)))
