-- Whether each entry may stand after the one before it: what is known of some entries, of more, and of all.
-- Assumes nothing.
use Rattle.std.proofs.Common.{◌≡◌, ℕ, zero, suc, ◌+◌, ◌-◌, ◌*◌, ◌^◌, ◌<◌, ◌≤◌, Bool, true, false, eqb, List, ◌∷◌, length, sym, refl, ap, ◌∙◌, arith, eq-eqb, ne_eqb, eqb-true}
use native.Mathlib.Decide.{dec_lt}
use lib.Bits.{bit_or, or_zero_l}
use Rattle.rules.specs.Tests.{pick}
use Rattle.rules.specs.Bits.{bit_of}
use Rattle.rules.specs.Entries.{FREE}
use Rattle.rules.specs.Tables.{entry_at, is_free, is_used, may_follow, well_formed}
use Rattle.laws.proofs.Refusals.{true_not_false}
use Rattle.laws.proofs.Lists.{one}
use Rattle.laws.proofs.Tables.{entry_outside, may_at, may_all}
use Rattle.laws.proofs.Bits.{or_none, bit_of_lt, bit_of_zero, bit_of_or, bits_same}
use Rattle.entries.specs.Groups.{lane, InPlanes}
use Rattle.whole.specs.Shapes.{previous, BadBits, Allowed, used_before, TestedFrom, TestsOn}
use Rattle.whole.proofs.Lanes.{used_bit}

-- a test as a number
as_one : (b : Bool) → pick b 1 0 ≡ one b
as_one true = refl
as_one false = refl

-- `before` is FREE where the block before is
free_before : (e : ℕ) → is_free (pick (is_used e) 1 0) ≡ is_free e
free_before e = go (is_free e) refl
  where
    go : (x : Bool) → is_free e ≡ x → is_free (pick (is_used e) 1 0) ≡ x
    go true q = rw q
    go false q = rw q

-- only whether the entry before is FREE counts
may_same : (p q e : ℕ) → is_free p ≡ is_free q → may_follow p e ≡ may_follow q e
unfolding may_follow
may_same p q e h = rw h

-- ---- the end

-- in a well-formed table every entry is allowed, and also what is read past the last
well_allowed : (es : List ℕ) → well_formed es ≡ true → (k : ℕ) → Allowed es k
unfolding well_formed may_follow
well_allowed es w k = go (dec_lt k (length es))
  where
    go : Dec (k < length es) → Allowed es k
    go (yes h) = may_at FREE es w k h
    go (no h) = rw (entry_outside es k (omega arith))

pub tested_all : (es : List ℕ) (n bad before : ℕ) → length es ≤ n → TestedFrom es 0 n bad before → eqb bad 0 ≡ well_formed es
unfolding well_formed
tested_all es n bad before all f = go (well_formed es) refl
  where
    go : (w : Bool) → well_formed es ≡ w → eqb bad 0 ≡ w
    go true w = eq-eqb bad 0 (f.full (well_allowed es w))
    go false w = ne_eqb bad 0 (λ z. true_not_false (may_all FREE es (λ k h. f.sound z k (omega arith) (omega arith))) w)

-- ---- more entries

pub tested_more : (es : List ℕ) (b n m bad mid bad' after : ℕ) → TestedFrom es b n bad mid → TestedFrom es (b + n) m bad' after → TestedFrom es b (n + m) (bit_or bad bad') after
tested_more es b n m bad mid bad' after f g =
    let sum : b + n + m ≡ b + (n + m) = omega arith in
    record {
      sound = λ z k l h. at (or_none bad bad' z) k l h (dec_lt k (b + n));
      full = λ all. rw (f.full all, g.full all) (or_zero_l 0);
      last = rw sum at g.last;
    }
  where
    at : (bad ≡ 0) × (bad' ≡ 0) → (k : ℕ) → b ≤ k → k < b + (n + m) → Dec (k < b + n) → Allowed es k
    at z k l h (yes q) = f.sound z.0 k l q
    at z k l h (no q) = g.sound z.1 k (omega arith) (omega arith)

-- n bytes of both planes behind the first `at`
pub tests_on : (es lows highs : List ℕ) (at n bad before bad' after : ℕ) → InPlanes es lows highs → TestedFrom es 0 (8 * at) bad before → TestsOn lows highs at n before bad' after
    → TestedFrom es 0 (8 * (at + n)) (bit_or bad bad') after
tests_on es lows highs at n bad before bad' after planes f on =
    let z : 0 + 8 * at ≡ 8 * at = omega arith in
    let e : 8 * at + 8 * n ≡ 8 * (at + n) = omega arith in
    rw e at (tested_more es 0 (8 * at) (8 * n) bad before bad' after f (rw z (on es planes (rw z at f.last))))

-- ---- n entries in two numbers

module _ (es : List ℕ) (b n low high before bad : ℕ) (few : n ≤ 32) (small : high < 2 ^ n) (lanes : (j : ℕ) → j < n → entry_at es (b + j) ≡ lane low high j)
    (is : before ≡ used_before es b) (bits : BadBits low high before bad) where
  free_at : (j : ℕ) → j < n → is_free (entry_at (FREE ∷ es) (b + j)) ≡ is_free (previous before (lane low high) j)
  free_at zero h =
      let z : b + 0 ≡ b = omega arith in
      rw (z, is) (sym (free_before (entry_at (FREE ∷ es) b)))
  free_at (suc j) h =
      let e : b + suc j ≡ suc (b + j) = omega arith in
      rw e (ap is_free (lanes j (omega arith)))

  allowed_at : (j : ℕ) → j < n → may_follow (entry_at (FREE ∷ es) (b + j)) (entry_at es (b + j)) ≡ eqb (bit_of bad j) 0
  allowed_at j h =
      may_same (entry_at (FREE ∷ es) (b + j)) (previous before (lane low high) j) (entry_at es (b + j)) (free_at j h)
      ∙ rw (lanes j h) (sym (bits.entry j (omega arith)))

  pub tested_bits : (after : ℕ) → after ≡ used_before es (b + n) → TestedFrom es b n bad after
  tested_bits after e = record {
    sound = λ z k l h.
        let q : b + (k - b) ≡ k = omega arith in
        let none : bit_of bad (k - b) ≡ 0 = rw z (bit_of_zero (k - b)) in
        rw q at (allowed_at (k - b) (omega arith) ∙ eq-eqb (bit_of bad (k - b)) 0 none);
    full = λ all.
        bits_same n bad 0 (omega (arith, bits.fits)) (omega (arith, small))
        (λ j h. eqb-true (bit_of bad j) 0 (sym (allowed_at j h) ∙ all (b + j)) ∙ sym (bit_of_zero j));
    last = e;
  }

-- whether the last of them is used
pub last_used : (es : List ℕ) (b n low high : ℕ) → 0 < n → ((j : ℕ) → j < n → entry_at es (b + j) ≡ lane low high j) → bit_of (bit_or low high) (n - 1) ≡ used_before es (b + n)
last_used es b n low high some lanes =
    let e : b + n ≡ suc (b + (n - 1)) = omega arith in
    let l = bit_of low (n - 1) in
    let h = bit_of high (n - 1) in
    rw e (bit_of_or low high (n - 1) ∙ sym (rw (lanes (n - 1) (omega arith)) (as_one (is_used (l + 2 * h)) ∙ used_bit l h (bit_of_lt low (n - 1)) (bit_of_lt high (n - 1)))))
