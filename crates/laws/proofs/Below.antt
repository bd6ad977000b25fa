-- A test that is computed at each number below n, and read at one of them.
-- Assumes nothing.
use mathlib.Core.Path.{◌≡◌, refl, sym, subst}
use mathlib.Core.Logic.{⊎_elim}
use mathlib.Core.Bool.{Bool, true, false, not}
use mathlib.Core.List.{List}
use Prim.Native.Nat.{ℕ, zero, suc, ◌<◌}
use native.Mathlib.Decide.{dec_lt}
use native.Mathlib.Omega.{arith}
use native.Mathlib.Nat.{le_of_suc-le-suc, not-suc-le-zero, eq-or-lt_of_le}
use lib.Dec.{T, eqb, eqb→eq, ltb, ltb→lt}
use lib.ListN.{length, get_or, get_or-eq_default}
use Rattle.rules.specs.Tests.{both}
use Rattle.laws.specs.Meaning.{AllBytes}

both_left : (a b : Bool) → T (both a b) → T a
both_left true b t = tt
both_left false b t = t

both_right : (a b : Bool) → T (both a b) → T b
both_right true b t = t
both_right false b t = absurd t

-- the test f passes at each number below n
abbrev pub all_below : ℕ → (ℕ → Bool) → Bool
all_below zero f = true
all_below (suc n) f = both (f n) (all_below n f)

pub below : (n : ℕ) (f : ℕ → Bool) → T (all_below n f) → (k : ℕ) → k < n → T (f k)
below zero f t k h = absurd (not-suc-le-zero h)
below (suc n) f t k h =
    ⊎_elim (λ e. subst (λ (m : ℕ). T (f m)) (sym e) (both_left (f n) (all_below n f) t)) (λ l. below n f (both_right (f n) (all_below n f) t) k l)
    (eq-or-lt_of_le (le_of_suc-le-suc h))

-- ---- an equation that is computed

-- of numbers
pub equal_below : (n : ℕ) (f g : ℕ → ℕ) → T (all_below n (λ (k : ℕ). eqb (f k) (g k))) → (k : ℕ) → k < n → f k ≡ g k
equal_below n f g all k h = eqb→eq (f k) (g k) (below n (λ (k : ℕ). eqb (f k) (g k)) all k h)

-- of tests
abbrev pub alike : Bool → Bool → Bool
alike true b = b
alike false b = not b

alike_same : (a b : Bool) → T (alike a b) → a ≡ b
alike_same true true t = refl
alike_same true false t = absurd t
alike_same false true t = absurd t
alike_same false false t = refl

pub alike_below : (n : ℕ) (f g : ℕ → Bool) → T (all_below n (λ (k : ℕ). alike (f k) (g k))) → (k : ℕ) → k < n → f k ≡ g k
alike_below n f g all k h = alike_same (f k) (g k) (below n (λ (k : ℕ). alike (f k) (g k)) all k h)

-- ---- that all elements are bytes

abbrev pub all_bytes : List ℕ → Bool
all_bytes bs = all_below (length bs) (λ (i : ℕ). ltb (get_or bs i 0) 256)

pub bytes_below : (bs : List ℕ) → T (all_bytes bs) → AllBytes bs
bytes_below bs t i = go (dec_lt i (length bs))
  where
    go : Dec (i < length bs) → get_or bs i 0 < 256
    go (yes l) = ltb→lt (get_or bs i 0) 256 (below (length bs) (λ (k : ℕ). ltb (get_or bs k 0) 256) t i l)
    go (no l) = let z : get_or bs i 0 ≡ 0 = get_or-eq_default bs 0 (omega arith) in omega arith
