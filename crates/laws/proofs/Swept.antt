-- What the sweep makes of each entry, said entry by entry: whether TAILs are being freed there is told by the entries before it.
-- Assumes nothing.
use mathlib.Core.Path.{◌≡◌, refl, ap, sym, ◌∙◌}
use mathlib.Core.Bool.{Bool, false}
use mathlib.Core.List.{List, [], ◌∷◌}
use Prim.Native.Nat.{ℕ, zero, suc, ◌+◌, ◌<◌}
use native.Mathlib.Omega.{arith}
use Rattle.rules.specs.Entries.{FREE}
use Rattle.rules.specs.Tables.{entry_at}
use Rattle.rules.specs.Marking.{swept_entry, freeing_after, freeing_at, sweep_from, sweep}

-- ---- whether TAILs are being freed

-- from entry a on
pub freeing_on : (f : Bool) (e : ℕ → ℕ) (a k : ℕ) → freeing_at f e (a + k) ≡ freeing_at (freeing_at f e a) (λ (i : ℕ). e (a + i)) k
unfolding freeing_at
freeing_on f e a zero = let z : a + 0 ≡ a = omega arith in rw z
freeing_on f e a (suc k) =
    let s : a + suc k ≡ suc (a + k) = omega arith in
    rw s (ap (λ (t : Bool). freeing_after t (e (a + k))) (freeing_on f e a k))

-- only the entries before tell it
pub freeing_same : (f : Bool) (e d : ℕ → ℕ) (k : ℕ) → ((i : ℕ) → i < k → e i ≡ d i) → freeing_at f e k ≡ freeing_at f d k
unfolding freeing_at
freeing_same f e d zero same = refl
freeing_same f e d (suc k) same = rw (freeing_same f e d k (λ i h. same i (omega arith)), same k (omega arith))

freeing_front : (f : Bool) (e : ℕ) (es : List ℕ) (k : ℕ) → freeing_at f (entry_at (e ∷ es)) (suc k) ≡ freeing_at (freeing_after f e) (entry_at es) k
unfolding freeing_at
freeing_front f e es zero = refl
freeing_front f e es (suc k) = ap (λ (t : Bool). freeing_after t (entry_at es k)) (freeing_front f e es k)

-- ---- what an entry becomes

swept_free : (f : Bool) → swept_entry f FREE ≡ FREE
unfolding swept_entry
swept_free f = refl

swept_from : (f : Bool) (es : List ℕ) (k : ℕ) → entry_at (sweep_from f es) k ≡ swept_entry (freeing_at f (entry_at es) k) (entry_at es k)
unfolding sweep_from freeing_at
swept_from f [] zero = sym (swept_free f)
swept_from f [] (suc k) = sym (swept_free (freeing_at f (entry_at []) (suc k)))
swept_from f (e ∷ es) zero = refl
swept_from f (e ∷ es) (suc k) =
    swept_from (freeing_after f e) es k ∙ ap (λ (t : Bool). swept_entry t (entry_at es k)) (sym (freeing_front f e es k))

pub swept_at : (es : List ℕ) (k : ℕ) → entry_at (sweep es) k ≡ swept_entry (freeing_at false (entry_at es) k) (entry_at es k)
unfolding sweep
swept_at es k = swept_from false es k
