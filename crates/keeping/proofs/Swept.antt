-- What the sweep makes of each block, said block by block: whether TAILs are being freed at a block is told by the last head before it.
-- A MARK with its TAILs is kept, and a HEAD with its TAILs is freed.
-- Assumes nothing.
use mathlib.Core.Path.{◌≡◌, refl, ◌∙◌}
use mathlib.Core.Logic.{◌≢◌}
use mathlib.Core.Bool.{Bool, true, false}
use mathlib.Core.List.{List}
use Prim.Native.Nat.{ℕ, zero, suc, ◌+◌, ◌≤◌, ◌<◌}
use native.Mathlib.Omega.{arith}
use native.Mathlib.Decide.{ℕ_discrete}
use borrow.Author.Tests.{ne_eqb}
use Rattle.rules.specs.Entries.{FREE, HEAD, TAIL, MARK}
use Rattle.rules.specs.Tables.{entry_at}
use Rattle.rules.specs.Marking.{swept_entry, freeing_after, freeing_at, sweep}
use Rattle.laws.proofs.Swept.{swept_at}

-- ---- one entry

-- what an entry can become: a MARK is HEAD, a TAIL may stay, all else is FREE
pub data Swept (f : Bool) (e : ℕ) : ℕ → Type 0 where
  kept : e ≡ MARK → Swept f e HEAD
  tail : e ≡ TAIL → f ≡ false → Swept f e TAIL
  freed : e ≢ MARK → (e ≡ TAIL → f ≡ true) → Swept f e FREE

pub swept_entry_is : (f : Bool) (e : ℕ) → Swept f e (swept_entry f e)
unfolding swept_entry
swept_entry_is f e = go f (ℕ_discrete e HEAD) (ℕ_discrete e MARK) (ℕ_discrete e TAIL)
  where
    go : (f : Bool) → Dec (e ≡ HEAD) → Dec (e ≡ MARK) → Dec (e ≡ TAIL) → Swept f e (swept_entry f e)
    go f (yes h) m t = rw h (freed (λ q. omega arith) (λ q. absurd (omega arith)))
    go f (no h) (yes m) t = rw m (kept refl)
    go true (no h) (no m) (yes t) = rw t (freed (λ q. omega arith) (λ q. refl))
    go false (no h) (no m) (yes t) = rw t (tail refl refl)
    go f (no h) (no m) (no t) = rw (ne_eqb e HEAD h, ne_eqb e MARK m, ne_eqb e TAIL t) (freed m (λ q. absurd (t q)))

pub swept : (es : List ℕ) (k : ℕ) → Swept (freeing_at false (entry_at es) k) (entry_at es k) (entry_at (sweep es) k)
swept es k = rw (swept_at es k) (swept_entry_is (freeing_at false (entry_at es) k) (entry_at es k))

pub swept_mark : (es : List ℕ) (k : ℕ) → entry_at es k ≡ MARK → entry_at (sweep es) k ≡ HEAD
unfolding swept_entry
swept_mark es k m = swept_at es k ∙ rw m

pub swept_head : (es : List ℕ) (k : ℕ) → entry_at (sweep es) k ≡ HEAD → entry_at es k ≡ MARK
swept_head es k h = go (swept es k) h
  where
    go : {e : ℕ} → Swept (freeing_at false (entry_at es) k) (entry_at es k) e → e ≡ HEAD → entry_at es k ≡ MARK
    go (kept q) h = q
    go (tail q f) h = absurd (omega arith)
    go (freed q f) h = absurd (omega arith)

pub swept_tail : (es : List ℕ) (k : ℕ) → entry_at (sweep es) k ≡ TAIL → (entry_at es k ≡ TAIL) × (freeing_at false (entry_at es) k ≡ false)
swept_tail es k t = go (swept es k) t
  where
    go : {e : ℕ} → Swept (freeing_at false (entry_at es) k) (entry_at es k) e → e ≡ TAIL → (entry_at es k ≡ TAIL) × (freeing_at false (entry_at es) k ≡ false)
    go (kept q) h = absurd (omega arith)
    go (tail q f) h = (q, f)
    go (freed q f) h = absurd (omega arith)

-- ---- the TAILs of an object

-- behind a head, as long as there are TAILs, they are freed or kept as the head says
freeing_behind : (es : List ℕ) (k j : ℕ) → ((i : ℕ) → 0 < i → i < j → entry_at es (k + i) ≡ TAIL) → 0 < j
    → freeing_at false (entry_at es) (k + j) ≡ freeing_after (freeing_at false (entry_at es) k) (entry_at es k)
unfolding freeing_at freeing_after
freeing_behind es k zero f h = absurd (omega arith)
freeing_behind es k (suc zero) f h = let e : k + 1 ≡ suc k = omega arith in rw e
freeing_behind es k (suc (suc j)) f h =
    let e : k + suc (suc j) ≡ suc (k + suc j) = omega arith in
    let r = freeing_behind es k (suc j) (λ i l u. f i l (omega arith)) (omega arith) in
    rw (e, f (suc j) (omega arith) (omega arith)) r

module _ (es : List ℕ) (k j : ℕ) (tails : (i : ℕ) → 0 < i → i ≤ j → entry_at es (k + i) ≡ TAIL) (some_tail : 0 < j) where
  pub tail_kept : entry_at es k ≡ MARK → entry_at (sweep es) (k + j) ≡ TAIL
  unfolding swept_entry freeing_after
  tail_kept m =
      let f = freeing_behind es k j (λ i l u. tails i l (omega arith)) some_tail in
      swept_at es (k + j) ∙ rw (f, m, tails j some_tail (omega arith))

  pub tail_freed : entry_at es k ≡ HEAD → entry_at (sweep es) (k + j) ≡ FREE
  unfolding swept_entry freeing_after
  tail_freed m =
      let f = freeing_behind es k j (λ i l u. tails i l (omega arith)) some_tail in
      swept_at es (k + j) ∙ rw (f, m, tails j some_tail (omega arith))
