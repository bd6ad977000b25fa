-- Which object a block belongs to: in a proper table each used block has one owner. What is reachable is an object.
-- Assumes nothing.
use mathlib.Core.Path.{◌≡◌}
use mathlib.Core.Logic.{◌≢◌, ◌⊎◌, inl, inr, ⊎_elim}
use mathlib.Core.Bool.{true}
use mathlib.Core.List.{List}
use Prim.Native.Nat.{ℕ, zero, suc, ◌+◌, ◌*◌, ◌-◌, ◌<◌}
use native.Mathlib.Omega.{arith}
use native.Mathlib.Decide.{ℕ_discrete}
use Rattle.rules.specs.Entries.{FREE, HEAD, TAIL, MARK}
use Rattle.rules.specs.Tables.{entry_at, well_formed, block_count}
use Rattle.rules.specs.Words.{word_at}
use Rattle.rules.specs.Outcomes.{Heap}
use Rattle.rules.specs.Reach.{Reachable, root, edge}
use Rattle.laws.proofs.Pointers.{leads_head}
use Rattle.laws.proofs.Tables.{entry_inside, well_says, extent_of}
use Rattle.laws.proofs.Marking.{head_inside, mark_inside}
use Rattle.keeping.specs.Keeping.{Proper, Owns}

-- a well-formed table has no MARK, no TAIL in block 0, and none after a FREE
pub well_fresh : (es : List ℕ) → well_formed es ≡ true → (k : ℕ) → entry_at es k ≢ MARK
well_fresh es w k m = (well_says es w).no_mark k (mark_inside es k m) m

pub well_first : (es : List ℕ) → well_formed es ≡ true → entry_at es 0 ≢ TAIL
well_first es w t = (well_says es w).first (entry_inside es 0 (λ f. omega arith)) t

pub well_after : (es : List ℕ) → well_formed es ≡ true → (k : ℕ) → entry_at es (suc k) ≡ TAIL → entry_at es k ≢ FREE
well_after es w k t = (well_says es w).after k (entry_inside es (suc k) (λ f. omega arith)) t

-- a block of an object is its head, or a TAIL behind it
pub owns_cases : (es : List ℕ) (o k : ℕ) → Owns es o k → (k ≡ o) ⊎ ((o < k) × (entry_at es k ≡ TAIL))
owns_cases es o k w = go (ℕ_discrete k o)
  where
    go : Dec (k ≡ o) → (k ≡ o) ⊎ ((o < k) × (entry_at es k ≡ TAIL))
    go (yes q) = inl q
    go (no q) =
        let f = w.from in
        let u = w.to in
        let e : o + (k - o) ≡ k = omega arith in
        inr (omega arith, rw e at ((extent_of es o (head_inside es o w.head)).tail (k - o) (omega arith) (omega arith)))

pub owns_used : (es : List ℕ) (o k : ℕ) → Owns es o k → entry_at es k ≢ FREE
owns_used es o k w free =
    ⊎_elim (λ q. let e = w.head in let z : entry_at es o ≡ FREE = rw q at free in omega arith) (λ q. let e = q.1 in omega arith) (owns_cases es o k w)

pub owns_head : (es : List ℕ) (o : ℕ) → entry_at es o ≡ HEAD → Owns es o o
owns_head es o h = record { head = h; from = omega arith; to = omega (arith, (extent_of es o (head_inside es o h)).some_block) }

-- a TAIL directly after a block has the same owner
pub owns_next : (es : List ℕ) (o k : ℕ) → Owns es o k → entry_at es (suc k) ≡ TAIL → Owns es o (suc k)
owns_next es o k w t =
    let f = w.from in
    record { head = w.head; from = omega arith; to = go (ℕ_discrete (suc k) (o + block_count es o)) }
  where
    go : Dec (suc k ≡ o + block_count es o) → suc k < o + block_count es o
    go (yes q) = absurd ((extent_of es o (head_inside es o w.head)).next (rw (← q) t))
    go (no q) = let u = w.to in omega arith

pub record Owned (es : List ℕ) (k : ℕ) : Type 0 where
  pub object : ℕ
  pub owns : Owns es object k

pub owner : (es : List ℕ) → Proper es → (k : ℕ) → entry_at es k ≢ FREE → Owned es k
owner es p k n = go k n
  where
    tail : (k : ℕ) → entry_at es k ≢ FREE → entry_at es k ≢ HEAD → entry_at es k ≡ TAIL
    tail k n q = let m = well_fresh es p.well k in omega (arith, p.small k)

    -- the block is a head, or a TAIL and owned by what owns the block before it
    at : (k : ℕ) → (entry_at es k ≡ TAIL → Owned es k) → entry_at es k ≢ FREE → Dec (entry_at es k ≡ HEAD) → Owned es k
    at k f n (yes q) = record { object = k; owns = owns_head es k q }
    at k f n (no q) = f (tail k n q)

    go : (k : ℕ) → entry_at es k ≢ FREE → Owned es k
    go zero n = at 0 (λ t. absurd (well_first es p.well t)) n (ℕ_discrete (entry_at es 0) HEAD)
    go (suc k) n =
        at (suc k)
        (λ t. let w = go k (well_after es p.well k t) in record { object = w.object; owns = owns_next es w.object k w.owns t })
        n (ℕ_discrete (entry_at es (suc k)) HEAD)

-- what is reachable is a HEAD
pub reachable_head : (base : ℕ) (h : Heap) (roots : List ℕ) → well_formed h.entries ≡ true → (o : ℕ) → Reachable base h roots o → entry_at h.entries o ≡ HEAD
reachable_head base h roots well o r = ⊎_elim (λ q. q) (λ q. absurd (well_fresh h.entries well o q)) (led o r)
  where
    led : (o : ℕ) → Reachable base h roots o → (entry_at h.entries o ≡ HEAD) ⊎ (entry_at h.entries o ≡ MARK)
    led o (root {w = w} m q) = leads_head base h.entries w o q
    led o (edge {o = p} r x) = leads_head base h.entries (word_at h.pool (4 * p + x.word)) o x.leads
