-- The numbers of a collection: the objects kept with those left unmarked are those before, the rescans are few, and no block is newly used.
-- Assumes nothing.
use mathlib.Core.Path.{◌≡◌, refl, sym, ◌∙◌}
use mathlib.Core.Logic.{◌≢◌, ◌⊎◌, inl, inr, ⊎_elim}
use mathlib.Core.Bool.{Bool, true, false}
use mathlib.Core.List.{List, [], ◌∷◌}
use Prim.Native.Nat.{ℕ, suc, ◌+◌, ◌≤◌}
use native.Mathlib.Omega.{arith}
use native.Mathlib.Decide.{ℕ_discrete}
use lib.ListN.{length}
use Rattle.rules.specs.Tests.{count}
use Rattle.rules.specs.Entries.{FREE, HEAD, MARK}
use Rattle.rules.specs.Tables.{entry_at, is_used, is_head, well_formed, used, objects}
use Rattle.rules.specs.Outcomes.{Heap}
use Rattle.rules.specs.Marking.{swept_entry, freeing_after, sweep_from, sweep}
use Rattle.laws.proofs.Lists.{one, count_cons}
use Rattle.laws.proofs.Marks.{Marks}
use Rattle.keeping.specs.Keeping.{context_of, marking, collected, FewRescans}
use Rattle.keeping.proofs.Sound.{sound}
use Rattle.keeping.proofs.Rescans.{rescans_few, rescans_none}
use Rattle.keeping.proofs.Swept.{Swept, kept, tail, freed, swept_entry_is}
use Rattle.keeping.proofs.Owners.{well_fresh}
use Rattle.keeping.proofs.Kept.{collected_length, collected_used}

-- a test that passes wherever another does counts as much or more
count_mono : (f : ℕ → Bool) (xs ys : List ℕ) → length xs ≡ length ys → ((k : ℕ) → f (entry_at xs k) ≡ true → f (entry_at ys k) ≡ true) → count f xs ≤ count f ys
unfolding count
count_mono f [] [] l h = omega arith
count_mono f [] (y ∷ ys) l h = absurd (omega arith)
count_mono f (x ∷ xs) [] l h = absurd (omega arith)
count_mono f (x ∷ xs) (y ∷ ys) l h =
    omega (arith, count_cons f x xs, count_cons f y ys, go (f x) (f y) (h 0), count_mono f xs ys (omega arith) (λ k. h (suc k)))
  where
    go : (a b : Bool) → (a ≡ true → b ≡ true) → one a ≤ one b
    go false b h = omega arith
    go true b h = rw (h refl) (omega arith)

-- a HEAD before is a HEAD left by the marking, or a HEAD after the sweep
swept_count : (f : Bool) (e₀ e : ℕ) → (e ≡ e₀) ⊎ ((e₀ ≡ HEAD) × (e ≡ MARK)) → e₀ ≢ MARK → one (is_head e) + one (is_head (swept_entry f e)) ≡ one (is_head e₀)
swept_count f e₀ e (inl q) n = go (swept_entry_is f e)
  where
    go : {x : ℕ} → Swept f e x → one (is_head e) + one (is_head x) ≡ one (is_head e₀)
    go (kept m) = absurd (n (sym q ∙ m))
    go (tail t g) = rw q (omega arith)
    go (freed m g) = rw q (omega arith)
swept_count f e₀ e (inr q) n = go (swept_entry_is f e)
  where
    go : {x : ℕ} → Swept f e x → one (is_head e) + one (is_head x) ≡ one (is_head e₀)
    go (kept m) = rw (q.0, q.1)
    go (tail t g) = absurd (omega (arith, q.1))
    go (freed m g) = absurd (m q.1)

swept_counts : (f : Bool) (es₀ es : List ℕ) → length es ≡ length es₀ → ((k : ℕ) → (entry_at es k ≡ entry_at es₀ k) ⊎ ((entry_at es₀ k ≡ HEAD) × (entry_at es k ≡ MARK)))
    → ((k : ℕ) → entry_at es₀ k ≢ MARK) → count is_head es + count is_head (sweep_from f es) ≡ count is_head es₀
unfolding count sweep_from
swept_counts f [] [] l at fresh = refl
swept_counts f [] (e ∷ es) l at fresh = absurd (omega arith)
swept_counts f (e₀ ∷ es₀) [] l at fresh = absurd (omega arith)
swept_counts f (e₀ ∷ es₀) (e ∷ es) l at fresh =
    omega (
      arith,
      count_cons is_head e es,
      count_cons is_head (swept_entry f e) (sweep_from (freeing_after f e) es),
      count_cons is_head e₀ es₀,
      swept_count f e₀ e (at 0) (fresh 0),
      swept_counts (freeing_after f e) es₀ es (omega arith) (λ k. at (suc k)) (λ k. fresh (suc k)),
    )

module _ (base : ℕ) (h : Heap) (roots : List ℕ) (room : ℕ) (well : well_formed h.entries ≡ true) where
  -- the kept objects, with those that were not marked, are the objects before
  pub collected_objects : objects (marking base h roots room).last.entries + objects (collected base h roots room) ≡ objects h.entries
  unfolding objects collected sweep
  collected_objects =
      let m : Marks h.entries (marking base h roots room).last.entries = (sound base h roots room (well_fresh h.entries well)).marks in
      swept_counts false h.entries (marking base h roots room).last.entries m.long m.at (well_fresh h.entries well)

  pub few_rescans : FewRescans (objects (collected base h roots room)) room (marking base h roots room).rescans
  unfolding marking
  few_rescans =
      let q = collected_objects in
      record {
        few = ⊎_elim (λ x. omega arith) (λ x. omega arith) (rescans_few (context_of base h room) roots h.entries);
        none = λ l. rescans_none (context_of base h room) roots h.entries (omega arith);
      }

  -- no more blocks are used than before
  pub used_less : used (collected base h roots room) ≤ used h.entries
  unfolding used
  used_less =
      count_mono is_used (collected base h roots room) h.entries (collected_length base h roots room well)
      (λ k t. go k (ℕ_discrete (entry_at (collected base h roots room) k) FREE) t)
    where
      go : (k : ℕ) → Dec (entry_at (collected base h roots room) k ≡ FREE) → is_used (entry_at (collected base h roots room) k) ≡ true
          → is_used (entry_at h.entries k) ≡ true
      go k (yes q) t = let z : false ≡ true = rw q at t in let y : ◌≡◌ {A = ℕ} 0 1 = cc in absurd (omega arith)
      go k (no q) t = rw (← collected_used base h roots room well k q) t
