-- What a collection keeps depends on which objects are reachable alone: not on the stack's room, nor on the order of the roots.
-- Assumes nothing.
use mathlib.Core.Path.{◌≡◌, refl, ap, sym, ◌∙◌}
use mathlib.Core.Logic.{◌≢◌, ◌⊎◌, inl, inr}
use mathlib.Core.Bool.{true}
use mathlib.Core.List.{List}
use Prim.Native.Nat.{ℕ}
use native.Mathlib.Decide.{ℕ_discrete}
use lib.ListN.{length}
use lib.Seq.{ext_get_or}
use Rattle.rules.specs.Entries.{FREE, HEAD, MARK}
use Rattle.rules.specs.Tables.{entry_at, well_formed}
use Rattle.rules.specs.Outcomes.{Heap}
use Rattle.rules.specs.Reach.{Reachable}
use Rattle.rules.specs.Marking.{sweep}
use Rattle.keeping.specs.Keeping.{marking, collected, Keeps}
use Rattle.keeping.proofs.Sound.{Sound, sound}
use Rattle.keeping.proofs.Complete.{complete}
use Rattle.keeping.proofs.Owners.{well_fresh}

-- ---- the statement determines the table

-- So a collection that marks in another order, or through another stack, leaves the same table as soon as it is shown to keep exactly the reachable objects.
pub keeps_one : {base : ℕ} {h : Heap} {roots a b : List ℕ} → Keeps base h roots a → Keeps base h roots b → a ≡ b
keeps_one {h = h} {a = a} {b = b} s t =
    ext_get_or FREE a b (s.long ∙ sym t.long) (λ k l. go k (ℕ_discrete (entry_at a k) FREE) (ℕ_discrete (entry_at b k) FREE))
  where
    go : (k : ℕ) → Dec (entry_at a k ≡ FREE) → Dec (entry_at b k ≡ FREE) → entry_at a k ≡ entry_at b k
    go k (yes p) (yes q) = p ∙ sym q
    go k (no p) d = let w = s.rest k p in s.whole k w ∙ sym (t.whole k w)
    go k (yes p) (no q) = let w = t.rest k q in s.whole k w ∙ sym (t.whole k w)

-- ---- and so does reachability

module _ (base : ℕ) (h g : Heap) (roots roots' : List ℕ) (room room' : ℕ) (well : well_formed h.entries ≡ true) (table : h.entries ≡ g.entries)
    (there : (k : ℕ) → Reachable base h roots k → Reachable base g roots' k) (back : (k : ℕ) → Reachable base g roots' k → Reachable base h roots k) where
  -- the entries after the marking
  pub marking_same : (marking base h roots room).last.entries ≡ (marking base g roots' room').last.entries
  marking_same =
      ext_get_or FREE a b (s.marks.long ∙ ap length table ∙ sym t.marks.long) (λ k l. go k (s.marks.at k) (t.marks.at k))
    where
      a : List ℕ
      a = (marking base h roots room).last.entries

      b : List ℕ
      b = (marking base g roots' room').last.entries

      fresh : (k : ℕ) → entry_at h.entries k ≢ MARK
      fresh = well_fresh h.entries well

      fresh' : (k : ℕ) → entry_at g.entries k ≢ MARK
      fresh' = rw (← table) fresh

      s : Sound base h roots room (marking base h roots room).last
      s = sound base h roots room fresh

      t : Sound base g roots' room' (marking base g roots' room').last
      t = sound base g roots' room' fresh'

      go : (k : ℕ) → (entry_at a k ≡ entry_at h.entries k) ⊎ ((entry_at h.entries k ≡ HEAD) × (entry_at a k ≡ MARK))
          → (entry_at b k ≡ entry_at g.entries k) ⊎ ((entry_at g.entries k ≡ HEAD) × (entry_at b k ≡ MARK)) → entry_at a k ≡ entry_at b k
      go k (inl p) (inl q) = p ∙ ap (λ (es : List ℕ). entry_at es k) table ∙ sym q
      go k (inr p) x = p.1 ∙ sym (complete base g roots' room' fresh' k (there k (s.reached k p.1)))
      go k (inl p) (inr q) = complete base h roots room fresh k (back k (t.reached k q.1)) ∙ sym q.1

  -- and after the sweep: another list of roots that reaches the same objects leaves the same table
  pub collected_same : collected base h roots room ≡ collected base g roots' room'
  unfolding collected
  collected_same = ap sweep marking_same

-- the table does not depend on the room of the mark stack
pub any_room : (base : ℕ) (h : Heap) (roots : List ℕ) (room room' : ℕ) → well_formed h.entries ≡ true → collected base h roots room ≡ collected base h roots room'
any_room base h roots room room' well = collected_same base h h roots roots room room' well refl (λ k r. r) (λ k r. r)
