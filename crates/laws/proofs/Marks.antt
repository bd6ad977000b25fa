-- What marking leaves as it was: each entry but HEADs that became MARK, so how long objects are and where words lead.
-- Assumes nothing.
use mathlib.Core.Path.{◌≡◌, refl, ap, sym, ◌∙◌}
use mathlib.Core.Logic.{◌⊎◌, inl, inr, ⊎_elim}
use mathlib.Core.List.{List, [], ◌∷◌}
use mathlib.Core.Option.{Option, some, none}
use Prim.Native.Nat.{ℕ, zero, suc, ◌+◌}
use native.Mathlib.Omega.{arith}
use native.Mathlib.Decide.{ℕ_discrete}
use lib.ListN.{length, set, drop, length-set, length-drop}
use lib.Seq.{get_or-set_same, get_or-set_other, get_or-drop}
use Rattle.rules.specs.Tests.{leading}
use Rattle.rules.specs.Entries.{FREE, HEAD, MARK}
use Rattle.rules.specs.Tables.{entry_at, is_tail, block_count, start_of}
use Rattle.rules.specs.Pointers.{target_of, heads_object, head_at, leads_to}
use Rattle.laws.proofs.Marking.{head_inside}

-- the entries es are es₀ with some HEADs made MARK
pub record Marks (es₀ es : List ℕ) : Type 0 where
  pub long : length es ≡ length es₀
  pub at : (k : ℕ) → (entry_at es k ≡ entry_at es₀ k) ⊎ ((entry_at es₀ k ≡ HEAD) × (entry_at es k ≡ MARK))

pub marks_none : (es : List ℕ) → Marks es es
marks_none es = record { long = refl; at = λ k. inl refl }

-- what is HEAD now was HEAD at the start
pub marks_head : (es₀ es : List ℕ) (k : ℕ) → Marks es₀ es → entry_at es k ≡ HEAD → entry_at es₀ k ≡ HEAD
marks_head es₀ es k s h = ⊎_elim (λ q. omega arith) (λ q. q.0) (s.at k)

-- one HEAD more is made MARK
pub marks_more : (es₀ es : List ℕ) (k : ℕ) → Marks es₀ es → entry_at es k ≡ HEAD → Marks es₀ (set es k MARK)
marks_more es₀ es k s h = record { long = simp length-set s.long; at = λ i. go i (ℕ_discrete i k) }
  where
    go : (i : ℕ) → Dec (i ≡ k) → (entry_at (set es k MARK) i ≡ entry_at es₀ i) ⊎ ((entry_at es₀ i ≡ HEAD) × (entry_at (set es k MARK) i ≡ MARK))
    go i (yes q) = inr (rw q (marks_head es₀ es k s h), rw q (get_or-set_same es k MARK FREE (head_inside es k h)))
    go i (no q) = rw (get_or-set_other es k i MARK FREE q) (s.at i)

-- a MARK stays
pub mark_stays : (es : List ℕ) (k i : ℕ) → entry_at es k ≡ HEAD → entry_at es i ≡ MARK → entry_at (set es k MARK) i ≡ MARK
mark_stays es k i h m =
    get_or-set_other es k i MARK FREE (λ q. let r : entry_at es i ≡ entry_at es k = ap (λ (j : ℕ). entry_at es j) q in omega arith) ∙ m

-- what is MARK now: the block just marked, or what was
pub mark_cases : (es : List ℕ) (k i : ℕ) → entry_at (set es k MARK) i ≡ MARK → (i ≡ k) ⊎ (entry_at es i ≡ MARK)
mark_cases es k i m = go (ℕ_discrete i k)
  where
    go : Dec (i ≡ k) → (i ≡ k) ⊎ (entry_at es i ≡ MARK)
    go (yes q) = inl q
    go (no q) = inr (sym (get_or-set_other es k i MARK FREE q) ∙ m)

pub mark_here : (es : List ℕ) (k : ℕ) → entry_at es k ≡ HEAD → entry_at (set es k MARK) k ≡ MARK
mark_here es k h = get_or-set_same es k MARK FREE (head_inside es k h)

-- the same TAILs
tails_same : (es₀ es : List ℕ) (k : ℕ) → Marks es₀ es → is_tail (entry_at es k) ≡ is_tail (entry_at es₀ k)
tails_same es₀ es k s = ⊎_elim (λ q. rw q) (λ q. rw (q.0, q.1)) (s.at k)

leading_same : (xs ys : List ℕ) → length xs ≡ length ys → ((i : ℕ) → is_tail (entry_at xs i) ≡ is_tail (entry_at ys i)) → leading is_tail xs ≡ leading is_tail ys
unfolding leading
leading_same [] [] l e = refl
leading_same [] (y ∷ ys) l e = absurd (omega arith)
leading_same (x ∷ xs) [] l e = absurd (omega arith)
leading_same (x ∷ xs) (y ∷ ys) l e = rw (e 0, leading_same xs ys (omega arith) (λ i. e (suc i)))

-- so objects of the same length
pub marks_count : (es₀ es : List ℕ) (k : ℕ) → Marks es₀ es → block_count es k ≡ block_count es₀ k
unfolding block_count
marks_count es₀ es k s =
    ap suc (leading_same (drop (suc k) es) (drop (suc k) es₀) (simp (length-drop, s.long)) (λ i. rw (get_or-drop, get_or-drop) (tails_same es₀ es (suc k + i) s)))

-- which start at the same blocks
starts_same : (es₀ es : List ℕ) (k : ℕ) → Marks es₀ es → start_of es k ≡ start_of es₀ k
unfolding start_of
starts_same es₀ es zero s = refl
starts_same es₀ es (suc k) s = rw (tails_same es₀ es (suc k) s, starts_same es₀ es k s)

pub start_marked : (es : List ℕ) (k b : ℕ) → entry_at es k ≡ HEAD → start_of (set es k MARK) b ≡ start_of es b
start_marked es k b h = starts_same es (set es k MARK) b (marks_more es es k (marks_none es) h)

heads_same : (es₀ es : List ℕ) (k : ℕ) → Marks es₀ es → heads_object (entry_at es k) ≡ heads_object (entry_at es₀ k)
unfolding heads_object
heads_same es₀ es k s = ⊎_elim (λ q. rw q) (λ q. rw (q.0, q.1)) (s.at k)

-- a word leads to the same object, marked or not
pub marks_leads : (base : ℕ) (es₀ es : List ℕ) (w : ℕ) → Marks es₀ es → leads_to base es w ≡ leads_to base es₀ w
unfolding leads_to head_at
marks_leads base es₀ es w s = rw s.long (go (target_of base (length es₀) w))
  where
    go : (o : Option ℕ) → head_at es o ≡ head_at es₀ o
    go none = refl
    go (some k) = rw (starts_same es₀ es k s, heads_same es₀ es (start_of es₀ k) s)
