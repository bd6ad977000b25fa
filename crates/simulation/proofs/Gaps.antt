-- The gaps and the counts of a laid list are those of its table: the lowest gap with room, the gap after an object, the longest gap, used blocks and objects.
-- Assumes nothing.
use mathlib.Core.Path.{◌≡◌, refl, sym, ◌∙◌}
use mathlib.Core.Logic.{◌≢◌, inl, inr, ⊎_elim}
use mathlib.Core.Bool.{Bool, true, false}
use mathlib.Core.List.{List, ◌∷◌}
use mathlib.Core.Option.{some, none}
use Prim.Native.Nat.{ℕ, zero, suc, ◌+◌, ◌-◌, ◌*◌, ◌/◌, ◌≤◌, ◌<◌, max}
use native.Mathlib.Nat.{zero-max, max-zero}
use native.Mathlib.Decide.{ℕ_discrete, dec_lt}
use native.Mathlib.Omega.{arith}
use lib.Dec.{eqb, leb, ltb}
use lib.ListN.{length, drop, length-drop}
use lib.Seq.{drop-cons, get_or-drop, drop-length}
use borrow.Author.Tests.{eq-eqb, ne_eqb, lt-ltb, le-ltb, leb-true, leb-false}
use Rattle.rules.specs.Tests.{pick, count, leading}
use Rattle.rules.specs.Entries.{FREE}
use Rattle.rules.specs.Tables.{entry_at, is_free, is_used, is_head, free_from, aligned, first_fit, used, objects, longest}
use Rattle.laws.specs.Meaning.{Run, Aligned, Fits, Lowest}
use Rattle.laws.proofs.Lists.{count_cons, leading_is}
use Rattle.laws.proofs.Tables.{run_le, run_longest, aligned_of, aligned_says, first_is}
use Rattle.laws.proofs.Refusals.{true_not_false}
use Rattle.plain.specs.Objects.{Object, end, total, find, place_from, lowest_gap, longest_gap, next_start}
use Rattle.simulation.proofs.Laid.{Clear, Lies, lies_used, Laid, done, next, find_below}

-- ---- the first place for b blocks

-- block s is the first from block `from` on at which b blocks are aligned
record Place (b from s : ℕ) : Type 0 where
  onward : from ≤ s
  aligned : Aligned b s
  first : (q : ℕ) → from ≤ q → q < s → Aligned b q → ⊥

place_says : (b from : ℕ) → Place b from (place_from b from)
unfolding place_from
place_says b from = go (dec_lt b 4)
  where
    go : Dec (b < 4) → Place b from (pick (ltb b 4) from (4 * ((from + 3) / 4)))
    go (yes few) = rw (lt-ltb b 4 few) (record { onward = omega arith; aligned = inl few; first = λ q l r. absurd (omega arith) })
    go (no many) =
        rw (le-ltb b 4 (omega arith))
        (record { onward = omega arith; aligned = inr (omega arith); first = λ q l r. ⊎_elim (λ few. omega arith) (λ front. omega arith) })

-- a block is its own first place exactly if b blocks are aligned there
pub place_own : (b s : ℕ) → eqb (place_from b s) s ≡ aligned b s
place_own b s = go (aligned b s) refl
  where
    p : Place b s (place_from b s)
    p = place_says b s

    go : (v : Bool) → aligned b s ≡ v → eqb (place_from b s) s ≡ v
    go true e = eq-eqb (place_from b s) s (here (dec_lt s (place_from b s)))
      where
        here : Dec (s < place_from b s) → place_from b s ≡ s
        here (yes l) = absurd (p.first s (omega arith) l (aligned_says b s e))
        here (no l) = omega (arith, p.onward)
    go false e = ne_eqb (place_from b s) s (λ same. true_not_false (aligned_of b s (rw same at p.aligned)) e)

-- ---- the lowest gap with room

-- none fits before the first place of a gap, if none does before the gap
fits_from : {es : List ℕ} {b from s : ℕ} → Place b from s → ((q : ℕ) → q < from → Fits es b q → ⊥) → (q : ℕ) → q < s → Fits es b q → ⊥
fits_from {from} p lower q l f = go (dec_lt q from)
  where
    go : Dec (q < from) → ⊥
    go (yes u) = lower q u f
    go (no u) = p.first q (omega arith) l f.aligned

module _ {pool es : List ℕ} (b : ℕ) (some_block : 0 < b) where
  -- blocks that fit do not reach into an object
  fits_before : {s : ℕ} {o : Object} → Lies pool es o → ((q : ℕ) → q < s → Fits es b q → ⊥) → o.start < s + b → (q : ℕ) → q < end o → Fits es b q → ⊥
  fits_before {s} {o} y lower l q h f = go (dec_lt q s) (dec_lt o.start q)
    where
      go : Dec (q < s) → Dec (o.start < q) → ⊥
      go (yes u) _ = lower q u f
      go (no u) (yes v) = let e : q + 0 ≡ q = omega arith in lies_used y q (omega arith) h (rw e at (f.run.free 0 some_block))
      go (no u) (no v) =
          let e : q + (o.start - q) ≡ o.start = omega arith in
          let p = y.some_block in
          lies_used y o.start (omega arith) (omega arith) (rw e at (f.run.free (o.start - q) (omega arith)))

  gap_lowest : {from : ℕ} {os : List Object} → Laid pool es from os → ((q : ℕ) → q < from → Fits es b q → ⊥) → Lowest es b (lowest_gap (length es) b from os)
  unfolding lowest_gap Lowest
  gap_lowest {from} (done r g) lower = go (leb (s + b) (length es)) refl
    where
      s : ℕ
      s = place_from b from

      p : Place b from s
      p = place_says b from

      go : (t : Bool) → leb (s + b) (length es) ≡ t → Lowest es b (pick t (some s) none)
      go true e =
          let l = leb-true (s + b) (length es) e in
          let u = p.onward in
          (record { aligned = p.aligned; run = record { room = l; free = λ j h. g (s + j) (omega arith) (omega arith) } }, fits_from p lower)
      go false e =
          let l = leb-false (s + b) (length es) e in
          λ q f. let m = f.run.room in fits_from p lower q (omega arith) f
  gap_lowest {from} (next {o = o} {os = os} l g y e r) lower = go (leb (s + b) o.start) refl (gap_lowest r)
    where
      s : ℕ
      s = place_from b from

      p : Place b from s
      p = place_says b from

      go : (t : Bool) → leb (s + b) o.start ≡ t → (((q : ℕ) → q < end o → Fits es b q → ⊥) → Lowest es b (lowest_gap (length es) b (end o) os))
          → Lowest es b (pick t (some s) (lowest_gap (length es) b (end o) os))
      go true q rest =
          let u = leb-true (s + b) o.start q in
          let v = p.onward in
          (record { aligned = p.aligned; run = record { room = omega arith; free = λ j h. g (s + j) (omega arith) (omega arith) } }, fits_from p lower)
      go false q rest = rest (fits_before {s = s} y (fits_from p lower) (leb-false (s + b) o.start q))

  pub laid_lowest : {os : List Object} → Laid pool es 0 os → first_fit es b ≡ lowest_gap (length es) b 0 os
  laid_lowest {os} d = first_is es b (lowest_gap (length es) b 0 os) some_block (gap_lowest d (λ q h. absurd (omega arith)))

-- ---- the gap after an object

-- from block a up to block m there is room, and no further
pub record Gap (es : List ℕ) (a m : ℕ) : Type 0 where
  pub from : a ≤ m
  pub room : m ≤ length es
  pub clear : Clear es a m
  pub stop : m < length es → entry_at es m ≢ FREE

pub gap_free : (es : List ℕ) (a m : ℕ) → Gap es a m → free_from es a ≡ m - a
gap_free es a m g =
    let f = g.from in
    let l = g.room in
    let r = run_longest es a (omega arith) in
    let u = r.room in
    let le = run_le es (m - a) a (record { room = omega arith; free = λ j h. g.clear (a + j) (omega arith) (omega arith) }) in
    go (dec_lt (m - a) (free_from es a)) r le
  where
    go : Dec (m - a < free_from es a) → Run es (free_from es a) a → m - a ≤ free_from es a → free_from es a ≡ m - a
    go (yes h) r le =
        let f = g.from in
        let u = r.room in
        let e : a + (m - a) ≡ m = omega arith in
        absurd (g.stop (omega arith) (rw e at (r.free (m - a) h)))
    go (no h) r le = omega arith

module _ {pool es : List ℕ} where
  -- the gap before the first object
  first_gap : {from : ℕ} {os : List Object} → Laid pool es from os → (k : ℕ) → k < from → Gap es from (next_start (length es) k os)
  unfolding next_start
  first_gap (done r g) k h = record { from = r; room = omega arith; clear = g; stop = λ l. absurd (omega arith) }
  first_gap (next {o = o} l g y e r) k h =
      let b = y.some_block in
      let p = y.head in
      rw (lt-ltb k o.start (omega arith)) (record { from = l; room = omega arith; clear = g; stop = λ i f. omega arith })

  pub next_gap : {from : ℕ} {os : List Object} → Laid pool es from os → (o : Object) → find o.start os ≡ some o → Gap es (end o) (next_start (length es) o.start os)
  unfolding next_start find
  next_gap (done r g) x q = let z : ◌≡◌ {A = ℕ} 0 1 = cc in absurd (omega arith)
  next_gap {from} (next {o = o} {os = os} l g y e r) x q = go (ℕ_discrete o.start x.start) (dec_lt x.start (end o)) (next_gap r x)
    where
      go : Dec (o.start ≡ x.start) → Dec (x.start < end o) → (find x.start os ≡ some x → Gap es (end x) (next_start (length es) x.start os))
          → Gap es (end x) (next_start (length es) x.start (o ∷ os))
      go (yes p) _ rest =
          let s : some o ≡ some x = rw (eq-eqb o.start x.start p) at q in
          let i : o ≡ x = cc in
          let b = y.some_block in
          rw (le-ltb x.start o.start (omega arith)) (rw i at (first_gap r x.start (omega arith)))
      go (no p) (yes u) rest =
          let s : find x.start os ≡ some x = rw (ne_eqb o.start x.start p) at q in
          let n = find_below r x.start u in
          let z : ◌≡◌ {A = ℕ} 0 1 = cc in
          absurd (omega arith)
      go (no p) (no u) rest =
          let b = y.some_block in
          rw (le-ltb x.start o.start (omega arith)) (rest (rw (ne_eqb o.start x.start p) at q))

-- ---- counts

module _ (f : ℕ → Bool) (es : List ℕ) where
  count_none_from : (a m : ℕ) → a + m ≤ length es → ((k : ℕ) → a ≤ k → k < a + m → f (entry_at es k) ≡ false) → count f (drop a es) ≡ count f (drop (a + m) es)
  count_none_from a zero h g = let e : a + 0 ≡ a = omega arith in rw e
  count_none_from a (suc m) h g =
      let e : a + suc m ≡ suc a + m = omega arith in
      let i = count_none_from (suc a) m (omega arith) (λ k l u. g k (omega arith) (omega arith)) in
      rw (e, drop-cons es a FREE (omega arith), count_cons f (entry_at es a) (drop (suc a) es), g a (omega arith) (omega arith)) (omega arith)

  count_all_from : (a m : ℕ) → a + m ≤ length es → ((k : ℕ) → a ≤ k → k < a + m → f (entry_at es k) ≡ true) → count f (drop a es) ≡ m + count f (drop (a + m) es)
  count_all_from a zero h g = let e : a + 0 ≡ a = omega arith in rw e (omega arith)
  count_all_from a (suc m) h g =
      let e : a + suc m ≡ suc a + m = omega arith in
      let i = count_all_from (suc a) m (omega arith) (λ k l u. g k (omega arith) (omega arith)) in
      rw (e, drop-cons es a FREE (omega arith), count_cons f (entry_at es a) (drop (suc a) es), g a (omega arith) (omega arith)) (omega arith)

module _ {pool es : List ℕ} where
  used_from : {from : ℕ} {os : List Object} → Laid pool es from os → count is_used (drop from es) ≡ total os
  unfolding total count
  used_from {from} (done r g) =
      let e : from + (length es - from) ≡ length es = omega arith in
      let i = count_none_from is_used es from (length es - from) (omega arith) (λ k l u. rw (g k l (omega arith))) in
      i ∙ rw (e, drop-length es)
  used_from {from} (next {o = o} l g y e r) =
      let p : from + (o.start - from) ≡ o.start = omega arith in
      let i = count_none_from is_used es from (o.start - from) (omega arith) (λ k l u. rw (g k l (omega arith))) in
      let j = count_all_from is_used es o.start o.blocks e (λ k l u. rw (ne_eqb (entry_at es k) FREE (lies_used y k l u))) in
      omega (arith, rw p at i, used_from r)

  pub laid_used : {os : List Object} → Laid pool es 0 os → used es ≡ total os
  unfolding used
  laid_used d = used_from d

  objects_from : {from : ℕ} {os : List Object} → Laid pool es from os → count is_head (drop from es) ≡ length os
  unfolding count
  objects_from {from} (done r g) =
      let e : from + (length es - from) ≡ length es = omega arith in
      let i = count_none_from is_head es from (length es - from) (omega arith) (λ k l u. rw (g k l (omega arith))) in
      i ∙ rw (e, drop-length es)
  objects_from {from} (next {o = o} l g y e r) =
      let p : from + (o.start - from) ≡ o.start = omega arith in
      let q : suc o.start + (o.blocks - 1) ≡ end o = omega (arith, y.some_block) in
      let b = y.some_block in
      let i = count_none_from is_head es from (o.start - from) (omega arith) (λ k l u. rw (g k l (omega arith))) in
      let h = count_all_from is_head es o.start 1 (omega arith) (λ k l u. let s : k ≡ o.start = omega arith in rw (s, y.head)) in
      let j = count_none_from is_head es (o.start + 1) (o.blocks - 1) (omega arith) (λ k l u. rw (y.tails k (omega arith) (omega arith))) in
      let m : o.start + 1 + (o.blocks - 1) ≡ end o = omega arith in
      omega (arith, rw p at i, rw m at j, objects_from r)

  pub laid_objects : {os : List Object} → Laid pool es 0 os → objects es ≡ length os
  unfolding objects
  laid_objects d = objects_from d

-- ---- the longest gap

max_again : (m x : ℕ) → max (suc m) (max m x) ≡ max (suc m) x
max_again m x = omega arith

module _ (es : List ℕ) where
  longest_here : (a : ℕ) → a < length es → longest (drop a es) ≡ max (leading is_free (drop a es)) (longest (drop (suc a) es))
  unfolding longest
  longest_here a h = rw (drop-cons es a FREE h)

  -- a used block ends a gap
  longest_used : (a : ℕ) → a < length es → entry_at es a ≢ FREE → longest (drop a es) ≡ longest (drop (suc a) es)
  unfolding longest leading
  longest_used a h u = rw (drop-cons es a FREE h, ne_eqb (entry_at es a) FREE u) (zero-max (longest (drop (suc a) es)))

  longest_over : (a m : ℕ) → a + m ≤ length es → ((k : ℕ) → a ≤ k → k < a + m → entry_at es k ≢ FREE) → longest (drop a es) ≡ longest (drop (a + m) es)
  longest_over a zero h g = let e : a + 0 ≡ a = omega arith in rw e
  longest_over a (suc m) h g =
      let e : a + suc m ≡ suc a + m = omega arith in
      rw e (longest_used a (omega arith) (g a (omega arith) (omega arith)) ∙ longest_over (suc a) m (omega arith) (λ k l u. g k (omega arith) (omega arith)))

  longest_gap_is : (a m : ℕ) → a + m ≤ length es → Clear es a (a + m) → (a + m < length es → entry_at es (a + m) ≢ FREE)
      → longest (drop a es) ≡ max m (longest (drop (a + m) es))
  longest_gap_is a zero h g stop = let e : a + 0 ≡ a = omega arith in rw e (sym (zero-max (longest (drop a es))))
  longest_gap_is a (suc m) h g stop =
      let e : a + suc m ≡ suc a + m = omega arith in
      let l : leading is_free (drop a es) ≡ suc m = leading_is is_free (drop a es) (suc m) FREE (simp length-drop (omega arith))
      (λ i u. rw (get_or-drop a es i FREE) (eq-eqb _ _ (g (a + i) (omega arith) (omega arith))))
      (λ u. rw (get_or-drop a es (suc m) FREE) (ne_eqb _ _ (stop (omega (arith, length-drop a es))))) in
      let i : longest (drop (suc a) es) ≡ max m (longest (drop (suc a + m) es)) =
      longest_gap_is (suc a) m (omega arith) (λ k p q. g k (omega arith) (omega arith)) (rw (← e) stop) in
      longest_here a (omega arith) ∙ rw (l, i, e) (max_again m (longest (drop (suc a + m) es)))

module _ {pool es : List ℕ} where
  longest_from : {from : ℕ} {os : List Object} → Laid pool es from os → longest (drop from es) ≡ longest_gap (length es) from os
  unfolding longest_gap longest
  longest_from {from} (done r g) =
      let e : from + (length es - from) ≡ length es = omega arith in
      let i = longest_gap_is es from (length es - from) (omega arith) (λ k l u. g k l (omega arith)) (λ l. absurd (omega arith)) in
      i ∙ rw (e, drop-length es) (max-zero (length es - from))
  longest_from {from} (next {o = o} l g y e r) =
      let p : from + (o.start - from) ≡ o.start = omega arith in
      let b = y.some_block in
      let i = longest_gap_is es from (o.start - from) (omega arith) (λ k l u. g k l (omega arith)) (λ u. rw p (lies_used y o.start (omega arith) (omega arith))) in
      let j = longest_over es o.start o.blocks e (λ k l u. lies_used y k l u) in
      i ∙ rw (p, j, longest_from r)

  pub laid_longest : {os : List Object} → Laid pool es 0 os → longest es ≡ longest_gap (length es) 0 os
  laid_longest d = longest_from d
