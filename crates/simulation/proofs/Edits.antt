-- Changes of a laid list: an object inserted into a gap, removed, or replaced by another at the same start, where pool and table change in its blocks alone.
-- Assumes nothing.
use mathlib.Core.Path.{◌≡◌, sym, ap, ◌∙◌}
use mathlib.Core.Logic.{◌⊎◌, inl, inr, ⊎_elim}
use mathlib.Core.List.{List, ◌∷◌}
use mathlib.Core.Option.{some}
use Prim.Native.Nat.{ℕ, ◌+◌, ◌-◌, ◌*◌, ◌≤◌, ◌<◌}
use native.Mathlib.Decide.{ℕ_discrete, dec_lt}
use native.Mathlib.Omega.{arith}
use lib.ListN.{length}
use borrow.Author.Tests.{eq-eqb, ne_eqb, lt-ltb, le-ltb}
use Rattle.rules.specs.Words.{word_at}
use Rattle.rules.specs.Entries.{FREE}
use Rattle.rules.specs.Tables.{entry_at}
use Rattle.laws.specs.Meaning.{Run}
use Rattle.plain.specs.Objects.{Object, end, find, insert, remove, replace}
use Rattle.simulation.proofs.Laid.{Clear, Lies, lies_used, Laid, done, next, laid_room, find_below}

-- ---- where a list begins

clear_join : (es : List ℕ) (a b c : ℕ) → Clear es a b → Clear es b c → Clear es a c
clear_join es a b c f g k l r = go (dec_lt k b)
  where
    go : Dec (k < b) → entry_at es k ≡ FREE
    go (yes h) = f k l h
    go (no h) = g k (omega arith) r

module _ {pool es : List ℕ} where
  -- FREE blocks before it belong to its first gap
  pub laid_lower : {a : ℕ} {os : List Object} → Laid pool es a os → (b : ℕ) → b ≤ a → Clear es b a → Laid pool es b os
  laid_lower {a} (done r g) b h c = done {from = b} (omega arith) (clear_join es b a (length es) c g)
  laid_lower {a} (next {o = o} l g y e r) b h c = next {from = b} {o = o} (omega arith) (clear_join es b a o.start c g) y e r

  -- FREE blocks at its front may be left out
  pub laid_raise : {a : ℕ} {os : List Object} → Laid pool es a os → (b : ℕ) → a ≤ b → b ≤ length es → Clear es a b → Laid pool es b os
  laid_raise (done r g) b h u c = done u (λ k l m. g k (omega arith) m)
  laid_raise (next {o = o} {os = os} l g y e r) b h u c = go (dec_lt o.start b)
    where
      go : Dec (o.start < b) → Laid pool es b (o ∷ os)
      go (yes p) = let s = y.some_block in absurd (lies_used y o.start (omega arith) (omega arith) (c o.start l p))
      go (no p) = next {from = b} {o = o} (omega arith) (λ k i j. g k (omega arith) j) y e r

-- pool and table differ in the m blocks from s on alone
pub record Edit (pool es pool' es' : List ℕ) (s m : ℕ) : Type 0 where
  pub long : length es' ≡ length es
  pub entries : (k : ℕ) → (s ≤ k → k < s + m → ⊥) → entry_at es' k ≡ entry_at es k
  pub words : (i : ℕ) → (4 * s ≤ i → i < 4 * (s + m) → ⊥) → word_at pool' i ≡ word_at pool i

module _ {pool es pool' es' : List ℕ} {s m : ℕ} (d : Edit pool es pool' es' s m) where
  -- what lies outside them stays

  clear_kept : (a b : ℕ) → (b ≤ s) ⊎ (s + m ≤ a) → Clear es a b → Clear es' a b
  clear_kept a b apart c k l r = d.entries k (λ p q. ⊎_elim (λ u. omega arith) (λ u. omega arith) apart) ∙ c k l r

  lies_kept : (o : Object) → (end o ≤ s) ⊎ (s + m ≤ o.start) → Lies pool es o → Lies pool' es' o
  lies_kept o apart y =
      let b = y.some_block in
      record {
        some_block = y.some_block;
        head = d.entries o.start (λ p q. ⊎_elim (λ u. omega arith) (λ u. omega arith) apart) ∙ y.head;
        tails = λ k l r. d.entries k (λ p q. ⊎_elim (λ u. omega arith) (λ u. omega arith) apart) ∙ y.tails k l r;
        words = record {
          long = y.words.long;
          at = λ i h. y.words.at i h ∙ sym (d.words (4 * o.start + i) (λ p q. ⊎_elim (λ u. omega arith) (λ u. omega arith) apart));
        };
      }

  pub laid_kept : {a : ℕ} {os : List Object} → Laid pool es a os → s + m ≤ a → Laid pool' es' a os
  laid_kept {a} (done r g) h = let n = d.long in done {from = a} (omega arith) (λ k l u. clear_kept a (length es) (inr h) g k l (omega arith))
  laid_kept {a} (next {o = o} l g y e r) h =
      let n = d.long in
      let b = y.some_block in
      next l (clear_kept a o.start (inr h) g) (lies_kept o (inr (omega arith)) y) (omega arith) (laid_kept r (omega arith))

  -- a new object in a gap
  pub laid_insert : (x : Object) → x.start ≡ s → x.blocks ≡ m → Run es m s → Lies pool' es' x
      → {a : ℕ} {os : List Object} → Laid pool es a os → a ≤ s → Laid pool' es' a (insert x os)
  unfolding insert
  laid_insert x xs xm run y' {a} (done r g) h =
      let n = d.long in
      let u = run.room in
      next {from = a} {o = x} (omega arith) (λ k l q. clear_kept a s (inl (omega arith)) (λ k l q. g k l (omega arith)) k l (omega arith)) y' (omega arith)
      (done {from = end x} (omega arith) (λ k l q. clear_kept (end x) (length es) (inr (omega arith)) (λ k l q. g k (omega arith) q) k l (omega arith)))
  laid_insert x xs xm run y' {a} (next {o = o} {os = os} l g y e r) h = go (dec_lt x.start o.start) (laid_insert x xs xm run y' r)
    where
      n : length es' ≡ length es
      n = d.long

      -- the new object ends before the next begins
      before : x.start < o.start → end x ≤ o.start
      before p = to (dec_lt o.start (s + m))
        where
          to : Dec (o.start < s + m) → end x ≤ o.start
          to (yes q) =
              let i : s + (o.start - s) ≡ o.start = omega arith in
              let b = y.some_block in
              absurd (lies_used y o.start (omega arith) (omega arith) (rw i at (run.free (o.start - s) (omega arith))))
          to (no q) = omega arith

      -- and begins after the one before it ends
      behind : o.start ≤ x.start → end o ≤ s
      behind p = to (dec_lt s (end o))
        where
          to : Dec (s < end o) → end o ≤ s
          to (yes q) =
              let i : s + 0 ≡ s = omega arith in
              absurd (lies_used y s (omega arith) q (rw i at (run.free 0 (omega (arith, y'.some_block)))))
          to (no q) = omega arith

      go : Dec (x.start < o.start) → (end o ≤ s → Laid pool' es' (end o) (insert x os)) → Laid pool' es' a (insert x (o ∷ os))
      go (yes p) rest =
          let q = before p in
          let u = run.room in
          rw (lt-ltb x.start o.start p)
          (next {from = a} {o = x} (omega arith) (λ k i j. clear_kept a s (inl (omega arith)) (λ k i j. g k i (omega arith)) k i (omega arith)) y' (omega arith)
          (next q (λ k i j. clear_kept (end x) o.start (inr (omega arith)) (λ k i j. g k (omega arith) j) k i j) (lies_kept o (inr (omega arith)) y) (omega arith)
          (let b = y.some_block in laid_kept r (omega arith))))
      go (no p) rest =
          let q = behind (omega arith) in
          let b = y.some_block in
          rw (le-ltb x.start o.start (omega arith))
          (next l (clear_kept a o.start (inl (omega arith)) g) (lies_kept o (inl q) y) (omega arith) (rest q))

  -- an object removed
  pub laid_remove : (x : Object) → x.start ≡ s → x.blocks ≡ m → Clear es' s (s + m)
      → {a : ℕ} {os : List Object} → Laid pool es a os → find s os ≡ some x → Laid pool' es' a (remove s os)
  unfolding remove find
  laid_remove x xs xm c {a} (done r g) f = let z : ◌≡◌ {A = ℕ} 0 1 = cc in absurd (omega arith)
  laid_remove x xs xm c {a} (next {o = o} {os = os} l g y e r) f = go (ℕ_discrete o.start s) (dec_lt s (end o)) (laid_remove x xs xm c r)
    where
      n : length es' ≡ length es
      n = d.long

      go : Dec (o.start ≡ s) → Dec (s < end o) → (find s os ≡ some x → Laid pool' es' (end o) (remove s os)) → Laid pool' es' a (remove s (o ∷ os))
      go (yes p) _ rest =
          let q : some o ≡ some x = rw (eq-eqb o.start s p) at f in
          let i : o ≡ x = cc in
          let b : o.blocks ≡ m = ap (λ (z : Object). z.blocks) i ∙ xm in
          rw (eq-eqb o.start s p)
          (laid_lower (laid_kept r (omega arith)) a (omega arith)
          (λ k u v. clear_join es' a s (end o) (λ k u v. clear_kept a s (inl (omega arith)) (λ k u v. g k u (omega arith)) k u v) (λ k u v. c k u (omega arith)) k u v))
      go (no p) (yes u) rest =
          let q : find s os ≡ some x = rw (ne_eqb o.start s p) at f in
          let i = find_below r s u in
          let z : ◌≡◌ {A = ℕ} 0 1 = cc in
          absurd (omega arith)
      go (no p) (no u) rest =
          let b = y.some_block in
          rw (ne_eqb o.start s p)
          (next l (clear_kept a o.start (inl (omega arith)) g) (lies_kept o (inl (omega arith)) y) (omega arith) (rest (rw (ne_eqb o.start s p) at f)))

  -- an object replaced by one with the same start
  pub laid_replace : (x x' : Object) → x.start ≡ s → x'.start ≡ s → Lies pool' es' x' → ((os : List Object) → Laid pool es (end x) os → Laid pool' es' (end x') os)
      → {a : ℕ} {os : List Object} → Laid pool es a os → find s os ≡ some x → Laid pool' es' a (replace x' os)
  unfolding replace find
  laid_replace x x' xs xs' y' tail {a} (done r g) f = let z : ◌≡◌ {A = ℕ} 0 1 = cc in absurd (omega arith)
  laid_replace x x' xs xs' y' tail {a} (next {o = o} {os = os} l g y e r) f =
      go (ℕ_discrete o.start s) (dec_lt s (end o)) (laid_replace x x' xs xs' y' tail r)
    where
      n : length es' ≡ length es
      n = d.long

      go : Dec (o.start ≡ s) → Dec (s < end o) → (find s os ≡ some x → Laid pool' es' (end o) (replace x' os)) → Laid pool' es' a (replace x' (o ∷ os))
      go (yes p) _ rest =
          let q : some o ≡ some x = rw (eq-eqb o.start s p) at f in
          let i : o ≡ x = cc in
          let t = tail os (rw i at r) in
          rw (eq-eqb o.start x'.start (omega arith))
          (next {from = a} {o = x'} (omega arith) (λ k u v. clear_kept a s (inl (omega arith)) (λ k u v. g k u (omega arith)) k u (omega arith)) y' (laid_room t) t)
      go (no p) (yes u) rest =
          let q : find s os ≡ some x = rw (ne_eqb o.start s p) at f in
          let i = find_below r s u in
          let z : ◌≡◌ {A = ℕ} 0 1 = cc in
          absurd (omega arith)
      go (no p) (no u) rest =
          let b = y.some_block in
          rw (ne_eqb o.start x'.start (λ q. p (omega arith)))
          (next l (clear_kept a o.start (inl (omega arith)) g) (lies_kept o (inl (omega arith)) y) (omega arith) (rest (rw (ne_eqb o.start s p) at f)))
