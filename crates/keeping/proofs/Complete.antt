-- What is reachable is marked. While the overflow flag is clear each MARK is on the stack, or black: each word of it leads to a MARK.
-- At the end the flag is clear and the stack empty, so the MARKs are closed under the words, and each root's target is among them.
-- Assumes nothing.
use mathlib.Core.Path.{◌≡◌, refl, ap, sym, ◌∙◌}
use mathlib.Core.Logic.{◌≢◌, ◌⊎◌, inl, inr, ⊎_elim}
use mathlib.Core.Bool.{false}
use mathlib.Core.List.Memᴰ
use mathlib.Core.List.{List, [], ◌∷◌, Memᴰ}
use mathlib.Core.Option.{some}
use Prim.Native.Nat.{ℕ, zero, suc, ◌+◌, ◌*◌, ◌≤◌, ◌<◌}
use native.Mathlib.Omega.{arith}
use native.Mathlib.Decide.{ℕ_discrete}
use lib.ListN.{length, set}
use Rattle.rules.specs.Words.{word_at}
use Rattle.rules.specs.Entries.{HEAD, MARK}
use Rattle.rules.specs.Tables.{entry_at, block_count}
use Rattle.rules.specs.Pointers.{leads_to}
use Rattle.rules.specs.Outcomes.{Heap}
use Rattle.rules.specs.Reach.{Edge, Reachable, root, edge}
use Rattle.rules.specs.Marking.{Context, State, state, marked, visit, walk_words, walk, drain, trace, mark_root, mark_roots, pass_from, pass, rescan, mark_all}
use Rattle.laws.proofs.Marking.{mark_inside, Visits, stays, pushes, loses, visits, Rooted, idle, takes, rooted, Passed, skips, walks, passed, words_keep, walk_keeps, drain_keeps, pass_keeps, rescan_keeps, traced, rescanned}
use Rattle.laws.proofs.Marks.{Marks, marks_none, marks_more, mark_stays, mark_cases, mark_here, marks_count, marks_leads}
use Rattle.laws.proofs.Pointers.{leads_head}
use Rattle.keeping.specs.Keeping.{context_of, marking}

module _ (base : ℕ) (h : Heap) (room : ℕ) where
  abbrev c : Context
  c = context_of base h room

  visits_marks : {w : ℕ} {s z : State} → Visits c w s z → Marks h.entries s.entries → Marks h.entries z.entries
  visits_marks (stays _) g = g
  visits_marks {s = s} (pushes k q e r) g = marks_more h.entries s.entries k g e
  visits_marks {s = s} (loses k q e r) g = marks_more h.entries s.entries k g e

  visits_stay : {w : ℕ} {s z : State} (i : ℕ) → Visits c w s z → entry_at s.entries i ≡ MARK → entry_at z.entries i ≡ MARK
  visits_stay i (stays _) m = m
  visits_stay {s = s} i (pushes k q e r) m = mark_stays s.entries k i e m
  visits_stay {s = s} i (loses k q e r) m = mark_stays s.entries k i e m

  -- what a word leads to is HEAD or MARK
  led : (w k : ℕ) (es : List ℕ) → Marks h.entries es → leads_to base h.entries w ≡ some k → (entry_at es k ≡ HEAD) ⊎ (entry_at es k ≡ MARK)
  led w k es g q = leads_head base es w k (marks_leads base h.entries es w g ∙ q)

  -- and MARK after the word
  target_visits : {w : ℕ} {s z : State} (k : ℕ) → Visits c w s z → Marks h.entries s.entries → leads_to base h.entries w ≡ some k
      → entry_at z.entries k ≡ MARK
  target_visits {w = w} {s = s} k (stays f) g q =
      ⊎_elim (λ e. absurd (f k (marks_leads base h.entries s.entries w g ∙ q) e)) (λ m. m) (led w k s.entries g q)
  target_visits {w = w} {s = s} k (pushes j p e r) g q =
      let l : some k ≡ some j = sym q ∙ sym (marks_leads base h.entries s.entries w g) ∙ p in
      let u : k ≡ j = cc in
      rw u (mark_here s.entries j e)
  target_visits {w = w} {s = s} k (loses j p e r) g q =
      let l : some k ≡ some j = sym q ∙ sym (marks_leads base h.entries s.entries w g) ∙ p in
      let u : k ≡ j = cc in
      rw u (mark_here s.entries j e)

  -- so what any of the words leads to is MARK after them
  targets : (first n : ℕ) (s : State) (i k : ℕ) → Marks h.entries s.entries → i < n → leads_to base h.entries (word_at h.pool (first + i)) ≡ some k
      → entry_at (walk_words c first n s).entries k ≡ MARK
  unfolding walk_words
  targets first zero s i k g l q = absurd (omega arith)
  targets first (suc n) s i k g l q =
      go (ℕ_discrete i n)
      (λ l'. targets first n (visit c (word_at h.pool (first + n)) s) i k (visits_marks (visits c (word_at h.pool (first + n)) s) g) l' q)
    where
      z : State
      z = visit c (word_at h.pool (first + n)) s

      go : Dec (i ≡ n) → (i < n → entry_at (walk_words c first n z).entries k ≡ MARK) → entry_at (walk_words c first n z).entries k ≡ MARK
      go (yes p) r =
          words_keep c (λ y. entry_at y.entries k ≡ MARK) first n z (λ j _ y m. visits_stay k (visits c (word_at h.pool (first + j)) y) m)
          (target_visits k (visits c (word_at h.pool (first + n)) s) g
          (ap (λ (j : ℕ). leads_to base h.entries (word_at h.pool (first + j))) (sym p) ∙ q))
      go (no p) r = r (omega arith)

  -- each word of the object at o leads to a MARK
  Black : List ℕ → ℕ → Type 0
  Black es o = (k : ℕ) → Edge base h o k → entry_at es k ≡ MARK

  black_stays : (es : List ℕ) (k o : ℕ) → entry_at es k ≡ HEAD → Black es o → Black (set es k MARK) o
  unfolding Black
  black_stays es k o e b i g = mark_stays es k i e (b i g)

  -- The invariant. M must be marked, and X need not be black yet.
  record Grey (M X : ℕ → Type 0) (s : State) : Type 0 where
    marks : Marks h.entries s.entries
    has : (k : ℕ) → M k → entry_at s.entries k ≡ MARK
    grey : s.overflow ≡ false → (o : ℕ) → entry_at s.entries o ≡ MARK → X o ⊎ (Memᴰ o s.stack ⊎ Black s.entries o)

  module _ (M : ℕ → Type 0) where
    grey_visits : (X : ℕ → Type 0) {w : ℕ} {s z : State} → Visits c w s z → Grey M X s → Grey M X z
    grey_visits X (stays _) g = g
    grey_visits X {s = s} (pushes k q e r) g =
        record {
          marks = marks_more h.entries s.entries k g.marks e;
          has = λ i m. mark_stays s.entries k i e (g.has i m);
          grey = λ u o m.
              ⊎_elim
              (λ p. inr (inl (Memᴰ.head p)))
              (λ p. ⊎_elim (λ x. inl x) (λ y. inr (⊎_elim (λ l. inl (Memᴰ.tail l)) (λ l. inr (black_stays s.entries k o e l)) y)) (g.grey u o p))
              (mark_cases s.entries k o m);
        }
    grey_visits X {s = s} (loses k q e r) g =
        record {
          marks = marks_more h.entries s.entries k g.marks e;
          has = λ i m. mark_stays s.entries k i e (g.has i m);
          grey = λ u o m. let z : ◌≡◌ {A = ℕ} 0 1 = cc in absurd (omega arith);
        }

    -- an object that is walked is black
    grey_walk : (X : ℕ → Type 0) (o : ℕ) (s : State) → Grey M (λ i. X i ⊎ (i ≡ o)) s → Grey M X (walk c o s)
    unfolding walk Black
    grey_walk X o s g =
        let z = walk_keeps c (Grey M (λ i. X i ⊎ (i ≡ o))) o s (λ i l z p. grey_visits (λ i. X i ⊎ (i ≡ o)) (visits c (word_at h.pool (4 * o + i)) z) p) g in
        record {
          marks = z.marks;
          has = z.has;
          grey = λ u i m. ⊎_elim (λ y. ⊎_elim (λ x. inl x) (λ q. inr (inr (rw q walked))) y) (λ y. inr y) (z.grey u i m);
        }
      where
        walked : Black (walk_words c (4 * o) (4 * block_count s.entries o) s).entries o
        walked k x = targets (4 * o) (4 * block_count s.entries o) s x.word k g.marks (rw (marks_count h.entries s.entries o g.marks) x.inside) x.leads

    grey_drain : (X : ℕ → Type 0) (s : State) → Grey M X s → Grey M X (drain c s)
    grey_drain X s g =
        drain_keeps c (Grey M X)
        (λ es k st o p. grey_walk X k (state es st o)
        (record {
          marks = p.marks;
          has = p.has;
          grey = λ u i m. ⊎_elim (λ x. inl (inl x)) (λ y. ⊎_elim (λ l. ⊎_elim (λ q. inl (inr q)) (λ t. inr (inl t)) (Memᴰ.cases_cons l)) (λ l. inr (inr l)) y) (p.grey u i m);
        })) s g

    grey_trace : (X : ℕ → Type 0) (o : ℕ) (s : State) → Grey M (λ i. X i ⊎ (i ≡ o)) s → Grey M X (trace c o s)
    unfolding trace
    grey_trace X o s g = grey_drain X (walk c o s) (grey_walk X o s g)

    -- before block k of a pass: no MARK below k waits
    record Before (k : ℕ) (s : State) : Type 0 where
      empty : s.stack ≡ []
      so : Grey M (λ o. k ≤ o) s

    before_passed : {k : ℕ} {s z : State} → Passed c k s z → Before k s → Before (suc k) z
    before_passed {k = k} {s = s} (skips e) g =
        record {
          empty = g.empty;
          so = record {
            marks = g.so.marks;
            has = g.so.has;
            grey = λ u o m. ⊎_elim (λ x. inl (more o m x (ℕ_discrete o k))) (λ y. inr y) (g.so.grey u o m);
          };
        }
      where
        more : (o : ℕ) → entry_at s.entries o ≡ MARK → k ≤ o → Dec (o ≡ k) → suc k ≤ o
        more o m x (yes q) = absurd (e (rw q at m))
        more o m x (no q) = omega arith
    before_passed {k = k} {s = s} (walks e) g =
        record {
          empty = traced c k s;
          so = grey_trace (λ o. suc k ≤ o) k s
              (record {
                marks = g.so.marks;
                has = g.so.has;
                grey = λ u o m. ⊎_elim (λ x. inl (more o x (ℕ_discrete o k))) (λ y. inr y) (g.so.grey u o m);
              });
        }
      where
        more : (o : ℕ) → k ≤ o → Dec (o ≡ k) → (suc k ≤ o) ⊎ (o ≡ k)
        more o x (yes q) = inr q
        more o x (no q) = inl (omega arith)

    -- between the passes: the stack is empty, and while the flag is clear each MARK is black
    record Rest (s : State) : Type 0 where
      empty : s.stack ≡ []
      so : Grey M (λ o. ⊥) s

    rest_pass : (s : State) → Rest s → Rest (pass c s)
    unfolding pass
    rest_pass s g =
        let z = pass_from c 0 (length s.entries) (state s.entries s.stack false) in
        let b : Before (0 + length s.entries) z =
        pass_keeps c Before (λ k y p. before_passed (passed c k y) p) 0 (length s.entries) (state s.entries s.stack false)
        (record { empty = g.empty; so = record { marks = g.so.marks; has = g.so.has; grey = λ u o m. inl (omega arith) } }) in
        let l : length z.entries ≡ length s.entries = b.so.marks.long ∙ sym g.so.marks.long in
        record {
          empty = b.empty;
          so = record {
            marks = b.so.marks;
            has = b.so.has;
            grey = λ u o m. ⊎_elim (λ x. let r = mark_inside z.entries o m in absurd (omega arith)) (λ y. inr y) (b.so.grey u o m);
          };
        }

  -- more that must be marked
  rest_has : (M N : ℕ → Type 0) (s : State) → Rest M s → ((k : ℕ) → N k → entry_at s.entries k ≡ MARK) → Rest N s
  rest_has M N s g f = record { empty = g.empty; so = record { marks = g.so.marks; has = f; grey = g.so.grey } }

  rest_rooted : (M : ℕ → Type 0) {w : ℕ} {s z : State} → Rooted c w s z → Rest M s → Rest (λ k. M k ⊎ (leads_to base h.entries w ≡ some k)) z
  rest_rooted M {w = w} {s = s} (idle f) g =
      rest_has M (λ k. M k ⊎ (leads_to base h.entries w ≡ some k)) s g
      (λ k. ⊎_elim (λ m. g.so.has k m)
      (λ q. ⊎_elim (λ e. absurd (f k (marks_leads base h.entries s.entries w g.so.marks ∙ q) e)) (λ m. m) (led w k s.entries g.so.marks q)))
  rest_rooted M {w = w} {s = s} (takes k p e) g =
      let N : ℕ → Type 0 = λ i. M i ⊎ (leads_to base h.entries w ≡ some i) in
      let p₀ : leads_to base h.entries w ≡ some k = sym (marks_leads base h.entries s.entries w g.so.marks) ∙ p in
      record {
        empty = traced c k (marked k s);
        so = grey_trace N (λ o. ⊥) k (marked k s)
            (record {
              marks = marks_more h.entries s.entries k g.so.marks e;
              has = λ i. ⊎_elim (λ m. mark_stays s.entries k i e (g.so.has i m)) (λ q. let u : i ≡ k = cc in rw u (mark_here s.entries k e));
              grey = λ u o m.
                  ⊎_elim
                  (λ q. inl (inr q))
                  (λ q. ⊎_elim (λ x. absurd x) (λ y. inr (⊎_elim (λ l. inl l) (λ l. inr (black_stays s.entries k o e l)) y)) (g.so.grey u o q))
                  (mark_cases s.entries k o m);
            });
      }

  -- what some word of a list leads to
  record Led (ws : List ℕ) (k : ℕ) : Type 0 where
    word : ℕ
    among : Memᴰ word ws
    leads : leads_to base h.entries word ≡ some k

  rest_roots : (ws : List ℕ) (M : ℕ → Type 0) (s : State) → Rest M s → Rest (λ k. M k ⊎ Led ws k) (mark_roots c ws s)
  unfolding mark_roots
  rest_roots [] M s g = rest_has M (λ k. M k ⊎ Led [] k) s g (λ k. ⊎_elim (λ m. g.so.has k m) (λ p. absurd (Memᴰ.not-nil p.among)))
  rest_roots (w ∷ ws) M s g =
      let N : ℕ → Type 0 = λ k. M k ⊎ (leads_to base h.entries w ≡ some k) in
      let z = rest_roots ws N (mark_root c w s) (rest_rooted M (rooted c w s) g) in
      rest_has (λ k. N k ⊎ Led ws k) (λ k. M k ⊎ Led (w ∷ ws) k) _ z
      (λ k. ⊎_elim (λ m. z.so.has k (inl (inl m)))
      (λ p. ⊎_elim (λ q. z.so.has k (inl (inr (rw q at p.leads)))) (λ q. z.so.has k (inr (record { word = p.word; among = q; leads = p.leads })))
      (Memᴰ.cases_cons p.among)))

-- what is reachable is MARK at the end, if nothing is MARK at the start
pub complete : (base : ℕ) (h : Heap) (roots : List ℕ) (room : ℕ) → ((k : ℕ) → entry_at h.entries k ≢ MARK)
    → (k : ℕ) → Reachable base h roots k → entry_at (marking base h roots room).last.entries k ≡ MARK
unfolding marking mark_all Black
complete base h roots room fresh k r = go k r
  where
    s₀ : State
    s₀ = state h.entries [] false

    s₁ : State
    s₁ = mark_roots (context_of base h room) roots s₀

    z : State
    z = (rescan (context_of base h room) s₁ 0).last

    M : ℕ → Type 0
    M k = ⊥ ⊎ Led base h room roots k

    start : Rest base h room (λ k. ⊥) s₀
    start = record { empty = refl; so = record { marks = marks_none h.entries; has = λ i. absurd; grey = λ u o m. absurd (fresh o m) } }

    end : Rest base h room M z
    end = rescan_keeps (context_of base h room) (Rest base h room M) (rest_pass base h room M) s₁ 0 (rest_roots base h room roots (λ k. ⊥) s₀ start)

    go : (k : ℕ) → Reachable base h roots k → entry_at z.entries k ≡ MARK
    go k (root m q) = end.so.has k (inr (record { word = _; among = m; leads = q }))
    go k (edge {o = o} r x) =
        ⊎_elim (λ e. absurd e) (λ y. ⊎_elim (λ l. absurd (Memᴰ.not-nil (rw end.empty at l))) (λ l. l k x) y)
        (end.so.grey (rescanned (context_of base h room) s₁ 0) o (go o r))
