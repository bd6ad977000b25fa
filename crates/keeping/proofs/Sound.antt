-- What the marking marks is reachable: each state of the cycle has marks on reachable objects alone, and only marked objects on its stack.
-- Assumes nothing.
use mathlib.Core.Path.{◌≡◌, refl, sym, ◌∙◌}
use mathlib.Core.Logic.{◌≢◌, ⊎_elim}
use mathlib.Core.Bool.{Bool, false}
use mathlib.Core.List.Memᴰ
use mathlib.Core.List.{List, [], ◌∷◌, Memᴰ}
use mathlib.Core.Option.{some}
use Prim.Native.Nat.{ℕ, ◌+◌, ◌*◌}
use lib.ListN.{length}
use Rattle.rules.specs.Words.{word_at}
use Rattle.rules.specs.Entries.{HEAD, MARK}
use Rattle.rules.specs.Tables.{entry_at}
use Rattle.rules.specs.Pointers.{leads_to}
use Rattle.rules.specs.Outcomes.{Heap}
use Rattle.rules.specs.Reach.{Reachable, root, edge}
use Rattle.rules.specs.Marking.{Context, State, state, marked, walk, drain, trace, mark_root, mark_roots, pass_block, pass, mark_all}
use Rattle.laws.proofs.Marking.{Visits, stays, pushes, loses, visits, Rooted, idle, takes, rooted, Passed, skips, walks, passed, walk_keeps, drain_keeps, pass_keeps, rescan_keeps}
use Rattle.laws.proofs.Marks.{Marks, marks_none, marks_more, mark_stays, mark_cases, mark_here, marks_count, marks_leads}
use Rattle.keeping.specs.Keeping.{context_of, marking}

module _ (base : ℕ) (h : Heap) (roots : List ℕ) (room : ℕ) where
  abbrev c : Context
  c = context_of base h room

  pub record Sound (s : State) : Type 0 where
    pub marks : Marks h.entries s.entries
    pub reached : (k : ℕ) → entry_at s.entries k ≡ MARK → Reachable base h roots k
    pub stacked : (k : ℕ) → Memᴰ k s.stack → entry_at s.entries k ≡ MARK

  pub sound_start : ((k : ℕ) → entry_at h.entries k ≢ MARK) → Sound (state h.entries [] false)
  sound_start fresh =
      record {
        marks = marks_none h.entries;
        reached = λ k m. absurd (fresh k m);
        stacked = λ k m. absurd (Memᴰ.not-nil m);
      }

  -- one more mark, of what is reachable
  pub sound_mark : (k : ℕ) (s : State) → entry_at s.entries k ≡ HEAD → Reachable base h roots k → Sound s → Sound (marked k s)
  sound_mark k s e r g =
      record {
        marks = marks_more h.entries s.entries k g.marks e;
        reached = λ i m. ⊎_elim (λ q. rw q r) (λ o. g.reached i o) (mark_cases s.entries k i m);
        stacked = λ i m. mark_stays s.entries k i e (g.stacked i m);
      }

  pub sound_visits : {w : ℕ} {s z : State} → Visits c w s z → ((k : ℕ) → leads_to base h.entries w ≡ some k → Reachable base h roots k) → Sound s → Sound z
  sound_visits (stays _) f g = g
  sound_visits {w = w} {s = s} (pushes k q e r) f g =
      let m = sound_mark k s e (f k (sym (marks_leads base h.entries s.entries w g.marks) ∙ q)) g in
      record {
        marks = m.marks;
        reached = m.reached;
        stacked = λ i j. ⊎_elim (λ p. rw p (mark_here s.entries k e)) (λ p. m.stacked i p) (Memᴰ.cases_cons j);
      }
  sound_visits {w = w} {s = s} (loses k q e r) f g =
      let m = sound_mark k s e (f k (sym (marks_leads base h.entries s.entries w g.marks) ∙ q)) g in
      record { marks = m.marks; reached = m.reached; stacked = m.stacked }

  pub sound_walk : (k : ℕ) (s : State) → entry_at s.entries k ≡ MARK → Sound s → Sound (walk c k s)
  sound_walk k s m g =
      let e = marks_count h.entries s.entries k g.marks in
      walk_keeps c Sound k s
      (λ i l z p. sound_visits (visits c (word_at h.pool (4 * k + i)) z)
      (λ j q. edge (g.reached k m) (record { word = i; inside = rw e at l; leads = q })) p) g

  pub sound_popped : (es : List ℕ) (k : ℕ) (st : List ℕ) (o : Bool) → Sound (state es (k ∷ st) o) → Sound (walk c k (state es st o))
  sound_popped es k st o g =
      sound_walk k (state es st o) (g.stacked k (Memᴰ.head refl))
      (record { marks = g.marks; reached = g.reached; stacked = λ i m. g.stacked i (Memᴰ.tail m) })

  pub sound_drain : (s : State) → Sound s → Sound (drain c s)
  sound_drain s g = drain_keeps c Sound sound_popped s g

  pub sound_trace : (k : ℕ) (s : State) → entry_at s.entries k ≡ MARK → Sound s → Sound (trace c k s)
  unfolding trace
  sound_trace k s m g = sound_drain (walk c k s) (sound_walk k s m g)

  sound_rooted : {w : ℕ} {s z : State} → Rooted c w s z → Memᴰ w roots → Sound s → Sound z
  sound_rooted (idle _) i g = g
  sound_rooted {w = w} {s = s} (takes k q e) i g =
      sound_trace k (marked k s) (mark_here s.entries k e)
      (sound_mark k s e (root i (sym (marks_leads base h.entries s.entries w g.marks) ∙ q)) g)

  pub sound_root : (w : ℕ) (s : State) → Memᴰ w roots → Sound s → Sound (mark_root c w s)
  sound_root w s i g = sound_rooted (rooted c w s) i g

  pub sound_roots : (ws : List ℕ) (s : State) → ((w : ℕ) → Memᴰ w ws → Memᴰ w roots) → Sound s → Sound (mark_roots c ws s)
  unfolding mark_roots
  sound_roots [] s f g = g
  sound_roots (w ∷ ws) s f g = sound_roots ws (mark_root c w s) (λ i m. f i (Memᴰ.tail m)) (sound_root w s (f w (Memᴰ.head refl)) g)

  sound_passed : {k : ℕ} {s z : State} → Passed c k s z → Sound s → Sound z
  sound_passed (skips _) g = g
  sound_passed {k = k} {s = s} (walks m) g = sound_trace k s m g

  pub sound_block : (k : ℕ) (s : State) → Sound s → Sound (pass_block c k s)
  sound_block k s g = sound_passed (passed c k s) g

  pub sound_pass : (s : State) → Sound s → Sound (pass c s)
  unfolding pass
  sound_pass s g =
      pass_keeps c (λ k. Sound) (λ k z p. sound_block k z p) 0 (length s.entries) (state s.entries s.stack false)
      (record { marks = g.marks; reached = g.reached; stacked = g.stacked })

  -- the whole marking, from a table without MARKs
  pub sound : ((k : ℕ) → entry_at h.entries k ≢ MARK) → Sound (marking base h roots room).last
  unfolding marking mark_all
  sound fresh =
      let s = state h.entries [] false in
      rescan_keeps c Sound sound_pass (mark_roots c roots s) 0 (sound_roots roots s (λ w m. m) (sound_start fresh))
