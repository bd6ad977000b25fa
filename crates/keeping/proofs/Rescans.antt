-- How often the marking rescans: each rescan costs a HEAD or the flag, and the flag is set only once more objects are marked than the stack has room for.
-- Assumes nothing.
use mathlib.Core.Path.{◌≡◌, refl, ap, sym, ◌∙◌}
use mathlib.Core.Logic.{◌⊎◌, inl, inr, ⊎_elim}
use mathlib.Core.Bool.{Bool, true, false}
use mathlib.Core.List.{List, [], ◌∷◌}
use Prim.Native.Nat.{ℕ, zero, suc, ◌+◌, ◌*◌, ◌≤◌, ◌<◌}
use native.Mathlib.Omega.{arith}
use lib.ListN.{length}
use Rattle.rules.specs.Tests.{pick}
use Rattle.rules.specs.Words.{word_at}
use Rattle.rules.specs.Entries.{HEAD}
use Rattle.rules.specs.Tables.{entry_at, objects}
use Rattle.rules.specs.Marking.{Context, State, state, marked, walk, drain, trace, mark_root, mark_roots, pass, Marked, rescan_for, rescan, mark_all}
use Rattle.laws.proofs.Lists.{one}
use Rattle.laws.proofs.Marking.{objects_mark, Visits, stays, pushes, loses, visits, Rooted, idle, takes, rooted, walk_keeps, drain_keeps, traced, potential, pass_potential, rescan_done, rescan_more}

-- m HEADs at the start, and something was marked since: fewer HEADs with the stack, fewer with the flag,
-- and if the flag is set, then more objects than the stack has room for were marked after the first
module _ (c : Context) (m : ℕ) where
  record Spent (s : State) : Type 0 where
    stacked : objects s.entries + length s.stack < m
    flagged : objects s.entries + one s.overflow < m
    lost : s.overflow ≡ true → objects s.entries + c.room + 2 ≤ m

  spent_visits : {w : ℕ} {s z : State} → Visits c w s z → Spent s → Spent z
  spent_visits (stays _) g = g
  spent_visits {s = s} (pushes k q e r) g =
      let x = objects_mark s.entries k e in
      let a = g.stacked in
      let b = g.flagged in
      record { stacked = omega arith; flagged = omega arith; lost = λ u. let l = g.lost u in omega arith }
  spent_visits {s = s} (loses k q e r) g =
      let x = objects_mark s.entries k e in
      let a = g.stacked in
      record { stacked = omega arith; flagged = omega arith; lost = λ u. omega arith }

  spent_walk : (k : ℕ) (s : State) → Spent s → Spent (walk c k s)
  spent_walk k s g = walk_keeps c Spent k s (λ i l z p. spent_visits (visits c (word_at c.pool (4 * k + i)) z) p) g

  spent_drain : (s : State) → Spent s → Spent (drain c s)
  spent_drain s g =
      drain_keeps c Spent
      (λ es k st o p. let a = p.stacked in spent_walk k (state es st o) (record { stacked = omega arith; flagged = p.flagged; lost = p.lost })) s g

  -- after some roots: nothing was marked, or something was
  Begun : State → Type 0
  Begun s = (s.stack ≡ []) × (((s.overflow ≡ false) × (objects s.entries ≤ m)) ⊎ Spent s)

  spent_mark : (k : ℕ) (s : State) → entry_at s.entries k ≡ HEAD → s.stack ≡ [] → ((s.overflow ≡ false) × (objects s.entries ≤ m)) ⊎ Spent s
      → Spent (marked k s)
  spent_mark k s e q (inl g) =
      let x = objects_mark s.entries k e in
      let a = g.1 in
      let l : length s.stack ≡ 0 = ap length q in
      let o : one s.overflow ≡ 0 = ap one g.0 in
      record { stacked = omega arith; flagged = omega arith; lost = λ u. let z : ◌≡◌ {A = ℕ} 1 0 = ap one (sym u) ∙ o in absurd (omega arith) }
  spent_mark k s e q (inr g) =
      let x = objects_mark s.entries k e in
      let a = g.stacked in
      let b = g.flagged in
      record { stacked = omega arith; flagged = omega arith; lost = λ u. let l = g.lost u in omega arith }

  begun_rooted : {w : ℕ} {s z : State} → Rooted c w s z → Begun s → Begun z
  unfolding Begun trace
  begun_rooted (idle f) g = g
  begun_rooted {s = s} (takes k q e) g =
      let z = walk c k (marked k s) in
      (traced c k (marked k s), inr (spent_drain z (spent_walk k (marked k s) (spent_mark k s e g.0 g.1))))

  begun_roots : (ws : List ℕ) (s : State) → Begun s → Begun (mark_roots c ws s)
  unfolding mark_roots
  begun_roots [] s g = g
  begun_roots (w ∷ ws) s g = begun_roots ws (mark_root c w s) (begun_rooted (rooted c w s) g)

module _ (c : Context) where
  -- each rescan costs a HEAD, or the flag
  rescans_cost : (s : State) (r : ℕ) → (rescan c s r).rescans + objects (rescan c s r).last.entries ≤ r + potential s
  unfolding rescan rescan_for potential
  rescans_cost s r = go (pick s.overflow (suc (objects s.entries)) 0) s.entries s.stack s.overflow r
    where
      go : (n : ℕ) (es st : List ℕ) (o : Bool) (r : ℕ)
          → (rescan_for n c (state es st o) r).rescans + objects (rescan_for n c (state es st o) r).last.entries ≤ r + (objects es + one o)
      go zero es st o r = omega arith
      go (suc n) es st false r = omega arith
      go (suc n) es st true r =
          let z = pass c (state es st true) in
          omega (arith, pass_potential c (state es st true), go n z.entries z.stack z.overflow (suc r))

  rescans_from : (s : State) (r : ℕ) → r ≤ (rescan c s r).rescans
  unfolding rescan rescan_for
  rescans_from s r = go (pick s.overflow (suc (objects s.entries)) 0) s.entries s.stack s.overflow r
    where
      go : (n : ℕ) (es st : List ℕ) (o : Bool) (r : ℕ) → r ≤ (rescan_for n c (state es st o) r).rescans
      go zero es st o r = omega arith
      go (suc n) es st false r = omega arith
      go (suc n) es st true r =
          let z = pass c (state es st true) in
          omega (arith, go n z.entries z.stack z.overflow (suc r))

  rescans_one : (s : State) (r : ℕ) → s.overflow ≡ true → suc r ≤ (rescan c s r).rescans
  rescans_one s r u = rw (rescan_more c s r u) (rescans_from (pass c s) (suc r))

  module _ (roots es : List ℕ) where
    rooted_all : State
    rooted_all = mark_roots c roots (state es [] false)

    begun : Begun c (objects es) rooted_all
    unfolding rooted_all Begun
    begun = begun_roots c (objects es) roots (state es [] false) (refl, inl (refl, omega arith))

    no_rescans : rooted_all.overflow ≡ false → (mark_all c roots es).rescans ≡ 0
    unfolding mark_all rooted_all
    no_rescans u = ap (λ (x : Marked). x.rescans) (rescan_done c rooted_all 0 u)

    -- there are fewer rescans than objects marked
    pub rescans_few : ((mark_all c roots es).rescans ≡ 0) ⊎ ((mark_all c roots es).rescans + 1 + objects (mark_all c roots es).last.entries ≤ objects es)
    unfolding mark_all rooted_all Begun potential
    rescans_few = ⊎_elim (λ g. inl (no_rescans g.0)) (λ g. inr (omega (arith, g.flagged, rescans_cost rooted_all 0))) begun.1

    -- and none if the stack has room for all of them but one
    pub rescans_none : objects es ≤ objects (mark_all c roots es).last.entries + c.room + 1 → (mark_all c roots es).rescans ≡ 0
    unfolding mark_all rooted_all Begun potential
    rescans_none f = ⊎_elim (λ g. no_rescans g.0) (λ g. go rooted_all.overflow refl g) begun.1
      where
        go : (o : Bool) → rooted_all.overflow ≡ o → Spent c (objects es) rooted_all → (mark_all c roots es).rescans ≡ 0
        go false q g = no_rescans q
        go true q g = absurd (omega (arith, g.lost q, rescans_cost rooted_all 0, ap one q, rescans_one rooted_all 0 q))
