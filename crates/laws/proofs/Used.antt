-- Marking leaves as many blocks used as there were: a HEAD that becomes MARK stays used.
-- Assumes nothing.
use mathlib.Core.Path.{◌≡◌, refl, ◌∙◌}
use mathlib.Core.Bool.{false}
use mathlib.Core.List.{List, [], ◌∷◌}
use Prim.Native.Nat.{ℕ, ◌+◌, ◌*◌}
use native.Mathlib.Omega.{arith}
use lib.ListN.{length, set}
use Rattle.rules.specs.Words.{word_at}
use Rattle.rules.specs.Entries.{FREE, HEAD, MARK}
use Rattle.rules.specs.Tables.{entry_at, is_used, used}
use Rattle.rules.specs.Marking.{Context, State, state, marked, walk, trace, mark_root, mark_roots, pass, mark_all}
use Rattle.laws.proofs.Lists.{one, count_set}
use Rattle.laws.proofs.Marking.{head_inside, Visits, stays, pushes, loses, visits, Rooted, idle, takes, rooted, Passed, skips, walks, passed, walk_keeps, drain_keeps, pass_keeps, rescan_keeps}

pub used_mark : (es : List ℕ) (k : ℕ) → entry_at es k ≡ HEAD → used (set es k MARK) ≡ used es
unfolding used
used_mark es k h =
    let was : one (is_used (entry_at es k)) ≡ 1 = rw h in
    omega (arith, count_set is_used es k MARK FREE (head_inside es k h))

module _ (c : Context) (n : ℕ) where
  visits_used : {w : ℕ} {s z : State} → Visits c w s z → used s.entries ≡ n → used z.entries ≡ n
  visits_used (stays _) u = u
  visits_used {s = s} (pushes k q h r) u = used_mark s.entries k h ∙ u
  visits_used {s = s} (loses k q h r) u = used_mark s.entries k h ∙ u

  walk_used : (k : ℕ) (s : State) → used s.entries ≡ n → used (walk c k s).entries ≡ n
  walk_used k s u = walk_keeps c (λ z. used z.entries ≡ n) k s (λ i h z p. visits_used (visits c (word_at c.pool (4 * k + i)) z) p) u

  trace_used : (k : ℕ) (s : State) → used s.entries ≡ n → used (trace c k s).entries ≡ n
  unfolding trace
  trace_used k s u = drain_keeps c (λ z. used z.entries ≡ n) (λ es k st o p. walk_used k (state es st o) p) (walk c k s) (walk_used k s u)

  rooted_used : {w : ℕ} {s z : State} → Rooted c w s z → used s.entries ≡ n → used z.entries ≡ n
  rooted_used (idle _) u = u
  rooted_used {s = s} (takes k q h) u = trace_used k (marked k s) (used_mark s.entries k h ∙ u)

  roots_used : (ws : List ℕ) (s : State) → used s.entries ≡ n → used (mark_roots c ws s).entries ≡ n
  unfolding mark_roots
  roots_used [] s u = u
  roots_used (w ∷ ws) s u = roots_used ws (mark_root c w s) (rooted_used (rooted c w s) u)

  passed_used : {k : ℕ} {s z : State} → Passed c k s z → used s.entries ≡ n → used z.entries ≡ n
  passed_used (skips _) u = u
  passed_used {k = k} {s = s} (walks h) u = trace_used k s u

  pass_used : (s : State) → used s.entries ≡ n → used (pass c s).entries ≡ n
  unfolding pass
  pass_used s u =
      pass_keeps c (λ k z. used z.entries ≡ n) (λ k z p. passed_used (passed c k z) p) 0 (length s.entries) (state s.entries s.stack false) u

pub marking_used : (c : Context) (ws es : List ℕ) → used (mark_all c ws es).last.entries ≡ used es
unfolding mark_all
marking_used c ws es =
    let s : State = mark_roots c ws (state es [] false) in
    rescan_keeps c (λ z. used z.entries ≡ used es) (λ z p. pass_used c (used es) z p) s 0 (roots_used c (used es) ws (state es [] false) refl)
