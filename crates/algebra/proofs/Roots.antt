-- What is reachable from more roots, and from joined root lists.
-- Assumes nothing.
use mathlib.Core.Logic.{◌⊎◌, inl, inr, ⊎_elim}
use mathlib.Core.List.Memᴰ
use mathlib.Core.List.{List, ◌++◌, Memᴰ}
use Prim.Native.Nat.{ℕ}
use Rattle.rules.specs.Outcomes.{Heap}
use Rattle.rules.specs.Reach.{Reachable, root, edge}

module _ (base : ℕ) (h : Heap) where
  -- what some roots reach, a list that has all of them reaches
  pub reachable_more : (ws vs : List ℕ) → ((w : ℕ) → Memᴰ w ws → Memᴰ w vs) → (k : ℕ) → Reachable base h ws k → Reachable base h vs k
  reachable_more ws vs more k (root {w = w} m q) = root (more w m) q
  reachable_more ws vs more k (edge {o = o} r x) = edge (reachable_more ws vs more o r) x

  -- what joined lists reach, one or the other reaches
  pub reachable_either : (ws vs : List ℕ) (k : ℕ) → Reachable base h (ws ++ vs) k → Reachable base h ws k ⊎ Reachable base h vs k
  reachable_either ws vs k (root m q) = ⊎_elim (λ i. inl (root i q)) (λ i. inr (root i q)) (Memᴰ.append_cases ws m)
  reachable_either ws vs k (edge {o = o} r x) = ⊎_elim (λ i. inl (edge i x)) (λ i. inr (edge i x)) (reachable_either ws vs o r)

  pub reachable_left : (ws vs : List ℕ) (k : ℕ) → Reachable base h ws k → Reachable base h (ws ++ vs) k
  reachable_left ws vs = reachable_more ws (ws ++ vs) (λ w. Memᴰ.append_left vs)

  pub reachable_right : (ws vs : List ℕ) (k : ℕ) → Reachable base h vs k → Reachable base h (ws ++ vs) k
  reachable_right ws vs = reachable_more vs (ws ++ vs) (λ w. Memᴰ.append_right ws)
