-- The statements leave nothing open: what they say of a collection determines all that it answers and leaves.
-- A statement that said less would not give these laws.
-- Assumes nothing.
use mathlib.Core.Path.{◌≡◌, ap, sym, ◌∙◌}
use mathlib.Core.List.{List}
use Prim.Native.Nat.{ℕ, suc, ◌≤◌}
use native.Mathlib.Omega.{arith}
use Rattle.rules.specs.Outcomes.{Heap, Answer, Outcome}
use Rattle.keeping.specs.Keeping.{FewRescans, Collected, with_rescans, but_rescans}
use Rattle.keeping.proofs.Same.{keeps_one}

-- an answer is its rescans and all the rest
pub answer_parts : (a b : Answer) → but_rescans a ≡ but_rescans b → a.rescans ≡ b.rescans → a ≡ b
answer_parts a b e r = ap (with_rescans a.rescans) e ∙ ap (λ (n : ℕ). with_rescans n b) r

-- with k objects beside one, there are at most k rescans
pub few_beside : {k room rescans : ℕ} → FewRescans (suc k) room rescans → rescans ≤ k
few_beside f = omega (arith, f.few)

-- and none if the stack has room for those k
pub none_beside : {k rescans : ℕ} → FewRescans (suc k) k rescans → rescans ≡ 0
none_beside f = f.none (omega arith)

-- nor if no object is kept
pub none_kept : {room rescans : ℕ} → FewRescans 0 room rescans → rescans ≡ 0
none_kept f = omega (arith, f.few)

-- two outcomes of a collection that are both as they have to be: the same heap, the same mark stack, and the same three numbers
pub record SameCollection (o o' : Outcome) : Type 0 where
  pub heap : o.heap ≡ o'.heap
  pub stack : o.stack ≡ o'.stack
  pub kept : o.answer.kept ≡ o'.answer.kept
  pub rescans : o.answer.rescans ≡ o'.answer.rescans
  pub change : o.answer.change ≡ o'.answer.change

heaps : (h g : Heap) → h.pool ≡ g.pool → h.entries ≡ g.entries → h ≡ g
heaps h g p e = ap (λ (x : List ℕ). record { pool = x; entries = h.entries }) p ∙ ap (λ (x : List ℕ). record { pool = g.pool; entries = x }) e

pub collected_one : {base : ℕ} {h : Heap} {roots lent : List ℕ} {o o' : Outcome} → Collected base h roots lent o → Collected base h roots lent o' → SameCollection o o'
collected_one {h = h} {o = o} {o' = o'} c d =
    let e : o.heap.entries ≡ o'.heap.entries = keeps_one c.table d.table in
    record {
      heap = heaps o.heap o'.heap (c.pool ∙ sym d.pool) e;
      stack = c.stack ∙ sym d.stack;
      kept = rw (c.kept, d.kept, e);
      rescans = c.passes ∙ sym d.passes;
      change = rw (c.change, d.change, e);
    }
