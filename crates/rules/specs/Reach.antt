-- Reachability: a finite chain of words from a root. It does not mention the marking.
-- Assumes nothing.
use Rattle.std.specs.Prelude.{◌≡◌, ℕ, ◌+◌, ◌*◌, ◌<◌}
use mathlib.Core.List.{List, Memᴰ}
use Rattle.std.proofs.Math.Option.{some}
use Rattle.rules.specs.Words.{word_at}
use Rattle.rules.specs.Tables.{block_count}
use Rattle.rules.specs.Pointers.{leads_to}
use Rattle.rules.specs.Outcomes.{Heap}

-- some word of the object with head o leads to the object with head k
pub record Edge (base : ℕ) (h : Heap) (o k : ℕ) : Type 0 where
  pub word : ℕ
  pub inside : word < 4 * block_count h.entries o
  pub leads : leads_to base h.entries (word_at h.pool (4 * o + word)) ≡ some k

-- the object with head k is reachable: a root leads to it, or a word of a reachable object
pub data Reachable (base : ℕ) (h : Heap) (roots : List ℕ) : ℕ → Type 0 where
  root : {w k : ℕ} → Memᴰ w roots → leads_to base h.entries w ≡ some k → Reachable base h roots k
  edge : {o k : ℕ} → Reachable base h roots o → Edge base h o k → Reachable base h roots k
