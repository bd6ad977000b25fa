-- What is not reachable is not seen: what Noninterference comes to where the mark stacks are equally long, said of what a caller sees. The responses are equal lists, buffers and all that is lent but the pools
-- are equal, and so are the words of allocated blocks.
-- Assumes nothing.
use Rattle.std.specs.Prelude.{◌≡◌, ◌≢◌, List, [], ◌∷◌, ℕ, ◌+◌, ◌*◌, ◌<◌, length}
use Rattle.rules.specs.Words.{word_at, words_of}
use Rattle.rules.specs.Entries.{FREE}
use Rattle.rules.specs.Tables.{entry_at}
use Rattle.rules.specs.Planes.{entries_in, planes}
use Rattle.rules.specs.Runs.{Collect}
use Rattle.rules.specs.Memory.{heap_in}
use Rattle.rules.specs.Lent.{Lent}
use Rattle.keeping.specs.Keeping.{Agree}
use Rattle.services.specs.Services.{HeapCall, refusal_of, Asked, asked, served_to, responses, buffers, lent_after}

-- the services without their mark stacks: each with its t
unfoldable pub without_stacks : List Asked → List Asked
without_stacks [] = []
without_stacks (x ∷ xs) = asked x.t x.service [] ∷ without_stacks xs

-- the lengths of the mark stacks
unfoldable pub stack_lengths : List Asked → List ℕ
stack_lengths [] = []
stack_lengths (x ∷ xs) = length x.stack ∷ stack_lengths xs

-- a caller sees the same of heaps of 4t blocks, after the services xs on l and the services ys on l'
pub record SeenAlike (t : ℕ) (xs ys : List Asked) (l l' : Lent) : Type 0 where
  -- every response, rescans included
  pub lists : responses xs l ≡ responses ys l'
  -- what the services wrote into buffers
  pub filled : buffers xs l ≡ buffers ys l'
  -- every byte of the table, and what lies beside
  pub table : (lent_after xs l).memory.table ≡ (lent_after ys l').memory.table
  pub beside : (lent_after xs l).beside ≡ (lent_after ys l').beside
  -- each of the four words of an allocated block
  pub words : (k : ℕ) → entry_at (entries_in t (lent_after xs l).memory.table) k ≢ FREE → (i : ℕ) → i < 4
      → word_at (lent_after xs l).memory.pool (4 * k + i) ≡ word_at (lent_after ys l').memory.pool (4 * k + i)

abbrev pub Unseen : Type 0
Unseen =
    (t base : ℕ) (roots stack stack' : List ℕ) (l l' : Lent) (xs ys : List Asked) →
    let first : Asked = asked t (HeapCall (Collect base roots)) stack in
    let first' : Asked = asked t (HeapCall (Collect base roots)) stack' in
    -- one table, the same beside it, and two pools of one length, equal in every byte of the reachable objects
    l.memory.table ≡ l'.memory.table
    → l.beside ≡ l'.beside
    → length l.memory.pool ≡ length l'.memory.pool
    → Agree base (words_of roots) (heap_in (planes t) l.memory) (heap_in (planes t) l'.memory)
    -- the same services, each with the same t, and mark stacks of the same lengths, whatever these hold
    → without_stacks xs ≡ without_stacks ys
    → stack_lengths (first ∷ xs) ≡ stack_lengths (first' ∷ ys)
    -- the collection is accepted on the first, and so on the second
    → refusal_of (served_to first l).reply ≡ 0
    → SeenAlike t (first ∷ xs) (first' ∷ ys) l l'
