-- Noninterference: what is not reachable has no influence, as one statement about whole lists of services.
-- Two heaps have the same table, and pools that agree on the objects reachable from a root list. Both are collected from that list.
-- From then on no list of services, asked for alike on both, tells them apart: not by an answer, not by what is written into a buffer, not by a byte that is lent beside the pool, not by
-- a byte of an allocated block.
-- Assumes nothing.
use Rattle.std.specs.Prelude.{◌≡◌, ◌≢◌, List, [], ◌∷◌, ℕ, ◌+◌, ◌*◌, ◌<◌, length, get_or}
use Rattle.rules.specs.Words.{words_of}
use Rattle.rules.specs.Entries.{FREE}
use Rattle.rules.specs.Tables.{entry_at}
use Rattle.rules.specs.Planes.{entries_in, planes}
use Rattle.rules.specs.Outcomes.{Answer}
use Rattle.rules.specs.Runs.{Collect}
use Rattle.rules.specs.Memory.{heap_in}
use Rattle.rules.specs.Lent.{Lent}
use Rattle.keeping.specs.Keeping.{Agree, but_rescans}
use Rattle.unwinding.specs.Answers.{SameStacks}
use Rattle.services.specs.Services.{Service, HeapCall, Response, answered, refusal_of, Asked, asked, served_to, responses, buffers, lent_after}

-- ---- services that are asked for alike

-- two lists of services, asked for alike: one by one the same service with the same t and the same arguments; only the mark stacks are each heap's own
pub data Alike : List Asked → List Asked → Type 0 where
  done : Alike [] []
  next : (t : ℕ) (s : Service) {stack stack' : List ℕ} {xs ys : List Asked} → SameStacks stack stack' → Alike xs ys → Alike (asked t s stack ∷ xs) (asked t s stack' ∷ ys)

-- ---- what is then the same

-- the two responses to a service with these mark stacks
pub data SameResponse (stack stack' : List ℕ) : Service → Response → Response → Type 0 where
  -- every part is the same
  equal : {s : Service} {a b : Response} → a ≡ b → SameResponse stack stack' s a b
  -- or it is a collection that is accepted, the stacks are not equally long, and every part but the number of rescans is the same
  alike_but_rescans : {base : ℕ} {roots : List ℕ} {a b : Answer} → a.refusal ≡ 0 → length stack ≢ length stack' → but_rescans a ≡ but_rescans b
      → SameResponse stack stack' (HeapCall (Collect base roots)) (answered a) (answered b)

-- the responses to two lists of services: as many as services, and one by one the same
pub data SameResponses : List Asked → List Asked → List Response → List Response → Type 0 where
  done : SameResponses [] [] [] []
  next : {t : ℕ} {s : Service} {stack stack' : List ℕ} {xs ys : List Asked} {a b : Response} {ps qs : List Response} → SameResponse stack stack' s a b
      → SameResponses xs ys ps qs → SameResponses (asked t s stack ∷ xs) (asked t s stack' ∷ ys) (a ∷ ps) (b ∷ qs)

-- all that is lent is the same, but for the pools
pub record SameButPools (l l' : Lent) : Type 0 where
  pub table : l.memory.table ≡ l'.memory.table
  pub beside : l.beside ≡ l'.beside

-- the services xs on l and the services ys on l' do not tell the heaps of 4t blocks in them apart
pub record Indistinct (t : ℕ) (xs ys : List Asked) (l l' : Lent) : Type 0 where
  -- all responses are the same
  pub same_responses : SameResponses xs ys (responses xs l) (responses ys l')
  -- and so is what was written into buffers that were lent for it
  pub same_buffers : buffers xs l ≡ buffers ys l'
  -- after the list all that is lent but the pools is the same, byte by byte
  pub same_lent : SameButPools (lent_after xs l) (lent_after ys l')
  -- and so is every byte of an allocated block
  pub same_bytes : (k : ℕ) → entry_at (entries_in t (lent_after xs l).memory.table) k ≢ FREE → (j : ℕ) → j < 16
      → get_or (lent_after xs l).memory.pool (16 * k + j) 0 ≡ get_or (lent_after ys l').memory.pool (16 * k + j) 0

-- ---- the statement

abbrev pub Noninterference : Type 0
Noninterference =
    -- one t, one base and one root list, in bytes, for both heaps; for each heap what is lent, a mark stack for the collection, and the services that follow it
    (t base : ℕ) (roots stack stack' : List ℕ) (l l' : Lent) (xs ys : List Asked) →
    let first : Asked = asked t (HeapCall (Collect base roots)) stack in
    let first' : Asked = asked t (HeapCall (Collect base roots)) stack' in
    -- all that is lent but the pools is the same
    SameButPools l l' →
    -- the heaps are equal in every byte of the objects reachable from the root list, whatever their other bytes hold
    Agree base (words_of roots) (heap_in (planes t) l.memory) (heap_in (planes t) l'.memory)
    -- both are collected from that list, and then asked for services alike, with any t and on any bases, refused ones included
    → Alike (first ∷ xs) (first' ∷ ys)
    -- the collection is accepted on both. So the table is as it should be and well-formed, and each pool suits it
    → refusal_of (served_to first l).reply ≡ 0
    → refusal_of (served_to first' l').reply ≡ 0
    -- then the services, that collection among them, do not tell the heaps apart
    → Indistinct t (first ∷ xs) (first' ∷ ys) l l'
