-- What a collection does, without saying how: the statements that the theorems of this crate show of the collection cycle.
-- Assumes nothing.
use Rattle.std.specs.Prelude.{◌≡◌, ◌≢◌, true, List, ℕ, ◌+◌, ◌*◌, ◌-◌, ◌/◌, ◌%◌, ◌≤◌, ◌<◌, length, get_or, replicate}
use Rattle.rules.specs.Words.{word_at, words_of}
use Rattle.rules.specs.Entries.{FREE, HEAD}
use Rattle.rules.specs.Tables.{entry_at, well_formed, block_count, objects}
use Rattle.rules.specs.Outcomes.{Heap, Answer, Outcome, change_from}
use Rattle.rules.specs.Reach.{Reachable}
use Rattle.rules.specs.Marking.{Context, Marked, mark_all, sweep}
use Rattle.rules.specs.Calls.{collect}
use Rattle.laws.specs.Meaning.{Accepted}
use Rattle.rules.specs.Forms.{Form}
use Rattle.laws.specs.Faithful.{Faithful}
use Rattle.rules.specs.Memory.{Memory, heap_in}

-- what the marking of a heap reads, with a mark stack that has room for so many entries
abbrev pub context_of : ℕ → Heap → ℕ → Context
context_of base h room = record { base = base; pool = h.pool; room = room }

-- the marking of a heap from the roots
unfoldable pub marking : ℕ → Heap → List ℕ → ℕ → Marked
marking base h roots room = mark_all (context_of base h room) roots h.entries

-- the entries that the collection leaves
unfoldable pub collected : ℕ → Heap → List ℕ → ℕ → List ℕ
collected base h roots room = sweep (marking base h roots room).last.entries

-- entries that bytes give and the rules accept: well-formed, and each one of the four (a list may hold other numbers, a table cannot)
pub record Proper (es : List ℕ) : Type 0 where
  pub well : well_formed es ≡ true
  pub small : (k : ℕ) → entry_at es k < 4

-- block k is a block of the object with head o
pub record Owns (es : List ℕ) (o k : ℕ) : Type 0 where
  pub head : entry_at es o ≡ HEAD
  pub from : o ≤ k
  pub to : k < o + block_count es o

-- block k is a block of a reachable object
pub record Held (base : ℕ) (h : Heap) (roots : List ℕ) (k : ℕ) : Type 0 where
  pub object : ℕ
  pub reachable : Reachable base h roots object
  pub owns : Owns h.entries object k

-- The entries `after` are what a collection of the heap from the roots has to leave. This says each of them.
pub record Keeps (base : ℕ) (h : Heap) (roots after : List ℕ) : Type 0 where
  -- there are as many blocks as before
  pub long : length after ≡ length h.entries
  -- a reachable object is kept
  pub kept : (o : ℕ) → Reachable base h roots o → entry_at after o ≡ HEAD
  -- and no other
  pub only : (o : ℕ) → entry_at after o ≡ HEAD → Reachable base h roots o
  -- a kept object has as many blocks as it had
  pub count : (o : ℕ) → Reachable base h roots o → block_count after o ≡ block_count h.entries o
  -- and they are as they were
  pub whole : (k : ℕ) → Held base h roots k → entry_at after k ≡ entry_at h.entries k
  -- every block of no kept object is FREE
  pub rest : (k : ℕ) → entry_at after k ≢ FREE → Held base h roots k
  -- no MARK is left, and the table is well-formed
  pub proper : Proper after

-- The number of rescans of a collection that keeps so many objects, with a mark stack that has room for so many entries.
pub record FewRescans (kept room rescans : ℕ) : Type 0 where
  -- it is at most the kept objects less one, and 0 if none are kept
  pub few : rescans ≤ kept - 1
  -- it is 0 whenever the stack has at least that many entries
  pub none : kept - 1 ≤ room → rescans ≡ 0

-- What an accepted collection answers and leaves. The roots and the lent mark stack are bytes.
pub record Collected (base : ℕ) (h : Heap) (roots lent : List ℕ) (o : Outcome) : Type 0 where
  -- the pool is not written
  pub pool : o.heap.pool ≡ h.pool
  -- the table is left as it has to be
  pub table : Keeps base h (words_of roots) o.heap.entries
  -- the kept objects are counted
  pub kept : o.answer.kept ≡ objects o.heap.entries
  -- and the rescans of the cycle
  pub passes : o.answer.rescans ≡ (marking base h (words_of roots) (length lent / 4)).rescans
  -- which are few
  pub few : FewRescans o.answer.kept (length lent / 4) o.answer.rescans
  -- the change in used blocks is answered
  pub change : o.answer.change ≡ change_from h.entries o.heap.entries
  -- every mark stack entry is zero
  pub stack : o.stack ≡ replicate (length lent) 0

-- an answer with r rescans
abbrev pub with_rescans : ℕ → Answer → Answer
with_rescans r a =
    record { refusal = a.refusal; block = a.block; change = a.change; kept = a.kept; rescans = r; used = a.used; objects = a.objects; longest = a.longest; value = a.value; length = a.length; base = a.base; roots = a.roots }

-- an answer but for the number of rescans
abbrev pub but_rescans : Answer → Answer
but_rescans a = with_rescans 0 a

-- Exact keeping: every accepted collection of the heap in lent memory, for every form of the table, from any roots and with any mark stack, answers and leaves that.
abbrev pub KeepsExactly : Type 0
KeepsExactly =
    (f : Form) → Faithful f → (base : ℕ) (m : Memory) (roots stack : List ℕ) → Accepted (collect base (heap_in f m) roots stack)
    → Collected base (heap_in f m) roots stack (collect base (heap_in f m) roots stack)

-- The mark stack has no influence on what is kept: two collections, each with its own, leave the same heap, and answer the same but for the number of rescans.
abbrev pub AnyStack : Type 0
AnyStack =
    (f : Form) (base : ℕ) (m : Memory) (roots stack stack' : List ℕ) →
    let o : Outcome = collect base (heap_in f m) roots stack in
    let o' : Outcome = collect base (heap_in f m) roots stack' in
    Accepted o → Accepted o' → (o.heap ≡ o'.heap) × (but_rescans o.answer ≡ but_rescans o'.answer)

-- Two heaps that differ in bytes of unreachable objects and of free blocks alone: the same table, and the same bytes in each object that is reachable in the first.
pub record Agree (base : ℕ) (roots : List ℕ) (h g : Heap) : Type 0 where
  pub table : h.entries ≡ g.entries
  pub bytes : (o : ℕ) → Reachable base h roots o → (i : ℕ) → i < 16 * block_count h.entries o → get_or h.pool (16 * o + i) 0 ≡ get_or g.pool (16 * o + i) 0

-- the same, in words
pub record AgreeInWords (base : ℕ) (roots : List ℕ) (h g : Heap) : Type 0 where
  pub table : h.entries ≡ g.entries
  pub words : (o : ℕ) → Reachable base h roots o → (i : ℕ) → i < 4 * block_count h.entries o → word_at h.pool (4 * o + i) ≡ word_at g.pool (4 * o + i)

-- ---- what a collection asks of the lists that are lent to it

-- a root list of 0 to 4,096 whole words
pub record GoodRoots (roots : List ℕ) : Type 0 where
  pub whole : length roots % 4 ≡ 0
  pub few : length roots / 4 ≤ 4096

-- a mark stack of 0 to 64 whole entries
pub record GoodStack (stack : List ℕ) : Type 0 where
  pub whole : length stack % 4 ≡ 0
  pub short : length stack / 4 ≤ 64
