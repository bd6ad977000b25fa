-- What is said of each call leaves one outcome: two that both satisfy the record of a call have the same answer, entries and bytes.
-- So a sentence that said less would not do. What no record speaks of, the size of the heap and the parts that a call does not answer, is said last.
-- Assumes nothing.
use Rattle.std.specs.Prelude.{◌≡◌, ◌≢◌, List, [], ℕ, ◌/◌, length}
use Rattle.rules.specs.Tables.{entry_at, used}
use Rattle.rules.specs.Outcomes.{Heap, Answer, Outcome, placement, collection, findings, reading, writing, opening, only_refusal}
use Rattle.rules.specs.Runs.{Call, Init, Allocate, Free, Reallocate, Collect, Survey, Load, Store, WriteImage, OpenImage, step}
use Rattle.keeping.specs.Keeping.{Collected}
use Rattle.promises.specs.Conditions.{Condition, First}
use Rattle.promises.specs.Promises.{byte_at, Refused, Initialised, Allocated, Freed, Reallocated, Stored, Loaded, Surveyed, Imaged, Opened, Reclaimed}

-- two heaps have the same entry at every block and the same byte at every place
pub record SameHeap (h h' : Heap) : Type 0 where
  pub entries : (i : ℕ) → entry_at h.entries i ≡ entry_at h'.entries i
  pub bytes : (i : ℕ) → byte_at h i ≡ byte_at h' i

-- two outcomes answer the same change and leave such heaps
pub record SameEffect (r r' : Outcome) : Type 0 where
  pub change : r.answer.change ≡ r'.answer.change
  pub heap : SameHeap r.heap r'.heap

-- and answer the same block
pub record SamePlace (r r' : Outcome) : Type 0 where
  pub block : r.answer.block ≡ r'.answer.block
  pub effect : SameEffect r r'

-- two surveys find the same
pub record SameFindings (r r' : Outcome) : Type 0 where
  pub used : r.answer.used ≡ r'.answer.used
  pub objects : r.answer.objects ≡ r'.answer.objects
  pub longest : r.answer.longest ≡ r'.answer.longest

-- two openings answer the same, leave such heaps and write the same roots
pub record SameOpening (r r' : Outcome) : Type 0 where
  pub base : r.answer.base ≡ r'.answer.base
  pub roots : r.answer.roots ≡ r'.answer.roots
  pub left : SameHeap r.heap r'.heap
  pub filled : r.filled ≡ r'.filled

pub record Determined : Type 1 where
  -- one number is that of the first condition that holds
  pub number : (cs : List Condition) (n n' : ℕ) → First cs n → First cs n' → n ≡ n'
  -- a refused call with that number has one answer and leaves one heap
  pub refused : (h : Heap) (r r' : Outcome) → Refused h r → Refused h r' → r.answer.refusal ≡ r'.answer.refusal
      → (r.answer ≡ r'.answer) × (r.heap ≡ r'.heap) × (r.filled ≡ r'.filled)
  -- an accepted call has one outcome
  pub initialised : (base : ℕ) (h : Heap) (r r' : Outcome) → Initialised base h r → Initialised base h r' → SameHeap r.heap r'.heap
  pub allocated : (base : ℕ) (h : Heap) (b : ℕ) (r r' : Outcome) → Allocated base h b r → Allocated base h b r' → SamePlace r r'
  pub freed : (base : ℕ) (h : Heap) (k : ℕ) (r r' : Outcome) → Freed base h k r → Freed base h k r' → SameEffect r r'
  pub reallocated : (base : ℕ) (h : Heap) (k b' : ℕ) (r r' : Outcome) → Reallocated base h k b' r → Reallocated base h k b' r' → SamePlace r r'
  pub stored : (base : ℕ) (h : Heap) (k i w : ℕ) (r r' : Outcome) → Stored base h k i w r → Stored base h k i w r' → SameHeap r.heap r'.heap
  pub loaded : (h : Heap) (k i : ℕ) (r r' : Outcome) → Loaded h k i r → Loaded h k i r' → r.answer ≡ r'.answer
  pub surveyed : (h : Heap) (r r' : Outcome) → Surveyed h r → Surveyed h r' → SameFindings r r'
  pub imaged : (base : ℕ) (h : Heap) (roots : List ℕ) (r r' : Outcome) → let t = length h.entries / 4 in let u = used h.entries in
      Imaged base h roots t u r → Imaged base h roots t u r' → (r.answer.length ≡ r'.answer.length) × (r.filled ≡ r'.filled)
  pub opened : (image : List ℕ) (h : Heap) (r r' : Outcome) → Opened image h r → Opened image h r' → SameOpening r r'
  -- of a collection the table is left as Collected of the crate keeping says, whose other parts its own law determines (collected_one)
  pub reclaimed : (base : ℕ) (h : Heap) (roots stack : List ℕ) (r r' : Outcome) → Reclaimed base h roots r → Reclaimed base h roots r'
      → Collected base h roots stack r → Collected base h roots stack r' → SameEffect r r'

-- ---- what the records leave open, for every call

-- as many blocks and as many bytes as there were
pub record Sized (before : Heap) (r : Outcome) : Type 0 where
  pub blocks : length r.heap.entries ≡ length before.entries
  pub bytes : length r.heap.pool ≡ length before.pool

-- the parts that a call answers, and zero for every other
unfoldable pub parts_of : Call → Answer → Answer
parts_of (Init base) a = only_refusal a.refusal
parts_of (Allocate base bytes) a = placement a.refusal a.block a.change
parts_of (Free base k) a = placement a.refusal 0 a.change
parts_of (Reallocate base k bytes) a = placement a.refusal a.block a.change
parts_of (Collect base roots) a = collection a.refusal a.kept a.rescans a.change
parts_of (Survey base) a = findings a.refusal a.used a.objects a.longest
parts_of (Load base k i) a = reading a.refusal a.value
parts_of (Store base k i w) a = only_refusal a.refusal
parts_of (WriteImage base roots room) a = writing a.refusal a.length
parts_of (OpenImage image room) a = opening a.refusal a.base a.roots

pub record Whole : Type 0 where
  -- no call changes the number of blocks or of bytes
  pub sized : (c : Call) (stack : List ℕ) (h : Heap) → Sized h (step c stack h)
  -- two heaps of one size with the same entries and bytes are one heap
  pub one_heap : (h : Heap) (r r' : Outcome) → Sized h r → Sized h r' → SameHeap r.heap r'.heap → r.heap ≡ r'.heap
  -- a part that a call does not answer is zero
  pub only_parts : (c : Call) (stack : List ℕ) (h : Heap) → (step c stack h).answer ≡ parts_of c (step c stack h).answer
  -- and no other calls than those with an image write into a buffer
  pub only_filled : (c : Call) (stack : List ℕ) (h : Heap) → ((base : ℕ) (roots : List ℕ) (room : ℕ) → c ≢ WriteImage base roots room)
      → ((image : List ℕ) (room : ℕ) → c ≢ OpenImage image room) → (step c stack h).filled ≡ []
