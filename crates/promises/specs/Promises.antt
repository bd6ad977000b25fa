-- What follows from the definitions of the calls, in plain sentences: for every heap and every argument.
-- Assumes nothing.
use Rattle.std.specs.Prelude.{◌≡◌, ◌≢◌, ◌↔◌, ◌⊎◌, List, [], ℕ, suc, ◌+◌, ◌*◌, ◌-◌, ◌/◌, ◌%◌, ◌^◌, ◌≤◌, ◌<◌, pos, neg_ℤ, ◌+ℤ◌, nat_abs, length, get_or, take}
use Rattle.std.proofs.Math.Option.{some}
use Rattle.std.proofs.Math.IntN.{sub_ℕ}
use Rattle.rules.specs.Words.{number, bytes_of, words_of}
use Rattle.rules.specs.Entries.{FREE, HEAD, TAIL}
use Rattle.rules.specs.Tables.{entry_at, block_count, used, objects}
use Rattle.rules.specs.Pointers.{target_of, leads_to}
use Rattle.laws.specs.Meaning.{Points, Leads, Aligned, Lowest, Longest, Passed, Accepted}
use Rattle.rules.specs.Outcomes.{Heap, Outcome, only_refusal, loaded}
use Rattle.rules.specs.Forms.{Form}
use Rattle.laws.specs.Faithful.{Faithful}
use Rattle.rules.specs.Memory.{Memory, heap_in}
use Rattle.rules.specs.Reach.{Reachable}
use Rattle.rules.specs.Calls.{blocks_for, init, allocate, free, reallocate, collect, survey, load, store, write_image, open_image}
use Rattle.rules.specs.Runs.{Call, step}
use Rattle.promises.specs.Conditions.{First, RoomAfter, NoFit, NoWay, of_init, of_allocate, of_free, of_reallocate, of_collect, of_survey, of_word, image_length, of_write_image, base_in, table_count, file_entries, root_place, root_count, of_open_image}

-- ---- parts of a heap and of an outcome

-- block o is the head of an object
abbrev pub Object : Heap → ℕ → Type 0
Object h o = entry_at h.entries o ≡ HEAD

-- how many blocks the object has
abbrev pub blocks_of : Heap → ℕ → ℕ
blocks_of h o = block_count h.entries o

-- byte i of the pool
abbrev pub byte_at : Heap → ℕ → ℕ
byte_at h i = get_or h.pool i 0

-- block i is one of the b blocks from s on
abbrev pub Among : ℕ → ℕ → ℕ → Type 0
Among s b i = (s ≤ i) × (i < s + b)

-- byte i is one of their bytes
abbrev pub Within : ℕ → ℕ → ℕ → Type 0
Within s b i = (16 * s ≤ i) × (i < 16 * (s + b))

-- the object o is in both heaps, with the same blocks and the same bytes
pub record Same (before after : Heap) (o : ℕ) : Type 0 where
  pub head : Object after o
  pub blocks : blocks_of after o ≡ blocks_of before o
  pub bytes : (i : ℕ) → i < 16 * blocks_of before o → byte_at after (16 * o + i) ≡ byte_at before (16 * o + i)

-- ---- what each call does

-- a refused call: only the number is answered, and the heap is as before
pub record Refused (before : Heap) (r : Outcome) : Type 0 where
  pub answer : r.answer ≡ only_refusal r.answer.refusal
  pub heap : r.heap ≡ before
  -- and no byte of a buffer is written
  pub filled : r.filled ≡ []

-- the answered change is that of the used blocks, and lies from -4,096 to 4,096
pub record Counts (before : Heap) (r : Outcome) : Type 0 where
  pub sum : pos (used r.heap.entries) ≡ pos (used before.entries) +ℤ r.answer.change
  pub range : nat_abs r.answer.change ≤ 4096

-- an accepted init
pub record Initialised (base : ℕ) (before : Heap) (r : Outcome) : Type 0 where
  -- every block is FREE
  pub free : (i : ℕ) → entry_at r.heap.entries i ≡ FREE
  pub none_used : used r.heap.entries ≡ 0
  -- no byte is changed
  pub bytes : r.heap.pool ≡ before.pool
  -- the shape is good and the table well-formed
  pub good : Passed base r.heap

-- an accepted allocate of b blocks
pub record Allocated (base : ℕ) (before : Heap) (b : ℕ) (r : Outcome) : Type 0 where
  -- it answers the lowest block at which b blocks could start: aligned, and FREE
  pub start : Lowest before.entries b (some r.answer.block)
  -- so four blocks or more start at a block divisible by four
  pub aligned : Aligned b r.answer.block
  -- there stand a HEAD and b - 1 TAILs
  pub head : Object r.heap r.answer.block
  pub tail : (j : ℕ) → 0 < j → j < b → entry_at r.heap.entries (r.answer.block + j) ≡ TAIL
  -- and no more: an object of b blocks
  pub blocks : blocks_of r.heap r.answer.block ≡ b
  -- all its bytes are zero
  pub zero : (i : ℕ) → i < 16 * b → byte_at r.heap (16 * r.answer.block + i) ≡ 0
  -- every other entry and every other byte is as before
  pub entries : (i : ℕ) → ¬ Among r.answer.block b i → entry_at r.heap.entries i ≡ entry_at before.entries i
  pub bytes : (i : ℕ) → ¬ Within r.answer.block b i → byte_at r.heap i ≡ byte_at before i
  -- and so is every other object
  pub others : (o : ℕ) → Object before o → Same before r.heap o
  -- b more blocks are used
  pub change : r.answer.change ≡ pos b
  pub counts : Counts before r
  -- the shape is good and the table well-formed
  pub good : Passed base r.heap

-- an accepted free of the object k
pub record Freed (base : ℕ) (before : Heap) (k : ℕ) (r : Outcome) : Type 0 where
  -- its blocks are FREE
  pub free : (i : ℕ) → Among k (blocks_of before k) i → entry_at r.heap.entries i ≡ FREE
  -- every other entry and every byte is as before
  pub entries : (i : ℕ) → ¬ Among k (blocks_of before k) i → entry_at r.heap.entries i ≡ entry_at before.entries i
  pub bytes : r.heap.pool ≡ before.pool
  -- and so is every other object
  pub others : (o : ℕ) → Object before o → o ≢ k → Same before r.heap o
  -- as many blocks as it had are no longer used
  pub change : r.answer.change ≡ neg_ℤ (pos (blocks_of before k))
  pub counts : Counts before r
  -- the shape is good and the table well-formed
  pub good : Passed base r.heap
  -- an allocate of as many blocks, or of fewer, then finds room, if they are aligned at block k: it is divisible by four, or they are fewer than four
  pub room : (bytes : ℕ) → 0 < bytes → blocks_for bytes ≤ blocks_of before k → Aligned (blocks_for bytes) k → Accepted (allocate base r.heap bytes)

-- an accepted reallocate of the object k to b' blocks
pub record Reallocated (base : ℕ) (before : Heap) (k b' : ℕ) (r : Outcome) : Type 0 where
  -- to as many blocks as it has: nothing changes
  pub equal : b' ≡ blocks_of before k → r.heap ≡ before
  -- to no more, or where b' blocks are aligned at k and those directly after it are FREE, it stays where it is
  pub in_place : (b' ≤ blocks_of before k) ⊎ RoomAfter before k b' → r.answer.block ≡ k
  -- else it moves to the lowest block at which b' blocks could start, with the old object still held
  pub elsewhere : blocks_of before k < b' → ¬ RoomAfter before k b' → Lowest before.entries b' (some r.answer.block)
  -- so with more blocks than before, four or more of them start at a block divisible by four
  pub aligned : blocks_of before k < b' → Aligned b' r.answer.block
  -- there it has b' blocks
  pub head : Object r.heap r.answer.block
  pub blocks : blocks_of r.heap r.answer.block ≡ b'
  -- with the old bytes, as far as both reach
  pub kept : (i : ℕ) → i < 16 * blocks_of before k → i < 16 * b' → byte_at r.heap (16 * r.answer.block + i) ≡ byte_at before (16 * k + i)
  -- and zeros after them
  pub zero : (i : ℕ) → 16 * blocks_of before k ≤ i → i < 16 * b' → byte_at r.heap (16 * r.answer.block + i) ≡ 0
  -- the blocks that it had and no longer has are FREE
  pub free : (i : ℕ) → Among k (blocks_of before k) i → ¬ Among r.answer.block b' i → entry_at r.heap.entries i ≡ FREE
  -- every other entry and every other byte is as before
  pub entries : (i : ℕ) → ¬ Among k (blocks_of before k) i → ¬ Among r.answer.block b' i → entry_at r.heap.entries i ≡ entry_at before.entries i
  pub bytes : (i : ℕ) → ¬ Within r.answer.block b' i → byte_at r.heap i ≡ byte_at before i
  -- and so is every other object
  pub others : (o : ℕ) → Object before o → o ≢ k → Same before r.heap o
  -- the used blocks change by the difference of its blocks after and before
  pub change : r.answer.change ≡ sub_ℕ b' (blocks_of before k)
  pub counts : Counts before r
  -- the shape is good and the table well-formed
  pub good : Passed base r.heap

-- an accepted store of w to word i of the object k
pub record Stored (base : ℕ) (before : Heap) (k i w : ℕ) (r : Outcome) : Type 0 where
  -- the table is as before
  pub table : r.heap.entries ≡ before.entries
  -- the four bytes are those of w, the lowest first
  pub four : (j : ℕ) → j < 4 → byte_at r.heap (16 * k + 4 * i + j) ≡ get_or (bytes_of w) j 0
  -- every other byte is as before
  pub bytes : (j : ℕ) → ¬ ((16 * k + 4 * i ≤ j) × (j < 16 * k + 4 * i + 4)) → byte_at r.heap j ≡ byte_at before j
  -- and so is every other object
  pub others : (o : ℕ) → Object before o → o ≢ k → Same before r.heap o
  -- a load of that word gives what was stored
  pub back : w < 2 ^ 32 → (load base r.heap k i).answer ≡ loaded w
  -- a load of any other word, of this object or of another, answers as before
  pub other : (o j : ℕ) → (o ≢ k) ⊎ (j ≢ i) → (load base r.heap o j).answer ≡ (load base before o j).answer
  -- the shape is good and the table well-formed
  pub good : Passed base r.heap

-- an accepted load of word i of the object k
pub record Loaded (h : Heap) (k i : ℕ) (r : Outcome) : Type 0 where
  -- it answers the number in four bytes, the first of them the lowest
  pub value : r.answer.value
      ≡ number (byte_at h (16 * k + 4 * i)) (byte_at h (16 * k + 4 * i + 1)) (byte_at h (16 * k + 4 * i + 2)) (byte_at h (16 * k + 4 * i + 3))
  -- and nothing else
  pub only : r.answer ≡ loaded r.answer.value

-- an accepted survey
pub record Surveyed (h : Heap) (r : Outcome) : Type 0 where
  -- it counts the used blocks and the objects
  pub used : r.answer.used ≡ used h.entries
  pub objects : r.answer.objects ≡ objects h.entries
  -- and finds the longest run of FREE blocks: there is one so long, and none is longer
  pub longest : Longest h.entries r.answer.longest

-- an accepted collect from the roots; what it keeps is said in full by Collected of the crate keeping
pub record Reclaimed (base : ℕ) (before : Heap) (roots : List ℕ) (r : Outcome) : Type 0 where
  -- no byte is changed
  pub bytes : r.heap.pool ≡ before.pool
  -- every reachable object is as before
  pub others : (o : ℕ) → Reachable base before (words_of roots) o → Same before r.heap o
  -- so many blocks are no longer used, and no block is newly used
  pub change : r.answer.change ≡ neg_ℤ (pos (used before.entries - used r.heap.entries))
  pub fewer : used r.heap.entries ≤ used before.entries
  pub counts : Counts before r
  -- the shape is good and the table well-formed
  pub good : Passed base r.heap

-- the two bytes at i are those of the count n, the lowest first
abbrev pub Count : List ℕ → ℕ → ℕ → Type 0
Count bytes i n = (get_or bytes i 0 ≡ n % 256) × (get_or bytes (suc i) 0 ≡ n / 256)

-- the byte of the blocks 4i to 4i + 3: their entries, two bits each, the first in the lowest
abbrev pub packed_byte : Heap → ℕ → ℕ
packed_byte h i = entry_at h.entries (4 * i) + 4 * entry_at h.entries (4 * i + 1) + 16 * entry_at h.entries (4 * i + 2) + 64 * entry_at h.entries (4 * i + 3)

-- an image that was written: where each byte lies. There are t bytes of the table and u used blocks
pub record Imaged (base : ℕ) (before : Heap) (roots : List ℕ) (t u : ℕ) (r : Outcome) : Type 0 where
  -- it answers the image's length
  pub answered : r.answer.length ≡ length r.filled
  pub long : length r.filled ≡ image_length before roots
  -- a count of 1, and the base's four bytes, the lowest first
  pub base_count : Count r.filled 0 1
  pub base_bytes : (j : ℕ) → j < 4 → get_or r.filled (2 + j) 0 ≡ get_or (bytes_of base) j 0
  -- the count of the table's bytes, and these
  pub table_count_is : Count r.filled 6 t
  pub table_bytes_are : (i : ℕ) → i < t → get_or r.filled (8 + i) 0 ≡ packed_byte before i
  -- the count of the used blocks, and the 16 bytes of each, behind those of the used blocks before it
  pub block_count_is : Count r.filled (8 + t) u
  pub block_bytes : (k : ℕ) → entry_at before.entries k ≢ FREE → (j : ℕ) → j < 16
      → get_or r.filled (10 + t + 16 * used (take k before.entries) + j) 0 ≡ byte_at before (16 * k + j)
  -- the count of the roots, and their bytes as they were handed in
  pub root_count_is : Count r.filled (10 + t + 16 * u) (length roots / 4)
  pub root_bytes : (i : ℕ) → i < length roots → get_or r.filled (12 + t + 16 * u + i) 0 ≡ get_or roots i 0

-- a file that was opened: what each of its bytes became
pub record Opened (image : List ℕ) (before : Heap) (r : Outcome) : Type 0 where
  -- it answers the base, and how many roots there are
  pub base : r.answer.base ≡ base_in image
  pub roots : r.answer.roots ≡ root_count image
  -- the entries are those of the file's table
  pub entries : r.heap.entries ≡ file_entries image
  -- each used block has its 16 bytes, which are behind those of the used blocks before it
  pub used_bytes : (k : ℕ) → entry_at (file_entries image) k ≢ FREE → (j : ℕ) → j < 16
      → byte_at r.heap (16 * k + j) ≡ get_or image (10 + table_count image + 16 * used (take k (file_entries image)) + j) 0
  -- every other byte is zero
  pub free_bytes : (k : ℕ) → entry_at (file_entries image) k ≡ FREE → (j : ℕ) → j < 16 → byte_at r.heap (16 * k + j) ≡ 0
  -- the roots are written as they are
  pub long : length r.filled ≡ 4 * root_count image
  pub root_bytes : (i : ℕ) → i < 4 * root_count image → get_or r.filled i 0 ≡ get_or image (root_place image + 2 + i) 0
  -- there are as many blocks as before, the shape is good and the table well-formed
  pub blocks : length r.heap.entries ≡ length before.entries
  pub good : Passed r.answer.base r.heap

-- ---- the promises, for every heap and every argument

pub record Promises : Type 0 where
  -- the target of a word is the block whose address it is
  pub target_points : (base n w : ℕ) → Points base n w (target_of base n w)
  -- a word leads to the object that has a block with that address, and to none if no block of an object has it
  pub leads_says : (base : ℕ) (es : List ℕ) (w : ℕ) → Leads base es w (leads_to base es w)
  -- the refusal number of each call is that of the first of its conditions that holds
  pub init_refusal : (base : ℕ) (h : Heap) → First (of_init base h) (init base h).answer.refusal
  pub allocate_refusal : (base : ℕ) (h : Heap) (bytes : ℕ) → First (of_allocate base h bytes) (allocate base h bytes).answer.refusal
  pub free_refusal : (base : ℕ) (h : Heap) (k : ℕ) → First (of_free base h k) (free base h k).answer.refusal
  pub reallocate_refusal : (base : ℕ) (h : Heap) (k bytes : ℕ) → First (of_reallocate base h k bytes) (reallocate base h k bytes).answer.refusal
  pub collect_refusal : (base : ℕ) (h : Heap) (roots stack : List ℕ) → First (of_collect base h roots stack) (collect base h roots stack).answer.refusal
  pub survey_refusal : (base : ℕ) (h : Heap) → First (of_survey base h) (survey base h).answer.refusal
  pub load_refusal : (base : ℕ) (h : Heap) (k i : ℕ) → First (of_word base h k i) (load base h k i).answer.refusal
  pub store_refusal : (base : ℕ) (h : Heap) (k i w : ℕ) → First (of_word base h k i) (store base h k i w).answer.refusal
  pub image_refusal : (base : ℕ) (h : Heap) (roots : List ℕ) (room : ℕ) → First (of_write_image base h roots room) (write_image base h roots room).answer.refusal
  pub open_refusal : (h : Heap) (image : List ℕ) (room : ℕ) → First (of_open_image h image room) (open_image h image room).answer.refusal
  -- the blocks of a request are the fewest that hold its bytes
  pub rounded_up : (bytes n : ℕ) → (blocks_for bytes ≤ n) ↔ (bytes ≤ 16 * n)
  -- allocate answers 9 exactly if nothing else is refused and its blocks may start nowhere: no run of FREE blocks is long enough from an aligned block on
  pub allocate_no_room : (base : ℕ) (h : Heap) (bytes : ℕ)
      → ((allocate base h bytes).answer.refusal ≡ 9) ↔ (Passed base h × (0 < bytes) × NoFit h (blocks_for bytes))
  -- reallocate answers 9 exactly if nothing else is refused, the object may not grow where it is, and it has no room elsewhere
  pub reallocate_no_room : (base : ℕ) (h : Heap) (k bytes : ℕ)
      → ((reallocate base h k bytes).answer.refusal ≡ 9) ↔ (Passed base h × (0 < bytes) × Object h k × NoWay h k (blocks_for bytes))
  -- so a request larger than the pool is 9
  pub allocate_larger : (base : ℕ) (h : Heap) (bytes : ℕ) → Passed base h → length h.pool < bytes → (allocate base h bytes).answer.refusal ≡ 9
  pub reallocate_larger : (base : ℕ) (h : Heap) (k bytes : ℕ) → Passed base h → Object h k → length h.pool < bytes
      → (reallocate base h k bytes).answer.refusal ≡ 9
  -- a call that is refused does nothing
  pub refused : (c : Call) (stack : List ℕ) (h : Heap) → ¬ Accepted (step c stack h) → Refused h (step c stack h)
  pub refused_stack : (base : ℕ) (h : Heap) (roots stack : List ℕ) → ¬ Accepted (collect base h roots stack) → (collect base h roots stack).stack ≡ stack
  -- a call that is accepted does what its record says
  pub initialised : (base : ℕ) (h : Heap) → Accepted (init base h) → Initialised base h (init base h)
  pub allocated : (base : ℕ) (h : Heap) (bytes : ℕ) → Accepted (allocate base h bytes) → Allocated base h (blocks_for bytes) (allocate base h bytes)
  pub freed : (base : ℕ) (h : Heap) (k : ℕ) → Accepted (free base h k) → Freed base h k (free base h k)
  pub reallocated : (base : ℕ) (h : Heap) (k bytes : ℕ) → Accepted (reallocate base h k bytes)
      → Reallocated base h k (blocks_for bytes) (reallocate base h k bytes)
  pub read : (base : ℕ) (h : Heap) (k i : ℕ) → Accepted (load base h k i) → Loaded h k i (load base h k i)
  pub stored : (base : ℕ) (h : Heap) (k i w : ℕ) → Accepted (store base h k i w) → Stored base h k i w (store base h k i w)
  pub surveyed : (base : ℕ) (h : Heap) → Accepted (survey base h) → Surveyed h (survey base h)
  pub reclaimed : (f : Form) → Faithful f → (base : ℕ) (m : Memory) (roots stack : List ℕ) → Accepted (collect base (heap_in f m) roots stack)
      → Reclaimed base (heap_in f m) roots (collect base (heap_in f m) roots stack)
  pub imaged : (base : ℕ) (h : Heap) (roots : List ℕ) (room : ℕ) → Accepted (write_image base h roots room)
      → Imaged base h roots (length h.entries / 4) (used h.entries) (write_image base h roots room)
  pub opened : (h : Heap) (image : List ℕ) (room : ℕ) → Accepted (open_image h image room) → Opened image h (open_image h image room)
  -- survey, load and an image leave the heap as it is
  pub survey_leaves : (base : ℕ) (h : Heap) → (survey base h).heap ≡ h
  pub load_leaves : (base : ℕ) (h : Heap) (k i : ℕ) → (load base h k i).heap ≡ h
  pub image_leaves : (base : ℕ) (h : Heap) (roots : List ℕ) (room : ℕ) → (write_image base h roots room).heap ≡ h
