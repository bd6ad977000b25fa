-- Statements of Bytes, Determined, Promises and Files, and one of keeping, used at variables: each law says one anew, from hypotheses that are written out. A statement that said less, or asked more, would not give it.
-- Those that are not here are used at variables in Observed, Elsewhere and Large, or in a crate above.
-- Assumes nothing.
use mathlib.Core.Path.{◌≡◌}
use mathlib.Core.Logic.{◌≢◌, ◌↔◌}
use mathlib.Core.Bool.{true}
use mathlib.Core.List.{List, [], ◌++◌}
use Prim.Native.Nat.{ℕ, ◌+◌, ◌*◌, ◌-◌, ◌/◌, ◌%◌, ◌≤◌, ◌<◌}
use lib.ListN.{length, get_or, drop, replicate}
use Rattle.rules.specs.Bits.{bit_of}
use Rattle.rules.specs.Entries.{FREE, HEAD}
use Rattle.rules.specs.Tables.{entry_at, well_formed, used}
use Rattle.rules.specs.Outcomes.{Heap, Outcome, opened_at}
use Rattle.rules.specs.Images.{image_of}
use Rattle.rules.specs.Files.{file_of, roots_of}
use Rattle.rules.specs.Calls.{allocate, reallocate, collect, open_image}
use Rattle.rules.specs.Runs.{Call, Init, Store, WriteImage, OpenImage, step}
use Rattle.rules.specs.Forms.{Form, packed}
use Rattle.laws.specs.Faithful.{Faithful}
use Rattle.rules.specs.Planes.{plane_bytes, entries_in, spare_free, planes}
use Rattle.rules.specs.Memory.{Memory, memory, heap_in, Sound, Result, fault_in, perform}
use Rattle.laws.specs.Meaning.{AllBytes, Shape}
use Rattle.keeping.specs.Keeping.{but_rescans, Collected}
use Rattle.keeping.proofs.Collections.{any_stack}
use Rattle.promises.specs.Conditions.{Condition, First}
use Rattle.promises.specs.Promises.{byte_at, Refused, Initialised, Allocated, Freed, Reallocated, Stored, Loaded, Surveyed, Imaged, Opened, Reclaimed}
use Rattle.promises.specs.Determined.{SameHeap, parts_of}
use Rattle.promises.proofs.Promised.{promises}
use Rattle.promises.proofs.Bytes.{on_bytes}
use Rattle.promises.proofs.RoundTrips.{write_then_open}
use Rattle.promises.proofs.Determined.{determined}
use Rattle.promises.proofs.Whole.{whole}

-- ---- what is said of a call leaves one outcome

-- the same entry at every block, and the same byte at every place
abbrev Alike : Heap → Heap → Type 0
Alike h h' = ((i : ℕ) → entry_at h.entries i ≡ entry_at h'.entries i) × ((i : ℕ) → byte_at h i ≡ byte_at h' i)

alike : (h h' : Heap) → SameHeap h h' → Alike h h'
alike h h' same = (same.entries, same.bytes)

pub one_number : (cs : List Condition) (n n' : ℕ) → First cs n → First cs n' → n ≡ n'
one_number = determined.number

module _ (h : Heap) (r r' : Outcome) where
  pub refused_alike : Refused h r → Refused h r' → r.answer.refusal ≡ r'.answer.refusal → (r.answer ≡ r'.answer) × (r.heap ≡ r'.heap) × (r.filled ≡ r'.filled)
  refused_alike = determined.refused h r r'

  pub initialised_alike : (base : ℕ) → Initialised base h r → Initialised base h r' → Alike r.heap r'.heap
  initialised_alike base a a' = alike _ _ (determined.initialised base h r r' a a')

  pub allocated_alike : (base b : ℕ) → Allocated base h b r → Allocated base h b r'
      → (r.answer.block ≡ r'.answer.block) × (r.answer.change ≡ r'.answer.change) × Alike r.heap r'.heap
  allocated_alike base b a a' = let s = determined.allocated base h b r r' a a' in (s.block, s.effect.change, alike _ _ s.effect.heap)

  pub freed_alike : (base k : ℕ) → Freed base h k r → Freed base h k r' → (r.answer.change ≡ r'.answer.change) × Alike r.heap r'.heap
  freed_alike base k a a' = let s = determined.freed base h k r r' a a' in (s.change, alike _ _ s.heap)

  pub reallocated_alike : (base k b : ℕ) → Reallocated base h k b r → Reallocated base h k b r'
      → (r.answer.block ≡ r'.answer.block) × (r.answer.change ≡ r'.answer.change) × Alike r.heap r'.heap
  reallocated_alike base k b a a' = let s = determined.reallocated base h k b r r' a a' in (s.block, s.effect.change, alike _ _ s.effect.heap)

  pub stored_alike : (base k i w : ℕ) → Stored base h k i w r → Stored base h k i w r' → Alike r.heap r'.heap
  stored_alike base k i w a a' = alike _ _ (determined.stored base h k i w r r' a a')

  pub loaded_alike : (k i : ℕ) → Loaded h k i r → Loaded h k i r' → r.answer ≡ r'.answer
  loaded_alike k i = determined.loaded h k i r r'

  pub surveyed_alike : Surveyed h r → Surveyed h r'
      → (r.answer.used ≡ r'.answer.used) × (r.answer.objects ≡ r'.answer.objects) × (r.answer.longest ≡ r'.answer.longest)
  surveyed_alike a a' = let s = determined.surveyed h r r' a a' in (s.used, s.objects, s.longest)

  pub imaged_alike : (base : ℕ) (roots : List ℕ) → Imaged base h roots (length h.entries / 4) (used h.entries) r
      → Imaged base h roots (length h.entries / 4) (used h.entries) r' → (r.answer.length ≡ r'.answer.length) × (r.filled ≡ r'.filled)
  imaged_alike base roots = determined.imaged base h roots r r'

  pub opened_alike : (image : List ℕ) → Opened image h r → Opened image h r'
      → (r.answer.base ≡ r'.answer.base) × (r.answer.roots ≡ r'.answer.roots) × (r.filled ≡ r'.filled) × Alike r.heap r'.heap
  opened_alike image a a' = let s = determined.opened image h r r' a a' in (s.base, s.roots, s.filled, alike _ _ s.left)

  pub reclaimed_alike : (base : ℕ) (roots stack : List ℕ) → Reclaimed base h roots r → Reclaimed base h roots r' → Collected base h roots stack r → Collected base h roots stack r'
      → (r.answer.change ≡ r'.answer.change) × Alike r.heap r'.heap
  reclaimed_alike base roots stack a a' c c' = let s = determined.reclaimed base h roots stack r r' a a' c c' in (s.change, alike _ _ s.heap)

  -- and of one size that is one heap
  pub one_of_size : length r.heap.entries ≡ length h.entries → length r.heap.pool ≡ length h.pool
      → length r'.heap.entries ≡ length h.entries → length r'.heap.pool ≡ length h.pool → Alike r.heap r'.heap → r.heap ≡ r'.heap
  one_of_size blocks bytes blocks' bytes' same =
      whole.one_heap h r r' (record { blocks = blocks; bytes = bytes }) (record { blocks = blocks'; bytes = bytes' }) (record { entries = same.0; bytes = same.1 })

module _ (c : Call) (stack : List ℕ) (h : Heap) where
  pub size_stays : (length (step c stack h).heap.entries ≡ length h.entries) × (length (step c stack h).heap.pool ≡ length h.pool)
  size_stays = let s = whole.sized c stack h in (s.blocks, s.bytes)

  pub parts_answered : (step c stack h).answer ≡ parts_of c (step c stack h).answer
  parts_answered = whole.only_parts c stack h

  pub nothing_filled : ((base : ℕ) (roots : List ℕ) (room : ℕ) → c ≢ WriteImage base roots room) → ((image : List ℕ) (room : ℕ) → c ≢ OpenImage image room) → (step c stack h).filled ≡ []
  nothing_filled = whole.only_filled c stack h

-- ---- on the heap

module _ (base : ℕ) (h : Heap) where
  pub larger_is_nine : (bytes : ℕ) → Shape base h → well_formed h.entries ≡ true → length h.pool < bytes → (allocate base h bytes).answer.refusal ≡ 9
  larger_is_nine bytes shape well = promises.allocate_larger base h bytes (record { shape = shape; well = well })

  pub grown_larger_is_nine : (k bytes : ℕ) → Shape base h → well_formed h.entries ≡ true → entry_at h.entries k ≡ HEAD → length h.pool < bytes → (reallocate base h k bytes).answer.refusal ≡ 9
  grown_larger_is_nine k bytes shape well = promises.reallocate_larger base h k bytes (record { shape = shape; well = well })

  pub stack_stays : (roots stack : List ℕ) → ¬ ((collect base h roots stack).answer.refusal ≡ 0) → (collect base h roots stack).stack ≡ stack
  stack_stays = promises.refused_stack base h

-- an opening leaves as many blocks as there were, and a heap that the calls take
pub opened_fit : (h : Heap) (image : List ℕ) (room : ℕ) → (open_image h image room).answer.refusal ≡ 0
    → let r : Outcome = open_image h image room in
    (length r.heap.entries ≡ length h.entries) × Shape r.answer.base r.heap × (well_formed r.heap.entries ≡ true)
opened_fit h image room accepted = let x = promises.opened h image room accepted in (x.blocks, x.good.shape, x.good.well)

-- the mark stack has no influence
pub stacks_alike : (f : Form) (base : ℕ) (m : Memory) (roots stack stack' : List ℕ)
    → let o : Outcome = collect base (heap_in f m) roots stack in
    let o' : Outcome = collect base (heap_in f m) roots stack' in
    o.answer.refusal ≡ 0 → o'.answer.refusal ≡ 0 → (o.heap ≡ o'.heap) × (but_rescans o.answer ≡ but_rescans o'.answer)
stacks_alike = any_stack

-- ---- in bytes

-- a call on memory that is as its form asks is the call on the heap in it
pub on_its_heap : (f : Form) → Faithful f → (c : Call) (stack : List ℕ) (m : Memory) → Sound f m
    → let r : Result = perform f c stack m in
    let o : Outcome = step c stack (heap_in f m) in
    (r.answer ≡ o.answer) × (heap_in f r.memory ≡ o.heap) × (r.filled ≡ o.filled) × Sound f r.memory
on_its_heap f faithful c stack m sound = let x = on_bytes.as_on_heap f faithful c stack m sound in (x.answer, x.heap, x.filled, x.sound)

module _ (f : Form) (faithful : Faithful f) (m : Memory) (bytes : AllBytes m.table) where
  pub store_leaves_table : (base k i w : ℕ) → (perform f (Store base k i w) [] m).memory.table ≡ m.table
  store_leaves_table base k i w = on_bytes.store_bytes f faithful base k i w m bytes

  pub image_leaves_memory : (base : ℕ) (roots : List ℕ) (room : ℕ) → (perform f (WriteImage base roots room) [] m).memory ≡ m
  image_leaves_memory base roots room = on_bytes.image_bytes f faithful base roots room m bytes

-- what a buffer holds after an image
module _ (f : Form) (base : ℕ) (roots buffer : List ℕ) (m : Memory) where
  abbrev writes : Result
  writes = perform f (WriteImage base roots (length buffer)) [] m

  abbrev written : List ℕ
  written = writes.filled ++ drop (length writes.filled) buffer

  pub buffer_behind : (length written ≡ length buffer) × ((i : ℕ) → writes.answer.length ≤ i → get_or written i 0 ≡ get_or buffer i 0)
  buffer_behind = on_bytes.image_behind f base roots buffer m

  pub buffer_front : writes.answer.refusal ≡ 0 → written ≡ image_of base (heap_in f m) roots ++ drop (length (image_of base (heap_in f m) roots)) buffer
  buffer_front = on_bytes.image_front f base roots buffer m

  pub buffer_refused : ¬ (writes.answer.refusal ≡ 0) → written ≡ buffer
  buffer_refused = on_bytes.image_refused f base roots buffer m

-- and a root list after an opening
module _ (f : Form) (image list : List ℕ) (m : Memory) where
  abbrev opens : Result
  opens = perform f (OpenImage image (length list)) [] m

  abbrev listed : List ℕ
  listed = opens.filled ++ drop (length opens.filled) list

  pub list_behind : (length listed ≡ length list) × ((i : ℕ) → 4 * opens.answer.roots ≤ i → get_or listed i 0 ≡ get_or list i 0)
  list_behind = on_bytes.open_behind f image list m

  pub list_front : opens.answer.refusal ≡ 0 → listed ≡ roots_of (file_of image) ++ drop (length (roots_of (file_of image))) list
  list_front = on_bytes.open_front f image list m

-- ---- in planes

module _ (t : ℕ) (table : List ℕ) where
  pub entry_of_bits : (i j : ℕ) → j < 8 → 8 * i + j < 4 * t → entry_at (entries_in t table) (8 * i + j) ≡ bit_of (get_or table i 0) j + 2 * bit_of (get_or table (plane_bytes t + i) 0) j
  entry_of_bits = on_bytes.entry_in_bytes t table

  pub spare_bits : AllBytes table → (spare_free t table ≡ true) ↔ (t % 2 ≡ 1 → (get_or table (plane_bytes t - 1) 0 < 16) × (get_or table (2 * plane_bytes t - 1) 0 < 16))
  spare_bits = on_bytes.spare_in_bytes t table

  pub init_leaves_zeros : (base : ℕ) (pool : List ℕ) → (perform (planes t) (Init base) [] (memory pool table)).answer.refusal ≡ 0
      → (perform (planes t) (Init base) [] (memory pool table)).memory ≡ memory pool (replicate (length table) 0)
  init_leaves_zeros base pool = on_bytes.init_zero base t pool table

pub spare_after : (t : ℕ) (c : Call) (stack : List ℕ) (m : Memory) → (perform (planes t) c stack m).answer.refusal ≡ 0 → spare_free t (perform (planes t) c stack m).memory.table ≡ true
spare_after = on_bytes.clean_after

pub opens_alike : (t : ℕ) (image : List ℕ) (room : ℕ) (m m' : Memory) → length m.pool ≡ length m'.pool → length m.table ≡ length m'.table
    → (perform (planes t) (OpenImage image room) [] m).answer.refusal ≡ 0 → perform (planes t) (OpenImage image room) [] m' ≡ perform (planes t) (OpenImage image room) [] m
opens_alike = on_bytes.open_anywhere

pub only_one_t : (t t' : ℕ) (c c' : Call) (stack stack' : List ℕ) (m : Memory) → fault_in c ≡ 0 → fault_in c' ≡ 0 → (perform (planes t) c stack m).answer.refusal ≢ 1
    → (perform (planes t') c' stack' m).answer.refusal ≢ 1 → t ≡ t'
only_one_t = on_bytes.one_t

-- each of the two forms reads what it has written
module _ (table es : List ℕ) (small : (k : ℕ) → entry_at es k < 4) where
  pub planes_read_back : (t : ℕ) → (planes t).fits table ≡ true → length es ≡ length ((planes t).read table) → (planes t).read ((planes t).write es) ≡ es
  planes_read_back t fits long = (on_bytes.planes_faithful t).read_write table es fits long small

  pub packed_read_back : packed.fits table ≡ true → length es ≡ length (packed.read table) → packed.read (packed.write es) ≡ es
  packed_read_back fits long = on_bytes.packed_faithful.read_write table es fits long small

-- ---- an image that is opened elsewhere

pub brought_whole : (t base room : ℕ) (roots list : List ℕ) (m m' : Memory) → AllBytes m.table
    → length m'.pool ≡ length m.pool → length m'.table ≡ length m.table → length list % 4 ≡ 0 → length roots ≤ length list
    → let w : Result = perform (planes t) (WriteImage base roots room) [] m in
    let r : Result = perform (planes t) (OpenImage w.filled (length list)) [] m' in
    w.answer.refusal ≡ 0
    → (r.answer ≡ opened_at base (length roots / 4)) × (r.memory.table ≡ m.table) × (length r.memory.pool ≡ length m.pool)
    × ((k : ℕ) → entry_at (entries_in t m.table) k ≢ FREE → (j : ℕ) → j < 16 → get_or r.memory.pool (16 * k + j) 0 ≡ get_or m.pool (16 * k + j) 0)
    × ((k : ℕ) → entry_at (entries_in t m.table) k ≡ FREE → (j : ℕ) → j < 16 → get_or r.memory.pool (16 * k + j) 0 ≡ 0)
    × (r.filled ++ drop (length r.filled) list ≡ roots ++ drop (length roots) list)
brought_whole t base room roots list m m' bytes pools tables words enough accepted =
    let x = write_then_open t base room roots list m m' bytes pools tables words enough accepted in
    (x.answer, x.table, x.size, x.used_bytes, x.free_bytes, x.root_list)
