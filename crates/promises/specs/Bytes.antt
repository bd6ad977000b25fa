-- What a call does to lent memory, byte by byte. The promises speak of the heap in the memory; here is what ties the two together, for every form of the table.
-- Assumes nothing.
use Rattle.std.specs.Prelude.{◌≡◌, ◌≢◌, ◌↔◌, ◌⊎◌, true, false, List, [], ◌∷◌, ◌++◌, ℕ, ◌+◌, ◌-◌, ◌*◌, ◌%◌, ◌≤◌, ◌<◌, length, get_or, drop, replicate}
use Rattle.rules.specs.Bits.{bit_of}
use Rattle.rules.specs.Tables.{entry_at}
use Rattle.rules.specs.Outcomes.{Outcome, only_refusal}
use Rattle.rules.specs.Images.{image_of}
use Rattle.rules.specs.Files.{file_of, roots_of}
use Rattle.rules.specs.Runs.{Call, Init, Survey, Load, Store, WriteImage, OpenImage, step}
use Rattle.rules.specs.Forms.{Form, packed}
use Rattle.laws.specs.Faithful.{Faithful}
use Rattle.rules.specs.Planes.{plane_bytes, entries_in, spare_free, planes, heap_at}
use Rattle.rules.specs.Memory.{Memory, memory, heap_in, lengths_fit, Sound, done_in, Result, result, with_buffer, AcceptedIn, stack_for, reads_table, fault_in, perform}
use Rattle.laws.specs.Meaning.{AllBytes, Shape, ShapeInBytes, Accepted}
use Rattle.promises.specs.Conditions.{First, when}

-- the result of a call is that of the call on the heap, and the memory then holds the heap that is left
pub record AsOnHeap (f : Form) (r : Result) (o : Outcome) : Type 0 where
  pub answer : r.answer ≡ o.answer
  pub heap : heap_in f r.memory ≡ o.heap
  pub filled : r.filled ≡ o.filled
  pub sound : Sound f r.memory

pub record OnBytes : Type 0 where
  -- a refused call answers its number alone, and every byte that was lent is as it was
  pub refused_bytes : (f : Form) (c : Call) (stack : List ℕ) (m : Memory) → ¬ AcceptedIn (perform f c stack m)
      → perform f c stack m ≡ result (only_refusal (perform f c stack m).answer.refusal) m (stack_for c stack)
  -- an accepted call is accepted on the heap in the memory, answers as it does there, and leaves the bytes that its entries are written as
  pub accepted_bytes : (f : Form) (c : Call) (stack : List ℕ) (m : Memory) → AcceptedIn (perform f c stack m)
      → Accepted (step c stack (heap_in f m)) × (perform f c stack m ≡ done_in f c stack m)
  -- the number: the fault of a file first; 1 also where the table's length does not fit, 2 also where its bytes are not clean and the call reads it; else that of the call on the heap
  pub number : (f : Form) (c : Call) (stack : List ℕ) (m : Memory)
      → let r : ℕ = (step c stack (heap_in f m)).answer.refusal in
      First
      (when (fault_in c) (fault_in c ≢ 0)
      ∷ when 1 ((r ≡ 1) ⊎ (lengths_fit f m ≡ false))
      ∷ when 2 ((r ≡ 2) ⊎ ((reads_table c ≡ true) × (f.clean m.table ≡ false)))
      ∷ when r (r ≢ 0)
      ∷ [])
      (perform f c stack m).answer.refusal
  -- so on a table that is as its form asks, every call is as on the heap, and the table stays so
  pub as_on_heap : (f : Form) → Faithful f → (c : Call) (stack : List ℕ) (m : Memory) → Sound f m
      → AsOnHeap f (perform f c stack m) (step c stack (heap_in f m))
  -- survey and load leave every byte, and store every byte of the table
  pub survey_bytes : (f : Form) → Faithful f → (base : ℕ) (m : Memory) → AllBytes m.table → (perform f (Survey base) [] m).memory ≡ m
  pub load_bytes : (f : Form) → Faithful f → (base k i : ℕ) (m : Memory) → AllBytes m.table → (perform f (Load base k i) [] m).memory ≡ m
  pub store_bytes : (f : Form) → Faithful f → (base k i w : ℕ) (m : Memory) → AllBytes m.table → (perform f (Store base k i w) [] m).memory.table ≡ m.table
  -- an image leaves every byte of the memory. Of the buffer that is lent for it, it leaves those behind the image, and the buffer is as long as it was
  pub image_bytes : (f : Form) → Faithful f → (base : ℕ) (roots : List ℕ) (room : ℕ) (m : Memory) → AllBytes m.table → (perform f (WriteImage base roots room) [] m).memory ≡ m
  pub image_behind : (f : Form) (base : ℕ) (roots buffer : List ℕ) (m : Memory)
      → let r : Result = perform f (WriteImage base roots (length buffer)) [] m in
      let left : List ℕ = (with_buffer buffer r).filled in
      (length left ≡ length buffer) × ((i : ℕ) → r.answer.length ≤ i → get_or left i 0 ≡ get_or buffer i 0)
  -- its front is then the image
  pub image_front : (f : Form) (base : ℕ) (roots buffer : List ℕ) (m : Memory) → AcceptedIn (perform f (WriteImage base roots (length buffer)) [] m)
      → let image : List ℕ = image_of base (heap_in f m) roots in
      (with_buffer buffer (perform f (WriteImage base roots (length buffer)) [] m)).filled ≡ image ++ drop (length image) buffer
  -- on a refusal it leaves all of it
  pub image_refused : (f : Form) (base : ℕ) (roots buffer : List ℕ) (m : Memory) → ¬ AcceptedIn (perform f (WriteImage base roots (length buffer)) [] m)
      → (with_buffer buffer (perform f (WriteImage base roots (length buffer)) [] m)).filled ≡ buffer
  -- An opening fills the memory, whatever it held, and of the root list that is lent for it the front: the entries behind the file's roots stay, and the list is as long as it was.
  pub open_front : (f : Form) (image list : List ℕ) (m : Memory) → AcceptedIn (perform f (OpenImage image (length list)) [] m)
      → let roots : List ℕ = roots_of (file_of image) in
      (with_buffer list (perform f (OpenImage image (length list)) [] m)).filled ≡ roots ++ drop (length roots) list
  pub open_behind : (f : Form) (image list : List ℕ) (m : Memory)
      → let r : Result = perform f (OpenImage image (length list)) [] m in
      let left : List ℕ = (with_buffer list r).filled in
      (length left ≡ length list) × ((i : ℕ) → 4 * r.answer.roots ≤ i → get_or left i 0 ≡ get_or list i 0)
  pub open_refused : (f : Form) (image list : List ℕ) (m : Memory) → ¬ AcceptedIn (perform f (OpenImage image (length list)) [] m)
      → (with_buffer list (perform f (OpenImage image (length list)) [] m)).filled ≡ list
  pub open_anywhere : (t : ℕ) (image : List ℕ) (room : ℕ) (m m' : Memory) → length m.pool ≡ length m'.pool → length m.table ≡ length m'.table
      → AcceptedIn (perform (planes t) (OpenImage image room) [] m) → perform (planes t) (OpenImage image room) [] m' ≡ perform (planes t) (OpenImage image room) [] m
  -- two planes, which every lent table has, hold entries faithfully, and so does the packed form, which heap images have
  pub planes_faithful : (t : ℕ) → Faithful (planes t)
  pub packed_faithful : Faithful packed
  -- the shape of a heap in a pool and two planes, and the length of those, in bytes
  pub shape_in_bytes : (base t : ℕ) (pool table : List ℕ) → (Shape base (heap_at t pool table) × ((planes t).fits table ≡ true)) ↔ ShapeInBytes base t pool table
  -- so memory has one t: two calls on it that are both not refused by 1, nor by a fault of a file, were given the same, and any other t is refused by 1
  pub one_t : (t t' : ℕ) (c c' : Call) (stack stack' : List ℕ) (m : Memory) → fault_in c ≡ 0 → fault_in c' ≡ 0 → (perform (planes t) c stack m).answer.refusal ≢ 1
      → (perform (planes t') c' stack' m).answer.refusal ≢ 1 → t ≡ t'
  -- the entry of block 8i + j has bit j of byte i of each plane
  pub entry_in_bytes : (t : ℕ) (table : List ℕ) (i j : ℕ) → j < 8 → 8 * i + j < 4 * t
      → entry_at (entries_in t table) (8 * i + j) ≡ bit_of (get_or table i 0) j + 2 * bit_of (get_or table (plane_bytes t + i) 0) j
  -- the spare bits are the upper four of the last byte of each plane, where t is odd
  pub spare_in_bytes : (t : ℕ) (table : List ℕ) → AllBytes table
      → (spare_free t table ≡ true) ↔ (t % 2 ≡ 1 → (get_or table (plane_bytes t - 1) 0 < 16) × (get_or table (2 * plane_bytes t - 1) 0 < 16))
  -- an accepted call leaves none of them set
  pub clean_after : (t : ℕ) (c : Call) (stack : List ℕ) (m : Memory) → AcceptedIn (perform (planes t) c stack m)
      → spare_free t (perform (planes t) c stack m).memory.table ≡ true
  -- an accepted init leaves a table of zero bytes, the spare bits with them, and the pool
  pub init_zero : (base t : ℕ) (pool table : List ℕ) → AcceptedIn (perform (planes t) (Init base) [] (memory pool table))
      → (perform (planes t) (Init base) [] (memory pool table)).memory ≡ memory pool (replicate (length table) 0)
