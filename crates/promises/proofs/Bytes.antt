-- What the calls do to lent memory: a call is refused and leaves every byte, or does what it does on the heap in the memory.
-- Assumes nothing.
use mathlib.Core.Path.{◌≡◌, refl, ap, sym, ◌∙◌}
use mathlib.Core.Logic.{◌≢◌, ◌⊎◌, inl, inr, ⊎_elim}
use mathlib.Core.Bool.{Bool, true, false, not}
use mathlib.Core.List.{List, [], ◌∷◌, ◌++◌}
use Prim.Native.Nat.{ℕ, zero, suc, ◌+◌, ◌-◌, ◌*◌, ◌≤◌}
use native.Mathlib.Decide.{ℕ_discrete}
use native.Mathlib.Omega.{arith}
use lib.Dec.{eqb}
use lib.ListN.{length, get_or, drop, replicate, length-append, length-drop}
use lib.Seq.{get_or-append-add, get_or-drop}
use borrow.Author.Tests.{eqb-true, eqb-false, eq-eqb}
use Rattle.rules.specs.Tests.{both, either}
use Rattle.rules.specs.Entries.{FREE}
use Rattle.rules.specs.Outcomes.{Heap, Answer, Outcome, only_refusal}
use Rattle.rules.specs.Refusals.{Test, test, first_of}
use Rattle.rules.specs.Images.{image_of}
use Rattle.rules.specs.Files.{file_of, roots_of}
use Rattle.rules.specs.Calls.{open_image}
use Rattle.rules.specs.Runs.{Call, Init, Allocate, Free, Reallocate, Collect, Survey, Load, Store, WriteImage, OpenImage, step}
use Rattle.rules.specs.Forms.{Form}
use Rattle.laws.specs.Faithful.{Faithful}
use Rattle.rules.specs.Planes.{plane_bytes, entries_in, spare_free, planes_of, planes, heap_at}
use Rattle.rules.specs.Memory.{Memory, memory, heap_in, lengths_fit, done_in, Result, result, with_buffer, AcceptedIn, stack_for, reads_table, fault_in, tests_in, or_refused, perform}
use Rattle.laws.specs.Meaning.{AllBytes, Shape, Accepted}
use Rattle.laws.proofs.Refusals.{true_not_false, both_left, both_right, not-true, not-false}
use Rattle.laws.proofs.Memory.{tests_passed, perform_accepted, passes_in, accepted_sound, Performed, acted, left, performed, packed_faithful, follows_accepted, follows_sound, sound_next}
use Rattle.laws.proofs.Opening.{open_passed, open_passes}
use Rattle.laws.proofs.Planes.{length_entries_in, get_d_entries_in, entry_in_byte, planes_faithful}
use Rattle.promises.specs.Conditions.{Condition, First, when, of_init, of_allocate, of_free, of_reallocate, of_collect, of_survey, of_word, of_write_image}
use Rattle.promises.specs.Bytes.{OnBytes}
use Rattle.promises.proofs.Checked.{number as number_of, no_refusal, init_checked, open_checked, acts}
use Rattle.promises.proofs.Planes.{shape_in_bytes, spare_in_bytes, free_planes}
use Rattle.promises.proofs.Storing.{stored, survey_leaves, load_leaves}
use Rattle.promises.proofs.Imaging.{image_leaves, filled_is, image_fits}
use Rattle.promises.proofs.Opening.{open_shape, open_fits, roots_are, opens_elsewhere}
use Rattle.promises.proofs.Numbers.{first_step, first_end, init_refusal, allocate_refusal, free_refusal, reallocate_refusal, collect_refusal, survey_refusal, load_refusal, store_refusal, image_refusal}

refused_bytes : (f : Form) (c : Call) (stack : List ℕ) (m : Memory) → ¬ AcceptedIn (perform f c stack m)
    → perform f c stack m ≡ result (only_refusal (perform f c stack m).answer.refusal) m (stack_for c stack)
refused_bytes f c stack m fails = go (performed f c stack m)
  where
    go : Performed m (stack_for c stack) (perform f c stack m) → perform f c stack m ≡ result (only_refusal (perform f c stack m).answer.refusal) m (stack_for c stack)
    go (acted z) = absurd (fails z)
    go (left r e) = e ∙ ap (λ (x : Result). result (only_refusal x.answer.refusal) m (stack_for c stack)) (sym e)

-- a test that is one of two
one_of : (a b : Bool) → either a b ≡ true → (a ≡ true) ⊎ (b ≡ true)
one_of true b e = inl refl
one_of false b e = inr e

neither : (a b : Bool) → either a b ≡ false → (a ≡ false) × (b ≡ false)
neither true b e = absurd (true_not_false refl e)
neither false b e = (refl, e)

-- the number that a call on memory answers
answered : (n : ℕ) (m : Memory) (stack : List ℕ) (done : Result) → (n ≡ 0 → done.answer.refusal ≡ 0) → (or_refused n m stack done).answer.refusal ≡ n
unfolding or_refused
answered zero m stack done z = z refl
answered (suc n) m stack done z = refl

-- a number that is tested for not being 0
nonzero_step : (n : ℕ) (ts : List Test) (cs : List Condition) → (n ≡ 0 → First cs (first_of ts)) → First (when n (n ≢ 0) ∷ cs) (first_of (test n (not (eqb n 0)) ∷ ts))
nonzero_step n ts cs rest =
    first_step (test n (not (eqb n 0))) ts (when n (n ≢ 0)) cs refl (λ e p. true_not_false (eq-eqb n 0 p) (not-true (eqb n 0) e)) (λ e p. p (eqb-true n 0 (not-false (eqb n 0) e)))
    (λ e. rest (eqb-true n 0 (not-false (eqb n 0) e)))

number : (f : Form) (c : Call) (stack : List ℕ) (m : Memory)
    → let r : ℕ = (step c stack (heap_in f m)).answer.refusal in
    First
    (when (fault_in c) (fault_in c ≢ 0) ∷ when 1 ((r ≡ 1) ⊎ (lengths_fit f m ≡ false)) ∷ when 2 ((r ≡ 2) ⊎ ((reads_table c ≡ true) × (f.clean m.table ≡ false))) ∷ when r (r ≢ 0) ∷ [])
    (perform f c stack m).answer.refusal
unfolding perform
number f c stack m =
    rw (answered (first_of (tests_in f c m r)) m (stack_for c stack) (done_in f c stack m) (λ z. (tests_passed f c m r z).own))
    (nonzero_step (fault_in c) _ _
    (λ _. first_step (test 1 (either (eqb r 1) misfit)) _ _ _ refl
    (λ e. ⊎_elim (λ p. inl (eqb-true r 1 p)) (λ p. inr (not-true (lengths_fit f m) p)) (one_of (eqb r 1) misfit e))
    (λ e. let q = neither (eqb r 1) misfit e in ⊎_elim (eqb-false r 1 q.0) (λ p. true_not_false (not-false (lengths_fit f m) q.1) p))
    (λ _. first_step (test 2 (either (eqb r 2) dirty)) _ _ _ refl
    (λ e. ⊎_elim (λ p. inl (eqb-true r 2 p)) (λ p. inr (both_left (reads_table c) (not (f.clean m.table)) p, not-true (f.clean m.table) (both_right (reads_table c) _ p))) (one_of (eqb r 2) dirty e))
    (λ e. let q = neither (eqb r 2) dirty e in ⊎_elim (eqb-false r 2 q.0) (λ p. true_not_false {b = dirty} (rw (p.0, p.1)) q.1))
    (λ _. nonzero_step r _ _ (λ _. first_end)))))
  where
    o : Outcome
    o = step c stack (heap_in f m)

    r : ℕ
    r = o.answer.refusal

    misfit : Bool
    misfit = not (lengths_fit f m)

    dirty : Bool
    dirty = both (reads_table c) (not (f.clean m.table))

accepted_bytes : (f : Form) (c : Call) (stack : List ℕ) (m : Memory) → AcceptedIn (perform f c stack m)
    → let o : Outcome = step c stack (heap_in f m) in
    Accepted o × (perform f c stack m ≡ done_in f c stack m)
accepted_bytes f c stack m z =
    let p = passes_in f c stack m z in
    (p.own, perform_accepted f c stack m p.fits p.clean p.own)

init_zero : (base t : ℕ) (pool table : List ℕ) → AcceptedIn (perform (planes t) (Init base) [] (memory pool table))
    → (perform (planes t) (Init base) [] (memory pool table)).memory ≡ memory pool (replicate (length table) 0)
unfolding step
init_zero base t pool table z =
    let a = accepted_bytes (planes t) (Init base) [] (memory pool table) z in
    let long = eqb-true (length table) (2 * plane_bytes t) (passes_in (planes t) (Init base) [] (memory pool table) z).fits in
    let e = acts (init_checked base (heap_at t pool table)) a.0 in
    let written : planes_of t (replicate (length (entries_in t table)) FREE) ≡ replicate (length table) 0 =
    ap (λ (n : ℕ). planes_of t (replicate n FREE)) (length_entries_in t table) ∙ free_planes t ∙ ap (λ (n : ℕ). replicate n 0) (sym long) in
    rw (a.1, e, written)

clean_after : (t : ℕ) (c : Call) (stack : List ℕ) (m : Memory) → AcceptedIn (perform (planes t) c stack m) → spare_free t (perform (planes t) c stack m).memory.table ≡ true
clean_after t c stack m z = ((follows_accepted (planes t) (planes_faithful t) c stack m z).sound z).clean

-- ---- one t

-- if the number is another than that of the first condition, that does not hold
first_not : (c : Condition) (cs : List Condition) (r : ℕ) → First (c ∷ cs) r → r ≢ c.number → ¬ c.holds
unfolding First
first_not c cs r x other = ⊎_elim (λ here. absurd (other here.1)) (λ later. later.0) x

-- if it holds, the number is its own
pub first_at : (c : Condition) (cs : List Condition) (r : ℕ) → First (c ∷ cs) r → c.holds → r ≡ c.number
unfolding First
first_at c cs r x given = ⊎_elim (λ here. here.1) (λ later. absurd (later.0 given)) x

-- and if it does not hold, the number is that of the others
pub first_past : (c : Condition) (cs : List Condition) (r : ℕ) → First (c ∷ cs) r → ¬ c.holds → First cs r
unfolding First
first_past c cs r x fails = ⊎_elim (λ here. absurd (fails here.0)) (λ later. later.1) x

sized : (base : ℕ) (h : Heap) → ¬ (¬ Shape base h) → length h.pool ≡ 16 * length h.entries
sized base h given = go (ℕ_discrete (length h.pool) (16 * length h.entries))
  where
    go : Dec (length h.pool ≡ 16 * length h.entries) → length h.pool ≡ 16 * length h.entries
    go (yes e) = e
    go (no bad) = absurd (given (λ s. bad s.pool))

-- a call that is not refused by 1 has 16 bytes of the pool for each block
pool_size : (c : Call) (stack : List ℕ) (h : Heap) → fault_in c ≡ 0 → (step c stack h).answer.refusal ≢ 1 → length h.pool ≡ 16 * length h.entries
unfolding step of_init of_allocate of_free of_reallocate of_collect of_survey of_word of_write_image
pool_size (Init base) stack h whole other = sized base h (first_not _ _ _ (init_refusal base h) other)
pool_size (Allocate base bytes) stack h whole other = sized base h (first_not _ _ _ (allocate_refusal base h bytes) other)
pool_size (Free base k) stack h whole other = sized base h (first_not _ _ _ (free_refusal base h k) other)
pool_size (Reallocate base k bytes) stack h whole other = sized base h (first_not _ _ _ (reallocate_refusal base h k bytes) other)
pool_size (Collect base roots) stack h whole other = sized base h (λ bad. first_not _ _ _ (collect_refusal base h roots stack) other (λ s. bad s.0))
pool_size (Survey base) stack h whole other = sized base h (first_not _ _ _ (survey_refusal base h) other)
pool_size (Load base k i) stack h whole other = sized base h (first_not _ _ _ (load_refusal base h k i) other)
pool_size (Store base k i w) stack h whole other = sized base h (first_not _ _ _ (store_refusal base h k i w) other)
pool_size (WriteImage base roots room) stack h whole other = sized base h (λ bad. first_not _ _ _ (image_refusal base h roots room) other (λ s. bad s.0))
pool_size (OpenImage image room) stack h whole other = (open_shape h image room whole other).pool

-- so 64 for each of t
pub pool_of_is : (t : ℕ) (c : Call) (stack : List ℕ) (m : Memory) → fault_in c ≡ 0 → (perform (planes t) c stack m).answer.refusal ≢ 1 → length m.pool ≡ 64 * t
pool_of_is t c stack m whole other =
    let own : (step c stack (heap_in (planes t) m)).answer.refusal ≢ 1 = λ e. first_not _ _ _ (first_past _ _ _ (number (planes t) c stack m) (λ bad. bad whole)) other (inl e) in
    omega (arith, pool_size c stack (heap_in (planes t) m) whole own, length_entries_in t m.table)

one_t : (t t' : ℕ) (c c' : Call) (stack stack' : List ℕ) (m : Memory) → fault_in c ≡ 0 → fault_in c' ≡ 0 → (perform (planes t) c stack m).answer.refusal ≢ 1
    → (perform (planes t') c' stack' m).answer.refusal ≢ 1 → t ≡ t'
one_t t t' c c' stack stack' m whole whole' other other' = omega (arith, pool_of_is t c stack m whole other, pool_of_is t' c' stack' m whole' other')

-- ---- calls that leave the table

-- a call that reads the table and leaves its entries leaves its bytes
module _ (f : Form) (faithful : Faithful f) (c : Call) (stack : List ℕ) (m : Memory) (bytes : AllBytes m.table) (reads : reads_table c ≡ true)
    (stays : Accepted (step c stack (heap_in f m)) → (step c stack (heap_in f m)).heap.entries ≡ f.read m.table) where
  table_left : (perform f c stack m).memory.table ≡ m.table
  table_left = go (performed f c stack m)
    where
      go : Performed m (stack_for c stack) (perform f c stack m) → (perform f c stack m).memory.table ≡ m.table
      go (acted z) =
          let a = accepted_bytes f c stack m z in
          let s = accepted_sound f c stack m reads z in
          ap (λ (x : Result). x.memory.table) a.1 ∙ ap f.write (stays a.0) ∙ faithful.write_read m.table bytes s.fits s.clean
      go (left r e) = ap (λ (x : Result). x.memory.table) e

  -- and the memory, if it leaves the pool
  memory_left : (Accepted (step c stack (heap_in f m)) → (step c stack (heap_in f m)).heap.pool ≡ m.pool) → (perform f c stack m).memory ≡ m
  memory_left same = ap (memory (perform f c stack m).memory.pool) table_left ∙ ap (λ (p : List ℕ). memory p m.table) (go (performed f c stack m))
    where
      go : Performed m (stack_for c stack) (perform f c stack m) → (perform f c stack m).memory.pool ≡ m.pool
      go (acted z) = let a = accepted_bytes f c stack m z in ap (λ (x : Result). x.memory.pool) a.1 ∙ same a.0
      go (left r e) = ap (λ (x : Result). x.memory.pool) e

survey_bytes : (f : Form) → Faithful f → (base : ℕ) (m : Memory) → AllBytes m.table → (perform f (Survey base) [] m).memory ≡ m
unfolding step
survey_bytes f faithful base m bytes =
    let e = survey_leaves base (heap_in f m) in
    memory_left f faithful (Survey base) [] m bytes refl (λ _. ap (λ (h : Heap). h.entries) e) (λ _. ap (λ (h : Heap). h.pool) e)

load_bytes : (f : Form) → Faithful f → (base k i : ℕ) (m : Memory) → AllBytes m.table → (perform f (Load base k i) [] m).memory ≡ m
unfolding step
load_bytes f faithful base k i m bytes =
    let e = load_leaves base (heap_in f m) k i in
    memory_left f faithful (Load base k i) [] m bytes refl (λ _. ap (λ (h : Heap). h.entries) e) (λ _. ap (λ (h : Heap). h.pool) e)

store_bytes : (f : Form) → Faithful f → (base k i w : ℕ) (m : Memory) → AllBytes m.table → (perform f (Store base k i w) [] m).memory.table ≡ m.table
unfolding step
store_bytes f faithful base k i w m bytes = table_left f faithful (Store base k i w) [] m bytes refl (λ z. (stored base (heap_in f m) k i w z).table)

image_bytes : (f : Form) → Faithful f → (base : ℕ) (roots : List ℕ) (room : ℕ) (m : Memory) → AllBytes m.table → (perform f (WriteImage base roots room) [] m).memory ≡ m
unfolding step
image_bytes f faithful base roots room m bytes =
    let e = image_leaves base (heap_in f m) roots room in
    memory_left f faithful (WriteImage base roots room) [] m bytes refl (λ _. ap (λ (h : Heap). h.entries) e) (λ _. ap (λ (h : Heap). h.pool) e)

-- ---- a buffer that is filled

-- behind what was written it is as it was
behind : (buffer : List ℕ) (r : Result) → length r.filled ≤ length buffer → let left : List ℕ = (with_buffer buffer r).filled in
    (length left ≡ length buffer) × ((i : ℕ) → length r.filled ≤ i → get_or left i 0 ≡ get_or buffer i 0)
behind buffer r fits =
    let written = r.filled in (
      length-append written (drop (length written) buffer) ∙ omega (arith, length-drop (length written) buffer, fits),
      λ i past.
          let e : i ≡ length written + (i - length written) = omega (arith, past) in
          rw e (get_or-append-add written (drop (length written) buffer) (i - length written) 0 ∙ get_or-drop (length written) buffer (i - length written) 0),
    )

-- and all of it, if the call is refused
left_as_it_was : (f : Form) (c : Call) (stack buffer : List ℕ) (m : Memory) → ¬ AcceptedIn (perform f c stack m) → (with_buffer buffer (perform f c stack m)).filled ≡ buffer
left_as_it_was f c stack buffer m no_number = rw (refused_bytes f c stack m no_number) refl

-- a number that the answer gives is the length of what was written, and fits: of a refusal it is 0
fits_in : (f : Form) (c : Call) (m : Memory) (part : Answer → ℕ) (room : ℕ) → ((r : ℕ) → part (only_refusal r) ≡ 0)
    → (Accepted (step c [] (heap_in f m)) → (part (step c [] (heap_in f m)).answer ≡ length (step c [] (heap_in f m)).filled) × (length (step c [] (heap_in f m)).filled ≤ room))
    → (part (perform f c [] m).answer ≡ length (perform f c [] m).filled) × (length (perform f c [] m).filled ≤ room)
fits_in f c m part room zero-part given = go (performed f c [] m)
  where
    go : Performed m (stack_for c []) (perform f c [] m) → (part (perform f c [] m).answer ≡ length (perform f c [] m).filled) × (length (perform f c [] m).filled ≤ room)
    go (acted z) = let a = accepted_bytes f c [] m z in rw a.1 (given a.0)
    go (left r e) = rw e (zero-part (suc r), omega arith)

module _ (f : Form) (base : ℕ) (roots buffer : List ℕ) (m : Memory) where
  abbrev c : Call
  c = WriteImage base roots (length buffer)

  image_behind : let left : List ℕ = (with_buffer buffer (perform f c [] m)).filled in
      (length left ≡ length buffer) × ((i : ℕ) → (perform f c [] m).answer.length ≤ i → get_or left i 0 ≡ get_or buffer i 0)
  unfolding step
  image_behind =
      let l = fits_in f c m (λ (a : Answer). a.length) (length buffer) (λ r. refl) (image_fits base (heap_in f m) roots (length buffer)) in
      let b = behind buffer (perform f c [] m) l.1 in
      (b.0, λ i past. b.1 i (omega (arith, past, l.0)))

  image_front : AcceptedIn (perform f c [] m) → let image : List ℕ = image_of base (heap_in f m) roots in
      (with_buffer buffer (perform f c [] m)).filled ≡ image ++ drop (length image) buffer
  unfolding step
  image_front z =
      let a = accepted_bytes f c [] m z in
      let e = ap (λ (r : Result). r.filled) a.1 ∙ filled_is base (heap_in f m) roots (length buffer) a.0 in
      ap (λ (bytes : List ℕ). bytes ++ drop (length bytes) buffer) e

module _ (f : Form) (image list : List ℕ) (m : Memory) where
  abbrev opens : Call
  opens = OpenImage image (length list)

  open_behind : let left : List ℕ = (with_buffer list (perform f opens [] m)).filled in
      (length left ≡ length list) × ((i : ℕ) → 4 * (perform f opens [] m).answer.roots ≤ i → get_or left i 0 ≡ get_or list i 0)
  unfolding step
  open_behind =
      let l = fits_in f opens m (λ (a : Answer). 4 * a.roots) (length list) (λ r. refl) (open_fits (heap_in f m) image (length list)) in
      let b = behind list (perform f opens [] m) l.1 in
      (b.0, λ i past. b.1 i (omega (arith, past, l.0)))

  open_front : AcceptedIn (perform f opens [] m) → let roots : List ℕ = roots_of (file_of image) in
      (with_buffer list (perform f opens [] m)).filled ≡ roots ++ drop (length roots) list
  unfolding step
  open_front z =
      let a = accepted_bytes f opens [] m z in
      let e = ap (λ (r : Result). r.filled) a.1 ∙ roots_are (heap_in f m) image (length list) a.0 in
      ap (λ (bytes : List ℕ). bytes ++ drop (length bytes) list) e

open_anywhere : (t : ℕ) (image : List ℕ) (room : ℕ) (m m' : Memory) → length m.pool ≡ length m'.pool → length m.table ≡ length m'.table
    → AcceptedIn (perform (planes t) (OpenImage image room) [] m) → perform (planes t) (OpenImage image room) [] m' ≡ perform (planes t) (OpenImage image room) [] m
unfolding step
open_anywhere t image room m m' pools tables z =
    let a = accepted_bytes (planes t) (OpenImage image room) [] m z in
    let h = heap_in (planes t) m in
    let h'' = heap_in (planes t) m' in
    let fits : lengths_fit (planes t) m' ≡ true = rw (← tables) (passes_in (planes t) (OpenImage image room) [] m z).fits in
    let o = open_passed h image room (no_refusal (open_checked h image room) a.0) in
    let o' = opens_elsewhere h h'' image room pools (length_entries_in t m.table ∙ sym (length_entries_in t m'.table)) o in
    let accepted : Accepted (open_image h'' image room) = number_of (open_checked h'' image room) ∙ open_passes h'' image room o' in
    perform_accepted (planes t) (OpenImage image room) [] m' fits refl accepted ∙ rw (acts (open_checked h'' image room) accepted, a.1, acts (open_checked h image room) a.0)

pub on_bytes : OnBytes
on_bytes = record {
  refused_bytes = refused_bytes;
  accepted_bytes = accepted_bytes;
  number = number;
  as_on_heap = λ f faithful c stack m s.
      let x = follows_sound f faithful c stack m s in
      record { answer = x.answer; heap = x.heap; filled = x.filled; sound = sound_next f faithful c stack m s };
  survey_bytes = survey_bytes;
  load_bytes = load_bytes;
  store_bytes = store_bytes;
  image_bytes = image_bytes;
  image_behind = image_behind;
  image_front = image_front;
  image_refused = λ f base roots buffer m. left_as_it_was f (WriteImage base roots (length buffer)) [] buffer m;
  open_front = open_front;
  open_behind = open_behind;
  open_refused = λ f image list m. left_as_it_was f (OpenImage image (length list)) [] list m;
  open_anywhere = open_anywhere;
  planes_faithful = planes_faithful;
  packed_faithful = packed_faithful;
  shape_in_bytes = shape_in_bytes;
  one_t = one_t;
  entry_in_bytes = λ t table i j h l. get_d_entries_in t table (8 * i + j) FREE l ∙ entry_in_byte t table i j h;
  spare_in_bytes = spare_in_bytes;
  clean_after = clean_after;
  init_zero = init_zero;
}
