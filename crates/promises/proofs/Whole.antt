-- What no record speaks of: every call is a list of tests and an act, and neither a refusal nor an act changes a size or answers a part of another call.
-- Assumes nothing.
use mathlib.Core.Path.{◌≡◌, refl, sym, ◌∙◌}
use mathlib.Core.Logic.{◌≢◌}
use mathlib.Core.List.{List, []}
use Prim.Native.Nat.{ℕ, zero, suc}
use lib.Seq.{ext_get_or}
use Rattle.rules.specs.Entries.{FREE}
use Rattle.rules.specs.Tables.{block_count}
use Rattle.rules.specs.Outcomes.{Heap, Outcome, only_refusal, unless_refused}
use Rattle.rules.specs.Refusals.{Test, first_of}
use Rattle.rules.specs.Calls.{Way, stay, shrink, grow, move, no_way, along, placing, blocks_for, way_of, collecting}
use Rattle.rules.specs.Runs.{Call, Init, Allocate, Free, Reallocate, Collect, Survey, Load, Store, WriteImage, OpenImage, step}
use Rattle.laws.proofs.Sizes.{step_keeps}
use Rattle.promises.specs.Determined.{SameHeap, Sized, parts_of, Whole}
use Rattle.promises.proofs.Checked.{Checked, init_checked, allocate_checked, free_checked, reallocate_checked, collect_checked, survey_checked, load_checked, store_checked, image_checked, open_checked}

-- ---- sizes

pub sized : (c : Call) (stack : List ℕ) (h : Heap) → Sized h (step c stack h)
sized c stack h = let k = step_keeps c stack h in record { blocks = k.entries.long; bytes = k.bytes }

pub one_heap : (h : Heap) (r r' : Outcome) → Sized h r → Sized h r' → SameHeap r.heap r'.heap → r.heap ≡ r'.heap
one_heap h r r' s s' same =
    let p : r.heap.pool ≡ r'.heap.pool = ext_get_or 0 r.heap.pool r'.heap.pool (s.bytes ∙ sym s'.bytes) (λ i l. same.bytes i) in
    let e : r.heap.entries ≡ r'.heap.entries = ext_get_or FREE r.heap.entries r'.heap.entries (s.blocks ∙ sym s'.blocks) (λ i l. same.entries i) in
    λ i. record { pool = p i; entries = e i }

-- ---- parts

-- a refusal answers its number alone, whatever the call
refusal_parts : (c : Call) (n : ℕ) → only_refusal n ≡ parts_of c (only_refusal n)
unfolding parts_of
refusal_parts (Init base) n = refl
refusal_parts (Allocate base bytes) n = refl
refusal_parts (Free base k) n = refl
refusal_parts (Reallocate base k bytes) n = refl
refusal_parts (Collect base roots) n = refl
refusal_parts (Survey base) n = refl
refusal_parts (Load base k i) n = refl
refusal_parts (Store base k i w) n = refl
refusal_parts (WriteImage base roots room) n = refl
refusal_parts (OpenImage image room) n = refl

parts_unless : (c : Call) (n : ℕ) (h : Heap) (stack : List ℕ) (act : Outcome) → act.answer ≡ parts_of c act.answer
    → (unless_refused n h stack act).answer ≡ parts_of c (unless_refused n h stack act).answer
unfolding unless_refused
parts_unless c zero h stack act fine = fine
parts_unless c (suc n) h stack act fine = refusal_parts c (suc n)

parts_of_is : (c : Call) {h : Heap} {stack : List ℕ} {ts : List Test} {act r : Outcome} → Checked h stack ts act r → act.answer ≡ parts_of c act.answer
    → r.answer ≡ parts_of c r.answer
parts_of_is c {h} {stack} {ts} {act} k fine = rw k.is (parts_unless c (first_of ts) h stack act fine)

parts_along : (base bytes : ℕ) (w : Way) (h : Heap) (k b c : ℕ) → (along w h k b c).answer ≡ parts_of (Reallocate base k bytes) (along w h k b c).answer
unfolding along placing parts_of
parts_along base bytes stay h k b c = refl
parts_along base bytes shrink h k b c = refl
parts_along base bytes grow h k b c = refl
parts_along base bytes (move s) h k b c = refl
parts_along base bytes no_way h k b c = refl

pub only_parts : (c : Call) (stack : List ℕ) (h : Heap) → (step c stack h).answer ≡ parts_of c (step c stack h).answer
unfolding step placing collecting parts_of
only_parts (Init base) stack h = parts_of_is (Init base) (init_checked base h) refl
only_parts (Allocate base bytes) stack h = parts_of_is (Allocate base bytes) (allocate_checked base h bytes) refl
only_parts (Free base k) stack h = parts_of_is (Free base k) (free_checked base h k) refl
only_parts (Reallocate base k bytes) stack h =
    parts_of_is (Reallocate base k bytes) (reallocate_checked base h k bytes)
    (parts_along base bytes (way_of h k bytes) h k (block_count h.entries k) (blocks_for bytes))
only_parts (Collect base roots) stack h = parts_of_is (Collect base roots) (collect_checked base h roots stack) refl
only_parts (Survey base) stack h = parts_of_is (Survey base) (survey_checked base h) refl
only_parts (Load base k i) stack h = parts_of_is (Load base k i) (load_checked base h k i) refl
only_parts (Store base k i w) stack h = parts_of_is (Store base k i w) (store_checked base h k i w) refl
only_parts (WriteImage base roots room) stack h = parts_of_is (WriteImage base roots room) (image_checked base h roots room) refl
only_parts (OpenImage image room) stack h = parts_of_is (OpenImage image room) (open_checked h image room) refl

-- ---- buffers

unfilled_unless : (n : ℕ) (h : Heap) (stack : List ℕ) (act : Outcome) → act.filled ≡ [] → (unless_refused n h stack act).filled ≡ []
unfolding unless_refused
unfilled_unless zero h stack act e = e
unfilled_unless (suc n) h stack act e = refl

unfilled : {h : Heap} {stack : List ℕ} {ts : List Test} {act r : Outcome} → Checked h stack ts act r → act.filled ≡ [] → r.filled ≡ []
unfilled {h} {stack} {ts} {act} k e = rw k.is (unfilled_unless (first_of ts) h stack act e)

unfilled_along : (w : Way) (h : Heap) (k b c : ℕ) → (along w h k b c).filled ≡ []
unfolding along placing
unfilled_along stay h k b c = refl
unfilled_along shrink h k b c = refl
unfilled_along grow h k b c = refl
unfilled_along (move s) h k b c = refl
unfilled_along no_way h k b c = refl

pub only_filled : (c : Call) (stack : List ℕ) (h : Heap) → ((base : ℕ) (roots : List ℕ) (room : ℕ) → c ≢ WriteImage base roots room)
    → ((image : List ℕ) (room : ℕ) → c ≢ OpenImage image room) → (step c stack h).filled ≡ []
unfolding step placing collecting
only_filled (Init base) stack h other file = unfilled (init_checked base h) refl
only_filled (Allocate base bytes) stack h other file = unfilled (allocate_checked base h bytes) refl
only_filled (Free base k) stack h other file = unfilled (free_checked base h k) refl
only_filled (Reallocate base k bytes) stack h other file =
    unfilled (reallocate_checked base h k bytes) (unfilled_along (way_of h k bytes) h k (block_count h.entries k) (blocks_for bytes))
only_filled (Collect base roots) stack h other file = unfilled (collect_checked base h roots stack) refl
only_filled (Survey base) stack h other file = unfilled (survey_checked base h) refl
only_filled (Load base k i) stack h other file = unfilled (load_checked base h k i) refl
only_filled (Store base k i w) stack h other file = unfilled (store_checked base h k i w) refl
only_filled (WriteImage base roots room) stack h other file = absurd (other base roots room refl)
only_filled (OpenImage image room) stack h other file = absurd (file image room refl)

pub whole : Whole
whole = record { sized = sized; one_heap = one_heap; only_parts = only_parts; only_filled = only_filled }
