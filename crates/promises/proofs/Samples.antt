-- Every promise used once on a small heap: what the heap holds and that the calls are accepted is computed, all that follows is read off the promises.
-- Each use needs the last word, the last block or the exact bound.
-- Assumes nothing.
use mathlib.Core.Path.{◌≡◌, refl, ap, sym, ◌∙◌}
use mathlib.Core.Logic.{◌≢◌, ⊎_elim, inl, inr}
use mathlib.Core.Bool.{true}
use mathlib.Core.List.Memᴰ
use mathlib.Core.List.{List, [], ◌∷◌}
use mathlib.Core.Option.{some, none}
use Prim.Native.Nat.{ℕ, zero, suc, ◌+◌, ◌*◌, ◌≤◌, ◌<◌}
use native.Mathlib.Decide.{ℕ_discrete}
use native.Mathlib.Omega.{arith}
use lib.IntN.{ℤ, pos, neg_ℤ, ◌+ℤ◌, nat_abs}
use lib.ListN.{replicate}
use Rattle.rules.specs.Tests.{count, leading, tabulate}
use Rattle.rules.specs.Bits.{bit_of, bit_at}
use Rattle.rules.specs.Words.{number, bytes_of, word_at, with_word, words_of}
use Rattle.rules.specs.Entries.{HEAD}
use Rattle.rules.specs.Tables.{entry_at, may_follow, well_after, well_formed, block_count, start_of, free_from, aligned, fits, first_from, first_fit, placed, released, extended, used, objects, longest, grows_in_place}
use Rattle.rules.specs.Pointers.{address_of, good_base, target_of, heads_object, head_at, leads_to}
use Rattle.laws.specs.Meaning.{AllBytes, Lowest, Longest, Points, PointsInto, Leads, ShapeInBytes, Passed, Accepted}
use Rattle.rules.specs.Outcomes.{Heap, Answer, Outcome, only_refusal, loaded, surveyed, leaves, change_from, unless_refused, cleared_blocks}
use Rattle.rules.specs.Refusals.{first_of, good_shape, whole_words}
use Rattle.rules.specs.Reach.{Reachable, root, edge}
use Rattle.rules.specs.Marking.{pushed, visit_to, visit, walk_words, walk, drain_for, drain, trace, root_to, mark_root, mark_roots, pass_block, pass_from, pass, rescan_for, rescan, mark_all, swept_entry, freeing_after, sweep_from, sweep}
use Rattle.rules.specs.Calls.{blocks_for, taken, placing, init, allocate, freed, free, shrunk, grown, moved, moves_to, way_to_grow, way_to, along, reallocate, collecting, collect, survey, load, store}
use Rattle.rules.specs.Runs.{Call, Init, Allocate, Free, Reallocate, Collect, Survey, step}
use Rattle.rules.specs.Planes.{plane_bytes, entry_in, entries_in, spare, spare_free, planes}
use Rattle.rules.specs.Memory.{memory, Sound, result, AcceptedIn, perform}
use Rattle.laws.proofs.Planes.{length_entries_in}
use Rattle.laws.proofs.Tables.{first_lowest, longest_says, le_run, well_says, extent_of}
use Rattle.laws.proofs.Pointers.{into_used}
use Rattle.laws.proofs.Marking.{head_inside}
use Rattle.promises.specs.Conditions.{First, RoomAfter, of_allocate, of_free, of_reallocate, of_collect, of_word}
use Rattle.promises.specs.Promises.{Object, blocks_of, Surveyed}
use Rattle.promises.specs.Samples.{sample_base, sample_table, sample_pool, sample_heap, sample_memory, sample_roots, sample_stack}
use Rattle.promises.proofs.Promised.{promises}
use Rattle.promises.proofs.Bytes.{on_bytes}
use Rattle.promises.proofs.OtherT.{one_call}
use Rattle.promises.proofs.Determined.{start_one, surveyed_one}
use Rattle.promises.proofs.Observed.{Sums, allocate_number, free_number, reallocate_number, collect_number, store_number, refusals_alike, init_shape, init_bad_shape, target_one, lead_one, allocate_loads, free_loads, reallocate_loads, store_loads, collect_loads, new_zero, new_beyond, again_kept, again_zero, again_beyond, allocate_sums, free_sums, reallocate_sums, collect_sums, init_none_used, collect_less, free_again, allocate_survey, allocate_short, reallocate_survey, equal_then}

-- ---- what is computed

abbrev h : Heap
h = sample_heap

abbrev base : ℕ
base = sample_base

pub record Computed : Type 0 where
  -- the heap
  pub shape : ShapeInBytes base 3 sample_pool sample_table
  pub sound : Sound (planes 3) sample_memory
  pub well : well_formed h.entries ≡ true
  pub heads : (entry_at h.entries 0 ≡ HEAD) × (entry_at h.entries 2 ≡ HEAD) × (entry_at h.entries 7 ≡ HEAD) × (entry_at h.entries 11 ≡ HEAD)
  pub counts : (blocks_of h 0 ≡ 2) × (blocks_of h 2 ≡ 3) × (blocks_of h 7 ≡ 1)
  pub findings : (used h.entries ≡ 7) × (objects h.entries ≡ 4) × (longest h.entries ≡ 3)
  pub starts : (first_fit h.entries 2 ≡ some 5) × (first_fit h.entries 3 ≡ some 8)
  -- the last word of each object
  pub last_0 : (load base h 0 7).answer ≡ loaded 536871024
  pub last_2 : (load base h 2 11).answer ≡ loaded 305419896
  pub last_7 : (load base h 7 3).answer ≡ loaded 2596069104
  pub last_11 : (load base h 11 3).answer ≡ loaded 4275878552
  -- these calls are accepted
  pub allocates : Accepted (allocate base h 17)
  pub frees : Accepted (free base h 2)
  pub grows : Accepted (reallocate base h 7 48)
  pub shrinks : Accepted (reallocate base h 2 16)
  pub moves : Accepted (reallocate base h 0 48)
  pub stays : Accepted (reallocate base h 0 17)
  pub stores : Accepted (store base h 2 11 4294967295)
  pub surveys : Accepted (survey base h)
  pub collects : Accepted (collect base h sample_roots (sample_stack 256))

pub computed : Computed
unfolding count leading tabulate number bytes_of word_at with_word words_of bit_of bit_at plane_bytes entry_in entries_in spare spare_free may_follow well_after well_formed block_count start_of free_from aligned fits first_from first_fit placed released extended used objects longest address_of good_base target_of heads_object head_at leads_to change_from unless_refused cleared_blocks first_of good_shape whole_words pushed visit_to visit walk_words walk drain_for drain trace root_to mark_root mark_roots pass_block pass_from pass rescan_for rescan mark_all swept_entry freeing_after sweep_from sweep blocks_for taken placing init allocate freed free shrunk grown moved moves_to grows_in_place way_to_grow way_to along reallocate collecting collect survey load store
computed = record {
  shape = record { some = omega arith; few = omega arith; planes = refl; size = refl; aligned = refl; above = omega arith; below = omega arith };
  sound = record { fits = refl; clean = refl };
  well = refl;
  heads = (refl, refl, refl, refl);
  counts = (refl, refl, refl);
  findings = (refl, refl, refl);
  starts = (refl, refl);
  last_0 = refl;
  last_2 = refl;
  last_7 = refl;
  last_11 = refl;
  allocates = refl;
  frees = refl;
  grows = refl;
  shrinks = refl;
  moves = refl;
  stays = refl;
  stores = refl;
  surveys = refl;
  collects = refl;
}

good : Passed base h
good = record { shape = ((on_bytes.shape_in_bytes base 3 sample_pool sample_table).1 computed.shape).0; well = computed.well }

-- on the sample's bytes a call is refused as on its heap
number_on : (c : Call) (stack : List ℕ) → (perform (planes 3) c stack sample_memory).answer.refusal ≡ (step c stack h).answer.refusal
number_on c stack = ap (λ (a : Answer). a.refusal) (on_bytes.as_on_heap (planes 3) (on_bytes.planes_faithful 3) c stack sample_memory computed.sound).answer

-- the lowest start, where the search is computed
lowest : (b s : ℕ) → 0 < b → first_fit h.entries b ≡ some s → Lowest h.entries b (some s)
lowest b s some_block e = rw e at (first_lowest h.entries b some_block)

-- the used blocks that a survey finds after a call that answers the change d
used_after : (r : Outcome) (d : ℤ) (n : ℕ) → Sums base h r → r.answer.change ≡ d → pos 7 +ℤ d ≡ pos n → (survey base r.heap).answer.used ≡ n
used_after r d n sums change e =
    let found : (survey base h).answer.used ≡ 7 = (promises.surveyed base h computed.surveys).used ∙ computed.findings.0 in
    ap nat_abs (sums ∙ ap (λ (u : ℕ). pos u +ℤ r.answer.change) found ∙ ap (λ (c : ℤ). pos 7 +ℤ c) change ∙ e)

-- ---- init

-- with a pool one byte shorter it is 1
pub init_refused : (perform (planes 3) (Init base) [] (memory (replicate 191 0) sample_table)).answer.refusal ≡ 1
init_refused = init_bad_shape base 3 (replicate 191 0) sample_table (λ s. omega (arith, s.size))

-- and with a table as long as a packed one
pub init_packed : (perform (planes 3) (Init base) [] (memory sample_pool (153 ∷ 66 ∷ 64 ∷ []))).answer.refusal ≡ 1
init_packed = init_bad_shape base 3 sample_pool (153 ∷ 66 ∷ 64 ∷ []) (λ s. omega (arith, s.planes))

init_accepted_in : AcceptedIn (perform (planes 3) (Init base) [] sample_memory)
init_accepted_in = init_shape base 3 sample_pool sample_table computed.shape

init_accepted : Accepted (init base h)
unfolding step
init_accepted = sym (number_on (Init base) []) ∙ init_accepted_in

-- else it leaves four zero bytes, no used block and the pool
pub init_memory : (perform (planes 3) (Init base) [] sample_memory).memory ≡ memory sample_pool (0 ∷ 0 ∷ 0 ∷ 0 ∷ [])
init_memory = on_bytes.init_zero base 3 sample_pool sample_table init_accepted_in

pub init_unused : (survey base (init base h).heap).answer.used ≡ 0
init_unused = init_none_used base h init_accepted

pub init_pool : (init base h).heap.pool ≡ sample_pool
init_pool = (promises.initialised base h init_accepted).bytes

-- ---- the planes

-- another t is refused by 1, also 4, with which the table would be as long
pub other_t : (perform (planes 4) (Survey base) [] sample_memory).answer.refusal ≡ 1
other_t = go (ℕ_discrete (perform (planes 4) (Survey base) [] sample_memory).answer.refusal 1)
  where
    go : Dec ((perform (planes 4) (Survey base) [] sample_memory).answer.refusal ≡ 1) → (perform (planes 4) (Survey base) [] sample_memory).answer.refusal ≡ 1
    go (yes e) = e
    go (no other) = absurd (omega (arith, on_bytes.one_t 3 4 (Init base) (Survey base) [] [] sample_memory refl refl (λ e. omega (arith, e, init_accepted_in)) other))

-- the last byte of a plane may be 15, and not 16
last_bytes : (b : ℕ) → b < 256 → AllBytes (133 ∷ 8 ∷ 26 ∷ b ∷ [])
last_bytes b h zero = omega arith
last_bytes b h (suc zero) = omega arith
last_bytes b h (suc (suc zero)) = omega arith
last_bytes b h (suc (suc (suc zero))) = h
last_bytes b h (suc (suc (suc (suc i)))) = omega arith

pub spare_15 : spare_free 3 (133 ∷ 8 ∷ 26 ∷ 15 ∷ []) ≡ true
unfolding plane_bytes
spare_15 = (on_bytes.spare_in_bytes 3 (133 ∷ 8 ∷ 26 ∷ 15 ∷ []) (last_bytes 15 (omega arith))).1 (λ _. (omega arith, omega arith))

pub spare_16 : ¬ (spare_free 3 (133 ∷ 8 ∷ 26 ∷ 16 ∷ []) ≡ true)
unfolding plane_bytes
spare_16 clean = omega (arith, ((on_bytes.spare_in_bytes 3 (133 ∷ 8 ∷ 26 ∷ 16 ∷ []) (last_bytes 16 (omega arith))).0 clean refl).1)

-- ---- allocate: 17 bytes are two blocks, and those of the lowest run are blocks 5 and 6

allocated_at : (allocate base h 17).answer.block ≡ 5
unfolding blocks_for
allocated_at = start_one h.entries 2 (allocate base h 17).answer.block 5 (promises.allocated base h 17 computed.allocates).start (lowest 2 5 (omega arith) computed.starts.0)

-- the last word of the new object is 0, and there is none after it
pub allocated_last : (load base (allocate base h 17).heap 5 7).answer ≡ loaded 0
unfolding blocks_for
allocated_last = rw allocated_at at (new_zero base h 17 computed.allocates 7 (omega arith))

pub allocated_end : (load base (allocate base h 17).heap 5 8).answer ≡ only_refusal 8
unfolding blocks_for
allocated_end = rw allocated_at at (new_beyond base h 17 computed.allocates 8 (omega arith))

-- the last word of the object before it is as it was
pub allocated_beside : (load base (allocate base h 17).heap 2 11).answer ≡ loaded 305419896
allocated_beside = allocate_loads base h good 17 computed.allocates 2 computed.heads.1 11 ∙ computed.last_2

pub allocated_used : (survey base (allocate base h 17).heap).answer.used ≡ 9
unfolding blocks_for
allocated_used = used_after (allocate base h 17) (pos 2) 9 (allocate_sums base h good 17 computed.allocates) (promises.allocated base h 17 computed.allocates).change refl

-- ---- free: the object of blocks 2 to 4

pub freed_beside : (load base (free base h 2).heap 7 3).answer ≡ loaded 2596069104
freed_beside = free_loads base h good 2 computed.frees 7 computed.heads.2 (λ e. omega arith) 3 ∙ computed.last_7

pub freed_used : (survey base (free base h 2).heap).answer.used ≡ 4
unfolding block_count leading tabulate bit_of bit_at plane_bytes entry_in entries_in
freed_used = used_after (free base h 2) (neg_ℤ (pos 3)) 4 (free_sums base h good 2 computed.frees) (promises.freed base h 2 computed.frees).change refl

-- in bytes: no spare bit is set
pub freed_clean : spare_free 3 (perform (planes 3) (Free base 2) [] sample_memory).memory.table ≡ true
unfolding step
freed_clean = on_bytes.clean_after 3 (Free base 2) [] sample_memory (number_on (Free base 2) [] ∙ computed.frees)

-- its 48 bytes can be allocated again
pub freed_room : Accepted (allocate base (free base h 2).heap 48)
freed_room = free_again base h 2 48 computed.frees (omega arith) (omega (arith, computed.counts.1)) (inr (omega arith))

-- ---- reallocate: the object of block 7 to three blocks, that of blocks 2 to 4 to one, that of blocks 0 and 1 to three and to two

room_after : RoomAfter h 7 (blocks_for 48)
unfolding blocks_for block_count free_from leading tabulate bit_of bit_at plane_bytes entry_in entries_in
room_after = record { aligned = inl (omega arith); run = le_run h.entries 2 8 (omega arith) (omega arith) }

grown_at : (reallocate base h 7 48).answer.block ≡ 7
grown_at = (promises.reallocated base h 7 48 computed.grows).in_place (inr room_after)

-- the old last word is kept, and the new one is 0
pub grown_kept : (load base (reallocate base h 7 48).heap 7 3).answer ≡ loaded 2596069104
unfolding blocks_for
grown_kept =
    (rw grown_at at (again_kept base h 7 48 good computed.heads.2 computed.grows 3 (omega (arith, computed.counts.2)) (omega arith))) ∙ computed.last_7

pub grown_last : (load base (reallocate base h 7 48).heap 7 11).answer ≡ loaded 0
unfolding blocks_for
grown_last = rw grown_at at (again_zero base h 7 48 good computed.heads.2 computed.grows 11 (omega (arith, computed.counts.2)) (omega arith))

pub grown_beside : (load base (reallocate base h 7 48).heap 11 3).answer ≡ loaded 4275878552
grown_beside = reallocate_loads base h good 7 48 computed.grows 11 computed.heads.3 (λ e. omega arith) 3 ∙ computed.last_11

-- one block has four words
shrunk_at : (reallocate base h 2 16).answer.block ≡ 2
unfolding blocks_for
shrunk_at = (promises.reallocated base h 2 16 computed.shrinks).in_place (inl (omega (arith, computed.counts.1)))

pub shrunk_end : (load base (reallocate base h 2 16).heap 2 4).answer ≡ only_refusal 8
unfolding blocks_for
shrunk_end = rw shrunk_at at (again_beyond base h 2 16 good computed.heads.1 computed.shrinks 4 (omega arith))

pub shrunk_used : (survey base (reallocate base h 2 16).heap).answer.used ≡ 5
unfolding blocks_for block_count leading tabulate bit_of bit_at plane_bytes entry_in entries_in
shrunk_used = used_after (reallocate base h 2 16) (neg_ℤ (pos 2)) 5 (reallocate_sums base h good 2 16 computed.shrinks) (promises.reallocated base h 2 16 computed.shrinks).change refl

-- block 2 is not FREE, so the object moves to block 8
moved_at : (reallocate base h 0 48).answer.block ≡ 8
unfolding blocks_for block_count leading tabulate bit_of bit_at plane_bytes entry_in entries_in
moved_at =
    start_one h.entries 3 (reallocate base h 0 48).answer.block 8
    ((promises.reallocated base h 0 48 computed.moves).elsewhere (omega arith) (λ room. omega (arith, room.run.free 0 (omega arith))))
    (lowest 3 8 (omega arith) computed.starts.1)

pub moved_kept : (load base (reallocate base h 0 48).heap 8 7).answer ≡ loaded 536871024
unfolding blocks_for
moved_kept =
    (rw moved_at at (again_kept base h 0 48 good computed.heads.0 computed.moves 7 (omega (arith, computed.counts.0)) (omega arith))) ∙ computed.last_0

pub moved_last : (load base (reallocate base h 0 48).heap 8 11).answer ≡ loaded 0
unfolding blocks_for
moved_last = rw moved_at at (again_zero base h 0 48 good computed.heads.0 computed.moves 11 (omega (arith, computed.counts.0)) (omega arith))

pub moved_beside : (load base (reallocate base h 0 48).heap 11 3).answer ≡ loaded 4275878552
moved_beside = reallocate_loads base h good 0 48 computed.moves 11 computed.heads.3 (λ e. omega arith) 3 ∙ computed.last_11

-- to as many blocks nothing is done
pub stayed_last : (c : Call) (stack : List ℕ) → step c stack (reallocate base h 0 17).heap ≡ step c stack h
unfolding blocks_for
stayed_last c stack = equal_then c stack base h 0 17 computed.stays (omega (arith, computed.counts.0))

-- ---- store: the largest word, as the last of the object of blocks 2 to 4

pub stored_back : (load base (store base h 2 11 4294967295).heap 2 11).answer ≡ loaded 4294967295
stored_back = (promises.stored base h 2 11 4294967295 computed.stores).back (omega arith)

pub stored_before : (load base (store base h 2 11 4294967295).heap 2 10).answer ≡ (load base h 2 10).answer
stored_before = (promises.stored base h 2 11 4294967295 computed.stores).other 2 10 (inr (λ e. omega arith))

pub stored_other : (load base (store base h 2 11 4294967295).heap 0 7).answer ≡ loaded 536871024
stored_other = (promises.stored base h 2 11 4294967295 computed.stores).other 0 7 (inl (λ e. omega arith)) ∙ computed.last_0

pub stored_beside : (load base (store base h 2 11 4294967295).heap 7 3).answer ≡ loaded 2596069104
stored_beside = store_loads base h good 2 11 4294967295 computed.stores 7 computed.heads.2 (λ e. omega arith) 3 ∙ computed.last_7

-- ---- calls that are given another t

-- 1 comes before 4, which a mark stack of 65 entries is: it stays as it is
pub turns_stack : perform (planes 4) (Collect base sample_roots) (sample_stack 260) sample_memory ≡ result (only_refusal 1) sample_memory (sample_stack 260)
turns_stack = one_call 3 4 (Collect base sample_roots) (sample_stack 260) sample_memory computed.shape.size (λ e. omega (arith, e))

-- ---- survey, and room

sample_longest : Longest h.entries 3
sample_longest = rw computed.findings.2 at (longest_says h.entries)

-- there is one such answer
pub survey_finds : ((survey base h).answer.used ≡ 7) × ((survey base h).answer.objects ≡ 4) × ((survey base h).answer.longest ≡ 3)
survey_finds =
    let ought : Surveyed h (leaves (surveyed 7 4 3) h) = record { used = sym computed.findings.0; objects = sym computed.findings.1; longest = sample_longest } in
    let one = surveyed_one h (survey base h) (leaves (surveyed 7 4 3) h) (promises.surveyed base h computed.surveys) ought in
    (one.used, one.objects, one.longest)

-- 49 bytes are one block too many, and 193 more than the pool has
pub allocate_full : (allocate base h 49).answer.refusal ≡ 9
unfolding blocks_for
allocate_full = allocate_short base h good 49 (omega arith) (omega (arith, survey_finds.2))

pub allocate_fits : (allocate base h 48).answer.refusal ≢ 9
unfolding blocks_for
allocate_fits e = omega (arith, (allocate_survey base h good 48 (omega arith) (omega arith)).0 e, survey_finds.2)

pub reallocate_full : (reallocate base h 0 49).answer.refusal ≡ 9
unfolding blocks_for block_count leading tabulate bit_of bit_at plane_bytes entry_in entries_in
reallocate_full =
    (promises.reallocate_no_room base h 0 49).1
    (good, omega arith, computed.heads.0, (omega arith, λ room. omega (arith, room.run.free 0 (omega arith)), λ s f. omega (arith, sample_longest.most 4 s f.run)))

pub reallocate_fits : (reallocate base h 0 48).answer.refusal ≢ 9
unfolding blocks_for
reallocate_fits e = omega (arith, ((reallocate_survey base h good 0 48 (omega arith) (omega arith) computed.heads.0).0 e).2, survey_finds.2)

pub allocate_too_much : (allocate base h 193).answer.refusal ≡ 9
allocate_too_much = promises.allocate_larger base h 193 good (omega (arith, computed.shape.size))

pub reallocate_too_much : (reallocate base h 11 193).answer.refusal ≡ 9
reallocate_too_much = promises.reallocate_larger base h 11 193 good computed.heads.3 (omega (arith, computed.shape.size))

-- ---- addresses

-- the address of block 11 has it as its target, and the end of the pool has none
pub target_last : target_of base 12 536871088 ≡ some 11
unfolding Points address_of
target_last = target_one base 12 536871088 (some 11) (omega arith, refl)

pub target_end : target_of base 12 536871104 ≡ none
unfolding Points address_of
target_end = target_one base 12 536871104 none (λ k l e. omega arith)

-- the address of a block of an object leads to it
leads_block : (k b : ℕ) → Object h k → k ≤ b → b < k + blocks_of h k → leads_to base h.entries (base + 16 * b) ≡ some k
unfolding Leads address_of
leads_block k b head from to = lead_one base h.entries (base + 16 * b) (some k) (record { head = inl head; block = b; from = from; to = to; address = refl })

leads_head : (k : ℕ) → Object h k → leads_to base h.entries (base + 16 * k) ≡ some k
leads_head k head = leads_block k k head (omega arith) (omega (arith, (extent_of h.entries k (head_inside h.entries k head)).some_block))

-- that of block 4 to the object at block 2, whose third and last block it is
pub leads_third : leads_to base h.entries 536870976 ≡ some 2
leads_third = leads_block 2 4 computed.heads.1 (omega arith) (omega (arith, computed.counts.1))

-- that of block 5, which is FREE and directly after it, to none
pub leads_free : leads_to base h.entries 536870992 ≡ none
unfolding Leads address_of tabulate bit_of bit_at plane_bytes entry_in entries_in
leads_free = lead_one base h.entries 536870992 none not_5
  where
    not_5 : (k : ℕ) → PointsInto base h.entries 536870992 k → ⊥
    not_5 k p = let e : p.block ≡ 5 = omega (arith, p.address) in into_used base h.entries 536870992 k p (rw e refl)

-- and an address inside block 4 to none
pub leads_inside : leads_to base h.entries 536870977 ≡ none
unfolding Leads address_of
leads_inside = lead_one base h.entries 536870977 none (λ k p. omega (arith, p.address))

-- in tables that are not well-formed: the TAIL of an object that is marked leads to it
pub leads_marked : leads_to base (3 ∷ 2 ∷ []) 536870928 ≡ some 0
unfolding Leads address_of block_count leading
leads_marked = lead_one base (3 ∷ 2 ∷ []) 536870928 (some 0) (record { head = inr refl; block = 1; from = omega arith; to = omega arith; address = refl })

-- a TAIL in block 0, and one after FREE, to none
pub leads_first_tail : leads_to base (2 ∷ []) 536870912 ≡ none
unfolding Leads address_of
leads_first_tail = lead_one base (2 ∷ []) 536870912 none not_0
  where
    not_0 : (k : ℕ) → PointsInto base (2 ∷ []) 536870912 k → ⊥
    not_0 zero p = ⊎_elim (λ q. omega arith) (λ q. omega arith) p.head
    not_0 (suc k) p = omega (arith, p.address, p.from)

pub leads_stray : leads_to base (0 ∷ 2 ∷ []) 536870928 ≡ none
unfolding Leads address_of
leads_stray = lead_one base (0 ∷ 2 ∷ []) 536870928 none not_1
  where
    not_1 : (k : ℕ) → PointsInto base (0 ∷ 2 ∷ []) 536870928 k → ⊥
    not_1 zero p = ⊎_elim (λ q. omega arith) (λ q. omega arith) p.head
    not_1 (suc zero) p = ⊎_elim (λ q. omega arith) (λ q. omega arith) p.head
    not_1 (suc (suc k)) p = omega (arith, p.address, p.from)

-- ---- collect: the first object is reachable from its address, and the third from its last word

reach_0 : Reachable base h (words_of sample_roots) 0
unfolding tabulate number bytes_of word_at words_of
reach_0 = root (Memᴰ.head refl) (leads_head 0 computed.heads.0)

reach_7 : Reachable base h (words_of sample_roots) 7
unfolding number bytes_of word_at with_word
reach_7 = edge reach_0 (record { word = 7; inside = omega (arith, computed.counts.0); leads = leads_head 7 computed.heads.2 })

abbrev kept : Outcome
kept = collect base h sample_roots (sample_stack 256)

pub collected_last : (load base kept.heap 7 3).answer ≡ loaded 2596069104
collected_last = collect_loads (planes 3) (on_bytes.planes_faithful 3) base sample_memory sample_roots (sample_stack 256) good computed.collects 7 reach_7 3 ∙ computed.last_7

-- what is still used and what is given back are the seven blocks
pub collected_used : used kept.heap.entries + nat_abs kept.answer.change ≡ 7
collected_used = collect_less (planes 3) (on_bytes.planes_faithful 3) base sample_memory sample_roots (sample_stack 256) computed.collects ∙ computed.findings.0

pub collected_sums : Sums base h kept
collected_sums = collect_sums (planes 3) (on_bytes.planes_faithful 3) base sample_memory sample_roots (sample_stack 256) good computed.collects

-- ---- refused calls

-- a request for 0 bytes is 5: the answer tells no more, and the table keeps its bytes
no_bytes : (allocate base h 0).answer.refusal ≡ 5
unfolding First of_allocate
no_bytes = allocate_number base h 0 5 (inr (λ bad. bad good.shape, inr (λ bad. bad (well_says h.entries good.well), inl (refl, refl))))

no_bytes_again : (k : ℕ) → (reallocate base h k 0).answer.refusal ≡ 5
unfolding First of_reallocate
no_bytes_again k = reallocate_number base h k 0 5 (inr (λ bad. bad good.shape, inr (λ bad. bad (well_says h.entries good.well), inl (refl, refl))))

pub refused_alike : (k : ℕ) → (allocate base h 0).answer ≡ (reallocate base h k 0).answer
unfolding step
refused_alike k =
    (refusals_alike (Allocate base 0) (Reallocate base k 0) [] [] h (λ zero. omega (arith, no_bytes)) (no_bytes ∙ sym (no_bytes_again k))).0

-- it leaves every byte as it is
pub refused_memory : perform (planes 3) (Allocate base 0) [] sample_memory ≡ result (only_refusal 5) sample_memory []
unfolding step
refused_memory =
    let n = number_on (Allocate base 0) [] ∙ no_bytes in
    on_bytes.refused_bytes (planes 3) (Allocate base 0) [] sample_memory (λ z. omega (arith, n)) ∙ ap (λ (r : ℕ). result (only_refusal r) sample_memory []) n

-- block 12 is outside
pub free_outside : (free base h 12).answer.refusal ≡ 6
unfolding First of_free
free_outside = free_number base h 12 6 (inr (λ bad. bad good.shape, inr (λ bad. bad (well_says h.entries good.well), inl (omega (arith, length_entries_in 3 sample_table), refl))))

-- the object of blocks 2 to 4 has words 0 to 11
pub store_beyond : (store base h 2 12 0).answer.refusal ≡ 8
unfolding First of_word
store_beyond =
    store_number base h 2 12 0 8
    (inr (
      λ bad. bad good.shape,
      inr (
        λ bad. bad (well_says h.entries good.well),
        inr (λ out. omega (arith, length_entries_in 3 sample_table), inr (λ other. other computed.heads.1, inl (omega (arith, computed.counts.1), refl))),
      ),
    ))

-- a mark stack of 65 entries is 4, and it stays as it is, and so does the heap
stack_too_long : (collect base h sample_roots (sample_stack 260)).answer.refusal ≡ 4
unfolding First of_collect bytes_of
stack_too_long =
    collect_number base h sample_roots (sample_stack 260) 4
    (inr (λ bad. bad (good.shape, refl, refl), inr (λ bad. bad (well_says h.entries good.well), inr (λ many. omega arith, inl (omega arith, refl)))))

pub stack_left : (collect base h sample_roots (sample_stack 260)).stack ≡ sample_stack 260
stack_left = promises.refused_stack base h sample_roots (sample_stack 260) (λ none. omega (arith, stack_too_long))

-- in bytes: nothing at all is written
pub collect_memory : perform (planes 3) (Collect base sample_roots) (sample_stack 260) sample_memory ≡ result (only_refusal 4) sample_memory (sample_stack 260)
unfolding step
collect_memory =
    let n = number_on (Collect base sample_roots) (sample_stack 260) ∙ stack_too_long in
    on_bytes.refused_bytes (planes 3) (Collect base sample_roots) (sample_stack 260) sample_memory (λ z. omega (arith, n))
    ∙ ap (λ (r : ℕ). result (only_refusal r) sample_memory (sample_stack 260)) n

pub heap_left : (collect base h sample_roots (sample_stack 260)).heap ≡ h
unfolding step
heap_left = (promises.refused (Collect base sample_roots) (sample_stack 260) h (λ none. omega (arith, stack_too_long))).heap
