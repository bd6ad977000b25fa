-- The statement used on three heaps. What the first answers is computed; what the second answers follows by the statement, with other dead bytes and other mark stacks, all but the rescans of two
-- collections. Heaps that differ in a reachable byte are told apart.
-- Assumes nothing.
use mathlib.Core.Path.{◌≡◌, refl, sym, ap, ◌∙◌}
use mathlib.Core.Logic.{◌≢◌}
use mathlib.Core.Bool.{Bool, true, not}
use mathlib.Core.List.{List, [], ◌∷◌, ◌++◌, map}
use Prim.Native.Nat.{ℕ, ◌+◌, ◌*◌}
use native.Mathlib.Omega.{arith}
use lib.Dec.{T, eqb, eqb→eq}
use lib.IntN.{pos}
use lib.ListN.{length, get_or, replicate}
use Rattle.rules.specs.Tests.{either, count, leading, tabulate}
use Rattle.rules.specs.Bits.{bit_of, bit_at, byte_of}
use Rattle.rules.specs.Words.{number, bytes_of, two_bytes_of, first_two, word_at, with_word, words_of}
use Rattle.rules.specs.Entries.{TAIL, entry_of, entries_of, table_of}
use Rattle.rules.specs.Tables.{entry_at, is_head, may_follow, well_after, well_formed, block_count, start_of, free_from, aligned, fits, first_from, first_fit, placed, released, used, objects, longest}
use Rattle.rules.specs.Planes.{plane_bytes, entry_in, entries_in, spare, spare_free, plane, planes_of, planes}
use Rattle.rules.specs.Pointers.{address_of, good_base, target_of, heads_object, head_at, leads_to}
use Rattle.rules.specs.Outcomes.{Heap, only_refusal, change_from, placed_at, collected_to, surveyed, loaded, written_to, opened_at, unless_refused, cleared_blocks}
use Rattle.rules.specs.Refusals.{first_of, good_shape, whole_words}
use Rattle.rules.specs.Marking.{pushed, visit_to, visit, walk_words, walk, drain_for, drain, trace, root_to, mark_root, mark_roots, pass_block, pass_from, pass, rescan_for, rescan, mark_all, swept_entry, freeing_after, sweep_from, sweep}
use Rattle.rules.specs.Calls.{blocks_for, taken, placing, allocate, freed, free, collecting, collect, survey, load, store, write_image, good_target, open_image}
use Rattle.rules.specs.Images.{section, sections, block_bytes, used_from, image_of}
use Rattle.rules.specs.Files.{section_in, section_tests, file_of, file_tests, fault_of, pool_of}
use Rattle.rules.specs.Runs.{step}
use Rattle.rules.specs.Memory.{heap_in, or_refused, perform}
use Rattle.rules.specs.Lent.{Lent, tests_beside, beside_after, or_unserved, serve_call}
use Rattle.rules.specs.Examples.{minus}
use Rattle.laws.proofs.Below.{all_below, below}
use Rattle.laws.proofs.Marking.{head_inside}
use Rattle.keeping.specs.Keeping.{marking, collected, Agree}
use Rattle.keeping.proofs.Owners.{reachable_head}
use Rattle.keeping.proofs.Kept.{collected_kept}
use Rattle.unwinding.specs.Answers.{SameStacks}
use Rattle.programs.proofs.Laws.{heads_same, tails_same}
use Rattle.logs.specs.Log.{logged, readout, declined, link_in, link_to, link_at, follow, on_log, checked, last_of, at_index, join, enter, append_to, append, read_from, read, drop_from, drop}
use Rattle.services.specs.Services.{Response, answered, replied, refusal_of, serve_program, serve_in, Asked, served_to, responses, buffers, lent_after, responses_by, buffers_by, lent_after_by}
use Rattle.noninterference.specs.Noninterference.{Alike, Indistinct}
use Rattle.noninterference.specs.Unseen.{without_stacks, stack_lengths}
use Rattle.noninterference.specs.Samples.{sample_base, sample_roots, first_pool, second_pool, first_lent, second_lent, third_lent, earlier_services, last_services, first_services, second_services, sample_image, loading_services}
use Rattle.noninterference.proofs.Noninterference.{noninterference}
use Rattle.noninterference.proofs.Conclusions.{rescans_of, collections_long, responses_later, responses_joined, same_lists, same_buffers, same_tables, same_words}
use Rattle.noninterference.proofs.Hypotheses.{stacks_long, stacks_good, alike_long, agree_of, also_accepted}
use Rattle.noninterference.proofs.AlikeServices.{alike_next}

-- ---- agreement on the reachable objects, as a test over the objects that a collection keeps

-- the bytes of one object
agree_in : Heap → Heap → ℕ → Bool
agree_in h h'' o = all_below (16 * block_count h.entries o) (λ (i : ℕ). eqb (get_or h.pool (16 * o + i) 0) (get_or h''.pool (16 * o + i) 0))

-- the bytes of each kept object
pub agree_test : Heap → Heap → List ℕ → Bool
agree_test h h'' kept = all_below (length h.entries) (λ (o : ℕ). either (not (is_head (entry_at kept o))) (agree_in h h'' o))

-- the kept objects are the reachable ones
agree_tested : (base : ℕ) (h h'' : Heap) (roots : List ℕ) → well_formed h.entries ≡ true → h.entries ≡ h''.entries
    → T (agree_test h h'' (collected base h roots 0)) → Agree base roots h h''
unfolding agree_in agree_test
agree_tested base h h'' roots well table t =
    agree_of base roots h h'' table
    (λ o r i l.
    let k = collected_kept base h roots 0 well o r in
    let a = below _ _ t o (head_inside h.entries o (reachable_head base h roots well o r)) in
    let b : T (agree_in h h'' o) = rw k at a in
    eqb→eq _ _ (below _ _ b i l))

-- ---- what is computed

-- the heaps in the three memories
abbrev pub first_heap : Heap
first_heap = heap_in (planes 3) first_lent.memory

abbrev pub second_heap : Heap
second_heap = heap_in (planes 3) second_lent.memory

abbrev pub third_heap : Heap
third_heap = heap_in (planes 3) third_lent.memory

-- the responses to the earlier and to the last services, with r rescans
abbrev pub earlier_responses : ℕ → List Response
earlier_responses r =
    answered (collected_to 5 r (minus 3))
    ∷ answered (only_refusal 7)
    ∷ answered (only_refusal 1)
    ∷ answered (only_refusal 1)
    ∷ answered (loaded 0xDEAD_BEEF)
    ∷ replied (logged 0 0x2000_0010 (pos 2))
    ∷ replied (declined 1)
    ∷ replied (logged 0 0x2000_0010 (pos 1))
    ∷ answered (placed_at 7 (pos 1))
    ∷ replied (logged 9 0 (minus 1))
    ∷ replied (readout 0 20 2)
    ∷ replied (logged 0 0x2000_0030 (minus 2))
    ∷ answered (only_refusal 14)
    ∷ answered (placed_at 1 (pos 2))
    ∷ answered (loaded 0)
    ∷ []

abbrev pub last_responses : ℕ → List Response
last_responses r = answered (collected_to 5 r (minus 2)) ∷ answered (surveyed 9 5 2) ∷ answered (written_to 167) ∷ answered (opened_at sample_base 2) ∷ []

-- the rescans of response k, from 0
abbrev pub rescans_at : ℕ → List Response → ℕ
rescans_at k ps = get_or (map rescans_of ps) k 0

pub record Computed : Type 0 where
  -- the table is well-formed
  pub well : well_formed first_heap.entries ≡ true
  -- the first and the second pool are equally long, and agree on the kept objects; they differ in the first byte of b, in a byte of block 4 and in the last byte of e
  pub long : length first_pool ≡ length second_pool
  pub tested : T (agree_test first_heap second_heap (collected sample_base first_heap (words_of sample_roots) 0))
  pub first_bytes : get_or first_pool 16 0 ∷ get_or first_pool 79 0 ∷ get_or first_pool 127 0 ∷ [] ≡ 0 ∷ 0 ∷ 0 ∷ []
  pub second_bytes : get_or second_pool 16 0 ∷ get_or second_pool 79 0 ∷ get_or second_pool 127 0 ∷ [] ≡ 112 ∷ 255 ∷ 32 ∷ []
  -- what the first answers, and the table and the last word of g that it is left with
  pub first_responses : responses first_services first_lent ≡ earlier_responses 2 ++ last_responses 1
  pub first_table : (lent_after first_services first_lent).memory.table ≡ 41 ∷ 3 ∷ 80 ∷ 12 ∷ []
  pub first_used : entry_at (entries_in 3 (lent_after first_services first_lent).memory.table) 11 ≡ TAIL
  pub first_word : word_at (lent_after first_services first_lent).memory.pool 47 ≡ 0xDEAD_BEEF
  -- the image that it writes, and its roots; no other service fills a buffer
  pub first_buffers : buffers first_services first_lent ≡ replicate 17 [] ++ sample_image ∷ sample_roots ∷ []
  -- three entries are enough for the second, and two at last
  pub second_rescans : map rescans_of (responses second_services second_lent) ≡ replicate 19 0
  -- the first and the third answer a load differently
  pub first_loads : responses loading_services first_lent ≡ answered (collected_to 5 2 (minus 3)) ∷ answered (loaded 0xDEAD_BEEF) ∷ []
  pub third_loads : responses loading_services third_lent ≡ answered (collected_to 5 2 (minus 3)) ∷ answered (loaded 0x00AD_BEEF) ∷ []

pub computed : Computed
unfolding agree_in agree_test marking collected count leading tabulate number bytes_of word_at with_word words_of bit_of bit_at byte_of plane_bytes entry_in entries_in spare spare_free plane planes_of may_follow well_after well_formed block_count start_of free_from aligned fits first_from first_fit placed released used objects longest address_of good_base target_of heads_object head_at leads_to change_from unless_refused cleared_blocks first_of good_shape whole_words pushed visit_to visit walk_words walk drain_for drain trace root_to mark_root mark_roots pass_block pass_from pass rescan_for rescan mark_all swept_entry freeing_after sweep_from sweep blocks_for taken placing allocate freed collecting collect free survey load store write_image step or_refused perform two_bytes_of table_of section sections block_bytes used_from image_of first_two entry_of entries_of section_in section_tests file_of file_tests fault_of pool_of good_target open_image tests_beside beside_after or_unserved serve_call link_in link_to link_at follow on_log checked last_of at_index join enter append_to append read_from read drop_from drop serve_program serve_in responses_by buffers_by lent_after_by
computed =
    record {
      well = refl;
      long = refl;
      tested = tt;
      first_bytes = refl;
      second_bytes = refl;
      first_responses = refl;
      first_table = refl;
      first_used = refl;
      first_word = refl;
      first_buffers = refl;
      second_rescans = refl;
      first_loads = refl;
      third_loads = refl;
    }

-- the refusal number of the first response
first_refusal : List Response → ℕ
first_refusal [] = 0
first_refusal (a ∷ ps) = refusal_of a

-- a first response that is accepted
accepted : (x : Asked) (xs : List Asked) (l : Lent) (a : Response) (ps : List Response) → responses (x ∷ xs) l ≡ a ∷ ps → refusal_of a ≡ 0 → refusal_of (served_to x l).reply ≡ 0
unfolding responses_by first_refusal
accepted x xs l a ps e z = ap first_refusal e ∙ z

-- ---- two heaps that differ in bytes of unreachable objects and of a free block

-- 0 and 3 entries
samples_stacks : SameStacks [] (replicate 12 9)
samples_stacks = stacks_good [] (replicate 12 9) 0 3 refl (omega arith) refl (omega arith)

-- at last 1 and 2
last_stacks : SameStacks (bytes_of 7) (replicate 8 8)
unfolding bytes_of
last_stacks = stacks_good (bytes_of 7) (replicate 8 8) 1 2 refl (omega arith) refl (omega arith)

none : SameStacks [] []
none = stacks_long [] [] refl

-- behind the last collection all mark stacks are equally long
last_alike : Alike (last_services (bytes_of 7)) (last_services (replicate 8 8))
unfolding without_stacks stack_lengths
last_alike = alike_next _ _ last_stacks (alike_long _ _ refl refl)

pub samples_alike : Alike first_services second_services
samples_alike =
    alike_next _ _ samples_stacks (alike_next _ _ none (alike_next _ _ none (alike_next _ _ (stacks_long _ _ refl) (alike_next _ _ none (alike_next _ _ none (alike_next _ _ samples_stacks
    (alike_next _ _ samples_stacks (alike_next _ _ none (alike_next _ _ samples_stacks (alike_next _ _ none (alike_next _ _ none (alike_next _ _ none (alike_next _ _ none (alike_next _ _ none
    last_alike))))))))))))))

-- they agree on what is reachable
pub first_second_agree : Agree sample_base (words_of sample_roots) first_heap second_heap
first_second_agree = agree_tested sample_base first_heap second_heap (words_of sample_roots) computed.well refl computed.tested

-- so they are not told apart: the second collection is accepted because the first is
pub first_second_indistinct : Indistinct 3 first_services second_services first_lent second_lent
first_second_indistinct =
    let x = accepted _ _ first_lent _ _ computed.first_responses refl in
    noninterference 3 sample_base sample_roots [] (replicate 12 9) first_lent second_lent _ _ (record { table = refl; beside = refl }) first_second_agree samples_alike
    x (also_accepted 3 sample_base sample_roots [] (replicate 12 9) first_lent second_lent computed.long (record { table = refl; beside = refl }) samples_stacks x)

-- equal parts of a list
joined_same : {xs xs' ys ys' zs : List Response} → zs ≡ xs ++ ys → xs ≡ xs' → ys ≡ ys' → zs ≡ xs' ++ ys'
joined_same e f g = cc

-- so the second answers, with some numbers of rescans of the two collections whose mark stacks are not equally long; to the appends too, though theirs are not
pub second_responses : (r : ℕ) × (s : ℕ) × (responses second_services second_lent ≡ earlier_responses r ++ last_responses s)
unfolding collections_long bytes_of
second_responses =
    let (zs, ws, e, x, y) = responses_joined (earlier_services [] (1 ∷ 2 ∷ 3 ∷ [])) (earlier_services (replicate 12 9) (253 ∷ 254 ∷ 255 ∷ [])) (earlier_responses 2) refl refl
    (rw computed.first_responses at first_second_indistinct.same_responses) in
    let (r, f) = responses_later x refl in
    let (s, g) = responses_later y refl in
    (r, s, joined_same e f g)

-- the table which it is left with
pub second_table : (lent_after second_services second_lent).memory.table ≡ 41 ∷ 3 ∷ 80 ∷ 12 ∷ []
second_table = sym (same_tables first_second_indistinct) ∙ computed.first_table

-- and the last word of g
pub second_word : word_at (lent_after second_services second_lent).memory.pool 47 ≡ 0xDEAD_BEEF
second_word = sym (same_words first_second_indistinct 11 (λ f. let e = computed.first_used in omega arith) 3 (omega arith)) ∙ computed.first_word

-- and the image, with its roots when it is opened: its dead bytes are none of the second's
pub second_buffers : buffers second_services second_lent ≡ replicate 17 [] ++ sample_image ∷ sample_roots ∷ []
second_buffers = sym (same_buffers first_second_indistinct) ∙ computed.first_buffers

-- the rescans do differ: 2 and 0, and at last 1 and 0
pub rescans_differ : (rescans_at 0 (responses first_services first_lent) ≢ rescans_at 0 (responses second_services second_lent))
    × (rescans_at 15 (responses first_services first_lent) ≢ rescans_at 15 (responses second_services second_lent))
rescans_differ =
    let a = ap (map rescans_of) computed.first_responses in
    let b = computed.second_rescans in
    ((λ e. let c = entry 0 a in let d = entry 0 b in omega arith), (λ e. let c = entry 15 a in let d = entry 15 b in omega arith))
  where
    entry : {ms ns : List ℕ} (k : ℕ) → ms ≡ ns → get_or ms k 0 ≡ get_or ns k 0
    entry k e = ap (λ (ns : List ℕ). get_or ns k 0) e

-- ---- two heaps that differ in one byte of a reachable object

-- a load tells them apart
pub first_third_distinct : Indistinct 3 loading_services loading_services first_lent third_lent → ⊥
first_third_distinct same =
    let e = second_value (rw (computed.first_loads, computed.third_loads) at (same_lists same refl)) in
    omega arith
  where
    value_of : Response → ℕ
    value_of (answered a) = a.value
    value_of (replied y) = 0

    second_value : {a b c d : Response} → a ∷ b ∷ [] ≡ c ∷ d ∷ [] → value_of b ≡ value_of d
    second_value e = ap value_of (heads_same (tails_same e))

-- so they do not agree on what is reachable: that is the only hypothesis which they do not meet
pub first_third_disagree : Agree sample_base (words_of sample_roots) first_heap third_heap → ⊥
first_third_disagree agree =
    first_third_distinct
    (noninterference 3 sample_base sample_roots [] [] first_lent third_lent _ _ (record { table = refl; beside = refl }) agree (alike_long _ _ refl refl)
    (accepted _ _ first_lent _ _ computed.first_loads refl) (accepted _ _ third_lent _ _ computed.third_loads refl))
