-- The table in two planes, in bytes: the worked examples 1 to 12 once more, an odd t, and what refuses a table. For eight blocks a plane is one byte; the packed bytes 165, 169
-- are the planes 19, 236.
-- Assumes nothing.
use Rattle.std.specs.Prelude.{◌≡◌, refl, List, [], ◌∷◌, ◌++◌, map, ℕ, pos, length}
use Rattle.rules.specs.Tests.{count, leading, tabulate}
use Rattle.rules.specs.Bits.{bit_of, bit_at, byte_of}
use Rattle.rules.specs.Words.{number, bytes_of, two_bytes_of, first_two, word_at, words_of}
use Rattle.rules.specs.Entries.{entry_of, entries_of, table_of}
use Rattle.rules.specs.Images.{section, sections, block_bytes, used_from, image_of}
use Rattle.rules.specs.Files.{section_in, section_tests, file_of, file_tests, fault_of, pool_of}
use Rattle.rules.specs.Tables.{may_follow, well_after, well_formed, block_count, start_of, free_from, aligned, fits, first_from, first_fit, grows_in_place, placed, released, extended, used, objects, longest}
use Rattle.rules.specs.Pointers.{address_of, good_base, target_of, heads_object, head_at, leads_to}
use Rattle.rules.specs.Planes.{plane_bytes, entry_in, entries_in, spare, spare_free, plane, planes_of, planes}
use Rattle.rules.specs.Outcomes.{Answer, only_refusal, change_from, placed_at, collected_to, unless_refused, cleared_blocks}
use Rattle.rules.specs.Refusals.{first_of, good_shape, whole_words}
use Rattle.rules.specs.Marking.{pushed, visit_to, visit, walk_words, walk, drain_for, drain, trace, root_to, mark_root, mark_roots, pass_block, pass_from, pass, rescan_for, rescan, mark_all, swept_entry, freeing_after, sweep_from, sweep}
use Rattle.rules.specs.Calls.{blocks_for, init, taken, placing, allocate, freed, free, shrunk, grown, moved, moves_to, way_to_grow, way_to, along, reallocate, collecting, collect, survey, load, store, write_image, good_target, open_image}
use Rattle.rules.specs.Runs.{Call, Init, Allocate, Free, Reallocate, Collect, Survey, Load, Store, WriteImage, OpenImage, step}
use Rattle.rules.specs.Memory.{Memory, memory, Result, result, or_refused, perform}
use Rattle.rules.specs.Examples.{zeros, fives, sevens, stale, linked_pool, minus}

-- a call's result, and what it should be
pub record PlaneExample : Type 0 where
  pub is : Result
  pub ought : Result

abbrev pub runs : Result → Answer → List ℕ → List ℕ → List ℕ → PlaneExample
runs r a table pool stack = record { is = r; ought = result a (memory pool table) stack }

unfoldable pub plane_examples : List PlaneExample
plane_examples =
    -- 1 to 4: allocate
    runs (perform (planes 2) (Allocate 4096 1) [] (memory stale (0 ∷ 0 ∷ []))) (placed_at 0 (pos 1)) (1 ∷ 0 ∷ []) (zeros 16 ++ sevens 112) []
    ∷ runs (perform (planes 2) (Allocate 4096 33) [] (memory stale (1 ∷ 0 ∷ []))) (placed_at 1 (pos 3)) (3 ∷ 12 ∷ []) (fives 16 ++ zeros 48 ++ sevens 64) []
    ∷ runs (perform (planes 2) (Allocate 4096 64) [] (memory stale (3 ∷ 12 ∷ []))) (placed_at 4 (pos 4)) (19 ∷ 236 ∷ []) (fives 16 ++ sevens 48 ++ zeros 64) []
    ∷ runs (perform (planes 2) (Allocate 4096 1) [] (memory stale (19 ∷ 236 ∷ []))) (only_refusal 9) (19 ∷ 236 ∷ []) stale []
    -- 5: free
    ∷ runs (perform (planes 2) (Free 4096 1) [] (memory stale (19 ∷ 236 ∷ []))) (placed_at 0 (minus 3)) (17 ∷ 224 ∷ []) stale []
    ∷ runs (perform (planes 2) (Free 4096 5) [] (memory stale (19 ∷ 236 ∷ []))) (only_refusal 7) (19 ∷ 236 ∷ []) stale []
    ∷ runs (perform (planes 2) (Free 4096 8) [] (memory stale (19 ∷ 236 ∷ []))) (only_refusal 6) (19 ∷ 236 ∷ []) stale []
    -- 6 to 8: reallocate, shrinking, growing in place, with neither way, and moving
    ∷ runs (perform (planes 2) (Reallocate 4096 4 16) [] (memory stale (17 ∷ 224 ∷ []))) (placed_at 4 (minus 3)) (17 ∷ 0 ∷ []) stale []
    ∷ runs (perform (planes 2) (Reallocate 4096 0 64) [] (memory stale (17 ∷ 0 ∷ []))) (placed_at 0 (pos 3)) (17 ∷ 14 ∷ []) (fives 16 ++ zeros 48 ++ sevens 64) []
    ∷ runs (perform (planes 2) (Reallocate 4096 0 65) [] (memory stale (17 ∷ 0 ∷ []))) (only_refusal 9) (17 ∷ 0 ∷ []) stale []
    ∷ runs (perform (planes 2) (Reallocate 4096 0 17) [] (memory stale (3 ∷ 0 ∷ []))) (placed_at 2 (pos 1)) (6 ∷ 8 ∷ []) (fives 16 ++ sevens 16 ++ fives 16 ++ zeros 16 ++ sevens 64) []
    -- 9: collect, with a mark stack of 64 entries and of none
    ∷ runs (perform (planes 2) (Collect 4096 (64 ∷ 16 ∷ 0 ∷ 0 ∷ [])) (sevens 256) (memory linked_pool (19 ∷ 236 ∷ []))) (collected_to 2 0 (minus 3)) (17 ∷ 224 ∷ []) linked_pool (zeros 256)
    ∷ runs (perform (planes 2) (Collect 4096 (bytes_of 4160)) [] (memory linked_pool (19 ∷ 236 ∷ []))) (collected_to 2 1 (minus 3)) (17 ∷ 224 ∷ []) linked_pool []
    -- 10 and 11: no roots, the address of the middle block of object 1, an address inside a block
    ∷ runs (perform (planes 2) (Collect 4096 []) (sevens 256) (memory linked_pool (19 ∷ 236 ∷ []))) (collected_to 0 0 (minus 8)) (0 ∷ 0 ∷ []) linked_pool (zeros 256)
    ∷ runs (perform (planes 2) (Collect 4096 (bytes_of 4128)) (sevens 256) (memory linked_pool (19 ∷ 236 ∷ []))) (collected_to 1 0 (minus 5)) (2 ∷ 12 ∷ []) linked_pool (zeros 256)
    ∷ runs (perform (planes 2) (Collect 4096 (bytes_of 4097)) (sevens 256) (memory linked_pool (19 ∷ 236 ∷ []))) (collected_to 0 0 (minus 8)) (0 ∷ 0 ∷ []) linked_pool (zeros 256)
    -- 12: a TAIL in block 0, a MARK, a TAIL after a FREE
    ∷ runs (perform (planes 2) (Allocate 4096 1) [] (memory stale (0 ∷ 1 ∷ []))) (only_refusal 2) (0 ∷ 1 ∷ []) stale []
    ∷ runs (perform (planes 2) (Allocate 4096 1) [] (memory stale (1 ∷ 1 ∷ []))) (only_refusal 2) (1 ∷ 1 ∷ []) stale []
    ∷ runs (perform (planes 2) (Allocate 4096 1) [] (memory stale (0 ∷ 2 ∷ []))) (only_refusal 2) (0 ∷ 2 ∷ []) stale []
    ∷ runs (perform (planes 2) (Allocate 4096 0) [] (memory stale (0 ∷ 1 ∷ []))) (only_refusal 2) (0 ∷ 1 ∷ []) stale []
    ∷ runs (perform (planes 2) (Allocate 4096 0) [] (memory stale (1 ∷ 1 ∷ []))) (only_refusal 2) (1 ∷ 1 ∷ []) stale []
    ∷ runs (perform (planes 2) (Allocate 4096 0) [] (memory stale (0 ∷ 2 ∷ []))) (only_refusal 2) (0 ∷ 2 ∷ []) stale []
    -- t odd: twelve blocks have two bytes a plane, of which the second has four spare bits. A new object, one that ends in the last block, and one that does not fit there any more
    ∷ runs (perform (planes 3) (Allocate 4096 1) [] (memory (sevens 192) (255 ∷ 1 ∷ 0 ∷ 0 ∷ []))) (placed_at 9 (pos 1)) (255 ∷ 3 ∷ 0 ∷ 0 ∷ []) (sevens 144 ++ zeros 16 ++ sevens 32) []
    ∷ runs (perform (planes 3) (Allocate 4096 48) [] (memory (sevens 192) (255 ∷ 1 ∷ 0 ∷ 0 ∷ []))) (placed_at 9 (pos 3)) (255 ∷ 3 ∷ 0 ∷ 12 ∷ []) (sevens 144 ++ zeros 48) []
    ∷ runs (perform (planes 3) (Allocate 4096 49) [] (memory (sevens 192) (255 ∷ 1 ∷ 0 ∷ 0 ∷ []))) (only_refusal 9) (255 ∷ 1 ∷ 0 ∷ 0 ∷ []) (sevens 192) []
    -- a spare bit that is set, in either plane: every byte stays, the spare bit too. Init does not look at the table, and leaves it all zero
    ∷ runs (perform (planes 3) (Allocate 4096 1) [] (memory (sevens 192) (1 ∷ 16 ∷ 0 ∷ 0 ∷ []))) (only_refusal 2) (1 ∷ 16 ∷ 0 ∷ 0 ∷ []) (sevens 192) []
    ∷ runs (perform (planes 3) (Allocate 4096 1) [] (memory (sevens 192) (1 ∷ 0 ∷ 0 ∷ 128 ∷ []))) (only_refusal 2) (1 ∷ 0 ∷ 0 ∷ 128 ∷ []) (sevens 192) []
    ∷ runs (perform (planes 3) (Collect 4096 []) (sevens 8) (memory (zeros 192) (1 ∷ 0 ∷ 0 ∷ 16 ∷ []))) (only_refusal 2) (1 ∷ 0 ∷ 0 ∷ 16 ∷ []) (zeros 192) (sevens 8)
    ∷ runs (perform (planes 3) (Init 4096) [] (memory (sevens 192) (255 ∷ 255 ∷ 255 ∷ 255 ∷ []))) (only_refusal 0) (0 ∷ 0 ∷ 0 ∷ 0 ∷ []) (sevens 192) []
    ∷ []

-- there are so many
pub plane_examples_number : length plane_examples ≡ 29
unfolding plane_examples
plane_examples_number = refl

-- every example is as it should be
pub plane_examples_hold : map (λ (x : PlaneExample). x.is) plane_examples ≡ map (λ (x : PlaneExample). x.ought) plane_examples
unfolding plane_examples count leading tabulate number bytes_of word_at words_of bit_of bit_at byte_of plane_bytes entry_in entries_in spare spare_free plane planes_of may_follow well_after well_formed block_count start_of free_from aligned fits first_from first_fit grows_in_place placed released extended used objects address_of good_base target_of heads_object head_at leads_to change_from unless_refused cleared_blocks first_of good_shape whole_words pushed visit_to visit walk_words walk drain_for drain trace root_to mark_root mark_roots pass_block pass_from pass rescan_for rescan mark_all swept_entry freeing_after sweep_from sweep blocks_for init taken placing allocate freed free shrunk grown moved moves_to way_to_grow way_to along reallocate collecting collect step or_refused perform
plane_examples_hold = refl

-- ---- the numbers by which the calls are refused

-- twelve blocks: objects of two, one and two blocks; the same with a spare bit set in the low plane, and in the high one
abbrev pub twelve : Memory
twelve = memory (zeros 192) (21 ∷ 0 ∷ 42 ∷ 0 ∷ [])

abbrev pub spare_low : Memory
spare_low = memory (zeros 192) (21 ∷ 16 ∷ 42 ∷ 0 ∷ [])

abbrev pub spare_high : Memory
spare_high = memory (zeros 192) (21 ∷ 0 ∷ 42 ∷ 128 ∷ [])

-- a file of twelve FREE blocks and one root
abbrev pub rooted : List ℕ
rooted = 1 ∷ 0 ∷ 0 ∷ 16 ∷ 0 ∷ 0 ∷ 3 ∷ 0 ∷ 0 ∷ 0 ∷ 0 ∷ 0 ∷ 0 ∷ 1 ∷ 0 ∷ 5 ∷ 5 ∷ 5 ∷ 5 ∷ []

-- each call, with arguments that are refused where they can be, a mark stack of 65 entries, and no room for an image or a root
abbrev pub each_call : List Call
each_call = Init 4096 ∷ Allocate 4096 0 ∷ Free 4096 99 ∷ Reallocate 4096 99 0 ∷ Collect 4096 [] ∷ Survey 4096 ∷ Load 4096 99 0 ∷ Store 4096 99 0 0 ∷ WriteImage 4096 [] 0 ∷ OpenImage rooted 0 ∷ []

unfoldable pub refusals_at : ℕ → Memory → List ℕ
refusals_at t m = map (λ (c : Call). (perform (planes t) c (sevens 260) m).answer.refusal) each_call

abbrev pub always_one : List ℕ
always_one = 1 ∷ 1 ∷ 1 ∷ 1 ∷ 1 ∷ 1 ∷ 1 ∷ 1 ∷ 1 ∷ 1 ∷ []

-- A spare bit is 2, before any number of the call's own, and but for init and an opening, which only fill the table. Another t, even one that has as many table bytes, a table as long as a packed
-- one, or one that is a byte longer is 1, also for these, and before the spare bit.
abbrev pub PlaneRefusals : Type 0
PlaneRefusals =
    (refusals_at 3 twelve ≡ 0 ∷ 5 ∷ 6 ∷ 5 ∷ 4 ∷ 0 ∷ 6 ∷ 6 ∷ 10 ∷ 17 ∷ [])
    × (refusals_at 3 spare_low ≡ 0 ∷ 2 ∷ 2 ∷ 2 ∷ 2 ∷ 2 ∷ 2 ∷ 2 ∷ 2 ∷ 17 ∷ [])
    × (refusals_at 3 spare_high ≡ 0 ∷ 2 ∷ 2 ∷ 2 ∷ 2 ∷ 2 ∷ 2 ∷ 2 ∷ 2 ∷ 17 ∷ [])
    × (refusals_at 4 twelve ≡ always_one)
    × (refusals_at 2 twelve ≡ always_one)
    × (refusals_at 0 (memory [] []) ≡ always_one)
    × (refusals_at 3 (memory (zeros 192) (165 ∷ 0 ∷ 0 ∷ [])) ≡ always_one)
    × (refusals_at 3 (memory (zeros 192) (21 ∷ 16 ∷ 42 ∷ 0 ∷ 0 ∷ [])) ≡ always_one)

pub plane_refusals : PlaneRefusals
unfolding refusals_at count leading tabulate bit_of bit_at byte_of plane_bytes entry_in entries_in spare spare_free plane planes_of may_follow well_after well_formed used objects longest address_of good_base change_from unless_refused first_of good_shape whole_words init placing allocate free along reallocate collecting collect survey load store write_image bytes_of two_bytes_of table_of section sections block_bytes used_from image_of number word_at first_two entry_of entries_of section_in section_tests file_of file_tests fault_of pool_of good_target open_image step or_refused perform
plane_refusals = (refl, refl, refl, refl, refl, refl, refl, refl)
