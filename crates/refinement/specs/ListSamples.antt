-- Runs of services from an accepted start on, with services of another t in between: what the plain list responds and fills is computed. The memory before the start holds anything but a heap.
-- Assumes nothing.
use Rattle.std.specs.Prelude.{◌≡◌, refl, false, List, [], ◌∷◌, ◌++◌, map, ℕ, pos, replicate, take, drop}
use Rattle.rules.specs.Tests.{count, leading, tabulate}
use Rattle.rules.specs.Bits.{bit_of, bit_at}
use Rattle.rules.specs.Words.{number, bytes_of, two_bytes_of, first_two, word_at, words_of}
use Rattle.rules.specs.Entries.{entry_of, entries_of, table_of}
use Rattle.rules.specs.Pointers.{address_of, good_base, target_of}
use Rattle.rules.specs.Tables.{may_follow, well_after, well_formed, used}
use Rattle.rules.specs.Planes.{plane_bytes, entry_in, entries_in, spare, spare_free}
use Rattle.rules.specs.Images.{section, sections}
use Rattle.rules.specs.Outcomes.{Answer, only_refusal, placed_at, unless_refused}
use Rattle.rules.specs.Refusals.{first_of, good_shape, whole_words}
use Rattle.rules.specs.Files.{section_in, section_tests, file_of, file_tests, fault_of}
use Rattle.rules.specs.Calls.{blocks_for, init, good_target, open_image}
use Rattle.rules.specs.Runs.{Init, Allocate, WriteImage, OpenImage, Turn, step}
use Rattle.rules.specs.Memory.{or_refused, perform}
use Rattle.rules.specs.Lent.{Lent, lending, tests_beside, beside_after, or_unserved, serve_call}
use Rattle.rules.specs.Examples.{minus}
use Rattle.plain.specs.Objects.{total, find, place_from, lowest_gap, longest_gap, next_start, insert, remove, replace}
use Rattle.plain.specs.Tracing.{is_in, led_to, push, follow_to, follow as followed, follow_all, empty_for, empty, subtree, from_root_to, from_roots, go_through, again, again_for, trace, among}
use Rattle.plain.specs.Images.{entries_from, bytes_of_all, contents, image_of_list, objects_from}
use Rattle.plain.specs.Replies.{places, allocated_at, on_object, named, moved_into, resized, collected_by, loaded_from, stored_in, image_in, opened_in, reply}
use Rattle.plain.specs.Examples.{blocks, run_base, filling, filled, ending, twelve, run_answers, imaging, image_answers, image_fillings, strewn, scraps, reopened, open_answers, open_fillings, four}
use Rattle.programs.specs.AsList.{run_list}
use Rattle.logs.specs.Log.{declined, logged, readout, link_in, link_to, link_at, follow, on_log, checked, last_of, at_index, join, enter, append_to, append, read_from, read, drop_from, drop as dropped}
use Rattle.services.specs.Services.{HeapCall, Append, Read, Drop, Response, answered, replied, refusal_of, serve_in, Asked, asked, served_to}
use Rattle.refinement.specs.AsList.{serve_list, list_responses, list_buffers, list_after, from}

-- ---- what is lent

-- before the init: a pool full of ones, and two planes that are not even well-formed
abbrev pub garbage : Lent
garbage = lending (replicate 192 255) (7 ∷ 15 ∷ 170 ∷ 8 ∷ [])

-- the init is accepted all the same
pub garbage_accepted : (refusal_of (served_to (asked 3 (HeapCall (Init run_base)) []) garbage).reply ≡ 0) × (well_formed (entries_in 3 garbage.memory.table) ≡ false)
unfolding serve_in serve_call or_unserved tests_beside beside_after perform or_refused step init unless_refused first_of good_shape good_base address_of tabulate bit_of bit_at plane_bytes entry_in entries_in may_follow well_after well_formed
garbage_accepted = (refl, refl)

-- before the first call: a pool full of ones, and planes full of ones, in which every block is MARK and every spare bit is set
abbrev pub spent : Lent
spent = lending (replicate 64 255) (replicate 2 255)

-- the opening is accepted all the same, and so is the init
pub spent_accepted : (refusal_of (served_to (asked 1 (HeapCall (OpenImage strewn 8)) []) spent).reply ≡ 0) × (refusal_of (served_to (asked 1 (HeapCall (Init 4096)) []) spent).reply ≡ 0)
    × (well_formed (entries_in 1 spent.memory.table) ≡ false) × (spare_free 1 spent.memory.table ≡ false)
unfolding serve_in serve_call or_unserved tests_beside beside_after perform or_refused step init open_image unless_refused first_of good_shape good_base address_of count tabulate bit_of bit_at plane_bytes entry_in entries_in spare spare_free may_follow well_after well_formed used number first_two word_at entry_of entries_of section_in section_tests file_of file_tests fault_of good_target
spent_accepted = (refl, refl, refl, refl)

-- ---- the services

-- calls of the heap, all given this t
abbrev pub calls : ℕ → List Turn → List Asked
calls t ts = map (λ (u : Turn). asked t (HeapCall u.call) u.stack) ts

-- what they are told
abbrev pub answers : List Answer → List Response
answers rs = map answered rs

-- Services of another t than the heap's: each is refused by 1, but for a file with a fault, and changes nothing. Of these an init and the opening of a faultless file would start anew
abbrev pub others : List Asked
others =
    asked 2 (HeapCall (Init run_base)) []
    ∷ asked 4 (HeapCall (OpenImage (take 64 strewn) 4)) []
    ∷ asked 1 (HeapCall (OpenImage strewn 8)) []
    ∷ asked 4 (Append run_base 0 5 1 []) []
    ∷ asked 0 (Drop run_base run_base) []
    ∷ []

abbrev pub others_told : List Response
others_told = answers (only_refusal 1 ∷ only_refusal 14 ∷ only_refusal 1 ∷ []) ++ replied (declined 1) ∷ replied (declined 1) ∷ []

-- ---- calls of the heap

-- the run of the plain list's examples: an init, a filling, and a collection and more; the others come between
abbrev pub run : List Asked
run = from 3 (Init run_base) (calls 3 filling ++ others ++ calls 3 ending)

abbrev pub run_responses : List Response
run_responses = answers (take 15 run_answers) ++ others_told ++ answers (drop 15 run_answers)

pub run_responses_are : list_responses run twelve ≡ run_responses
unfolding filling ending run_answers tabulate number bytes_of word_at words_of address_of good_base whole_words blocks_for total find place_from lowest_gap longest_gap next_start insert remove replace is_in led_to push follow_to followed follow_all empty_for empty subtree from_root_to from_roots go_through again again_for trace among places allocated_at on_object named moved_into resized collected_by loaded_from stored_in table_of count used two_bytes_of section sections entries_from bytes_of_all contents image_of_list image_in leading first_two entry_of entries_of may_follow well_after well_formed first_of section_in section_tests file_of file_tests fault_of objects_from opened_in reply serve_list list_responses
run_responses_are = refl

-- the filling leaves its six objects, and the others leave them
pub filling_left : (list_after (calls 3 filling ++ others) (blocks 12 [])).objects ≡ filled
unfolding filling tabulate number bytes_of word_at words_of address_of good_base whole_words blocks_for total find place_from lowest_gap longest_gap next_start insert remove replace is_in led_to push follow_to followed follow_all empty_for empty subtree from_root_to from_roots go_through again again_for trace among places allocated_at on_object named moved_into resized collected_by loaded_from stored_in table_of count used two_bytes_of section sections entries_from bytes_of_all contents image_of_list image_in leading first_two entry_of entries_of may_follow well_after well_formed first_of section_in section_tests file_of file_tests fault_of objects_from opened_in reply serve_list list_after
filling_left = refl

-- ---- images

abbrev pub image_run : List Asked
image_run = from 3 (Init run_base) (others ++ calls 3 imaging)

abbrev pub image_responses : List Response
image_responses = answers (take 1 image_answers) ++ others_told ++ answers (drop 1 image_answers)

-- the others fill nothing
abbrev pub images_filled : List (List ℕ)
images_filled = replicate 5 [] ++ image_fillings

pub image_run_answers : (list_responses image_run twelve ≡ image_responses) × (list_buffers image_run twelve ≡ images_filled)
unfolding imaging image_answers image_fillings tabulate number bytes_of word_at words_of address_of good_base whole_words blocks_for total find place_from lowest_gap longest_gap next_start insert remove replace is_in led_to push follow_to followed follow_all empty_for empty subtree from_root_to from_roots go_through again again_for trace among places allocated_at on_object named moved_into resized collected_by loaded_from stored_in table_of count used two_bytes_of section sections entries_from bytes_of_all contents image_of_list image_in leading first_two entry_of entries_of may_follow well_after well_formed first_of section_in section_tests file_of file_tests fault_of objects_from opened_in reply serve_list list_responses list_buffers
image_run_answers = (refl, refl)

-- ---- openings

-- a file is opened, written again and freed but for one object; an image with another t fills nothing
abbrev pub open_run : List Asked
open_run = from 1 (OpenImage strewn 8) (asked 2 (HeapCall (WriteImage 4096 [] 100)) [] ∷ calls 1 reopened)

abbrev pub open_responses : List Response
open_responses = answers (take 1 open_answers) ++ answered (only_refusal 1) ∷ answers (drop 1 open_answers)

abbrev pub open_filled : List (List ℕ)
open_filled = take 1 open_fillings ++ [] ∷ drop 1 open_fillings

-- the same behind an init and four blocks that were allocated
abbrev pub init_run : List Asked
init_run = from 1 (Init 4096) (asked 1 (HeapCall (Allocate 4096 64)) [] ∷ open_run)

pub open_run_answers : (list_responses open_run four ≡ open_responses) × (list_buffers open_run four ≡ open_filled)
unfolding reopened open_answers open_fillings tabulate number bytes_of word_at words_of address_of good_base whole_words blocks_for total find place_from lowest_gap longest_gap next_start insert remove replace is_in led_to push follow_to followed follow_all empty_for empty subtree from_root_to from_roots go_through again again_for trace among places allocated_at on_object named moved_into resized collected_by loaded_from stored_in table_of count used two_bytes_of section sections entries_from bytes_of_all contents image_of_list image_in leading first_two entry_of entries_of may_follow well_after well_formed first_of section_in section_tests file_of file_tests fault_of objects_from opened_in reply serve_list list_responses list_buffers
open_run_answers = (refl, refl)

pub init_run_answers : (list_responses init_run four ≡ answers (only_refusal 0 ∷ placed_at 0 (pos 4) ∷ []) ++ open_responses) × (list_buffers init_run four ≡ [] ∷ [] ∷ open_filled)
unfolding reopened open_answers open_fillings tabulate number bytes_of word_at words_of address_of good_base whole_words blocks_for total find place_from lowest_gap longest_gap next_start insert remove replace is_in led_to push follow_to followed follow_all empty_for empty subtree from_root_to from_roots go_through again again_for trace among places allocated_at on_object named moved_into resized collected_by loaded_from stored_in table_of count used two_bytes_of section sections entries_from bytes_of_all contents image_of_list image_in leading first_two entry_of entries_of may_follow well_after well_formed first_of section_in section_tests file_of file_tests fault_of objects_from opened_in reply serve_list list_responses list_buffers
init_run_answers = (refl, refl)

-- the run leaves one object of the file
pub open_left : (list_after open_run (blocks 4 [])).objects ≡ drop 1 scraps
unfolding reopened tabulate number bytes_of word_at words_of address_of good_base whole_words blocks_for total find place_from lowest_gap longest_gap next_start insert remove replace is_in led_to push follow_to followed follow_all empty_for empty subtree from_root_to from_roots go_through again again_for trace among places allocated_at on_object named moved_into resized collected_by loaded_from stored_in table_of count used two_bytes_of section sections entries_from bytes_of_all contents image_of_list image_in leading first_two entry_of entries_of may_follow well_after well_formed first_of section_in section_tests file_of file_tests fault_of objects_from opened_in reply serve_list list_after
open_left = refl

-- ---- calls of the log

-- an init, and three entries, of which the third has room only after a collection; then one for which there is none though its collection frees a block
abbrev pub log_run : List Asked
log_run =
    from 3 (Init run_base)
    (asked 3 (Append run_base 0 5 1 []) []
    -- eight blocks, which nothing leads to
    ∷ asked 3 (HeapCall (Allocate run_base 128)) []
    ∷ asked 3 (Append run_base run_base 6 2 []) []
    ∷ asked 3 (Append run_base run_base 7 3 []) []
    ∷ others
    -- four blocks, and two of one block each; the first of these is no root then
    ++ asked 3 (HeapCall (Allocate run_base 64)) []
    ∷ asked 3 (HeapCall (Allocate run_base 16)) []
    ∷ asked 3 (HeapCall (Allocate run_base 16)) []
    ∷ asked 3 (Append run_base run_base 8 4 (bytes_of 0x2000_0070 ++ bytes_of 0x2000_0080)) []
    ∷ asked 3 (Read run_base run_base 2) []
    ∷ asked 3 (Drop run_base run_base) []
    ∷ [])

abbrev pub log_responses : List Response
log_responses =
    answered (only_refusal 0)
    ∷ replied (logged 0 run_base (pos 2))
    ∷ answered (placed_at 4 (pos 8))
    ∷ replied (logged 0 run_base (pos 2))
    ∷ replied (logged 0 run_base (minus 6))
    ∷ others_told
    ++ answered (placed_at 8 (pos 4))
    ∷ answered (placed_at 6 (pos 1))
    ∷ answered (placed_at 7 (pos 1))
    ∷ replied (logged 9 0 (minus 1))
    ∷ replied (readout 0 7 3)
    ∷ replied (logged 0 0x2000_0020 (minus 2))
    ∷ []

pub log_run_answers : list_responses log_run twelve ≡ log_responses
unfolding link_in link_to link_at follow on_log checked last_of at_index join enter append_to append read_from read drop_from dropped run_list target_of tabulate number bytes_of word_at words_of address_of good_base whole_words blocks_for total find place_from lowest_gap longest_gap next_start insert remove replace is_in led_to push follow_to followed follow_all empty_for empty subtree from_root_to from_roots go_through again again_for trace among places allocated_at on_object named moved_into resized collected_by loaded_from stored_in table_of count used two_bytes_of section sections entries_from bytes_of_all contents image_of_list image_in leading first_two entry_of entries_of may_follow well_after well_formed first_of section_in section_tests file_of file_tests fault_of objects_from opened_in reply serve_list list_responses
log_run_answers = refl

-- two entries in four blocks, of which the first is dropped, and an image of the other, with its address as root; a drop with another t comes before that
abbrev pub log_imaging : List Asked
log_imaging =
    from 1 (Init 4096)
    (asked 1 (Append 4096 0 5 1 []) []
    ∷ asked 1 (Append 4096 4096 6 2 []) []
    ∷ asked 1 (Drop 4096 4096) []
    ∷ asked 2 (Drop 4096 4128) []
    ∷ asked 1 (HeapCall (WriteImage 4096 (bytes_of 4128) 49)) []
    ∷ [])

-- FREE FREE HEAD TAIL, and the entry: no next one, time 6, tip count 2
abbrev pub log_image : List ℕ
log_image = 1 ∷ 0 ∷ 0 ∷ 16 ∷ 0 ∷ 0 ∷ 1 ∷ 0 ∷ 144 ∷ 2 ∷ 0 ∷ 0 ∷ 0 ∷ 0 ∷ 0 ∷ 6 ∷ 0 ∷ 0 ∷ 0 ∷ 2 ∷ replicate 23 0 ++ 1 ∷ 0 ∷ 32 ∷ 16 ∷ 0 ∷ 0 ∷ []

pub log_image_answers : list_buffers log_imaging four ≡ replicate 5 [] ++ log_image ∷ []
unfolding link_in link_to link_at follow on_log checked last_of at_index join enter append_to append read_from read drop_from dropped run_list target_of tabulate number bytes_of word_at words_of address_of good_base whole_words blocks_for total find place_from lowest_gap longest_gap next_start insert remove replace is_in led_to push follow_to followed follow_all empty_for empty subtree from_root_to from_roots go_through again again_for trace among places allocated_at on_object named moved_into resized collected_by loaded_from stored_in table_of count used two_bytes_of section sections entries_from bytes_of_all contents image_of_list image_in leading first_two entry_of entries_of may_follow well_after well_formed first_of section_in section_tests file_of file_tests fault_of objects_from opened_in reply serve_list list_buffers
log_image_answers = refl
