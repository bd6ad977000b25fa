-- The worked examples 1 to 11, a chain, large objects, images and files, in heaps of 4 to 16 blocks at base 4,096, computed on the plain list: each call's answer, the list it
-- leaves and what it writes into a buffer. And calls in a row.
-- Assumes nothing.
use Rattle.std.specs.Prelude.{◌≡◌, refl, List, [], ◌∷◌, ◌++◌, map, ℕ, ◌-◌, ◌*◌, ◌/◌, pos, length, take, drop, replicate, set}
use Rattle.rules.specs.Tests.{count, leading, tabulate}
use Rattle.rules.specs.Words.{number, bytes_of, two_bytes_of, first_two, word_at, words_of}
use Rattle.rules.specs.Entries.{entry_of, entries_of, table_of}
use Rattle.rules.specs.Pointers.{address_of, good_base}
use Rattle.rules.specs.Tables.{may_follow, well_after, well_formed, used}
use Rattle.rules.specs.Images.{section, sections}
use Rattle.rules.specs.Outcomes.{Answer, only_refusal, placed_at, collected_to, surveyed, loaded, written_to, opened_at}
use Rattle.rules.specs.Refusals.{first_of, whole_words}
use Rattle.rules.specs.Files.{section_in, section_tests, file_of, file_tests, fault_of}
use Rattle.rules.specs.Calls.{blocks_for}
use Rattle.rules.specs.Runs.{Call, Init, Allocate, Free, Reallocate, Collect, Survey, Load, Store, WriteImage, OpenImage, Turn}
use Rattle.rules.specs.Examples.{minus}
use Rattle.rules.specs.ImageExamples.{one_image}
use Rattle.rules.specs.FileExamples.{file_at, file, marked}
use Rattle.plain.specs.Objects.{Object, object, Plain, total, find, place_from, lowest_gap, longest_gap, next_start, insert, remove, replace}
use Rattle.plain.specs.Tracing.{is_in, led_to, push, follow_to, follow, follow_all, empty_for, empty, subtree, from_root_to, from_roots, go_through, again, again_for, trace, among}
use Rattle.plain.specs.Images.{entries_from, bytes_of_all, contents, image_of_list, objects_from}
use Rattle.plain.specs.Replies.{Reply, places, allocated_at, on_object, named, moved_into, resized, collected_by, loaded_from, stored_in, image_in, opened_in, reply, from, replies, fillings, left}

-- a call's reply, and what it should be
pub record Example : Type 0 where
  pub is : Reply
  pub ought : Reply

-- n blocks with these objects
abbrev pub blocks : ℕ → List Object → Plain
blocks n os = record { size = n; objects = os }

abbrev pub eight : List Object → Plain
eight os = blocks 8 os

abbrev pub example_in : ℕ → Reply → Answer → List Object → Example
example_in n r a os = record { is = r; ought = record { answer = a; heap = blocks n os; filled = [] } }

abbrev pub example : Reply → Answer → List Object → Example
example r a os = example_in 8 r a os

-- an image is written, and the list stays
abbrev pub written : ℕ → Reply → List ℕ → List Object → Example
written n r image os = record { is = r; ought = record { answer = written_to (length image); heap = blocks n os; filled = image } }

-- a file at base 4,096 is opened: the list becomes these objects, and the root list has these roots
abbrev pub opened : ℕ → Reply → List ℕ → List Object → Example
opened n r roots os = record { is = r; ought = record { answer = opened_at 4096 (length roots / 4); heap = blocks n os; filled = roots } }

-- b blocks from s on, all words zero
abbrev pub zeros : ℕ → ℕ → Object
zeros s b = object s b (replicate (4 * b) 0)

-- word 0 of block 4 holds the address of block 0
abbrev pub pointing : Object
pointing = object 4 4 (set (replicate 16 0) 0 4096)

abbrev pub full : List Object
full = zeros 0 1 ∷ zeros 1 3 ∷ zeros 4 4 ∷ []

abbrev pub linked : List Object
linked = zeros 0 1 ∷ zeros 1 3 ∷ pointing ∷ []

-- its word 0 holds the address of block 5, or one inside it
abbrev pub reaching : ℕ → Object
reaching w = object 0 4 (set (replicate 16 0) 0 w)

-- word 0 of block 6 holds the address of block 2
abbrev pub pointing_into : Object
pointing_into = object 6 1 (set (replicate 4 0) 0 4128)

abbrev pub chained : ℕ → List Object
chained w = reaching w ∷ zeros 4 2 ∷ pointing_into ∷ []

-- Five objects of one block, at blocks 0 to 4. An arrow is two words that hold addresses, the first word and the second:
--
--     0 → 1, 2      1 → 3, 4
--
-- With one mark stack entry 0 pushes 2, its last word being read first, and 1 is lost; the first rescan finds 1, which pushes 4, and 3 is lost; the second finds nothing
-- more. Words that are read from the first to the last give one rescan.
abbrev pub branching : List Object
branching = object 0 1 (4112 ∷ 4128 ∷ 0 ∷ 0 ∷ []) ∷ object 1 1 (4144 ∷ 4160 ∷ 0 ∷ 0 ∷ []) ∷ zeros 2 1 ∷ zeros 3 1 ∷ zeros 4 1 ∷ []

-- an object of an old heap: four blocks from block 1 on, where they would not be placed now
abbrev pub old : List Object
old = zeros 0 1 ∷ zeros 1 4 ∷ []

-- the same among others: the four blocks that it gives back are no place for four
abbrev pub old_full : List Object
old_full = zeros 0 1 ∷ zeros 1 4 ∷ zeros 5 1 ∷ zeros 6 1 ∷ zeros 7 1 ∷ []

abbrev pub old_freed : List Object
old_freed = zeros 0 1 ∷ zeros 5 1 ∷ zeros 6 1 ∷ zeros 7 1 ∷ []

-- two blocks from block 1 on, with the address of block 4 as word 0, and behind a FREE block an object that holds 5
abbrev pub apart : List Object
apart = object 1 2 (set (set (replicate 8 0) 0 4160) 7 0x0102_0304) ∷ object 4 1 (set (replicate 4 0) 1 5) ∷ []

-- the image of these in eight blocks, with two roots: 70 bytes
abbrev pub two_objects : List ℕ
two_objects =
    -- the base
    1 ∷ 0 ∷ 0 ∷ 16 ∷ 0 ∷ 0
    -- FREE HEAD TAIL FREE, HEAD FREE FREE FREE
    ∷ 2 ∷ 0 ∷ 36 ∷ 1
    -- three used blocks
    ∷ 3 ∷ 0 ∷ 64 ∷ 16 ∷ replicate 26 0 ++ 4 ∷ 3 ∷ 2 ∷ 1
    ∷ 0 ∷ 0 ∷ 0 ∷ 0 ∷ 5 ∷ replicate 11 0
    -- the addresses of blocks 1 and 2
    ++ 2 ∷ 0 ∷ 16 ∷ 16 ∷ 0 ∷ 0 ∷ 32 ∷ 16 ∷ 0 ∷ 0 ∷ []

abbrev pub two_roots : List ℕ
two_roots = bytes_of 4112 ++ bytes_of 4128

-- a file of words that lead nowhere, with a root that leads nowhere: 65 bytes
abbrev pub strewn : List ℕ
strewn =
    -- the base
    1 ∷ 0 ∷ 0 ∷ 16 ∷ 0 ∷ 0
    -- FREE HEAD TAIL HEAD
    ∷ 1 ∷ 0 ∷ 100
    -- three used blocks: 255, 254 and so on
    ∷ 3 ∷ 0 ∷ tabulate 48 (λ (i : ℕ). 255 - i)
    -- one root
    ++ 1 ∷ 0 ∷ 239 ∷ 190 ∷ 173 ∷ 222 ∷ []

abbrev pub strewn_roots : List ℕ
strewn_roots = bytes_of 0xdead_beef

-- its objects: no two words are the same
abbrev pub scraps : List Object
scraps =
    object 1 2 (0xfcfd_feff ∷ 0xf8f9_fafb ∷ 0xf4f5_f6f7 ∷ 0xf0f1_f2f3 ∷ 0xeced_eeef ∷ 0xe8e9_eaeb ∷ 0xe4e5_e6e7 ∷ 0xe0e1_e2e3 ∷ [])
    ∷ object 3 1 (0xdcdd_dedf ∷ 0xd8d9_dadb ∷ 0xd4d5_d6d7 ∷ 0xd0d1_d2d3 ∷ [])
    ∷ []

-- a file of one TAIL, behind a FREE block
abbrev pub torn : List ℕ
torn = file 8 (1 ∷ 0 ∷ replicate 16 7 ++ 0 ∷ 0 ∷ [])

unfoldable pub examples : List Example
examples =
    -- 1 to 4: allocate
    example (reply (Allocate 4096 1) [] (eight [])) (placed_at 0 (pos 1)) (zeros 0 1 ∷ [])
    ∷ example (reply (Allocate 4096 33) [] (eight (zeros 0 1 ∷ []))) (placed_at 1 (pos 3)) (zeros 0 1 ∷ zeros 1 3 ∷ [])
    ∷ example (reply (Allocate 4096 64) [] (eight (zeros 0 1 ∷ zeros 1 3 ∷ []))) (placed_at 4 (pos 4)) full
    ∷ example (reply (Allocate 4096 1) [] (eight full)) (only_refusal 9) full
    -- 5: free
    ∷ example (reply (Free 4096 1) [] (eight full)) (placed_at 0 (minus 3)) (zeros 0 1 ∷ zeros 4 4 ∷ [])
    ∷ example (reply (Free 4096 5) [] (eight full)) (only_refusal 7) full
    ∷ example (reply (Free 4096 8) [] (eight full)) (only_refusal 6) full
    -- 6 to 8: reallocate, shrinking, growing in place, with neither way, and moving
    ∷ example (reply (Reallocate 4096 4 16) [] (eight (zeros 0 1 ∷ zeros 4 4 ∷ []))) (placed_at 4 (minus 3)) (zeros 0 1 ∷ zeros 4 1 ∷ [])
    ∷ example (reply (Reallocate 4096 0 64) [] (eight (zeros 0 1 ∷ zeros 4 1 ∷ []))) (placed_at 0 (pos 3)) (zeros 0 4 ∷ zeros 4 1 ∷ [])
    ∷ example (reply (Reallocate 4096 0 65) [] (eight (zeros 0 1 ∷ zeros 4 1 ∷ []))) (only_refusal 9) (zeros 0 1 ∷ zeros 4 1 ∷ [])
    ∷ example (reply (Reallocate 4096 0 17) [] (eight (zeros 0 1 ∷ zeros 1 1 ∷ []))) (placed_at 2 (pos 1)) (zeros 1 1 ∷ zeros 2 2 ∷ [])
    -- 9: collect, with a mark stack of 64 entries and of none
    ∷ example (reply (Collect 4096 (bytes_of 4160)) (replicate 256 7) (eight linked)) (collected_to 2 0 (minus 3)) (zeros 0 1 ∷ pointing ∷ [])
    ∷ example (reply (Collect 4096 (bytes_of 4160)) [] (eight linked)) (collected_to 2 1 (minus 3)) (zeros 0 1 ∷ pointing ∷ [])
    -- 10 and 11: no roots, the address of the middle block of object 1, an address inside a block
    ∷ example (reply (Collect 4096 []) (replicate 256 7) (eight linked)) (collected_to 0 0 (minus 8)) []
    ∷ example (reply (Collect 4096 (bytes_of 4128)) (replicate 256 7) (eight linked)) (collected_to 1 0 (minus 5)) (zeros 1 3 ∷ [])
    ∷ example (reply (Collect 4096 (bytes_of 4097)) (replicate 256 7) (eight linked)) (collected_to 0 0 (minus 8)) []
    -- a chain through the third block of object 0, with and without a mark stack; one that ends at an address inside a block; the address of a block of none
    ∷ example (reply (Collect 4096 (bytes_of 4192)) (replicate 256 7) (eight (chained 4176))) (collected_to 3 0 (pos 0)) (chained 4176)
    ∷ example (reply (Collect 4096 (bytes_of 4192)) [] (eight (chained 4176))) (collected_to 3 2 (pos 0)) (chained 4176)
    ∷ example (reply (Collect 4096 (bytes_of 4192)) (replicate 256 7) (eight (chained 4184))) (collected_to 2 0 (minus 2)) (reaching 4184 ∷ pointing_into ∷ [])
    ∷ example (reply (Collect 4096 (bytes_of 4208)) (replicate 256 7) (eight (chained 4176))) (collected_to 0 0 (minus 7)) []
    -- words are read from the last to the first: one mark stack entry, and two rescans
    ∷ example (reply (Collect 4096 (bytes_of 4096)) (replicate 4 7) (eight branching)) (collected_to 5 2 (pos 0)) branching
    -- four blocks pass by block 1, three get it, and growing to four they move
    ∷ example_in 12 (reply (Allocate 4096 64) [] (blocks 12 (zeros 0 1 ∷ []))) (placed_at 4 (pos 4)) (zeros 0 1 ∷ zeros 4 4 ∷ [])
    ∷ example_in 12 (reply (Allocate 4096 48) [] (blocks 12 (zeros 0 1 ∷ zeros 4 4 ∷ []))) (placed_at 1 (pos 3)) (zeros 0 1 ∷ zeros 1 3 ∷ zeros 4 4 ∷ [])
    ∷ example_in 12 (reply (Reallocate 4096 1 64) [] (blocks 12 (zeros 0 1 ∷ zeros 1 3 ∷ zeros 4 4 ∷ []))) (placed_at 8 (pos 1)) (zeros 0 1 ∷ zeros 4 4 ∷ zeros 8 4 ∷ [])
    -- from block 0 four blocks grow in place
    ∷ example (reply (Reallocate 4096 0 65) [] (eight (zeros 0 4 ∷ []))) (placed_at 0 (pos 1)) (zeros 0 5 ∷ [])
    -- from block 1, with room directly after: to three blocks in place, to four by a move
    ∷ example (reply (Reallocate 4096 1 48) [] (eight (zeros 0 1 ∷ zeros 1 1 ∷ []))) (placed_at 1 (pos 2)) (zeros 0 1 ∷ zeros 1 3 ∷ [])
    ∷ example (reply (Reallocate 4096 1 64) [] (eight (zeros 0 1 ∷ zeros 1 1 ∷ []))) (placed_at 4 (pos 3)) (zeros 0 1 ∷ zeros 4 4 ∷ [])
    -- an object of an old heap shrinks and stays where it is, and growing it moves, or is refused
    ∷ example (reply (Reallocate 4096 1 64) [] (eight (zeros 0 1 ∷ zeros 1 5 ∷ []))) (placed_at 1 (minus 1)) old
    ∷ example_in 12 (reply (Reallocate 4096 1 48) [] (blocks 12 old)) (placed_at 1 (minus 1)) (zeros 0 1 ∷ zeros 1 3 ∷ [])
    ∷ example_in 12 (reply (Reallocate 4096 1 64) [] (blocks 12 old)) (placed_at 1 (pos 0)) old
    ∷ example_in 16 (reply (Reallocate 4096 1 65) [] (blocks 16 old)) (placed_at 8 (pos 1)) (zeros 0 1 ∷ zeros 8 5 ∷ [])
    ∷ example_in 12 (reply (Reallocate 4096 1 65) [] (blocks 12 old)) (only_refusal 9) old
    -- freed, it leaves no place for as many blocks again, though they are the longest gap
    ∷ example (reply (Free 4096 1) [] (eight old_full)) (placed_at 0 (minus 4)) old_freed
    ∷ example (reply (Allocate 4096 64) [] (eight old_freed)) (only_refusal 9) old_freed
    ∷ example (reply (Survey 4096) [] (eight old_freed)) (surveyed 4 4 4) old_freed
    -- images: into a buffer of so many bytes, and of one less; with roots that are no whole words
    ∷ written 4 (reply (WriteImage 4096 (bytes_of 4096) 33) [] (blocks 4 (zeros 0 1 ∷ []))) one_image (zeros 0 1 ∷ [])
    ∷ example_in 4 (reply (WriteImage 4096 (bytes_of 4096) 32) [] (blocks 4 (zeros 0 1 ∷ []))) (only_refusal 10) (zeros 0 1 ∷ [])
    ∷ written 8 (reply (WriteImage 4096 two_roots 70) [] (eight apart)) two_objects apart
    ∷ example (reply (WriteImage 4096 two_roots 69) [] (eight apart)) (only_refusal 10) apart
    ∷ example (reply (WriteImage 4096 (5 ∷ two_roots) 100) [] (eight apart)) (only_refusal 1) apart
    -- files, whatever the list held: the 33 bytes, the 70 that were written, words that lead nowhere; for a root list that is as long as the roots, and a longer one
    ∷ opened 4 (reply (OpenImage one_image 4) [] (blocks 4 (zeros 1 3 ∷ []))) (bytes_of 4096) (zeros 0 1 ∷ [])
    ∷ opened 8 (reply (OpenImage two_objects 8) [] (eight full)) two_roots apart
    ∷ opened 4 (reply (OpenImage strewn 400) [] (blocks 4 [])) strewn_roots scraps
    -- refused by a fault of the file: cut short, a wrong count, too many roots, a byte left over
    ∷ example_in 4 (reply (OpenImage (take 32 one_image) 4) [] (blocks 4 scraps)) (only_refusal 14) scraps
    ∷ example_in 4 (reply (OpenImage (2 ∷ 0 ∷ []) 4) [] (blocks 4 scraps)) (only_refusal 15) scraps
    ∷ example_in 4 (reply (OpenImage (file 0 (0 ∷ 0 ∷ 1 ∷ 16 ∷ [])) 4) [] (blocks 4 scraps)) (only_refusal 3) scraps
    ∷ example_in 4 (reply (OpenImage (one_image ++ 0 ∷ []) 5) [] (blocks 4 scraps)) (only_refusal 16) scraps
    -- by 1: more blocks than the file has, or fewer; a base that is no multiple of 16; a root list of no whole words
    ∷ example (reply (OpenImage one_image 4) [] (eight full)) (only_refusal 1) full
    ∷ example_in 4 (reply (OpenImage two_objects 8) [] (blocks 4 scraps)) (only_refusal 1) scraps
    ∷ example_in 4 (reply (OpenImage (file_at (8 ∷ 16 ∷ 0 ∷ 0 ∷ []) 0 (0 ∷ 0 ∷ 0 ∷ 0 ∷ [])) 4) [] (blocks 4 scraps)) (only_refusal 1) scraps
    ∷ example_in 4 (reply (OpenImage marked 5) [] (blocks 4 scraps)) (only_refusal 1) scraps
    -- by 2: a MARK, and a TAIL behind a FREE block; by 17
    ∷ example_in 4 (reply (OpenImage marked 0) [] (blocks 4 scraps)) (only_refusal 2) scraps
    ∷ example_in 4 (reply (OpenImage torn 0) [] (blocks 4 scraps)) (only_refusal 2) scraps
    ∷ example_in 4 (reply (OpenImage one_image 0) [] (blocks 4 scraps)) (only_refusal 17) scraps
    ∷ []

-- there are so many
pub examples_number : length examples ≡ 54
unfolding examples
examples_number = refl

-- every example is as it should be
pub examples_hold : map (λ (x : Example). x.is) examples ≡ map (λ (x : Example). x.ought) examples
unfolding examples tabulate number bytes_of word_at words_of address_of good_base whole_words blocks_for total find place_from lowest_gap longest_gap next_start insert remove replace is_in led_to push follow_to follow follow_all empty_for empty subtree from_root_to from_roots go_through again again_for trace among places allocated_at on_object named moved_into resized collected_by table_of count used two_bytes_of section sections entries_from bytes_of_all contents image_of_list image_in leading first_two entry_of entries_of may_follow well_after well_formed first_of section_in section_tests file_of file_tests fault_of objects_from opened_in reply
examples_hold = refl

-- ---- calls in a row

-- Twelve blocks at base 0x20000000. A number is a block, and an arrow a word that holds an address:
--
--     0     1  2  3     4     5  6     7     8  9 10 11
--    [a]   [b  b  b]   [c]   [d  d]   [f]   [e  e  e  e]      e → a (its first word), e → d, d → c (the last words), f → e
--
-- The roots are b and e, so f is unreachable. One mark stack entry is not enough for a and d, so there is a rescan.
abbrev pub run_base : ℕ
run_base = 0x2000_0000

-- a call that takes no mark stack
abbrev pub bare : Call → Turn
bare c = record { call = c; stack = [] }

-- the objects are allocated, e past block 7, which f then gets, and linked; among the calls are refused ones (9, 8 and 1), and one on another base
unfoldable pub filling : List Turn
filling =
    map bare
    (Allocate run_base 16 ∷ Allocate run_base 33 ∷ Allocate run_base 1 ∷ Allocate run_base 32 ∷ Allocate run_base 64 ∷ Allocate run_base 15 ∷ Allocate run_base 1
    ∷ Store run_base 8 0 (address_of run_base 0) ∷ Store run_base 8 15 (address_of run_base 5) ∷ Store run_base 5 7 (address_of run_base 4)
    ∷ Store run_base 7 0 (address_of run_base 8) ∷ Store run_base 7 4 (address_of run_base 8) ∷ Init 8 ∷ Load 4096 8 15 ∷ [])

-- objects of the drawing, as the filling leaves them: c holds zeros
abbrev pub run_c : Object
run_c = zeros 4 1

-- the last word of d is the address of c
abbrev pub run_d : Object
run_d = object 5 2 (set (replicate 8 0) 7 (address_of run_base 4))

-- the first word of e is the address of a, the last that of d
abbrev pub run_e : Object
run_e = object 8 4 (set (set (replicate 16 0) 0 (address_of run_base 0)) 15 (address_of run_base 5))

-- the first word of f is the address of e
abbrev pub run_f : Object
run_f = object 7 1 (set (replicate 4 0) 0 (address_of run_base 8))

-- all six, a and b with zeros
abbrev pub filled : List Object
filled = zeros 0 1 ∷ zeros 1 3 ∷ run_c ∷ run_d ∷ run_f ∷ run_e ∷ []

-- the filling leaves these
pub filling_left : (left filling (blocks 12 [])).objects ≡ filled
unfolding filling address_of good_base blocks_for total find place_from lowest_gap insert replace places allocated_at on_object named loaded_from stored_in reply left
filling_left = refl

abbrev pub run_roots : List ℕ
run_roots = address_of run_base 1 ∷ address_of run_base 8 ∷ []

-- a collection; then f is no object any more, b is freed, and c grows by moving to where b was
unfoldable pub ending : List Turn
ending =
    record { call = Collect run_base (bytes_of (address_of run_base 1) ++ bytes_of (address_of run_base 8)); stack = bytes_of 7 }
    ∷ map bare (Survey run_base ∷ Load run_base 7 0 ∷ Load run_base 8 15 ∷ Free run_base 1 ∷ Reallocate run_base 4 40 ∷ Survey run_base ∷ [])

abbrev pub run : List Turn
run = from (Init run_base) (filling ++ ending)

-- a list with an object in it
abbrev pub twelve : Plain
twelve = record { size = 12; objects = zeros 3 2 ∷ [] }

unfoldable pub run_answers : List Answer
run_answers =
    only_refusal 0
    -- the filling
    ∷ placed_at 0 (pos 1) ∷ placed_at 1 (pos 3) ∷ placed_at 4 (pos 1) ∷ placed_at 5 (pos 2) ∷ placed_at 8 (pos 4) ∷ placed_at 7 (pos 1) ∷ only_refusal 9
    ∷ only_refusal 0 ∷ only_refusal 0 ∷ only_refusal 0
    ∷ only_refusal 0 ∷ only_refusal 8 ∷ only_refusal 1 ∷ loaded 0x2000_0050
    -- the ending
    ∷ collected_to 5 1 (minus 1)
    ∷ surveyed 11 5 1 ∷ only_refusal 7 ∷ loaded 0x2000_0050 ∷ placed_at 0 (minus 3) ∷ placed_at 1 (pos 2) ∷ surveyed 10 4 1 ∷ []

pub run_answers_are : replies run twelve ≡ run_answers
unfolding filling ending run_answers tabulate number bytes_of word_at words_of address_of good_base whole_words blocks_for total find place_from lowest_gap longest_gap next_start insert remove replace is_in led_to push follow_to follow follow_all empty_for empty subtree from_root_to from_roots go_through again again_for trace among places allocated_at on_object named moved_into resized collected_by loaded_from stored_in reply replies
run_answers_are = refl

-- ---- images in a row

-- the image of the one object that is allocated after an init
pub one_object_run : fillings (from (Init 4096) (map bare (Allocate 4096 16 ∷ WriteImage 4096 (bytes_of 4096) 33 ∷ []))) (blocks 4 []) ≡ [] ∷ [] ∷ one_image ∷ []
unfolding bytes_of address_of good_base whole_words blocks_for total place_from lowest_gap insert places allocated_at table_of count used two_bytes_of section sections entries_from bytes_of_all contents image_of_list image_in reply fillings
one_object_run = refl

-- Three objects, at blocks 0, 1 and 3, of which the first is freed: the first image has the other two. Then block 1 no longer holds the address of block 3, and a collection
-- frees that: the last image has one. Two images are refused: into a buffer that is one byte too short, and with three bytes of roots.
unfoldable pub imaging : List Turn
imaging =
    map bare
    (Allocate run_base 16 ∷ Allocate run_base 17 ∷ Allocate run_base 1 ∷ Store run_base 1 0 (address_of run_base 3) ∷ Store run_base 1 7 0x0102_0304 ∷ Free run_base 0
    ∷ WriteImage run_base (bytes_of (address_of run_base 1)) 66 ∷ WriteImage run_base (bytes_of (address_of run_base 1)) 67 ∷ WriteImage run_base (1 ∷ 2 ∷ 3 ∷ []) 67
    ∷ Store run_base 1 0 0 ∷ Collect run_base (bytes_of (address_of run_base 1)) ∷ WriteImage run_base [] 47 ∷ [])

abbrev pub image_run : List Turn
image_run = from (Init run_base) imaging

unfoldable pub image_answers : List Answer
image_answers =
    only_refusal 0
    ∷ placed_at 0 (pos 1) ∷ placed_at 1 (pos 2) ∷ placed_at 3 (pos 1) ∷ only_refusal 0 ∷ only_refusal 0 ∷ placed_at 0 (minus 1)
    ∷ only_refusal 10 ∷ written_to 67 ∷ only_refusal 1
    ∷ only_refusal 0 ∷ collected_to 1 0 (minus 1) ∷ written_to 47 ∷ []

-- FREE HEAD TAIL HEAD, and three used blocks, with a root
abbrev pub first_image : List ℕ
first_image = 1 ∷ 0 ∷ 0 ∷ 0 ∷ 0 ∷ 32 ∷ 3 ∷ 0 ∷ 100 ∷ 0 ∷ 0 ∷ 3 ∷ 0 ∷ 48 ∷ 0 ∷ 0 ∷ 32 ∷ replicate 24 0 ++ 4 ∷ 3 ∷ 2 ∷ 1 ∷ replicate 16 0 ++ 1 ∷ 0 ∷ 16 ∷ 0 ∷ 0 ∷ 32 ∷ []

-- FREE HEAD TAIL FREE, and two used blocks, with none
abbrev pub last_image : List ℕ
last_image = 1 ∷ 0 ∷ 0 ∷ 0 ∷ 0 ∷ 32 ∷ 3 ∷ 0 ∷ 36 ∷ 0 ∷ 0 ∷ 2 ∷ 0 ∷ replicate 28 0 ++ 4 ∷ 3 ∷ 2 ∷ 1 ∷ 0 ∷ 0 ∷ []

-- the other calls write nothing
unfoldable pub image_fillings : List (List ℕ)
image_fillings = replicate 8 [] ++ first_image ∷ replicate 3 [] ++ last_image ∷ []

pub image_run_answers : (replies image_run twelve ≡ image_answers) × (fillings image_run twelve ≡ image_fillings)
unfolding imaging image_answers image_fillings tabulate number bytes_of word_at words_of address_of good_base whole_words blocks_for total find place_from lowest_gap insert remove replace is_in led_to push follow_to follow follow_all empty_for empty subtree from_root_to from_roots go_through again again_for trace among places allocated_at on_object named collected_by stored_in table_of count used two_bytes_of section sections entries_from bytes_of_all contents image_of_list image_in reply replies fillings
image_run_answers = (refl, refl)

-- ---- openings in a row

-- A file is opened, where four blocks were allocated, or where anything was: its objects are surveyed, written again and freed but for one. Two openings are refused, by
-- the file and for the root list, and change nothing.
unfoldable pub reopened : List Turn
reopened =
    map bare
    (Survey 4096 ∷ WriteImage 4096 strewn_roots 65 ∷ OpenImage (take 64 strewn) 4 ∷ Free 4096 1 ∷ OpenImage strewn 0 ∷ Survey 4096 ∷ [])

abbrev pub open_run : List Turn
open_run = from (OpenImage strewn 8) reopened

abbrev pub init_run : List Turn
init_run = from (Init 4096) (bare (Allocate 4096 64) ∷ open_run)

unfoldable pub open_answers : List Answer
open_answers = opened_at 4096 1 ∷ surveyed 3 2 1 ∷ written_to 65 ∷ only_refusal 14 ∷ placed_at 0 (minus 2) ∷ only_refusal 17 ∷ surveyed 1 1 3 ∷ []

-- the roots of the file, and the same file
unfoldable pub open_fillings : List (List ℕ)
open_fillings = strewn_roots ∷ [] ∷ strewn ∷ replicate 4 []

-- a list with an object in it
abbrev pub four : Plain
four = blocks 4 (zeros 3 1 ∷ [])

pub open_run_answers : (replies open_run four ≡ open_answers) × (fillings open_run four ≡ open_fillings)
unfolding reopened open_answers open_fillings tabulate number bytes_of word_at words_of address_of good_base whole_words blocks_for total find place_from lowest_gap longest_gap next_start insert remove places allocated_at on_object named table_of count used two_bytes_of section sections entries_from bytes_of_all contents image_of_list image_in leading first_two entry_of entries_of may_follow well_after well_formed first_of section_in section_tests file_of file_tests fault_of objects_from opened_in reply replies fillings
open_run_answers = (refl, refl)

pub init_run_answers : (replies init_run four ≡ only_refusal 0 ∷ placed_at 0 (pos 4) ∷ open_answers) × (fillings init_run four ≡ [] ∷ [] ∷ open_fillings)
unfolding reopened open_answers open_fillings tabulate number bytes_of word_at words_of address_of good_base whole_words blocks_for total find place_from lowest_gap longest_gap next_start insert remove places allocated_at on_object named table_of count used two_bytes_of section sections entries_from bytes_of_all contents image_of_list image_in leading first_two entry_of entries_of may_follow well_after well_formed first_of section_in section_tests file_of file_tests fault_of objects_from opened_in reply replies fillings
init_run_answers = (refl, refl)

-- the run leaves one object of the file
pub open_left : (left open_run (blocks 4 [])).objects ≡ drop 1 scraps
unfolding reopened tabulate number bytes_of word_at words_of address_of good_base whole_words find remove places on_object named table_of count used two_bytes_of section sections entries_from bytes_of_all contents image_of_list image_in leading first_two entry_of entries_of may_follow well_after well_formed first_of section_in section_tests file_of file_tests fault_of objects_from opened_in reply left
open_left = refl
