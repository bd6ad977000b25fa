-- The promises on large objects, in bytes and block numbers, and each used at its exact bound: 48 bytes are three blocks, 49 are four.
-- Assumes nothing.
use mathlib.Core.Path.{◌≡◌, refl, ap, subst}
use mathlib.Core.Logic.{◌≢◌, ◌⊎◌, inl, ⊎_elim}
use mathlib.Core.Bool.{Bool, true, false, not}
use mathlib.Core.List.{List, [], ◌∷◌, ◌++◌}
use mathlib.Core.Option.{Option}
use Prim.Native.Nat.{ℕ, ◌%◌, ◌≤◌}
use native.Mathlib.Omega.{arith}
use lib.Dec.{T}
use lib.ListN.{length, replicate}
use Rattle.rules.specs.Tests.{either, or_else, count, leading, tabulate}
use Rattle.rules.specs.Bits.{bit_of, bit_at, byte_of}
use Rattle.rules.specs.Words.{number, first_two, word_at}
use Rattle.rules.specs.Entries.{entry_of, entries_of}
use Rattle.rules.specs.Tables.{entry_at, is_head, may_follow, well_after, well_formed, block_count, free_from, aligned, fits, first_from, first_fit, placed, released, used, objects, longest}
use Rattle.rules.specs.Pointers.{address_of, good_base}
use Rattle.laws.specs.Meaning.{Accepted}
use Rattle.rules.specs.Outcomes.{Heap, change_from, unless_refused, cleared_blocks}
use Rattle.rules.specs.Refusals.{first_of, good_shape, whole_words, heap_tests}
use Rattle.rules.specs.Calls.{blocks_for, taken, placing, allocate, freed, free, survey, good_target, open_image}
use Rattle.rules.specs.Files.{section_in, section_tests, file_of, file_tests, fault_of, heap_of_file}
use Rattle.rules.specs.Planes.{plane_bytes, entry_in, entries_in, spare, spare_free, plane, planes_of, planes}
use Rattle.rules.specs.Runs.{OpenImage, step, FileIs, Turn, EveryFile, next}
use Rattle.rules.specs.Memory.{Memory, memory, heap_in, AcceptedIn, or_refused, perform, turn_in, after_in}
use Rattle.rules.specs.Examples.{small, medium}
use Rattle.laws.proofs.Below.{all_below, below}
use Rattle.laws.proofs.Refusals.{true_not_false, passed}
use Rattle.laws.proofs.Tables.{entry_inside, aligned_says}
use Rattle.laws.proofs.Planes.{planes_faithful}
use Rattle.promises.specs.Promises.{Object, blocks_of}
use Rattle.promises.proofs.Observed.{free_again, allocate_spare}
use Rattle.promises.specs.Alignment.{AllAligned, FileAligned}
use Rattle.promises.proofs.LargeAfter.{large_from_start}
use Rattle.promises.proofs.LargeCalls.{allocated_large}

-- ---- a file that is opened

-- one with a fault, or with an ill-formed table, may be handed in whatever its objects are
pub nothing_asked : (image : List ℕ) → (fault_of image ≢ 0) ⊎ (well_formed (heap_of_file (file_of image)).entries ≡ false) → FileAligned image
nothing_asked image refused none well = ⊎_elim (λ fault. absurd (fault none)) (λ ill. absurd (true_not_false well ill)) refused

-- that a heap's objects are aligned, by a test of each block
aligned_test : Heap → Bool
aligned_test h = all_below (length h.entries) (λ (o : ℕ). either (not (is_head (entry_at h.entries o))) (aligned (block_count h.entries o) o))

all_tested : (h : Heap) → T (aligned_test h) → AllAligned h
unfolding aligned_test
all_tested h t o head =
    let es = h.entries in
    let a : T (either (not (is_head (entry_at es o))) (aligned (block_count es o) o)) = below _ _ t o (entry_inside es o (λ f. omega arith)) in
    let b : T (aligned (block_count es o) o) = rw head at a in
    aligned_says (block_count es o) o (holds (aligned (block_count es o) o) b)
  where
    holds : (b : Bool) → T b → b ≡ true
    holds true t = refl
    holds false t = absurd t

-- an object of four blocks at block 0, and four FREE blocks
abbrev file : List ℕ
file = 1 ∷ 0 ∷ 0 ∷ 16 ∷ 0 ∷ 0 ∷ 2 ∷ 0 ∷ 169 ∷ 0 ∷ 4 ∷ 0 ∷ replicate 64 5 ++ 0 ∷ 0 ∷ []

abbrev opening : Turn
opening = record { call = OpenImage file 0; stack = [] }

-- memory full of ones
abbrev ones : Memory
ones = memory (replicate 128 255) (replicate 2 255)

record Opens : Type 0 where
  accepted : AcceptedIn (turn_in (planes 2) opening ones)
  all : T (aligned_test (heap_of_file (file_of file)))

opens : Opens
unfolding aligned_test count leading tabulate bit_of bit_at byte_of number first_two word_at entry_of entries_of plane_bytes entry_in entries_in spare spare_free plane planes_of may_follow well_after well_formed block_count aligned used address_of good_base unless_refused first_of good_shape section_in section_tests file_of file_tests fault_of good_target open_image step or_refused perform
opens = record { accepted = refl; all = tt }

-- the file's objects are aligned, so from its opening on all are, whatever calls follow, if the files that they are to open have only such objects
pub large_from_file : (ts : List Turn) → EveryFile FileAligned ts
    → let h = heap_in (planes 2) (after_in (planes 2) (opening ∷ ts) ones) in
    (o : ℕ) → Object h o → 4 ≤ blocks_of h o → o % 4 ≡ 0
large_from_file ts files = large_from_start (planes 2) (planes_faithful 2) opening ts refl (next one files) ones opens.accepted
  where
    one : FileIs FileAligned (OpenImage file 0)
    one image e = subst FileAligned (ap (λ (x : Option (List ℕ)). or_else x []) e) (λ _ _. all_tested (heap_of_file (file_of file)) opens.all)

-- ---- at the exact bounds, in heaps of 8 and 12 blocks at base 4,096

-- what is computed: the calls that are accepted or refused, the blocks of the object at block 4, and the longest run of seven blocks and of six
record Computed : Type 0 where
  allocates : Accepted (allocate 4096 (medium 1 0 0) 49)
  frees : Accepted (free 4096 (small 1 169) 4)
  blocks : blocks_of (small 1 169) 4 ≡ 4
  seven : (survey 4096 (small 1 0)).answer.longest ≡ 7
  six : (survey 4096 (small 1 64)).answer.longest ≡ 6
  no_room : (allocate 4096 (small 1 64) 64).answer.refusal ≡ 9
  tests : first_of (heap_tests 4096 (small 1 0)) ≡ 0

computed : Computed
unfolding count leading tabulate entry_of entries_of may_follow well_after well_formed block_count free_from aligned fits first_from first_fit placed released used objects longest address_of good_base change_from unless_refused cleared_blocks first_of good_shape whole_words blocks_for taken placing allocate freed free survey
computed = record { allocates = refl; frees = refl; blocks = refl; seven = refl; six = refl; no_room = refl; tests = refl }

-- 49 bytes, where the lowest run is at block 1
pub four_blocks : (allocate 4096 (medium 1 0 0) 49).answer.block % 4 ≡ 0
four_blocks = allocated_large 4096 (medium 1 0 0) 49 computed.allocates (omega arith)

-- four blocks from block 4 on, freed, can be allocated again
pub four_again : Accepted (allocate 4096 (free 4096 (small 1 169) 4).heap 64)
four_again = free_again 4096 (small 1 169) 4 64 computed.frees (omega arith) (omega (arith, computed.blocks)) (inl refl)

-- a run of seven blocks has room for four, wherever it starts, and one of six need not
pub seven_spare : (allocate 4096 (small 1 0) 64).answer.refusal ≢ 9
unfolding blocks_for
seven_spare = allocate_spare 4096 (small 1 0) (passed 4096 (small 1 0) [] computed.tests) 64 (omega (arith, computed.seven))

pub six_full : ((survey 4096 (small 1 64)).answer.longest ≡ 6) × ((allocate 4096 (small 1 64) 64).answer.refusal ≡ 9)
six_full = (computed.six, computed.no_room)
