-- The worked examples 1 to 12, a chain, a rescan, large objects and a load, in heaps of 8, 12 or 16 blocks at base 4,096 (one at 4,112), computed: each call's answer, and the entries, the pool
-- and the mark stack it leaves. Entries are written as packed bytes, because that is short; PlaneExamples has the worked examples in the bytes that are lent.
-- Assumes nothing.
use Rattle.std.specs.Prelude.{◌≡◌, refl, List, [], ◌∷◌, ◌++◌, map, ℕ, ℤ, pos, neg_ℤ, length, replicate}
use Rattle.rules.specs.Tests.{count, leading, tabulate}
use Rattle.rules.specs.Words.{number, bytes_of, word_at, words_of}
use Rattle.rules.specs.Entries.{entry_of, entries_of, table_of}
use Rattle.rules.specs.Tables.{may_follow, well_after, well_formed, block_count, start_of, free_from, aligned, fits, first_from, first_fit, grows_in_place, placed, released, extended, used, objects, longest}
use Rattle.rules.specs.Pointers.{address_of, good_base, target_of, heads_object, head_at, leads_to}
use Rattle.rules.specs.Outcomes.{Heap, Answer, Outcome, heap_of, only_refusal, change_from, placed_at, collected_to, surveyed, loaded, unless_refused, cleared_blocks}
use Rattle.rules.specs.Refusals.{first_of, good_shape, whole_words}
use Rattle.rules.specs.Marking.{pushed, visit_to, visit, walk_words, walk, drain_for, drain, trace, root_to, mark_root, mark_roots, pass_block, pass_from, pass, rescan_for, rescan, mark_all, swept_entry, freeing_after, sweep_from, sweep}
use Rattle.rules.specs.Calls.{blocks_for, taken, placing, allocate, freed, free, shrunk, grown, moved, moves_to, way_to_grow, way_to, along, reallocate, collecting, collect, survey, load}

-- what an example shows of an outcome: the answer, the entries as a packed table, the pool and the mark stack
pub record Shown : Type 0 where
  pub answer : Answer
  pub table : List ℕ
  pub pool : List ℕ
  pub stack : List ℕ

abbrev pub shown : Outcome → Shown
shown o = record { answer = o.answer; table = table_of o.heap.entries; pool = o.heap.pool; stack = o.stack }

-- a call's outcome, and what it should show
pub record Example : Type 0 where
  pub is : Shown
  pub ought : Shown

-- of a collection
abbrev pub collects : Outcome → Answer → List ℕ → List ℕ → List ℕ → Example
collects o a table pool stack = record { is = shown o; ought = record { answer = a; table = table; pool = pool; stack = stack } }

-- of a call that takes no mark stack
abbrev pub example : Outcome → Answer → List ℕ → List ℕ → Example
example o a table pool = collects o a table pool []

-- n bytes that are 0, or that nobody has cleared: 5 in block 0 and 7 elsewhere
abbrev pub zeros : ℕ → List ℕ
zeros n = replicate n 0

abbrev pub fives : ℕ → List ℕ
fives n = replicate n 5

abbrev pub sevens : ℕ → List ℕ
sevens n = replicate n 7

abbrev pub stale : List ℕ
stale = fives 16 ++ sevens 112

-- entries of two packed bytes over that pool
abbrev pub small : ℕ → ℕ → Heap
small a b = heap_of stale (a ∷ b ∷ [])

-- of three and of four over such pools
abbrev pub medium : ℕ → ℕ → ℕ → Heap
medium a b c = heap_of (stale ++ sevens 64) (a ∷ b ∷ c ∷ [])

abbrev pub large : ℕ → ℕ → ℕ → ℕ → Heap
large a b c d = heap_of (stale ++ sevens 128) (a ∷ b ∷ c ∷ d ∷ [])

-- word 0 of block 4 holds the address of block 0, given in bytes: after the 64 bytes of blocks 0 to 3
abbrev pub linked_pool : List ℕ
linked_pool = zeros 64 ++ 0 ∷ 16 ∷ 0 ∷ 0 ∷ zeros 60

abbrev pub linked : Heap
linked = heap_of linked_pool (165 ∷ 169 ∷ [])

-- Object 6 leads to the third block of object 0, whose word 0 leads to the second block of object 4 if `low` is 80, the lowest byte of its address 4,176
abbrev pub chained_pool : ℕ → List ℕ
chained_pool low = low ∷ 16 ∷ 0 ∷ 0 ∷ zeros 92 ++ 32 ∷ 16 ∷ 0 ∷ 0 ∷ zeros 28

abbrev pub chained : ℕ → Heap
chained low = heap_of (chained_pool low) (169 ∷ 25 ∷ [])

-- Object 0 leads to object 1; nothing leads to object 2, whose TAIL holds the address of object 4
abbrev pub unled_pool : List ℕ
unled_pool = 16 ∷ 16 ∷ 0 ∷ 0 ∷ zeros 44 ++ 64 ∷ 16 ∷ 0 ∷ 0 ∷ zeros 76

abbrev pub minus : ℕ → ℤ
minus n = neg_ℤ (pos n)

unfoldable pub examples : List Example
examples =
    -- 1 to 4: allocate
    example (allocate 4096 (small 0 0) 1) (placed_at 0 (pos 1)) (1 ∷ 0 ∷ []) (zeros 16 ++ sevens 112)
    ∷ example (allocate 4096 (small 1 0) 33) (placed_at 1 (pos 3)) (165 ∷ 0 ∷ []) (fives 16 ++ zeros 48 ++ sevens 64)
    ∷ example (allocate 4096 (small 165 0) 64) (placed_at 4 (pos 4)) (165 ∷ 169 ∷ []) (fives 16 ++ sevens 48 ++ zeros 64)
    ∷ example (allocate 4096 (small 165 169) 1) (only_refusal 9) (165 ∷ 169 ∷ []) stale
    -- 5: free
    ∷ example (free 4096 (small 165 169) 1) (placed_at 0 (minus 3)) (1 ∷ 169 ∷ []) stale
    ∷ example (free 4096 (small 165 169) 5) (only_refusal 7) (165 ∷ 169 ∷ []) stale
    ∷ example (free 4096 (small 165 169) 8) (only_refusal 6) (165 ∷ 169 ∷ []) stale
    -- 6 to 8: reallocate, shrinking, growing in place, with neither way, and moving
    ∷ example (reallocate 4096 (small 1 169) 4 16) (placed_at 4 (minus 3)) (1 ∷ 1 ∷ []) stale
    ∷ example (reallocate 4096 (small 1 1) 0 64) (placed_at 0 (pos 3)) (169 ∷ 1 ∷ []) (fives 16 ++ zeros 48 ++ sevens 64)
    ∷ example (reallocate 4096 (small 1 1) 0 65) (only_refusal 9) (1 ∷ 1 ∷ []) stale
    ∷ example (reallocate 4096 (small 5 0) 0 17) (placed_at 2 (pos 1)) (148 ∷ 0 ∷ []) (fives 16 ++ sevens 16 ++ fives 16 ++ zeros 16 ++ sevens 64)
    -- 9: collect, with a mark stack of 64 entries and of none; the root 4,160 is given in bytes, and as a word
    ∷ collects (collect 4096 linked (64 ∷ 16 ∷ 0 ∷ 0 ∷ []) (sevens 256)) (collected_to 2 0 (minus 3)) (1 ∷ 169 ∷ []) linked_pool (zeros 256)
    ∷ collects (collect 4096 linked (bytes_of 4160) []) (collected_to 2 1 (minus 3)) (1 ∷ 169 ∷ []) linked_pool []
    -- 10 and 11: no roots, the address of the middle block of object 1, an address inside a block
    ∷ collects (collect 4096 linked [] (sevens 256)) (collected_to 0 0 (minus 8)) (0 ∷ 0 ∷ []) linked_pool (zeros 256)
    ∷ collects (collect 4096 linked (bytes_of 4128) (sevens 256)) (collected_to 1 0 (minus 5)) (164 ∷ 0 ∷ []) linked_pool (zeros 256)
    ∷ collects (collect 4096 linked (bytes_of 4097) (sevens 256)) (collected_to 0 0 (minus 8)) (0 ∷ 0 ∷ []) linked_pool (zeros 256)
    -- a chain through the third block of object 0, with and without a mark stack; one that ends at an address inside a block; the address of a FREE block
    ∷ collects (collect 4096 (chained 80) (bytes_of 4192) (sevens 256)) (collected_to 3 0 (pos 0)) (169 ∷ 25 ∷ []) (chained_pool 80) (zeros 256)
    ∷ collects (collect 4096 (chained 80) (bytes_of 4192) []) (collected_to 3 2 (pos 0)) (169 ∷ 25 ∷ []) (chained_pool 80) []
    ∷ collects (collect 4096 (chained 88) (bytes_of 4192) (sevens 256)) (collected_to 2 0 (minus 2)) (169 ∷ 16 ∷ []) (chained_pool 88) (zeros 256)
    ∷ collects (collect 4096 (chained 80) (bytes_of 4208) (sevens 256)) (collected_to 0 0 (minus 7)) (0 ∷ 0 ∷ []) (chained_pool 80) (zeros 256)
    -- a rescan walks no TAIL
    ∷ collects (collect 4096 (heap_of unled_pool (149 ∷ 1 ∷ [])) (bytes_of 4096) []) (collected_to 2 1 (minus 3)) (5 ∷ 0 ∷ []) unled_pool []
    -- 12: a TAIL in block 0, a MARK, a TAIL after a FREE
    ∷ example (allocate 4096 (small 2 0) 1) (only_refusal 2) (2 ∷ 0 ∷ []) stale
    ∷ example (allocate 4096 (small 3 0) 1) (only_refusal 2) (3 ∷ 0 ∷ []) stale
    ∷ example (allocate 4096 (small 8 0) 1) (only_refusal 2) (8 ∷ 0 ∷ []) stale
    ∷ example (allocate 4096 (small 2 0) 0) (only_refusal 2) (2 ∷ 0 ∷ []) stale
    ∷ example (allocate 4096 (small 3 0) 0) (only_refusal 2) (3 ∷ 0 ∷ []) stale
    ∷ example (allocate 4096 (small 8 0) 0) (only_refusal 2) (8 ∷ 0 ∷ []) stale
    -- a refused collection leaves the mark stack too
    ∷ collects (collect 4096 (small 3 0) [] (sevens 8)) (only_refusal 2) (3 ∷ 0 ∷ []) stale (sevens 8)
    -- four blocks pass by block 1, three get it, and growing to four they move
    ∷ example (allocate 4096 (medium 1 0 0) 64) (placed_at 4 (pos 4)) (1 ∷ 169 ∷ 0 ∷ []) (fives 16 ++ sevens 48 ++ zeros 64 ++ sevens 64)
    ∷ example (allocate 4096 (medium 1 169 0) 48) (placed_at 1 (pos 3)) (165 ∷ 169 ∷ 0 ∷ []) (fives 16 ++ zeros 48 ++ sevens 128)
    ∷ example (reallocate 4096 (medium 165 169 0) 1 64) (placed_at 8 (pos 1)) (1 ∷ 169 ∷ 169 ∷ []) (stale ++ sevens 48 ++ zeros 16)
    -- the number of the block counts, not its address: at base 4,112 block 4 has the address 4,176, which is no multiple of 64
    ∷ example (allocate 4112 (medium 1 0 0) 64) (placed_at 4 (pos 4)) (1 ∷ 169 ∷ 0 ∷ []) (fives 16 ++ sevens 48 ++ zeros 64 ++ sevens 64)
    -- from block 0 four blocks grow in place
    ∷ example (reallocate 4096 (small 169 0) 0 65) (placed_at 0 (pos 1)) (169 ∷ 2 ∷ []) (fives 16 ++ sevens 48 ++ zeros 16 ++ sevens 48)
    -- from block 1, with room directly after: to three blocks in place, to four by a move
    ∷ example (reallocate 4096 (small 5 0) 1 48) (placed_at 1 (pos 2)) (165 ∷ 0 ∷ []) (fives 16 ++ sevens 16 ++ zeros 32 ++ sevens 64)
    ∷ example (reallocate 4096 (small 5 0) 1 64) (placed_at 4 (pos 3)) (1 ∷ 169 ∷ []) (fives 16 ++ sevens 64 ++ zeros 48)
    -- a table of an old heap, with an object of five or four blocks at block 1: fewer and as many stay, more move, or are refused
    ∷ example (reallocate 4096 (small 165 10) 1 64) (placed_at 1 (minus 1)) (165 ∷ 2 ∷ []) stale
    ∷ example (reallocate 4096 (medium 165 2 0) 1 48) (placed_at 1 (minus 1)) (165 ∷ 0 ∷ 0 ∷ []) (stale ++ sevens 64)
    ∷ example (reallocate 4096 (medium 165 2 0) 1 64) (placed_at 1 (pos 0)) (165 ∷ 2 ∷ 0 ∷ []) (stale ++ sevens 64)
    ∷ example (reallocate 4096 (large 165 2 0 0) 1 65) (placed_at 8 (pos 1)) (1 ∷ 0 ∷ 169 ∷ 2 ∷ []) (stale ++ sevens 64 ++ zeros 16 ++ sevens 48)
    ∷ example (reallocate 4096 (medium 165 2 0) 1 65) (only_refusal 9) (165 ∷ 2 ∷ 0 ∷ []) (stale ++ sevens 64)
    -- freed, such an object leaves no start for as many blocks again, though they are the longest run
    ∷ example (free 4096 (small 165 86) 1) (placed_at 0 (minus 4)) (1 ∷ 84 ∷ []) stale
    ∷ example (allocate 4096 (small 1 84) 64) (only_refusal 9) (1 ∷ 84 ∷ []) stale
    ∷ example (survey 4096 (small 1 84)) (surveyed 4 4 4) (1 ∷ 84 ∷ []) stale
    -- the last word of an object of one block, whose bytes are 5; behind it they are 7
    ∷ example (load 4096 (small 1 0) 0 3) (loaded 0x0505_0505) (1 ∷ 0 ∷ []) stale
    ∷ []

-- there are so many
pub examples_number : length examples ≡ 44
unfolding examples
examples_number = refl

-- the lowest byte of a word is the first: the bytes 0, 16, 0, 0 are 4,096, and 4,096 is these bytes
pub words_hold : (word_at (0 ∷ 16 ∷ 0 ∷ 0 ∷ []) 0 ≡ 4096) × (bytes_of 4096 ≡ 0 ∷ 16 ∷ 0 ∷ 0 ∷ [])
unfolding number bytes_of word_at
words_hold = (refl, refl)

-- every example is as it should be
pub examples_hold : map (λ (x : Example). x.is) examples ≡ map (λ (x : Example). x.ought) examples
unfolding examples count leading tabulate number bytes_of word_at words_of entry_of entries_of table_of may_follow well_after well_formed block_count start_of free_from aligned fits first_from first_fit grows_in_place placed released extended used objects longest address_of good_base target_of heads_object head_at leads_to change_from unless_refused cleared_blocks first_of good_shape whole_words pushed visit_to visit walk_words walk drain_for drain trace root_to mark_root mark_roots pass_block pass_from pass rescan_for rescan mark_all swept_entry freeing_after sweep_from sweep blocks_for taken placing allocate freed free shrunk grown moved moves_to way_to_grow way_to along reallocate collecting collect survey load
examples_hold = refl
