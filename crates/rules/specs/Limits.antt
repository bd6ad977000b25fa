-- The limits, from both sides: the worked examples 13 to 15, surveys, a request that is too large, and by which number lists that are too long are refused.
-- In heaps of 8 blocks, computed as Examples has it.
-- Assumes nothing.
use Rattle.std.specs.Prelude.{◌≡◌, refl, true, List, [], ◌∷◌, map, ℕ, ◌*◌, length}
use Rattle.std.proofs.Math.Option.{some, none}
use Rattle.rules.specs.Tests.{count, leading}
use Rattle.rules.specs.Words.{number, word_at}
use Rattle.rules.specs.Entries.{entry_of, entries_of, table_of}
use Rattle.rules.specs.Tables.{may_follow, well_after, well_formed, block_count, free_from, aligned, fits, first_from, first_fit, used, objects, longest}
use Rattle.rules.specs.Pointers.{address_of, good_base, target_of}
use Rattle.rules.specs.Outcomes.{Heap, only_refusal, surveyed, loaded, unless_refused}
use Rattle.rules.specs.Refusals.{first_of, good_shape, whole_words, heap_tests, collection_tests}
use Rattle.rules.specs.Calls.{blocks_for, allocate, reallocate, survey, load}
use Rattle.rules.specs.Examples.{Example, example, stale, small}

unfoldable pub limits : List Example
limits =
    -- 13: eight blocks end with the address space at base 4,294,967,168; the lowest base is 16; every base is a multiple of 16
    example (survey 4294967168 (small 1 0)) (surveyed 1 1 7) (1 ∷ 0 ∷ []) stale
    ∷ example (survey 4294967184 (small 1 0)) (only_refusal 1) (1 ∷ 0 ∷ []) stale
    ∷ example (survey 16 (small 1 0)) (surveyed 1 1 7) (1 ∷ 0 ∷ []) stale
    ∷ example (survey 0 (small 1 0)) (only_refusal 1) (1 ∷ 0 ∷ []) stale
    ∷ example (survey 4104 (small 1 0)) (only_refusal 1) (1 ∷ 0 ∷ []) stale
    -- 14: the last word of an object of four blocks, and the word directly behind it
    ∷ example (load 4096 (small 165 169) 4 15) (loaded 0x0707_0707) (165 ∷ 169 ∷ []) stale
    ∷ example (load 4096 (small 165 169) 4 16) (only_refusal 8) (165 ∷ 169 ∷ []) stale
    -- 15: no bytes for a block that is none
    ∷ example (reallocate 4096 (small 165 169) 8 0) (only_refusal 5) (165 ∷ 169 ∷ []) stale
    -- the longest run is neither the first nor the last; one that ends with the table, behind an object of two blocks
    ∷ example (survey 4096 (small 4 4)) (surveyed 2 2 3) (4 ∷ 4 ∷ []) stale
    ∷ example (survey 4096 (small 37 0)) (surveyed 3 2 5) (37 ∷ 0 ∷ []) stale
    -- 2^32 + 1 bytes, of which the lowest 32 bits are 1
    ∷ example (allocate 4096 (small 0 0) 0x1_0000_0001) (only_refusal 9) (0 ∷ 0 ∷ []) stale
    ∷ []

-- there are so many
pub limits_number : length limits ≡ 11
unfolding limits
limits_number = refl

-- every example is as it should be
pub limits_hold : map (λ (x : Example). x.is) limits ≡ map (λ (x : Example). x.ought) limits
unfolding limits count leading number word_at entry_of entries_of table_of may_follow well_after well_formed block_count free_from aligned fits first_from first_fit used objects longest address_of good_base unless_refused first_of good_shape blocks_for allocate reallocate survey load
limits_hold = refl

-- ---- by which number a call is refused. Of lists only the lengths count, of a table also that it is well-formed: so these are said of all that are so

-- a collection at base 4,096 with so many bytes of roots and of mark stack
abbrev pub Collection : ℕ → ℕ → ℕ → Type 0
Collection r s refusal =
    (roots stack : List ℕ) → length roots ≡ r → length stack ≡ s → first_of (collection_tests 4096 (small 1 0) roots stack) ≡ refusal

-- a call at base 4,096 on a well-formed heap of so many blocks
abbrev pub Blocks : ℕ → ℕ → Type 0
Blocks n refusal =
    (h : Heap) → length h.entries ≡ n → length h.pool ≡ 16 * n → well_formed h.entries ≡ true → first_of (heap_tests 4096 h) ≡ refusal

-- 4,096 roots and a mark stack of 64 entries are accepted; one root more is 3, one entry more 4, and half a word in either list 1. 4,096 blocks are accepted; 4,100, and none, are 1.
-- The address of the last block has that as its target, the address behind it none.
abbrev pub Lengths : Type 0
Lengths =
    Collection 16384 256 0
    × Collection 16388 256 3
    × Collection 16384 260 4
    × Collection 6 0 1
    × Collection 0 6 1
    × Blocks 4096 0
    × Blocks 4100 1
    × Blocks 0 1
    × (target_of 4096 8 4208 ≡ some 7)
    × (target_of 4096 8 4224 ≡ none)

pub lengths_hold : Lengths
unfolding entry_of entries_of may_follow well_after well_formed address_of good_base target_of first_of good_shape whole_words
lengths_hold = (
  λ roots stack r s. rw (r, s) refl,
  λ roots stack r s. rw (r, s) refl,
  λ roots stack r s. rw (r, s) refl,
  λ roots stack r s. rw r refl,
  λ roots stack r s. rw (r, s) refl,
  λ h n p w. rw (n, p, w) refl,
  λ h n p w. rw n refl,
  λ h n p w. rw n refl,
  refl,
  refl,
)
