-- A heap of 12 blocks at base 536,870,912 (hex 20000000), its table in two planes of two bytes each, on which the theorems of this crate are used: two roots, and chains of more than one word.
--
--   block   0   1 2 3   4 5   6   7   8 9   10 11
--   object  A   B       C     D   .   E     F
--
-- The roots are A and C. The last word of C is E's address, and word 0 of E is D's. B points to A, and F to itself: nobody leads to them.
-- Assumes nothing.
use Rattle.std.specs.Prelude.{List, [], ◌∷◌, ◌++◌, ℕ, ◌+◌, ◌*◌, replicate}
use Rattle.rules.specs.Words.{bytes_of, with_word}
use Rattle.rules.specs.Outcomes.{Heap, Outcome}
use Rattle.rules.specs.Planes.{planes}
use Rattle.rules.specs.Memory.{Memory, memory, heap_in}
use Rattle.rules.specs.Calls.{collect}

abbrev pub sample_base : ℕ
sample_base = 536870912

-- the address of block k
abbrev pub address_at : ℕ → ℕ
address_at k = sample_base + 16 * k

-- the low bits of A to D, and of E and F; then their high bits
abbrev pub sample_table : List ℕ
sample_table = 83 ∷ 5 ∷ 44 ∷ 10 ∷ []

-- word i of block k is the address of block j
abbrev pub pointing : ℕ → ℕ → ℕ → List ℕ → List ℕ
pointing k i j pool = with_word pool (4 * k + i) (address_at j)

abbrev pub sample_pool : List ℕ
sample_pool = pointing 4 7 8 (pointing 8 0 6 (pointing 1 0 0 (pointing 10 0 10 (replicate 192 0))))

abbrev pub sample_memory : Memory
sample_memory = memory sample_pool sample_table

abbrev pub sample_heap : Heap
sample_heap = heap_in (planes 3) sample_memory

abbrev pub sample_roots : List ℕ
sample_roots = bytes_of (address_at 0) ++ bytes_of (address_at 4)

-- its collection with a mark stack of so many entries, which hold something else at first
unfoldable pub sample_with : ℕ → Outcome
sample_with room = collect sample_base sample_heap sample_roots (replicate (4 * room) 7)
