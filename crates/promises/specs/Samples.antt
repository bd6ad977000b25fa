-- A small heap to use the promises on: 12 blocks at base 536,870,912, its table in two planes of two bytes each, with an object of blocks 0 and 1, one of blocks 2 to 4, one of block 7
-- and one of block 11; blocks 5, 6, 8, 9 and 10 are FREE. The last word of each object is not 0: that of the first is the address of block 7.
-- Assumes nothing.
use Rattle.std.specs.Prelude.{List, [], ◌∷◌, ℕ, replicate}
use Rattle.rules.specs.Words.{bytes_of, with_word}
use Rattle.rules.specs.Outcomes.{Heap}
use Rattle.rules.specs.Planes.{planes}
use Rattle.rules.specs.Memory.{Memory, memory, heap_in}

abbrev pub sample_base : ℕ
sample_base = 536870912

abbrev pub sample_table : List ℕ
sample_table = 133 ∷ 8 ∷ 26 ∷ 0 ∷ []

abbrev pub sample_pool : List ℕ
sample_pool = with_word (with_word (with_word (with_word (replicate 192 0) 7 536871024) 19 305419896) 31 2596069104) 47 4275878552

abbrev pub sample_memory : Memory
sample_memory = memory sample_pool sample_table

abbrev pub sample_heap : Heap
sample_heap = heap_in (planes 3) sample_memory

-- the only root is the address of the first object, so the first and the third are reachable
abbrev pub sample_roots : List ℕ
sample_roots = bytes_of 536870912

-- a mark stack of so many entries, which hold something
abbrev pub sample_stack : ℕ → List ℕ
sample_stack n = replicate n 7
