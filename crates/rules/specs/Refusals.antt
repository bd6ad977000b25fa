-- The refusal numbers: the test behind each, and the tests of the calls in rising order. The first that holds gives the answer.
-- Calls that can run out of room test 9, 10 or 17 after these; a file that is opened is tested before them, from its front (Files): 14 to 16, and 3.
-- Assumes nothing.
use Rattle.std.specs.Prelude.{Bool, not, List, [], ◌∷◌, ◌++◌, ℕ, ◌*◌, ◌/◌, ◌%◌, eqb, leb, ltb, length}
use Rattle.rules.specs.Tests.{pick, both}
use Rattle.rules.specs.Tables.{entry_at, is_head, well_formed, block_count}
use Rattle.rules.specs.Pointers.{good_base}
use Rattle.rules.specs.Outcomes.{Heap}

-- a refusal number and whether its condition holds
pub record Test : Type 0 where
  pub number : ℕ
  pub holds : Bool

abbrev pub test : ℕ → Bool → Test
test r b = record { number = r; holds = b }

-- the number of the first test that holds, 0 if none does
unfoldable pub first_of : List Test → ℕ
first_of [] = 0
first_of (t ∷ ts) = pick t.holds t.number (first_of ts)

-- 1: there are n blocks, from 1 to 4,096; the pool has 16 bytes for each; the base suits n. In bytes: Meaning, ShapeInBytes
unfoldable pub good_shape : ℕ → Heap → Bool
good_shape base h =
    both (both (leb 1 (length h.entries)) (leb (length h.entries) 4096))
    (both (eqb (length h.pool) (16 * length h.entries)) (good_base base (length h.entries)))

-- 1, of a call that takes roots: also that they are whole words, and so the mark stack of a collection
unfoldable pub whole_words : List ℕ → Bool
whole_words bs = eqb (length bs % 4) 0

abbrev pub good_roots : ℕ → Heap → List ℕ → Bool
good_roots base h roots = both (good_shape base h) (whole_words roots)

abbrev pub good_lists : ℕ → Heap → List ℕ → List ℕ → Bool
good_lists base h roots stack = both (good_shape base h) (both (whole_words roots) (whole_words stack))

-- 1: what is lent, or the base, breaks the rules
abbrev pub bad_shape : Bool → Test
bad_shape good = test 1 (not good)

-- 2: the table is not well-formed
abbrev pub ill_formed : Heap → Test
ill_formed h = test 2 (not (well_formed h.entries))

-- 3: more than 4,096 root words
abbrev pub many_roots : List ℕ → Test
many_roots roots = test 3 (ltb 4096 (length roots / 4))

-- 4: a mark stack of more than 64 entries
abbrev pub long_stack : List ℕ → Test
long_stack stack = test 4 (ltb 64 (length stack / 4))

-- 5: a request for 0 bytes
abbrev pub no_bytes : ℕ → Test
no_bytes bytes = test 5 (eqb bytes 0)

-- 6: the block number is n or more
abbrev pub outside : Heap → ℕ → Test
outside h k = test 6 (leb (length h.entries) k)

-- 7: the block is not a HEAD
abbrev pub no_head : Heap → ℕ → Test
no_head h k = test 7 (not (is_head (entry_at h.entries k)))

-- 8: the word index is not inside the object; an object of b blocks has words 0 to 4b - 1
abbrev pub no_word : Heap → ℕ → ℕ → Test
no_word h k i = test 8 (leb (4 * block_count h.entries k) i)

-- 9: no room, as each call defines it
abbrev pub no_room : Bool → Test
no_room b = test 9 b

-- 10: the buffer, of so many bytes, is shorter than what is to be written into it
abbrev pub short_buffer : ℕ → List ℕ → Test
short_buffer room bytes = test 10 (ltb room (length bytes))

-- 17: the root list, of so many bytes, is shorter than the roots that are to be written into it
abbrev pub short_roots : ℕ → List ℕ → Test
short_roots room roots = test 17 (ltb room (length roots))

-- ---- the tests of the calls, in rising order

-- of init: 1
abbrev pub init_tests : ℕ → Heap → List Test
init_tests base h = bad_shape (good_shape base h) ∷ []

-- those that come first in every other call, in an opening behind the faults of its file: 1 2
abbrev pub first_tests : Bool → Heap → List Test
first_tests good h = bad_shape good ∷ ill_formed h ∷ []

-- of a heap: 1 2
abbrev pub heap_tests : ℕ → Heap → List Test
heap_tests base h = first_tests (good_shape base h) h

-- of a request for room: 1 2 5
abbrev pub request_tests : ℕ → Heap → ℕ → List Test
request_tests base h bytes = heap_tests base h ++ no_bytes bytes ∷ []

-- of a block that is to name an object: 6 7
abbrev pub name_tests : Heap → ℕ → List Test
name_tests h k = outside h k ∷ no_head h k ∷ []

-- of an object: 1 2 6 7
abbrev pub object_tests : ℕ → Heap → ℕ → List Test
object_tests base h k = heap_tests base h ++ name_tests h k

-- of a request for an object: 1 2 5 6 7
abbrev pub resize_tests : ℕ → Heap → ℕ → ℕ → List Test
resize_tests base h k bytes = heap_tests base h ++ no_bytes bytes ∷ name_tests h k

-- of a word of an object: 1 2 6 7 8
abbrev pub word_tests : ℕ → Heap → ℕ → ℕ → List Test
word_tests base h k i = heap_tests base h ++ name_tests h k ++ no_word h k i ∷ []

-- of a root list: 1 2 3
abbrev pub root_tests : ℕ → Heap → List ℕ → List Test
root_tests base h roots = first_tests (good_roots base h roots) h ++ many_roots roots ∷ []

-- of a collection: 1 2 3 4
abbrev pub collection_tests : ℕ → Heap → List ℕ → List ℕ → List Test
collection_tests base h roots stack = first_tests (good_lists base h roots stack) h ++ many_roots roots ∷ long_stack stack ∷ []
