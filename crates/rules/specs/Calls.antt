-- The ten calls. Each is one outcome for every input: the tests that concern its arguments, in rising order but for those of a file, then the act.
-- Assumes nothing.
use Rattle.std.specs.Prelude.{Bool, true, false, List, [], ◌∷◌, ◌++◌, ℕ, ◌+◌, ◌-◌, ◌*◌, ◌/◌, ◌%◌, eqb, ltb, length, take, drop, replicate}
use Rattle.std.proofs.Math.Option.{Option, some, none}
use Rattle.std.proofs.lemmas.List.Edits.{sets}
use Rattle.rules.specs.Tests.{pick, both, is_none, or_else}
use Rattle.rules.specs.Words.{word_at, with_word, words_of}
use Rattle.rules.specs.Entries.{FREE}
use Rattle.rules.specs.Tables.{block_count, first_fit, grows_in_place, placed, released, extended, used, objects, longest}
use Rattle.rules.specs.Outcomes.{Heap, Outcome, change_from, only_refusal, placed_at, collected_to, surveyed, loaded, written_to, opened_at, leaves, fills, unless_refused, cleared_blocks}
use Rattle.rules.specs.Refusals.{Test, first_of, good_shape, no_room, init_tests, first_tests, heap_tests, request_tests, object_tests, resize_tests, word_tests, short_buffer, root_tests, short_roots, collection_tests}
use Rattle.rules.specs.Marking.{Marked, mark_all, sweep}
use Rattle.rules.specs.Images.{image_of}
use Rattle.rules.specs.Files.{File, file_of, file_tests, base_of, heap_of_file, roots_of}

-- how many blocks hold a number of bytes
unfoldable pub blocks_for : ℕ → ℕ
blocks_for bytes = (bytes + 15) / 16

-- Init: the table becomes all zero, the pool is not touched
unfoldable pub init : ℕ → Heap → Outcome
init base h =
    unless_refused (first_of (init_tests base h)) h []
    (leaves (only_refusal 0) (record { pool = h.pool; entries = replicate (length h.entries) FREE }))

-- the heap with a new object of b blocks at s, all its bytes zero
unfoldable pub taken : Heap → ℕ → ℕ → Heap
taken h s b = record { pool = cleared_blocks h.pool s b; entries = placed h.entries s b }

-- an accepted call that answers block k and the change
unfoldable pub placing : Heap → ℕ → Heap → Outcome
placing h k after = leaves (placed_at k (change_from h.entries after.entries)) after

-- Allocate: the lowest start at which the blocks fit. 9 if there is none
abbrev pub allocate_tests : ℕ → Heap → ℕ → List Test
allocate_tests base h bytes = request_tests base h bytes ++ no_room (is_none (first_fit h.entries (blocks_for bytes))) ∷ []

unfoldable pub allocate : ℕ → Heap → ℕ → Outcome
allocate base h bytes =
    let b : ℕ = blocks_for bytes in
    let start : Option ℕ = first_fit h.entries b in
    unless_refused (first_of (allocate_tests base h bytes)) h []
    (placing h (or_else start 0) (taken h (or_else start 0) b))

-- Free: the object's head and all its TAILs become FREE, bytes stay
unfoldable pub freed : Heap → ℕ → Heap
freed h k = record { pool = h.pool; entries = released h.entries k (block_count h.entries k) }

unfoldable pub free : ℕ → Heap → ℕ → Outcome
free base h k =
    unless_refused (first_of (object_tests base h k)) h []
    (placing h 0 (freed h k))

-- the ways to reallocate an object of b blocks at k to c blocks
pub data Way : Type 0 where
  stay : Way
  shrink : Way
  grow : Way
  move : ℕ → Way
  no_way : Way

-- the last blocks are given back
unfoldable pub shrunk : Heap → ℕ → ℕ → ℕ → Heap
shrunk h k b c = record { pool = h.pool; entries = released h.entries (k + c) (b - c) }

-- the c - b blocks directly after the object are taken and cleared
unfoldable pub grown : Heap → ℕ → ℕ → ℕ → Heap
grown h k b c = record { pool = cleared_blocks h.pool (k + b) (c - b); entries = extended h.entries (k + b) (c - b) }

-- a new object of c blocks at s, sought with the old one still held: the old 16b bytes are copied to its front,
-- the rest is cleared, and the old object is freed, its bytes staying
unfoldable pub moved : Heap → ℕ → ℕ → ℕ → ℕ → Heap
moved h k b c s = record {
  pool = sets h.pool (16 * s) (take (16 * b) (drop (16 * k) h.pool) ++ replicate (16 * (c - b)) 0);
  entries = released (placed h.entries s c) k b;
}

-- to the start that was found
unfoldable pub moves_to : Option ℕ → Way
moves_to none = no_way
moves_to (some s) = move s

-- more blocks are wanted: in place if that may be, else where c blocks fit
unfoldable pub way_to_grow : List ℕ → ℕ → ℕ → ℕ → Way
way_to_grow es k b c = pick (grows_in_place es k b c) grow (moves_to (first_fit es c))

unfoldable pub way_to : List ℕ → ℕ → ℕ → ℕ → Way
way_to es k b c = pick (eqb c b) stay (pick (ltb c b) shrink (way_to_grow es k b c))

abbrev pub is_no_way : Way → Bool
is_no_way stay = false
is_no_way shrink = false
is_no_way grow = false
is_no_way (move s) = false
is_no_way no_way = true

unfoldable pub along : Way → Heap → ℕ → ℕ → ℕ → Outcome
along stay h k b c = placing h k h
along shrink h k b c = placing h k (shrunk h k b c)
along grow h k b c = placing h k (grown h k b c)
along (move s) h k b c = placing h s (moved h k b c s)
along no_way h k b c = leaves (only_refusal 9) h

-- Reallocate: the way for the object at k and so many bytes. 9 if there is none
abbrev pub way_of : Heap → ℕ → ℕ → Way
way_of h k bytes = way_to h.entries k (block_count h.entries k) (blocks_for bytes)

abbrev pub reallocate_tests : ℕ → Heap → ℕ → ℕ → List Test
reallocate_tests base h k bytes = resize_tests base h k bytes ++ no_room (is_no_way (way_of h k bytes)) ∷ []

unfoldable pub reallocate : ℕ → Heap → ℕ → ℕ → Outcome
reallocate base h k bytes =
    unless_refused (first_of (reallocate_tests base h k bytes)) h []
    (along (way_of h k bytes) h k (block_count h.entries k) (blocks_for bytes))

-- Collect: roots and mark stack are bytes, four to an entry. The pool is not written, and every stack entry is then zero
unfoldable pub collecting : Heap → List ℕ → Marked → Outcome
collecting h stack m =
    let after : List ℕ = sweep m.last.entries in
    record {
      answer = collected_to (objects after) m.rescans (change_from h.entries after);
      heap = record { pool = h.pool; entries = after };
      stack = replicate (length stack) 0;
      filled = [];
    }

unfoldable pub collect : ℕ → Heap → List ℕ → List ℕ → Outcome
collect base h roots stack =
    unless_refused (first_of (collection_tests base h roots stack)) h stack
    (collecting h stack (mark_all (record { base = base; pool = h.pool; room = length stack / 4 }) (words_of roots) h.entries))

-- Survey
unfoldable pub survey : ℕ → Heap → Outcome
survey base h =
    unless_refused (first_of (heap_tests base h)) h []
    (leaves (surveyed (used h.entries) (objects h.entries) (longest h.entries)) h)

-- Load: word i of the object with head k
unfoldable pub load : ℕ → Heap → ℕ → ℕ → Outcome
load base h k i =
    unless_refused (first_of (word_tests base h k i)) h []
    (leaves (loaded (word_at h.pool (4 * k + i))) h)

-- Store: those four bytes only
unfoldable pub store : ℕ → Heap → ℕ → ℕ → ℕ → Outcome
store base h k i w =
    unless_refused (first_of (word_tests base h k i)) h []
    (leaves (only_refusal 0) (record { pool = with_word h.pool (4 * k + i) w; entries = h.entries }))

-- Write an image: of the heap and these roots, into a buffer of `room` bytes. 10 if it is too short. The heap is as it was
abbrev pub image_tests : ℕ → Heap → List ℕ → ℕ → List Test
image_tests base h roots room = root_tests base h roots ++ short_buffer room (image_of base h roots) ∷ []

unfoldable pub write_image : ℕ → Heap → List ℕ → ℕ → Outcome
write_image base h roots room =
    unless_refused (first_of (image_tests base h roots room)) h []
    (fills (written_to (length (image_of base h roots))) h (image_of base h roots))

-- 1, of a file that is opened: pool and table are as large as its own, its base suits them, and the root list of `room` bytes is whole words
unfoldable pub good_target : File → Heap → ℕ → Bool
good_target f h room = both (both (good_shape (base_of f) h) (eqb (length (heap_of_file f).entries) (length h.entries))) (eqb (room % 4) 0)

-- Open an image: a file, into the lent pool and table and a root list of `room` bytes. Its own faults come first; 2 is said of the heap in it; 17 if the root list is too short.
-- What the lent memory held is not looked at
abbrev pub open_tests : Heap → List ℕ → ℕ → List Test
open_tests h image room =
    let f : File = file_of image in
    file_tests image ++ first_tests (good_target f h room) (heap_of_file f) ++ short_roots room (roots_of f) ∷ []

unfoldable pub open_image : Heap → List ℕ → ℕ → Outcome
open_image h image room =
    let f : File = file_of image in
    unless_refused (first_of (open_tests h image room)) h []
    (fills (opened_at (base_of f) (length (roots_of f) / 4)) (heap_of_file f) (roots_of f))
