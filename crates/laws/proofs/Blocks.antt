-- The answered block is a block of the table, so that it is below 4,096 whatever the call was given.
-- Assumes nothing.
use mathlib.Core.Path.{◌≡◌, refl}
use mathlib.Core.List.{List, [], ◌∷◌, ◌++◌}
use mathlib.Core.Option.{Option, some, none}
use Prim.Native.Nat.{ℕ, zero, suc, ◌≤◌, ◌<◌}
use native.Mathlib.Omega.{arith}
use lib.ListN.{length}
use Rattle.rules.specs.Tests.{is_none, or_else}
use Rattle.rules.specs.Tables.{block_count, first_fit}
use Rattle.laws.specs.Meaning.{Lowest}
use Rattle.rules.specs.Outcomes.{Heap, Outcome, unless_refused}
use Rattle.rules.specs.Refusals.{Test, first_of, heap_tests, no_bytes, outside, no_head, no_room}
use Rattle.rules.specs.Calls.{Way, stay, shrink, grow, move, no_way, way_to, is_no_way, blocks_for, placing, along, allocate, reallocate}
use Rattle.rules.specs.Forms.{Form}
use Rattle.rules.specs.Runs.{Call, Allocate, Reallocate, step}
use Rattle.rules.specs.Memory.{Memory, heap_in, Result, stack_for, tests_in, or_refused, done_in, perform}
use Rattle.laws.proofs.Tables.{extent_of, first_fits}
use Rattle.laws.proofs.Refusals.{passed, asked, named_resize}
use Rattle.laws.proofs.Calls.{blocks_some, Ways, moves, way_says}

-- a refusal answers 0, so the act alone counts
unless_small : (r : ℕ) (h : Heap) (stack : List ℕ) (acted : Outcome) → (r ≡ 0 → acted.answer.block < 4096) → (unless_refused r h stack acted).answer.block < 4096
unfolding unless_refused
unless_small zero h stack acted small = small refl
unless_small (suc r) h stack acted small = omega arith

allocate_block : (base : ℕ) (h : Heap) (bytes : ℕ) → (allocate base h bytes).answer.block < 4096
unfolding allocate placing
allocate_block base h bytes = unless_small _ _ _ _ (λ ok. go ok (first_fit h.entries (blocks_for bytes)) refl)
  where
    room : Test
    room = no_room (is_none (first_fit h.entries (blocks_for bytes)))

    go : first_of (heap_tests base h ++ no_bytes bytes ∷ room ∷ []) ≡ 0 → (o : Option ℕ) → first_fit h.entries (blocks_for bytes) ≡ o → or_else o 0 < 4096
    go ok none e = omega arith
    go ok (some s) e =
        let more = blocks_some bytes (asked base h bytes (room ∷ []) ok) in
        let few = (passed base h (no_bytes bytes ∷ room ∷ []) ok).shape.few in
        omega (arith, (first_fits h.entries (blocks_for bytes) s more e).run.room)

reallocate_block : (base : ℕ) (h : Heap) (k bytes : ℕ) → (reallocate base h k bytes).answer.block < 4096
unfolding reallocate along placing Lowest
reallocate_block base h k bytes = unless_small _ _ _ _ (λ ok. go ok)
  where
    b : ℕ
    b = block_count h.entries k

    c : ℕ
    c = blocks_for bytes

    room : Test
    room = no_room (is_no_way (way_to h.entries k b c))

    by_way : k < 4096 → length h.entries ≤ 4096 → 0 < c → (w : Way) → Ways h.entries k b c w → (along w h k b c).answer.block < 4096
    by_way small few more stay ways = small
    by_way small few more shrink ways = small
    by_way small few more grow ways = small
    by_way small few more (move s) (moves l full low) = omega (arith, low.0.run.room)
    by_way small few more no_way ways = omega arith

    go : first_of (heap_tests base h ++ no_bytes bytes ∷ outside h k ∷ no_head h k ∷ room ∷ []) ≡ 0 → (along (way_to h.entries k b c) h k b c).answer.block < 4096
    go ok =
        let few = (passed base h (no_bytes bytes ∷ outside h k ∷ no_head h k ∷ room ∷ []) ok).shape.few in
        let name = named_resize base h k bytes (room ∷ []) ok in
        let more = blocks_some bytes name.0 in
        by_way (omega (arith, name.1.inside)) few more (way_to h.entries k b c)
        (way_says h.entries k b c (extent_of h.entries k name.1.inside).room more)

-- the same on lent memory, where a refusal answers 0 too
performed_small : (f : Form) (c : Call) (stack : List ℕ) (m : Memory) → (step c stack (heap_in f m)).answer.block < 4096 → (perform f c stack m).answer.block < 4096
unfolding perform or_refused
performed_small f c stack m small = go (first_of (tests_in f c m (step c stack (heap_in f m)).answer.refusal))
  where
    go : (n : ℕ) → (or_refused n m (stack_for c stack) (done_in f c stack m)).answer.block < 4096
    go zero = small
    go (suc r) = omega arith

-- of a result that is such a call's
pub allocated_small : (f : Form) (base bytes : ℕ) (m : Memory) (x : Result) → x ≡ perform f (Allocate base bytes) [] m → x.answer.block < 4096
unfolding step
allocated_small f base bytes m x e = rw e (performed_small f (Allocate base bytes) [] m (allocate_block base (heap_in f m) bytes))

pub reallocated_small : (f : Form) (base k bytes : ℕ) (m : Memory) (x : Result) → x ≡ perform f (Reallocate base k bytes) [] m → x.answer.block < 4096
unfolding step
reallocated_small f base k bytes m x e = rw e (performed_small f (Reallocate base k bytes) [] m (reallocate_block base (heap_in f m) k bytes))
