-- `allocator::reallocate` meets its contract: where the check refuses, nothing was written; else the object is held, and the act that the
-- counts of blocks choose leaves what the definition's way leaves.
-- Assumes nothing.
use mathlib.Core.Path.{◌≡◌, refl, sym, ◌∙◌}
use mathlib.Core.Bool.{Bool, true, false}
use mathlib.Core.List.{List, [], ◌∷◌}
use Prim.Native.Nat.{ℕ, ◌+◌, ◌≤◌, ◌<◌}
use native.Mathlib.Omega.{arith}
use lib.ListN.{length}
use borrow.Author.Tests.{leb-true, leb-false}
use Rattle.rules.specs.Tables.{block_count, grows_in_place}
use Rattle.rules.specs.Outcomes.{Heap, Outcome, only_refusal, leaves}
use Rattle.rules.specs.Planes.{planes, entries_in, IsTable, heap_at}
use Rattle.rules.specs.Refusals.{no_bytes, name_tests, resize_tests}
use Rattle.rules.specs.Calls.{blocks_for, reallocate}
use Rattle.laws.specs.Meaning.{AllBytes, GrowsInPlace}
use Rattle.rules.specs.Runs.{Reallocate}
use Rattle.rules.specs.Memory.{memory, perform}
use Rattle.laws.proofs.Tables.{grows_of, grows_says}
use Rattle.laws.proofs.Refusals.{true_not_false, named_resize}
use Rattle.laws.proofs.Calls.{blocks_some, blocks_least, request_no_way, reallocate_stuck, reallocate_shrinks, reallocate_grows, reallocate_moves}
use Rattle.std.specs.Prelude.{Result as Returned, Ok, Err}
use Rattle.std.proofs.lemmas.Result.{err_from_is_err_and}
use Rattle.checks.specs.Refusal.{refusal_by}
use Rattle.refusals.specs.declared.Refusal.{Refusal}
use Rattle.refusals.specs.declared.Refusal.TheVariants.{NoRoom}
use Rattle.refusals.proofs.Codes.{not_accepted}
use Rattle.objects.specs.Held.{Held}
use Rattle.objects.specs.Answers.{placed_in}
use Rattle.allocator.specs.Answers.{placed}
use Rattle.objects.specs.declared.Placed.{Placed}
use Rattle.objects.proofs.Held.{held_few, held_room}
use Rattle.heap.proofs.Ends.{Checked}
use Rattle.allocator.proofs.Ends.{reallocate_refused, reallocate_checked, reallocate_done}
use Rattle.allocator.proofs.reallocate.Goals as goal
use Rattle.allocator.proofs.reallocate.Goals.{In_ok-resize}

-- none of the tests holds
module _ (t base : ℕ) (pool table : List ℕ) (k bytes : ℕ) (test : 0 ≡ refusal_by t pool table (λ (g : Heap). resize_tests base g k bytes)) where
  accepted : Checked t base pool table (no_bytes bytes ∷ name_tests (heap_at t pool table) k)
  accepted = reallocate_checked t base pool table k bytes test

  object : {b : ℕ} → b ≡ block_count (entries_in t table) k → Held t pool table k b
  object count =
      let n = (named_resize base (heap_at t pool table) k bytes [] accepted.passes).1 in
      record { is_table = accepted.is; long = accepted.shape.pool; inside = n.inside; head = n.head; count = count }

  done : AllBytes table → (p : Returned Placed Refusal) (pool' table' : List ℕ) {o : Outcome} → AllBytes table' → IsTable t table' × (placed_in p (heap_at t pool' table') ≡ o) → o ≡ reallocate base (heap_at t pool table) k bytes
      → placed p pool' table' ≡ perform (planes t) (Reallocate base k bytes) [] (memory pool table)
  done all p pool' table' bytes' left e = reallocate_done t base pool table k bytes test p pool' table' all bytes' left.0 (left.1 ∙ e)

  too_long : length pool < bytes → leaves (only_refusal 9) (heap_at t pool table) ≡ reallocate base (heap_at t pool table) k bytes
  too_long l =
      let o = object refl in
      reallocate_stuck base (heap_at t pool table) k bytes accepted.passes (request_no_way (entries_in t table) pool k bytes o.long l o.head)

  -- the blocks that hold the bytes
  module _ {c : ℕ} (new : c ≡ blocks_for bytes) where
    wanted : 0 < c
    wanted = rw new (blocks_some bytes (named_resize base (heap_at t pool table) k bytes [] accepted.passes).0)

    within : bytes ≤ length pool → c ≤ 4096
    within l =
        let o = object refl in
        omega (arith, new, blocks_least bytes (length (entries_in t table)) (omega (arith, o.long)), held_few o)

-- the answer whether the object may grow where it is
module _ (es : List ℕ) (k b c : ℕ) {r : Bool} (e : r ≡ grows_in_place es k b c) where
  may_grow : k + b ≤ length es → r ≡ true → GrowsInPlace es k b c
  may_grow inside y = grows_says es k b c inside (sym e ∙ y)

  may_not : r ≡ false → GrowsInPlace es k b c → ⊥
  may_not f g = true_not_false (grows_of es k b c g) (sym e ∙ f)

-- none of the tests of the heap that is lent holds
tested : (c : In_ok-resize) → 0 ≡ refusal_by c.args.t c.args.pool.now c.args.table.now (λ (h : Heap). resize_tests c.args.base.0 h c.args.k.0 c.args.bytes.0)
tested c = let e = c.new.ensures in rw (e.base, e.t, e.pool, e.table) at c.in_ok-resize.ensures

pub returns-in_err-resize : goal.returns-in_err-resize
returns-in_err-resize c =
    let p = err_from_is_err_and c.from_residual.result c.from_residual.ensures.1 in
    rw (p.1, p.2) (reallocate_refused _ _ _ _ _ _ (let e = c.new.ensures in rw (e.base, e.t, e.pool, e.table) at c.in_err-resize.ensures) (not_accepted _))

pub returns-then-not-fits_in : goal.returns-then-not-fits_in
returns-then-not-fits_in c =
    let test = tested (goal.at.returns-then-not-fits_in c).In_ok-resize in
    let all : AllBytes c.args.table.now = λ i. (c.slice_known-2-1.given i).fits in
    done _ _ _ _ _ _ test all (Err NoRoom) _ _ all ((accepted _ _ _ _ _ _ test).is, refl) (too_long _ _ _ _ _ _ test (leb-false _ _ (sym c.fits_in.ensures ∙ c.if-not-fits_in.true)))

pub new-requires-2 : goal.new-requires-2
new-requires-2 c = (object _ _ _ _ _ _ (tested (goal.at.new-requires-2 c).In_ok-resize) refl).is_table

pub block_count-old-requires : goal.block_count-old-requires
block_count-old-requires c = rw c.new-2.ensures (object _ _ _ _ _ _ (tested (goal.at.block_count-old-requires c).In_ok-resize) refl).inside

pub blocks-new-requires : goal.blocks-new-requires
blocks-new-requires c =
    let o = object _ _ _ _ _ _ (tested (goal.at.blocks-new-requires c).In_ok-resize) refl in
    omega (arith, o.long, held_few o, leb-true _ _ (sym c.fits_in.ensures ∙ c.if-not-fits_in.false))

pub shrink-requires : goal.shrink-requires
shrink-requires c =
    let test = tested (goal.at.shrink-requires c).In_ok-resize in
    record { held = object _ _ _ _ _ _ test (rw c.new-2.ensures at c.block_count-old.ensures.0); nonzero = (wanted _ _ _ _ _ _ test c.blocks-new.ensures, c.if-new-old.true) }

pub returns-then-new-old : goal.returns-then-new-old
returns-then-new-old c =
    let test = tested (goal.at.returns-then-new-old c).In_ok-resize in
    done _ _ _ _ _ _ test (λ i. (c.slice_known-2-1.given i).fits) (Ok c.shrink.result) _ _ (λ i. (c.type_inv.table i).fits) c.shrink.ensures
    (reallocate_shrinks _ _ _ _ (accepted _ _ _ _ _ _ test).passes _ _ (rw c.new-2.ensures at c.block_count-old.ensures.0) c.blocks-new.ensures c.if-new-old.true)

pub new-requires-3 : goal.new-requires-3
new-requires-3 c = (object _ _ _ _ _ _ (tested (goal.at.new-requires-3 c).In_ok-resize) refl).is_table

pub grows_in_place-requires : goal.grows_in_place-requires
grows_in_place-requires c =
    let o = object _ _ _ _ _ _ (tested (goal.at.grows_in_place-requires c).In_ok-resize) (rw c.new-2.ensures at c.block_count-old.ensures.0) in
    rw c.new-3.ensures (held_room o, omega arith)

pub grow-requires : goal.grow-requires
grow-requires c =
    let o = object _ _ _ _ _ _ (tested (goal.at.grow-requires c).In_ok-resize) (rw c.new-2.ensures at c.block_count-old.ensures.0) in
    record { held = o; lt = (omega arith, may_grow _ _ _ _ (rw c.new-3.ensures at c.grows_in_place.ensures) (held_room o) c.if-grows_in_place.true) }

pub returns-then-grows_in_place : goal.returns-then-grows_in_place
returns-then-grows_in_place c =
    let test = tested (goal.at.returns-then-grows_in_place c).In_ok-resize in
    let o = object _ _ _ _ _ _ test (rw c.new-2.ensures at c.block_count-old.ensures.0) in
    let g = may_grow _ _ _ _ (rw c.new-3.ensures at c.grows_in_place.ensures) (held_room o) c.if-grows_in_place.true in
    done _ _ _ _ _ _ test (λ i. (c.slice_known-2-1.given i).fits) (Ok c.grow.result) _ _ (λ i. (c.type_inv.table i).fits) c.grow.ensures
    (reallocate_grows _ _ _ _ (accepted _ _ _ _ _ _ test).passes _ _ (rw c.new-2.ensures at c.block_count-old.ensures.0) c.blocks-new.ensures (omega arith) g)

pub relocate-requires : goal.relocate-requires
relocate-requires c =
    let test = tested (goal.at.relocate-requires c).In_ok-resize in
    record {
      held = object _ _ _ _ _ _ test (rw c.new-2.ensures at c.block_count-old.ensures.0);
      lt = (omega arith, within _ _ _ _ _ _ test c.blocks-new.ensures (leb-true _ _ (sym c.fits_in.ensures ∙ c.if-not-fits_in.false)));
    }

pub returns : goal.returns
returns c =
    let test = tested (goal.at.returns c).In_ok-resize in
    let none = may_not _ _ _ _ (rw c.new-3.ensures at c.grows_in_place.ensures) c.if-grows_in_place.false in
    done _ _ _ _ _ _ test (λ i. (c.slice_known-2-1.given i).fits) c.relocate.result _ _ (λ i. (c.type_inv.table i).fits) c.relocate.ensures
    (reallocate_moves _ _ _ _ (accepted _ _ _ _ _ _ test).passes _ _ (rw c.new-2.ensures at c.block_count-old.ensures.0) c.blocks-new.ensures (held_room (object _ _ _ _ _ _ test (rw c.new-2.ensures at c.block_count-old.ensures.0))) (omega arith) none)
