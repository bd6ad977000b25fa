-- `allocator::allocate` meets its contract. Assumes nothing.
use mathlib.Core.Path.{◌≡◌, refl, sym, ap, ◌∙◌}
use native.Mathlib.Omega.{arith}
use borrow.Author.Tests.{leb-true, leb-false}
use Prim.Native.Nat.{◌<◌}
use lib.IntN.{pos}
use Rattle.std.proofs.lemmas.Result.{err_from_is_err_and}
use Rattle.rules.specs.Outcomes.{Heap}
use Rattle.rules.specs.Refusals.{request_tests}
use Rattle.rules.specs.Planes.{entries_in}
use Rattle.laws.proofs.Tables.{first_fits}
use Rattle.laws.proofs.Calls.{blocks_some, blocks_least, request_nowhere}
use Rattle.refusals.proofs.Codes.{not_accepted}
use Rattle.checks.specs.Refusal.{refusal_by}
use Rattle.objects.proofs.Starts.{start, nowhere, no_room}
use Rattle.objects.proofs.Held.{signed}
use Rattle.allocator.proofs.Ends.{gained, allocate_refused, allocate_checked, allocate_asks, allocate_full, allocate_done}
use Rattle.allocator.proofs.allocate.Goals as goal
use Rattle.allocator.proofs.allocate.Goals.{In_ok-request}

-- none of the tests of the heap that is lent holds
tested : (c : In_ok-request) → 0 ≡ refusal_by c.args.t c.args.pool.now c.args.table.now (λ (h : Heap). request_tests c.args.base.0 h c.args.bytes.0)
tested c = let e = c.new.ensures in rw (e.base, e.t, e.pool, e.table) at c.in_ok-request.ensures

pub returns-in_err-request : goal.returns-in_err-request
returns-in_err-request c =
    let p = err_from_is_err_and c.from_residual.result c.from_residual.ensures.1 in
    rw (p.1, p.2) (allocate_refused _ _ _ _ _ (let e = c.new.ensures in rw (e.base, e.t, e.pool, e.table) at c.in_err-request.ensures) (not_accepted _))

pub returns-then-not-fits_in : goal.returns-then-not-fits_in
returns-then-not-fits_in c =
    let a = c.args in
    let test = tested (goal.at.returns-then-not-fits_in c).In_ok-request in
    allocate_full _ _ _ _ _ test
    (request_nowhere (entries_in a.t a.table.now) a.pool.now a.bytes.0 (allocate_checked _ _ _ _ _ test).shape.pool (leb-false _ _ (sym c.fits_in.ensures ∙ c.if-not-fits_in.true)))
    refl

pub blocks-count-requires : goal.blocks-count-requires
blocks-count-requires c =
    let shape = (allocate_checked _ _ _ _ _ (tested (goal.at.blocks-count-requires c).In_ok-request)).shape in
    omega (arith, leb-true _ _ (sym c.fits_in.ensures ∙ c.if-not-fits_in.false), shape.pool, shape.few)

pub new-requires-2 : goal.new-requires-2
new-requires-2 c = (allocate_checked _ _ _ _ _ (tested (goal.at.new-requires-2 c).In_ok-request)).is

pub first_fit-requires : goal.first_fit-requires
first_fit-requires c = rw c.blocks-count.ensures (blocks_some _ (allocate_asks _ _ _ _ _ (tested (goal.at.first_fit-requires c).In_ok-request)))

pub returns-in_err-block : goal.returns-in_err-block
returns-in_err-block c =
    let p = err_from_is_err_and c.from_residual-in_err-block.result c.from_residual-in_err-block.ensures.1 in
    let none = c.in_err-block.ensures.ok_part in
    rw (p.1, p.2)
    (allocate_full _ _ _ _ _ (tested (goal.at.returns-in_err-block c).In_ok-request) (rw c.blocks-count.ensures at (nowhere (rw c.new-2.ensures at c.first_fit.ensures) none)) (no_room _ _ none c.in_err-block.ensures.value))

pub take-requires : goal.take-requires
take-requires c =
    let test = tested (goal.at.take-requires c).In_ok-request in
    let knows = allocate_checked _ _ _ _ _ test in
    let some_blocks : 0 < c.blocks-count.result = rw c.blocks-count.ensures (blocks_some _ (allocate_asks _ _ _ _ _ test)) in
    record {
      table = (knows.is, some_blocks);
      count_in_bounds = ((first_fits _ _ _ some_blocks (start (rw c.new-2.ensures at c.first_fit.ensures) c.in_ok-block.ensures.ok_part)).run.room, omega (arith, knows.shape.pool));
    }

pub difference-requires : goal.difference-requires
difference-requires c =
    let shape = (allocate_checked _ _ _ _ _ (tested (goal.at.difference-requires c).In_ok-request)).shape in
    let few = blocks_least c.args.bytes.0 4096 (omega (arith, leb-true _ _ (sym c.fits_in.ensures ∙ c.if-not-fits_in.false), shape.pool, shape.few)) in
    omega arith

pub returns : goal.returns
returns c =
    let count = c.blocks-count.ensures in
    allocate_done _ _ _ _ _ (tested (goal.at.returns c).In_ok-request) _ _ _ _ (λ i. (c.type_inv.table i).fits)
    (rw count at (start (rw c.new-2.ensures at c.first_fit.ensures) c.in_ok-block.ensures.ok_part))
    (rw count at c.take.ensures)
    (signed _ c.difference.type_inv ∙ c.difference.ensures ∙ gained _ ∙ ap pos count)
