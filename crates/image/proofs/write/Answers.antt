-- `write`: a refused call returns before anything is written; else the buffer is long enough or the call is refused by 10, and the sections are written.
-- Assumes nothing.
use mathlib.Core.Path.{◌≡◌, refl}
use Prim.Native.Nat.{◌*◌, ◌≤◌}
use native.Mathlib.Omega.{arith}
use Rattle.std.proofs.lemmas.Result.{err_from_is_err_and}
use Rattle.laws.proofs.Widths.{in_32_bits}
use Rattle.image.proofs.Ends.{Known, known, image_refused, image_short, image_done}
use Rattle.image.proofs.write.Goals as goal
use Rattle.image.proofs.write.Goals.{In_ok-root_list, After-count-used, After-index}

-- ---- what is known on the way

-- the tests of the heap and the roots have passed
knows : (c : In_ok-root_list) → let h = c.args.heap.now in Known h.t h.base.0 h.pool.now h.table.now c.args.roots.now c.args.image.now (c.in_ok-root_list.ensures _ refl)
knows c = known _ _ _ _ _ _ (c.in_ok-root_list.ensures _ refl)

-- few blocks are used
few : (c : After-count-used) → c.count-used.result.used ≤ 4096
few c = omega (arith, (rw c.new.ensures at c.count-used.ensures).0, (knows (goal.at.After-count-used c).In_ok-root_list).few)

-- their bytes
size : (c : After-index) → c.index.result ≡ 16 * c.count-used.result.used
size c = omega (arith, c.index.ensures, c.of_blocks.ensures)

-- ---- the goals

pub returns-in_err-root_list : goal.returns-in_err-root_list
returns-in_err-root_list c =
    let p = err_from_is_err_and c.from_residual.result c.from_residual.ensures.1 in
    rw (p.1, p.2) (image_refused _ _ _ _ _ _ _ (c.in_err-root_list.ensures _ refl))

pub new-requires : goal.new-requires
new-requires c = (knows (goal.at.new-requires c).In_ok-root_list).is

pub overflow_add-length : goal.overflow_add-length
overflow_add-length c = in_32_bits (record { fits = omega (arith, (knows (goal.at.overflow_add-length c).In_ok-root_list).is.sized.few) })

pub of_blocks-requires : goal.of_blocks-requires
of_blocks-requires c = omega (arith, few (goal.at.of_blocks-requires c).After-count-used)

pub overflow_add-length-2 : goal.overflow_add-length-2
overflow_add-length-2 c =
    let at = goal.at.overflow_add-length-2 c in
    in_32_bits (record { fits = omega (arith, size at.After-index, few at.After-count-used, (knows at.In_ok-root_list).is.sized.few) })

pub overflow_add-length-3 : goal.overflow_add-length-3
overflow_add-length-3 c =
    let at = goal.at.overflow_add-length-3 c in
    let k = knows at.In_ok-root_list in
    in_32_bits (record { fits = omega (arith, size at.After-index, few at.After-count-used, k.is.sized.few, k.few_roots) })

pub returns-then-image-length : goal.returns-then-image-length
returns-then-image-length c =
    let at = goal.at.returns-then-image-length c in
    image_short _ _ _ _ _ _ (c.in_ok-root_list.ensures _ refl) (omega (arith, c.if-image-length.true, size at.After-index, (knows at.In_ok-root_list).long, (rw c.new.ensures at c.count-used.ensures).0))

pub write_sections-requires-clause-table : goal.write_sections-requires-clause-table
write_sections-requires-clause-table c = let k = knows (goal.at.write_sections-requires-clause-table c).In_ok-root_list in (k.is, (k.whole, k.address))

pub overflow_cast-result : goal.overflow_cast-result
overflow_cast-result c =
    let at = goal.at.overflow_cast-result c in
    let k = knows at.In_ok-root_list in
    record { fits = omega (arith, size at.After-index, few at.After-count-used, k.is.sized.few, k.few_roots) }

pub returns : goal.returns
returns c =
    let at = goal.at.returns c in
    let size_is = size at.After-index in
    let k = knows at.In_ok-root_list in
    let same = (rw c.new.ensures at c.count-used.ensures).0 in
    image_done _ _ _ _ _ _ (c.in_ok-root_list.ensures _ refl) (omega (arith, c.if-image-length.false, size_is, k.long, same)) (omega (arith, size_is, k.long, same))
    c.args.heap.now.are_bytes c.write_sections.ensures
