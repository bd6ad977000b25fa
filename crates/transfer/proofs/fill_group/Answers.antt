-- `fill_group`: 64 used blocks are one part of the bytes; of others all are cleared, and then the used ones stored.
-- Assumes nothing.
use mathlib.Core.Path.{◌≡◌, ◌∙◌}
use mathlib.Core.List.{List}
use Prim.Native.Nat.{ℕ, ◌+◌, ◌-◌, ◌*◌, ◌<◌, min}
use native.Mathlib.Omega.{arith}
use lib.ListN.{length, drop, replicate, length-take, length-drop}
use lib.Seq.{sets}
use borrow.Author.Rules.{rules}
use Rattle.entries.specs.Lent.{entries_of}
use Rattle.laws.proofs.Widths.{in_32_bits, in_slice}
use Rattle.transfer.specs.Copying.{group_in}
use Rattle.transfer.proofs.Copying.{few_groups, group_inside}
use Rattle.transfer.proofs.Placing.{group_used, full_group, full_moved, group_pool}
use Rattle.transfer.proofs.fill_group.Goals as goal

-- as many zeros at the same place
zeros_at : (pool : List ℕ) {a b m n : ℕ} → a ≡ b → m ≡ n → sets pool a (replicate m 0) ≡ sets pool b (replicate n 0)
zeros_at pool e f = rw (e, f)

-- the group ends behind as many blocks as it has
end_is : (es : List ℕ) (i : ℕ) {end : ℕ} → 64 * i < length es → end ≡ min (64 * i + 64) (length es) → end ≡ 64 * i + length (group_in es i)
end_is es i inside e = omega (arith, e, length-take 64 (drop (64 * i) es), length-drop (64 * i) es)

pub block_offset-start-requires : goal.block_offset-start-requires
block_offset-start-requires c = (few_groups c.args.table.now.is_table c.requires.table.0, omega arith)

pub overflow_add-next : goal.overflow_add-next
overflow_add-next c = in_32_bits (search rules)

pub overflow_add-at_end : goal.overflow_add-at_end
overflow_add-at_end c =
    let a = c.args in
    let full = full_group (entries_of a.table.now) a.i _ _ c.group-g.ensures c.if-used.true a.bytes.now a.pool.now a.passed c.requires.i_bound.1 c.requires.table.1 in
    in_slice c.args.pool.now (omega (arith, full.inside, c.index-at.ensures, c.block_offset-start.ensures)) (search rules)

pub slice_bounds-copy_run-end : goal.slice_bounds-copy_run-end
slice_bounds-copy_run-end c =
    let a = c.args in
    let full = full_group (entries_of a.table.now) a.i _ _ c.group-g.ensures c.if-used.true a.bytes.now a.pool.now a.passed c.requires.i_bound.1 c.requires.table.1 in
    omega (arith, full.enough, c.index-to.ensures, c.of_blocks-then-used.ensures)

pub slice_bounds-copy_run-end-then-used : goal.slice_bounds-copy_run-end-then-used
slice_bounds-copy_run-end-then-used c =
    let a = c.args in
    let full = full_group (entries_of a.table.now) a.i _ _ c.group-g.ensures c.if-used.true a.bytes.now a.pool.now a.passed c.requires.i_bound.1 c.requires.table.1 in
    omega (arith, full.inside, c.index-at.ensures, c.block_offset-start.ensures)

pub returns-then-used : goal.returns-then-used
returns-then-used c =
    let a = c.args in
    let es = entries_of a.table.now in
    let g = c.group-g.ensures in
    let full = full_group es a.i _ _ g c.if-used.true a.bytes.now a.pool.now a.passed c.requires.i_bound.1 c.requires.table.1 in (
      full_moved es a.i _ _ g c.if-used.true a.bytes.now a.pool.now a.passed c.requires.i_bound.1 c.requires.table.1 _ c.index-at.result c.index-from.result c.index-to.result
          (omega (arith, c.index-at.ensures, c.block_offset-start.ensures))
          (omega (arith, c.index-from.ensures, c.of_blocks.ensures))
          (omega (arith, c.index-to.ensures, c.of_blocks-then-used.ensures))
          c.copy_run.ensures,
      omega (arith, full.sixty_four),
    )

pub group_end-end-requires : goal.group_end-end-requires
group_end-end-requires c = few_groups c.args.table.now.is_table c.requires.table.0

pub of_blocks-requires-2 : goal.of_blocks-requires-2
of_blocks-requires-2 c =
    let few = few_groups c.args.table.now.is_table c.requires.table.0 in
    omega (arith, c.group_end-end.ensures, few)

pub place_group-requires-clause-i_bound : goal.place_group-requires-clause-i_bound
place_group-requires-clause-i_bound c =
    let a = c.args in
    let many = group_used (entries_of a.table.now) a.i _ _ c.group-g.ensures in
    (few_groups c.args.table.now.is_table c.requires.table.0, (omega (arith, many, c.requires.i_bound.0), omega (arith, many, c.requires.i_bound.1)))

pub place_group-requires-clause-inside : goal.place_group-requires-clause-inside
place_group-requires-clause-inside c =
    group_inside c.clear_part.new.pool (entries_of c.args.table.now) c.args.i _ _ c.group-g.ensures (c.clear_part.auto.pool ∙ c.requires.table.1)

pub returns : goal.returns
returns c =
    let a = c.args in
    let es : List ℕ = entries_of a.table.now in
    let g = c.group-g.ensures in
    let bs = drop (16 * a.passed) a.bytes.now in
    let start : c.block_offset-start.result.0 ≡ 16 * (64 * a.i) = omega (arith, c.block_offset-start.ensures) in
    let end : c.group_end-end.result ≡ 64 * a.i + length (group_in es a.i) = end_is es a.i c.requires.table.0 (rw (c.blocks-2.ensures) at c.group_end-end.ensures) in
    let many : c.of_blocks-2.result.0 - c.block_offset-start.result.0 ≡ 16 * length (group_in es a.i) = omega (arith, start, end, c.of_blocks-2.ensures) in
    let cleared : c.clear_part.new.pool ≡ sets a.pool.now (16 * (64 * a.i)) (replicate (16 * length (group_in es a.i)) 0) = c.clear_part.ensures ∙ zeros_at a.pool.now start many in (
      c.place_group.ensures.0
          ∙ rw cleared (group_pool es a.i _ _ g a.pool.now bs (omega (arith, c.requires.i_bound.1, length-drop (16 * a.passed) a.bytes.now))),
      omega (arith, c.place_group.ensures.1, group_used es a.i _ _ g),
    )
