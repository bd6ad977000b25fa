-- `copy_run`: block by block. What remains is the source from the next block on.
-- Assumes nothing.
use mathlib.Core.Path.{◌≡◌, sym, ◌∙◌}
use mathlib.Core.List.{List}
use Prim.Native.Nat.{ℕ, ◌+◌, ◌*◌}
use native.Mathlib.Omega.{arith}
use lib.ListN.{length, take, drop, take-append-drop, length-drop, drop_of_length-le}
use lib.Seq.{drop-drop, length-take-le}
use borrow.Author.Rules.{rules}
use Rattle.laws.proofs.Lists.{sets_all}
use Rattle.laws.proofs.Widths.{in_slice}
use Rattle.transfer.proofs.Copying.{Splits, remains_none, remains_next, moved}
use Rattle.transfer.proofs.copy_run.Goals as goal

-- the next block comes first, and the others follow
block_split : (source : List ℕ) (i : ℕ) → Splits (drop (16 * i) source) (take 16 (drop (16 * i) source)) (drop (16 * (i + 1)) source)
block_split source i =
    let e : 16 * (i + 1) ≡ 16 * i + 16 = omega arith in
    record { is = rw (e, ← drop-drop 16 (16 * i) source) (sym (take-append-drop 16 (drop (16 * i) source))) }

pub overflow_mul-at : goal.overflow_mul-at
overflow_mul-at c = in_slice c.args.source.now (omega arith) (search rules)

pub overflow_add-end : goal.overflow_add-end
overflow_add-end c = in_slice c.args.source.now (omega arith) (search rules)

pub loop-i-preserved : goal.loop-i-preserved
loop-i-preserved c =
    let l = c.loop-i in
    let source = c.args.source.now in
    let long : length (take 16 (drop (16 * l.i) source)) ≡ 16 = length-take-le 16 (drop (16 * l.i) source) (omega (arith, length-drop (16 * l.i) source)) in
    remains_next l.invariant (block_split source l.i) (moved l.target source _ (16 * l.i) (16 * l.i) (omega arith) (omega arith) c.copy_block.ensures) (rw long (omega arith))

pub returns : goal.returns
returns c =
    let source = c.args.source.now in
    (remains_none c.loop-i.invariant (drop_of_length-le source (omega arith))).0 ∙ sets_all c.args.target.now source (sym c.requires.1)
