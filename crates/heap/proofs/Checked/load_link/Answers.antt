-- `heap::load_link` meets its contract: three loads say whether the object has two blocks, and so does the table. Assumes nothing.
use mathlib.Core.Path.{◌≡◌, sym, ap, ◌∙◌}
use mathlib.Core.Bool.{Bool, true}
use mathlib.Core.List.{[]}
use mathlib.Core.Option.{some}
use Prim.Native.Nat.{ℕ, ◌<◌}
use native.Mathlib.Omega.{arith}
use lib.Dec.{ltb}
use borrow.Author.Tests.{ltb-true, ltb-false}
use Rattle.rules.specs.Words.{word_at}
use Rattle.rules.specs.Planes.{heap_at}
use Rattle.laws.proofs.Refusals.{passed}
use Rattle.heap.proofs.Ends.{accepted_checked}
use Rattle.heap.proofs.Linking.{next_outside, next_of, next_other}
use Rattle.heap.proofs.Checked.load_link.Goals as goal
use Rattle.heap.proofs.Checked.load_link.Goals.{else-is_below-via-then-is_below+else-is_pair, else-is_below-via-else-is_below}

-- the block is one of the m blocks, as the test said
below : {k n m : ℕ} {b : Bool} → n ≡ m → b ≡ ltb k n → b ≡ true → k < m
below e q y = omega (arith, e, ltb-true _ _ (sym q ∙ y))

pub new-table-requires : goal.new-table-requires
new-table-requires c = (accepted_checked _ _ _ _ c.args.self.now.accepted).is

pub is_pair-requires : goal.is_pair-requires
is_pair-requires c =
    let a = c.args in
    let p = accepted_checked _ _ _ _ c.args.self.now.accepted in
    rw c.new-table.ensures (below (rw c.new-table.ensures at c.blocks-2.ensures) c.is_below.ensures c.if-is_below.true, (passed a.self.now.view.base.0 (heap_at a.self.now.view.t a.self.now.view.pool.now a.self.now.view.table.now) [] p.passes).well)

pub first_word-requires : goal.first_word-requires
first_word-requires c =
    omega (arith, below (rw c.new-table.ensures at c.blocks-2.ensures) c.is_below.ensures c.if-is_below.true, (accepted_checked _ _ _ _ c.args.self.now.accepted).shape.few)

pub word-requires : goal.word-requires
word-requires c =
    omega (arith, below (rw c.new-table.ensures at c.blocks-2.ensures) c.is_below.ensures c.if-is_below.true, (accepted_checked _ _ _ _ c.args.self.now.accepted).shape.pool, c.first_word.ensures)

pub returns-then-is_pair : goal.returns-then-is_pair
returns-then-is_pair c =
    let a = c.args in
    ap some (c.word.ensures ∙ ap (word_at a.self.now.view.pool.now) (omega (arith, c.first_word.ensures)))
    ∙ next_of a.self.now.view.t a.self.now.view.base.0 a.self.now.view.pool.now a.self.now.view.table.now c.args.self.now.view.are_bytes c.args.self.now.accepted a.k.0
    (below (rw c.new-table.ensures at c.blocks-2.ensures) c.is_below.ensures c.if-is_below.true) (sym (rw c.new-table.ensures at c.is_pair.ensures) ∙ c.if-is_pair.true)

pub returns-else-is_below : goal.returns-else-is_below
returns-else-is_below c =
    let a = c.args in
    elim c.else-is_below.branch [
      | else-is_below-via-then-is_below+else-is_pair w ↦
          next_other a.self.now.view.t a.self.now.view.base.0 a.self.now.view.pool.now a.self.now.view.table.now c.args.self.now.view.are_bytes c.args.self.now.accepted a.k.0
          (below (rw c.new-table.ensures at c.blocks-2.ensures) c.is_below.ensures w.if-is_below.true) (sym (rw c.new-table.ensures at w.is_pair.ensures) ∙ w.if-is_pair.false)
      | else-is_below-via-else-is_below w ↦
          next_outside a.self.now.view.t a.self.now.view.base.0 a.self.now.view.pool.now a.self.now.view.table.now c.args.self.now.view.are_bytes c.args.self.now.accepted a.k.0
          (omega (arith, rw c.new-table.ensures at c.blocks-2.ensures, ltb-false a.k.0 c.blocks-2.result (sym c.is_below.ensures ∙ w.if-is_below.false)))
    ]
