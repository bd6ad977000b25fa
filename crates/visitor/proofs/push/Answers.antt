-- The two ends: the block is pushed, or the stack is full.
-- Assumes nothing.
use borrow.Author.Rules.{rules}
use Rattle.laws.proofs.Widths.{in_slice}
use Rattle.visitor.proofs.Stacking.{pushes_on, pushes_not}
use Rattle.visitor.proofs.push.Goals as goal

pub overflow_add-result : goal.overflow_add-result
overflow_add-result c = in_slice c.args.stack.now (search rules) (search rules)

pub returns-then-m-stack : goal.returns-then-m-stack
returns-then-m-stack c =
    pushes_on c.args.stack.now c.args.m c.args.k.0 c.requires.1 c.if-m-stack.true (rw c.to_word.ensures at c.set_word.ensures)

pub returns : goal.returns
returns c =
    pushes_not c.args.stack.now c.args.m c.args.k.0 c.requires.0 c.if-m-stack.false
