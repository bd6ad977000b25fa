-- The three ends: a HEAD, a TAIL, and another block or none. A target that is no TAIL starts its own object.
-- Assumes nothing.
use mathlib.Core.Path.{sym, ap, ◌∙◌}
use mathlib.Core.List.{List}
use mathlib.Core.Option.{some}
use Prim.Native.Nat.{ℕ}
use Rattle.rules.specs.Pointers.{head_at}
use Rattle.rules.specs.Marking.{state, visit_to}
use Rattle.visitor.specs.Variables.{stacked, overflow_of, context_of, state_of}
use Rattle.visitor.proofs.Pointing.{tail_inside, visit_at, visit_head, visit_other}
use Rattle.visitor.proofs.Stacking.{came_to, came_pushed, came_same}
use Rattle.visitor.proofs.visit.Goals as goal

pub push-requires : goal.push-requires
push-requires c = (c.requires.table.1.0, c.block_of-k.ensures.small)

pub returns-in-Head : goal.returns-in-Head
returns-in-Head c pool =
    let k = c.block_of-k.result.0 in
    let target = c.block_of-k.ensures.target _ c.requires.base_bound.1 in
    let h = c.in-Head.ensures in
    let a = c.args in
    came_to (came_pushed a.base.0 a.t pool a.table.now a.stack.now a.m k c.requires.table.1.1 h.0 h.1 c.push.ensures)
    (sym (visit_head (context_of a.base.0 pool a.stack.now) a.w (state_of a.t a.table.now a.stack.now a.m) k target h.0))

pub returns-in-Tail : goal.returns-in-Tail
returns-in-Tail c pool =
    let k = c.block_of-k.result.0 in
    let target = c.block_of-k.ensures.target _ c.requires.base_bound.1 in
    let h = c.in-Tail.ensures in
    let a = c.args in
    let x = context_of a.base.0 pool a.stack.now in
    came_to (c.visit_tail.ensures a.base.0 pool)
    (ap (λ (es : List ℕ). visit_to x (state es (stacked a.stack.now a.m.depth) (overflow_of a.m)) (head_at es (some k))) h.1.entries
    ∙ sym (visit_at x a.w (state_of a.t a.table.now a.stack.now a.m) k target (tail_inside a.t a.table.now a.table.now k h.0)))

pub returns-in-Other : goal.returns-in-Other
returns-in-Other c pool =
    let k = c.block_of-k.result.0 in
    let target = c.block_of-k.ensures.target _ c.requires.base_bound.1 in
    let h = c.in-Other.ensures in
    let a = c.args in
    came_to (came_same a.t a.table.now a.stack.now a.m c.requires.table.1.0 c.requires.table.1.1 h.1.1)
    (sym (visit_other (context_of a.base.0 pool a.stack.now) a.w (state_of a.t a.table.now a.stack.now a.m) k target h.0 h.1.0))
