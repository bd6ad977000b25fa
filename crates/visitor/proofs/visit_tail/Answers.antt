-- The object's start is found; the object is pushed if that is HEAD.
-- Assumes nothing.
use mathlib.Core.Path.{sym, ap, ◌∙◌}
use native.Mathlib.Omega.{arith}
use Rattle.rules.specs.Planes.{entries_in}
use Rattle.rules.specs.Marking.{State, marked, pushed}
use Rattle.laws.proofs.Planes.{few_entries}
use Rattle.laws.proofs.Tables.{start_says}
use Rattle.laws.proofs.Marking.{head_inside}
use Rattle.visitor.specs.Variables.{context_of, state_of}
use Rattle.visitor.proofs.Pointing.{head_is, no_head, visit_takes, visit_stays}
use Rattle.visitor.proofs.Stacking.{knows_either, state_remembers, came_to, came_pushed}
use Rattle.visitor.proofs.visit_tail.Goals as goal

pub remember-seen-requires : goal.remember-seen-requires
remember-seen-requires c =
    let a = c.args in
    let es = entries_in a.t a.table.now in
    (omega (arith, c.requires.table.1.1, (start_says es a.m.last.0).from), omega (arith, rw c.new-lent.ensures at c.start_of-head.ensures, (start_says es a.k.0).from))

pub is_head-requires : goal.is_head-requires
is_head-requires c =
    let a = c.args in
    rw c.new-lent.ensures
    (omega (arith, rw c.new-lent.ensures at c.start_of-head.ensures, (start_says (entries_in a.t a.table.now) a.k.0).from, c.requires.k_in_bounds))

pub returns-then-not-is_head : goal.returns-then-not-is_head
returns-then-not-is_head c base pool =
    let a = c.args in
    let h = c.start_of-head in
    let start = rw c.new-lent.ensures at h.ensures in
    let r = c.remember-seen in
    record {
      is_table = c.requires.table.0;
      same = state_remembers a.t a.table.now a.stack.now a.m r.result h.result.0 a.k.0 r.ensures
          ∙ sym (visit_stays (context_of base pool a.stack.now) (state_of a.t a.table.now a.stack.now a.m) a.k.0 h.result.0 start (no_head _ (rw c.new-lent.ensures at c.is_head.ensures) c.if-not-is_head.true));
      deep = rw r.ensures.depth c.requires.table.1.0;
      knows = knows_either (entries_in a.t a.table.now) a.m r.result h.result.0 a.k.0 c.requires.table.1.1 start r.ensures;
    }

pub push-requires : goal.push-requires
push-requires c =
    let es = entries_in c.args.t c.args.table.now in
    (rw c.remember-seen.ensures.depth c.requires.table.1.0, omega (arith, head_inside es _ (head_is _ (rw c.new-lent.ensures at c.is_head.ensures) c.if-not-is_head.false), few_entries c.args.t c.args.table.now c.requires.table.0))

pub returns : goal.returns
returns c base pool =
    let head = head_is _ (rw c.new-lent.ensures at c.is_head.ensures) c.if-not-is_head.false in
    let a = c.args in
    let h = c.start_of-head in
    let start = rw c.new-lent.ensures at h.ensures in
    let r = c.remember-seen in
    let x = context_of base pool a.stack.now in
    came_to
    (came_pushed base a.t pool a.table.now a.stack.now r.result h.result.0 (knows_either (entries_in a.t a.table.now) a.m r.result h.result.0 a.k.0 c.requires.table.1.1 start r.ensures) head
    c.set_mark.ensures c.push.ensures)
    (ap (λ (s : State). pushed x h.result.0 (marked h.result.0 s)) (state_remembers a.t a.table.now a.stack.now a.m r.result h.result.0 a.k.0 r.ensures)
    ∙ sym (visit_takes x (state_of a.t a.table.now a.stack.now a.m) a.k.0 h.result.0 start head))
