-- The three ends: no target, an object that does not start with a HEAD, and one that is marked and traced.
-- Assumes nothing.
use mathlib.Core.Path.{◌≡◌, sym, ap, ◌∙◌}
use mathlib.Core.List.{List, []}
use mathlib.Core.Option.{some}
use Prim.Native.Nat.{ℕ, ◌<◌}
use native.Mathlib.Omega.{arith}
use lib.ListN.{length}
use Rattle.rules.specs.Pointers.{target_of}
use Rattle.rules.specs.Planes.{entries_in}
use Rattle.rules.specs.Marking.{state, trace}
use Rattle.laws.proofs.Planes.{same_length as as_many}
use Rattle.laws.proofs.Tables.{start_says}
use Rattle.laws.proofs.Marking.{head_inside}
use Rattle.visitor.specs.Variables.{context_of, idle}
use Rattle.visitor.proofs.Pointing.{target_inside, head_is, no_head, root_takes, root_stays, root_target, root_none}
use Rattle.tracer.proofs.Turning.{shape_same}
use Rattle.marker.proofs.mark_root.Goals as goal

-- a word's target is one of the table's blocks
is_block : (t : ℕ) (table : List ℕ) (base n w k : ℕ) → some k ≡ target_of base n w → n ≡ length (entries_in t table) → k < length (entries_in t table)
is_block t table base n w k at all = omega (arith, target_inside base n w k at)

pub returns-in_default : goal.returns-in_default
returns-in_default c =
    let a = c.args in (
      c.requires.is_table,
      sym (root_none (context_of a.base.0 a.pool.now a.stack.now) a.w (idle a.t a.table.now a.overflow) _ (c.blocks-2.ensures _)
          (c.in_default.ensures)),
    )

pub start-head-requires : goal.start-head-requires
start-head-requires c =
    let inside = is_block c.args.t c.args.table.now _ _ _ _ c.in-Some.ensures (c.blocks-2.ensures _) in
    rw c.new-lent.ensures inside

pub is_head-requires : goal.is_head-requires
is_head-requires c =
    let inside = is_block c.args.t c.args.table.now _ _ _ _ c.in-Some.ensures (c.blocks-2.ensures _) in
    rw c.new-lent.ensures
    (omega (arith, rw c.new-lent.ensures at c.start-head.ensures, (start_says (entries_in c.args.t c.args.table.now) c.in-Some.k.0).from, inside))

pub returns-then-not-is_head : goal.returns-then-not-is_head
returns-then-not-is_head c =
    let a = c.args in
    let x = context_of a.base.0 a.pool.now a.stack.now in
    let s = idle a.t a.table.now a.overflow in
    (c.requires.is_table, sym (root_target x a.w s _ (c.blocks-2.ensures _) c.in-Some.ensures ∙ root_stays x s _ _ (rw c.new-lent.ensures at c.start-head.ensures) (no_head _ (rw c.new-lent.ensures at c.is_head.ensures) c.if-not-is_head.true)))

pub set_mark-requires : goal.set_mark-requires
set_mark-requires c =
    let head = head_is _ (rw c.new-lent.ensures at c.is_head.ensures) c.if-not-is_head.false in
    (c.requires.is_table, head)

pub trace-requires : goal.trace-requires
trace-requires c =
    let a = c.args in
    let e = c.set_mark in record { shape = shape_same a.base.0 a.t a.pool.now a.table.now e.new.table c.requires e.ensures.is_table; k_in_bounds = omega (arith, head_inside (entries_in a.t a.table.now) _ (head_is _ (rw c.new-lent.ensures at c.is_head.ensures) c.if-not-is_head.false), as_many a.t e.new.table a.table.now) }

pub returns : goal.returns
returns c =
    let head = head_is _ (rw c.new-lent.ensures at c.is_head.ensures) c.if-not-is_head.false in
    let a = c.args in
    let x = context_of a.base.0 a.pool.now a.stack.now in
    let s = idle a.t a.table.now a.overflow in
    let h = c.start-head in (
      c.trace.ensures.0,
      c.trace.ensures.1 ∙ ap (λ (es : List ℕ). trace x h.result.0 (state es [] a.overflow)) c.set_mark.ensures.entries
          ∙ sym (root_target x a.w s _ (c.blocks-2.ensures _) c.in-Some.ensures ∙ root_takes x s _ h.result.0 (rw c.new-lent.ensures at h.ensures) head),
    )
