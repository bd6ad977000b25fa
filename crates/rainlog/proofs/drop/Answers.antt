-- `rainlog::drop` meets its contract. Assumes nothing.
use native.Mathlib.Omega.{arith}
use borrow.Author.Rules.{rules}
use mir.Syntax.{w32}
use mir.ValLaws.{to_z-of_z}
use Rattle.std.proofs.lemmas.Result.{err_from_is_err_and}
use Rattle.rainlog.specs.Answers.{Present}
use Rattle.rainlog.proofs.Replies.{sought_refused, drop_refused, load_stands, free_stands, drop_done}
use Rattle.rainlog.proofs.drop.Goals as goal
use Rattle.rainlog.proofs.drop.Goals.{In_ok-k}

-- the checked heap is the one that was lent: so the entry is there
there : (c : In_ok-k) → Present c.args.t c.args.base.0 c.args.first.0 0 c.args.pool.now c.args.table.now c.in_ok-k.k.0
there c = let v = c.view.ensures in rw (c.in_ok-heap.ensures.heap, v.base, v.t, v.pool, v.table) at c.in_ok-k.ensures

pub returns-in_err-heap : goal.returns-in_err-heap
returns-in_err-heap c =
    let v = c.view.ensures in
    let p = err_from_is_err_and c.from_residual.result c.from_residual.ensures.1 in
    rw (p.1, p.2) (drop_refused _ _ _ _ (search rules) _ _ (sought_refused _ _ _ _ (search rules) _ _ _ (rw (v.base, v.t, v.pool, v.table) at c.in_err-heap.ensures.refusal)))

pub returns-in_err-k : goal.returns-in_err-k
returns-in_err-k c =
    let v = c.view.ensures in
    let p = err_from_is_err_and c.from_residual-in_err-k.result c.from_residual-in_err-k.ensures.1 in
    rw (p.1, p.2) (drop_refused _ _ _ _ (search rules) _ _ (rw (c.in_ok-heap.ensures.heap, v.base, v.t, v.pool, v.table) at c.in_err-k.ensures))

pub returns-in_err-next : goal.returns-in_err-next
returns-in_err-next c =
    let v = c.view.ensures in
    absurd (load_stands _ _ _ _ (search rules) (there (goal.at.returns-in_err-next c).In_ok-k) 0 (omega arith) _
    (rw (c.in_ok-heap.ensures.heap, v.base, v.t, v.pool, v.table) at c.in_err-next.ensures))

pub returns-in_err-change : goal.returns-in_err-change
returns-in_err-change c = absurd (free_stands _ _ _ _ (search rules) (there (goal.at.returns-in_err-change c).In_ok-k) _ _ c.in_err-change.ensures)

pub returns : goal.returns
returns c =
    let v = c.view.ensures in
    drop_done _ _ _ _ (search rules) (there (goal.at.returns c).In_ok-k) _ _ _ (rw (c.in_ok-heap.ensures.heap, v.base, v.t, v.pool, v.table) at c.in_ok-next.ensures)
    c.in_ok-change.ensures (to_z-of_z w32 c.in_ok-change.change (search rules))
