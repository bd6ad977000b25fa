-- `rainlog::read` meets its contract. Assumes nothing.
use native.Mathlib.Omega.{arith}
use Rattle.std.proofs.lemmas.Result.{err_from_is_err_and}
use Rattle.rainlog.specs.Answers.{Present}
use Rattle.rainlog.proofs.Replies.{sought_refused, read_refused, load_stands, read_done}
use Rattle.rainlog.proofs.read.Goals as goal
use Rattle.rainlog.proofs.read.Goals.{In_ok-k}

-- the checked heap is the one that was lent: so the entry is there
there : (c : In_ok-k) → let h = c.args.heap.now in Present h.t h.base.0 c.args.first.0 c.args.index h.pool.now h.table.now c.in_ok-k.k.0
there c = rw c.in_ok-heap.ensures.heap at c.in_ok-k.ensures

pub returns-in_err-heap : goal.returns-in_err-heap
returns-in_err-heap c =
    let bytes = c.args.heap.now.are_bytes in
    let p = err_from_is_err_and c.from_residual.result c.from_residual.ensures.1 in
    rw (p.1, p.2) (read_refused _ _ _ _ bytes _ _ _ (sought_refused _ _ _ _ bytes _ _ _ c.in_err-heap.ensures.refusal))

pub returns-in_err-k : goal.returns-in_err-k
returns-in_err-k c =
    let p = err_from_is_err_and c.from_residual-in_err-k.result c.from_residual-in_err-k.ensures.1 in
    rw (p.1, p.2) (read_refused _ _ _ _ c.args.heap.now.are_bytes _ _ _ (rw c.in_ok-heap.ensures.heap at c.in_err-k.ensures))

pub returns-in_err-time : goal.returns-in_err-time
returns-in_err-time c =
    absurd (load_stands _ _ _ _ c.args.heap.now.are_bytes (there (goal.at.returns-in_err-time c).In_ok-k) 1 (omega arith) _ (rw c.in_ok-heap.ensures.heap at c.in_err-time.ensures))

pub returns-in_err-tips : goal.returns-in_err-tips
returns-in_err-tips c =
    absurd (load_stands _ _ _ _ c.args.heap.now.are_bytes (there (goal.at.returns-in_err-tips c).In_ok-k) 2 (omega arith) _ (rw c.in_ok-heap.ensures.heap at c.in_err-tips.ensures))

pub returns : goal.returns
returns c =
    let same = c.in_ok-heap.ensures.heap in
    read_done _ _ _ _ c.args.heap.now.are_bytes (there (goal.at.returns c).In_ok-k) _ _ (rw same at c.in_ok-time.ensures) (rw same at c.in_ok-tips.ensures)
