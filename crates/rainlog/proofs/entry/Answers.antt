-- `rainlog::entry` meets its contract. Assumes nothing.
use Rattle.std.proofs.lemmas.Result.{err_from_is_err_and}
use Rattle.rainlog.proofs.Replies.{sought_no_log, sought}
use Rattle.rainlog.proofs.entry.Goals as goal

pub returns-in_err-w : goal.returns-in_err-w
returns-in_err-w c =
    let p = err_from_is_err_and c.from_residual.result c.from_residual.ensures.1 in
    rw (p.1, p.2)
    (sought_no_log _ _ _ _ c.args.heap.now.view.are_bytes c.args.heap.now.accepted _ _ _ c.follow.ensures c.in_err-w.ensures.ok_part c.in_err-w.ensures.value)

pub returns : goal.returns
returns c =
    sought _ _ _ _ c.args.heap.now.view.are_bytes c.args.heap.now.accepted _ _ c.follow.ensures c.in_ok-w.ensures.ok_part c.ok_or-2.ensures.value
