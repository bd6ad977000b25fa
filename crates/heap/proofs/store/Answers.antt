-- `heap::store` meets its contract: once the heap is checked it is `store_checked`. Assumes nothing.
use Rattle.std.proofs.lemmas.Result.{err_from_is_err_and}
use Rattle.refusals.proofs.Codes.{not_accepted}
use Rattle.heap.proofs.Ends.{store_refused, word_first}
use Rattle.heap.proofs.store.Goals as goal

pub returns-in_err-check : goal.returns-in_err-check
returns-in_err-check c =
    let p = err_from_is_err_and c.from_residual.result c.from_residual.ensures.1 in
    rw (p.1, p.2) (store_refused _ _ _ _ _ _ (word_first _ _ _ _ _ _ (rw (c.new.ensures.base, c.new.ensures.t, c.new.ensures.pool, c.new.ensures.table) at c.in_err-check.ensures.refusal) (not_accepted _)) (not_accepted _) _)
