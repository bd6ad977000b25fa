-- `heap::load` meets its contract: once the heap is checked it is `load_checked`. Assumes nothing.
use Rattle.std.proofs.lemmas.Result.{err_from_is_err_and}
use Rattle.refusals.proofs.Codes.{not_accepted}
use Rattle.heap.proofs.Ends.{load_refused, word_first}
use Rattle.heap.proofs.load.Goals as goal

pub returns-in_err-heap : goal.returns-in_err-heap
returns-in_err-heap c =
    let p = err_from_is_err_and c.from_residual.result c.from_residual.ensures.1 in
    rw (p.1, p.2) (load_refused _ _ _ _ _ _ (word_first _ _ _ _ _ _ c.in_err-heap.ensures.refusal (not_accepted _)) (not_accepted _))
