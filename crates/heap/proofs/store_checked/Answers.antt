-- `heap::store_checked` meets its contract: with the check that was passed before, its tests are those of a store. Assumes nothing.
use Rattle.std.proofs.lemmas.Result.{err_from_is_err_and}
use Rattle.refusals.proofs.Codes.{not_accepted}
use Rattle.heap.proofs.Ends.{accepted_checked, word_next, store_refused, store_done, word_inside}
use Rattle.heap.proofs.store_checked.Goals as goal

pub word_index-requires : goal.word_index-requires
word_index-requires c = (accepted_checked _ _ _ _ c.requires).is

pub returns-in_err-at : goal.returns-in_err-at
returns-in_err-at c =
    let p = err_from_is_err_and c.from_residual.result c.from_residual.ensures.1 in
    rw (p.1, p.2) (store_refused _ _ _ _ _ _ (word_next _ _ _ _ _ _ c.requires c.in_err-at.ensures.refusal) (not_accepted _) _)

pub set_word-requires : goal.set_word-requires
set_word-requires c =
    let said = c.in_ok-at.ensures in
    word_inside _ _ _ _ _ _ (word_next _ _ _ _ _ _ c.requires said.refusal) said.index

pub returns : goal.returns
returns c =
    let said = c.in_ok-at.ensures in
    store_done _ _ _ _ _ _ (word_next _ _ _ _ _ _ c.requires said.refusal) said.index _ _ (λ i. (c.type_inv.table i).fits) c.set_word.ensures
