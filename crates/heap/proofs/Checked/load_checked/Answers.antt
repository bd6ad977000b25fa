-- `heap::load_checked` meets its contract: with the check that was passed before, its tests are those of a load. Assumes nothing.
use Rattle.std.proofs.lemmas.Result.{err_from_is_err_and}
use Rattle.refusals.proofs.Codes.{not_accepted}
use Rattle.heap.proofs.Ends.{accepted_checked, word_next, load_refused, load_done, word_inside}
use Rattle.heap.proofs.Checked.load_checked.Goals as goal

pub word_index-requires : goal.word_index-requires
word_index-requires c = (accepted_checked _ _ _ _ c.args.self.now.accepted).is

pub returns-in_err-at : goal.returns-in_err-at
returns-in_err-at c =
    let p = err_from_is_err_and c.from_residual.result c.from_residual.ensures.1 in
    rw (p.1, p.2) (load_refused _ _ _ _ _ _ (word_next _ _ _ _ _ _ c.args.self.now.accepted c.in_err-at.ensures.refusal) (not_accepted _))

pub word-requires : goal.word-requires
word-requires c =
    let said = c.in_ok-at.ensures in
    word_inside _ _ _ _ _ _ (word_next _ _ _ _ _ _ c.args.self.now.accepted said.refusal) said.index

pub returns : goal.returns
returns c =
    let said = c.in_ok-at.ensures in
    load_done _ _ _ _ _ _ (word_next _ _ _ _ _ _ c.args.self.now.accepted said.refusal) said.index _ c.args.self.now.view.are_bytes c.word.ensures
