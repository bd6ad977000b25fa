-- Each test in turn, with what is known once those before it have passed.
-- Assumes nothing.
use borrow.Author.Rules.{rules}
use mathlib.Core.Path.{sym}
use Rattle.std.proofs.lemmas.Result.{err_from_is_err_and}
use Rattle.refusals.proofs.Codes.{not_accepted}
use Rattle.rainlog.proofs.Replies.{torn_roots, torn_stack, whole_lists, bad_heap, many_roots, long_stack, all_passed}
use Rattle.rainlog.proofs.check.Goals as goal

pub returns-then-roots-ne0-clause-tests : goal.returns-then-roots-ne0-clause-tests
returns-then-roots-ne0-clause-tests c = torn_roots _ _ _ _ (search rules) _ _ c.if-roots-ne0.true

pub returns-then-stack-ne0-clause-tests : goal.returns-then-stack-ne0-clause-tests
returns-then-stack-ne0-clause-tests c = torn_stack _ _ _ _ (search rules) _ _ c.if-roots-ne0.false c.if-stack-ne0.true

pub returns-in_err-checked-clause-tests : goal.returns-in_err-checked-clause-tests
returns-in_err-checked-clause-tests c =
    let p = err_from_is_err_and c.from_residual.result c.from_residual.ensures.1 in
    rw (p.1, p.2)
    (bad_heap _ _ _ _ (search rules) _ _ (whole_lists _ _ c.if-roots-ne0.false c.if-stack-ne0.false) c.in_err-checked.ensures.refusal (not_accepted _))

pub returns-then-roots-ge-MAX_ROOTS-clause-tests : goal.returns-then-roots-ge-MAX_ROOTS-clause-tests
returns-then-roots-ge-MAX_ROOTS-clause-tests c = many_roots _ _ _ _ (search rules) _ _ (whole_lists _ _ c.if-roots-ne0.false c.if-stack-ne0.false)
    (sym c.in_ok-checked.ensures.refusal) c.if-roots-ge-MAX_ROOTS.true

pub returns-then-stack-gt-MAX_STACK_ENTRIES-clause-tests : goal.returns-then-stack-gt-MAX_STACK_ENTRIES-clause-tests
returns-then-stack-gt-MAX_STACK_ENTRIES-clause-tests c = long_stack _ _ _ _ (search rules) _ _ (whole_lists _ _ c.if-roots-ne0.false c.if-stack-ne0.false)
    (sym c.in_ok-checked.ensures.refusal) c.if-roots-ge-MAX_ROOTS.false c.if-stack-gt-MAX_STACK_ENTRIES.true

pub returns-clause-tests : goal.returns-clause-tests
returns-clause-tests c = all_passed _ _ _ _ (search rules) _ _ (whole_lists _ _ c.if-roots-ne0.false c.if-stack-ne0.false)
    (sym c.in_ok-checked.ensures.refusal) c.if-roots-ge-MAX_ROOTS.false c.if-stack-gt-MAX_STACK_ENTRIES.false
