-- `open_image`: a file with a fault, or one that does not suit what is lent, is refused before anything is written.
-- Assumes nothing.
use mathlib.Core.Path.{sym}
use Rattle.std.proofs.lemmas.Result.{err_from_is_err_and}
use Rattle.opener.proofs.Ends.{open_faulty, open_unsuited, suits, open_done}
use Rattle.opener.proofs.open_image.Goals as goal

pub returns-in_err-file : goal.returns-in_err-file
returns-in_err-file c = let p = err_from_is_err_and c.from_residual.result c.from_residual.ensures.1 in rw (p.1, p.2) (open_faulty _ _ _ _ _ _ c.in_err-file.ensures.0)

pub returns-in_err-check : goal.returns-in_err-check
returns-in_err-check c =
    let p = err_from_is_err_and c.from_residual-in_err-check.result c.from_residual-in_err-check.ensures.1 in
    rw (p.1, p.2) (open_unsuited _ _ _ _ _ (sym c.in_ok-file.ensures.0) _ c.in_err-check.ensures)

pub fill-requires : goal.fill-requires
fill-requires c = suits _ _ _ _ _ (sym c.in_ok-file.ensures.0) c.in_ok-file.ensures.1 c.in_ok-check.ensures

pub returns : goal.returns
returns c = open_done _ _ _ _ _ (sym c.in_ok-file.ensures.0) c.in_ok-file.ensures.1 c.in_ok-check.ensures (λ i. (c.type_inv.table i).fits) c.fill.ensures
