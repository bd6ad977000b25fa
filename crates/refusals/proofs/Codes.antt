-- No refusal has the number of an accepted call, and a refusal that is passed on keeps its number.
-- Assumes nothing.
use Rattle.std.specs.Prelude.{◌≡◌, Result, IsErrAnd}
use Rattle.std.proofs.Common.{arith, ap, ◌∙◌}
use Rattle.std.proofs.lemmas.Result.{err_from_is_err_and}
use Rattle.refusals.specs.Codes.{code, refused_by}
use Rattle.refusals.specs.declared.Refusal.{Refusal}
use Rattle.refusals.specs.declared.Refusal.TheVariants.{BadShape, BadTable, TooManyRoots, StackTooLong, ZeroBytes, NoSuchBlock, NotAHead, NoSuchWord, NoRoom, OutputTooShort, ImageTruncated, BadCount, TrailingBytes, RootsTooShort, NoLog, NoEntry}

pub not_accepted : (r : Refusal) → code r ≡ 0 → ⊥
not_accepted BadShape e = omega arith
not_accepted BadTable e = omega arith
not_accepted TooManyRoots e = omega arith
not_accepted StackTooLong e = omega arith
not_accepted ZeroBytes e = omega arith
not_accepted NoSuchBlock e = omega arith
not_accepted NotAHead e = omega arith
not_accepted NoSuchWord e = omega arith
not_accepted NoRoom e = omega arith
not_accepted OutputTooShort e = omega arith
not_accepted ImageTruncated e = omega arith
not_accepted BadCount e = omega arith
not_accepted TrailingBytes e = omega arith
not_accepted RootsTooShort e = omega arith
not_accepted NoLog e = omega arith
not_accepted NoEntry e = omega arith

-- what `?` returns of an error that is a refusal already
pub passed_on : {A : Type 0} (r : Result A Refusal) (e : Refusal) → IsErrAnd r (λ y. y ≡ e) → refused_by r ≡ code e
passed_on r e h =
    let p = err_from_is_err_and r h in
    ap refused_by p.1 ∙ ap code p.2
