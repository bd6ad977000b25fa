-- What the first fit was, where `ok_or` made a block of it or the refusal that there is no room.
-- Assumes nothing.
use mathlib.Core.Path.{◌≡◌, sym, ap, ◌∙◌}
use mathlib.Core.Option.{Option, some, none}
use Prim.Native.Nat.{ℕ}
use Rattle.std.specs.Prelude.{Option as Maybe, Some, None, Err}
use Rattle.std.specs.Option.{ok_or}
use Rattle.numbers.specs.declared.Block.{Block}
use Rattle.numbers.specs.Places.{found}
use Rattle.refusals.specs.Codes.{code, refused_by}
use Rattle.refusals.specs.declared.Refusal.{Refusal}
use Rattle.refusals.specs.declared.Refusal.TheVariants.{NoRoom}

module _ {o : Maybe Block} {first : Option ℕ} (fit : found o ≡ first) where
  pub start : {s : Block} → o ≡ Some s → first ≡ some s.0
  start e = sym fit ∙ ap found e

  pub nowhere : o ≡ None → first ≡ none
  nowhere e = sym fit ∙ ap found e

pub no_room : (o : Maybe Block) (e : Refusal) → o ≡ None → Err e ≡ ok_or o NoRoom → code e ≡ 9
no_room o e n q = ap refused_by (q ∙ ap (λ (o : Maybe Block). ok_or o NoRoom) n)
