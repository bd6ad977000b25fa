-- `span`: a bit of both masks is one of both runs.
-- Assumes nothing.
use mathlib.Core.Path.{◌≡◌, refl, ◌∙◌}
use mathlib.Core.Bool.{Bool, true, false}
use Prim.Native.Nat.{◌+◌, ◌*◌, min}
use lib.Dec.{leb, ltb}
use Rattle.rules.specs.Tests.{pick, both}
use Rattle.laws.proofs.Bits.{bit_of_and}
use Rattle.entries.proofs.span.Goals as goal

and_picks : (x y : Bool) → min (pick x 1 0) (pick y 1 0) ≡ pick (both x y) 1 0
and_picks true true = refl
and_picks true false = refl
and_picks false true = refl
and_picks false false = refl

pub returns : goal.returns
returns c =
    let a = c.args in
    λ j h.
    bit_of_and c.bits_from.result c.bits_to.result j
    ∙ rw (c.bits_from.ensures j h, c.bits_to.ensures j h) (and_picks (leb a.from (8 * a.i + j)) (ltb (8 * a.i + j) a.to))
