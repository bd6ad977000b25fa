-- `two_bytes`: the two bytes are the first of what begins at them.
-- Assumes nothing.
use mathlib.Core.Path.{◌≡◌, ◌∙◌}
use mathlib.Core.List.{List, [], ◌∷◌}
use Prim.Native.Nat.{ℕ, ◌+◌}
use native.Mathlib.Omega.{arith}
use lib.ListN.{get_or, drop}
use lib.Seq.{get_or-drop}
use borrow.Author.Rules.{rules}
use Rattle.rules.specs.Words.{first_two}
use Rattle.laws.proofs.Widths.{in_slice}
use Rattle.memory.proofs.Conversions.{two_read}
use Rattle.memory.proofs.two_bytes.Goals as goal

first_two_at : (bytes : List ℕ) (at : ℕ) → first_two (get_or bytes at 0 ∷ get_or bytes (at + 1) 0 ∷ []) ≡ first_two (drop at bytes)
unfolding first_two
first_two_at bytes at =
    let z : at + 0 ≡ at = omega arith in
    rw (get_or-drop at bytes 0 0, get_or-drop at bytes 1 0, z)

pub overflow_add-at : goal.overflow_add-at
overflow_add-at c = in_slice c.args.bytes.now (search rules) (search rules)

pub returns : goal.returns
returns c =
    let a = c.args in
    c.from.ensures ∙ c.from_le_bytes.ensures ∙ two_read _ ∙ first_two_at a.bytes.now a.at
