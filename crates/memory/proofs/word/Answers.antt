-- `word` reads the rule's four bytes, as one part.
-- Assumes nothing.
use mathlib.Core.Path.{◌≡◌, ◌∙◌}
use mathlib.Core.List.{List}
use Prim.Native.Nat.{ℕ, ◌+◌, ◌-◌, ◌*◌}
use native.Mathlib.Omega.{arith}
use lib.ListN.{get_or}
use borrow.Author.Rules.{rules}
use borrow.Rule.Slice.PartMut.{mid_of}
use Rattle.rules.specs.Words.{number, word_at}
use Rattle.laws.proofs.Widths.{in_slice}
use Rattle.memory.proofs.Conversions.{number_read}
use Rattle.memory.proofs.Parts.{part_at}
use Rattle.memory.proofs.word.Goals as goal

four_bytes : (bytes : List ℕ) (i : ℕ) → let p = mid_of (4 * i) (4 * i + 4 - 4 * i) bytes in number (get_or p 0 0) (get_or p 1 0) (get_or p 2 0) (get_or p 3 0) ≡ word_at bytes i
unfolding word_at
four_bytes bytes i =
    let byte = part_at bytes (4 * i) (4 * i + 4 - 4 * i) in
    rw (
      byte (4 * i) 0 (omega arith) (omega arith),
      byte (4 * i + 1) 1 (omega arith) (omega arith),
      byte (4 * i + 2) 2 (omega arith) (omega arith),
      byte (4 * i + 3) 3 (omega arith) (omega arith),
    )

pub overflow_mul-at : goal.overflow_mul-at
overflow_mul-at c = in_slice c.args.bytes.now (search rules) (search rules)

pub overflow_add-part : goal.overflow_add-part
overflow_add-part c = in_slice c.args.bytes.now (search rules) (search rules)

pub returns : goal.returns
returns c =
    let a = c.args in
    c.from_le_bytes.ensures ∙ number_read _ _ _ _ ∙ four_bytes a.bytes.now a.i
