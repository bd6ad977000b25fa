-- `bits`: the bytes are read as one part.
-- Assumes nothing.
use mathlib.Core.Path.{◌≡◌}
use Prim.Native.Nat.{◌+◌, ◌-◌}
use native.Mathlib.Omega.{arith}
use borrow.Author.Rules.{rules}
use Rattle.laws.proofs.Widths.{in_slice}
use Rattle.memory.proofs.Reading.{of_part}
use Rattle.memory.proofs.bits.Goals as goal

pub overflow_add-end : goal.overflow_add-end
overflow_add-end g c = in_slice c.args.bytes.now (omega (arith, c.BYTES.ensures)) (search rules)

pub returns : goal.returns
returns g c =
    let n : c.args.at + c.BYTES.result - c.args.at ≡ g.W.FromBytes.BYTES = omega (arith, c.BYTES.ensures) in
    of_part c.args.bytes.now c.args.at g.W.FromBytes.BYTES (g.W.FromBytes.value c.from_part.result) (rw n at c.from_part.ensures)
