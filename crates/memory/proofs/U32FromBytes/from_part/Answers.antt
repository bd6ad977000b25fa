-- `from_part`: the number of four bytes.
-- Assumes nothing.
use mathlib.Core.Path.{◌≡◌}
use native.Mathlib.Omega.{arith}
use Rattle.memory.proofs.Reading.{number_from, number_bits}
use Rattle.memory.proofs.U32FromBytes.from_part.Goals as goal

pub returns : goal.returns
returns c =
    let e : c.from_le_bytes.result ≡ number_from c.args.part.now (λ i. (c.type_inv.part i).fits) 0 4 = omega (arith, c.from_le_bytes.ensures) in
    rw (← e) at (number_bits c.args.part.now (λ i. (c.type_inv.part i).fits) 0 4)
