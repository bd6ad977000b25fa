-- `bit`: the shift and the mask take one bit.
-- Assumes nothing.
use Prim.Native.Nat.{◌/◌, ◌^◌}
use native.Mathlib.Omega.{arith}
use lib.Bits.{and_mask, mask_lt}
use Rattle.rules.specs.Bits.{bit_of}
use Rattle.entries.proofs.bit.Goals as goal

pub overflow_cast-result-2 : goal.overflow_cast-result-2
overflow_cast-result-2 c = record { fits = omega (arith, mask_lt (c.from.result / 2 ^ c.args.j) 1) }

pub returns : goal.returns
unfolding bit_of
returns c = rw (← c.from.ensures) (and_mask (c.from.result / 2 ^ c.args.j) 1)
