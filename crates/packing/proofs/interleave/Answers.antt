-- `interleave`: the spread bits do not meet, because those of the high plane are one place further up.
-- Assumes nothing.
use mathlib.Core.Path.{◌≡◌}
use Prim.Native.Nat.{ℕ, ◌*◌, ◌%◌}
use native.Mathlib.Omega.{arith}
use lib.Bits.{bit_or}
use Rattle.rules.specs.Bits.{bit_of}
use Rattle.laws.proofs.Bits.{bit_of_lt}
use Rattle.packing.specs.Packing.{Spread, Interleaved}
use Rattle.packing.proofs.Digits.{or_digits, bits_lt}
use Rattle.packing.proofs.interleave.Goals as goal

-- a shift loses nothing, and the or is a sum digit by digit
joined : (low high l h : ℕ) → Spread low l → Spread high h → Interleaved low high (bit_or l (h * 2 % 65536))
joined low high l h sl sh =
    let e : h * 2 % 65536 ≡ h * 2 = omega (arith, sh, bits_lt (bit_of high) (bit_of_lt high)) in
    rw (e, sl, sh) (or_digits 8 (bit_of low) (bit_of high) (bit_of_lt low) (bit_of_lt high))

pub returns : goal.returns
returns c = joined c.args.low c.args.high _ _ c.spread.ensures c.spread-2.ensures
