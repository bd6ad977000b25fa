-- `spread`: a test over all bytes, which antt computes.
-- Assumes nothing.
use Prim.Native.Nat.{ℕ, ◌*◌, ◌%◌, ◌<◌}
use lib.Bits.{bit_and, bit_or}
use borrow.Author.Rules.{rules}
use Rattle.rules.specs.Bits.{bit_of}
use Rattle.laws.proofs.Below.{equal_below}
use Rattle.packing.specs.Packing.{base4, Spread}
use Rattle.packing.proofs.spread.Goals as goal

-- the two fours of bits, the four twos and the eight single ones, each with as many zeros above it
abbrev fours : ℕ → ℕ
fours b = bit_and (bit_or b (b * 16 % 65536)) 0x0F0F

abbrev twos : ℕ → ℕ
twos b = bit_and (bit_or (fours b) (fours b * 4 % 65536)) 0x3333

abbrev singles : ℕ → ℕ
singles b = bit_and (bit_or (twos b) (twos b * 2 % 65536)) 0x5555

-- bit j becomes digit j, of every byte
all_bytes : (b : ℕ) → b < 256 → Spread b (singles b)
unfolding base4 bit_of
all_bytes = equal_below 256 singles (λ (b : ℕ). base4 8 (bit_of b)) tt

pub returns : goal.returns
returns c = rw c.from-all.ensures (all_bytes c.args.b (search rules))
