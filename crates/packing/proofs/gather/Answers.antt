-- `gather`: what it makes of the spread bits of a byte is a test over all bytes, which antt computes; and the bits at even places are those of a byte.
-- Assumes nothing.
use mathlib.Core.Path.{◌≡◌, sym, ap, ◌∙◌}
use Prim.Native.Nat.{ℕ, ◌*◌, ◌/◌, ◌<◌}
use native.Mathlib.Omega.{arith}
use lib.Bits.{bit_and, bit_or}
use Rattle.rules.specs.Bits.{bit_of, byte_of}
use Rattle.laws.proofs.Below.{equal_below}
use Rattle.laws.proofs.Bits.{bit_of_lt, bit_of_byte}
use Rattle.packing.specs.Packing.{base4, Gathered}
use Rattle.packing.proofs.Digits.{base4_same, even_bits}
use Rattle.packing.proofs.gather.Goals as goal

-- the single bits, four twos of them and two fours, each with as many zeros above it, and all eight
abbrev singles : ℕ → ℕ
singles x = bit_and x 0x5555

abbrev twos : ℕ → ℕ
twos s = bit_and (bit_or s (s / 2)) 0x3333

abbrev fours : ℕ → ℕ
fours s = bit_and (bit_or (twos s) (twos s / 4)) 0x0F0F

abbrev eights : ℕ → ℕ
eights s = bit_and (bit_or (fours s) (fours s / 16)) 0x00FF

-- what was spread is gathered, of every byte
all_bytes : (b : ℕ) → b < 256 → eights (base4 8 (bit_of b)) ≡ b
unfolding base4 bit_of
all_bytes = equal_below 256 (λ (b : ℕ). eights (base4 8 (bit_of b))) (λ (b : ℕ). b) tt

gathered : (x : ℕ) → Gathered x (eights (singles x))
unfolding base4 byte_of
gathered x j h =
    let bit : ℕ → ℕ = λ (j : ℕ). bit_of x (2 * j) in
    let s : (j : ℕ) → bit j < 2 = λ j. bit_of_lt x (2 * j) in
    let at = bit_of_byte bit s in
    let spread : singles x ≡ base4 8 (bit_of (byte_of bit)) = even_bits 8 x ∙ base4_same 8 bit (bit_of (byte_of bit)) (λ j l. sym (at j l)) in
    let small : byte_of bit < 256 = omega (arith, s 0, s 1, s 2, s 3, s 4, s 5, s 6, s 7) in
    ap (λ (y : ℕ). bit_of y j) (ap eights spread ∙ all_bytes (byte_of bit) small) ∙ at j h

pub returns : goal.returns
returns c = gathered c.args.x
