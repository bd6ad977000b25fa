-- The masks of a byte: one bit, the bits from a place on, the bits before one. Each is a test over all places, which antt computes.
-- Assumes nothing.
use mathlib.Core.Path.{◌≡◌}
use Prim.Native.Nat.{ℕ, ◌-◌, ◌*◌, ◌/◌, ◌%◌, ◌^◌, ◌<◌}
use lib.Dec.{T, eqb, leb, ltb}
use Rattle.rules.specs.Tests.{pick}
use Rattle.rules.specs.Bits.{bit_of}
use Rattle.laws.proofs.Below.{all_below, below, equal_below}

-- an equation that holds at all places s and j of a byte, by computing
places : (f g : ℕ → ℕ → ℕ) → T (all_below 8 (λ (s : ℕ). all_below 8 (λ (j : ℕ). eqb (f s j) (g s j)))) → (s j : ℕ) → s < 8 → j < 8 → f s j ≡ g s j
places f g all s j hs hj =
    equal_below 8 (f s) (g s) (below 8 (λ (s : ℕ). all_below 8 (λ (j : ℕ). eqb (f s j) (g s j))) all s hs) j hj

pub one_bit : (s j : ℕ) → s < 8 → j < 8 → bit_of (1 * 2 ^ s % 256) j ≡ pick (eqb j s) 1 0
unfolding bit_of
one_bit = places (λ (s j : ℕ). bit_of (1 * 2 ^ s % 256) j) (λ (s j : ℕ). pick (eqb j s) 1 0) tt

pub upper_bits : (s j : ℕ) → s < 8 → j < 8 → bit_of (255 * 2 ^ s % 256) j ≡ pick (leb s j) 1 0
unfolding bit_of
upper_bits = places (λ (s j : ℕ). bit_of (255 * 2 ^ s % 256) j) (λ (s j : ℕ). pick (leb s j) 1 0) tt

pub lower_bits : (s j : ℕ) → s < 8 → j < 8 → bit_of (255 / 2 ^ s) j ≡ pick (ltb j (8 - s)) 1 0
unfolding bit_of
lower_bits = places (λ (s j : ℕ). bit_of (255 / 2 ^ s) j) (λ (s j : ℕ). pick (ltb j (8 - s)) 1 0) tt
