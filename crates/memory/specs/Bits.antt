-- Bits of up to eight bytes in one number.
-- Assumes nothing.
use Rattle.std.specs.Prelude.{◌≡◌, List, ℕ, ◌+◌, ◌-◌, ◌*◌, leb, ltb}
use Rattle.rules.specs.Tests.{pick, both}
use Rattle.rules.specs.Bits.{bit_of, bit_at}

-- r has the bits of the n bytes from `at` on, and no other
abbrev pub BitsFrom : List ℕ → ℕ → ℕ → ℕ → Type 0
BitsFrom bytes at n r = (j : ℕ) → bit_of r j ≡ pick (ltb j (8 * n)) (bit_at bytes (8 * at + j)) 0

-- the bits of the four bytes from `at` on are those of w, and all others as before
abbrev pub WithBits : List ℕ → ℕ → ℕ → List ℕ → Type 0
WithBits before at w after = (k : ℕ) → bit_at after k ≡ pick (both (leb (8 * at) k) (ltb k (8 * at + 32))) (bit_of w (k - 8 * at)) (bit_at before k)
