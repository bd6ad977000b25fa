-- Bits of a number and of a list of bytes, the lowest first.
-- Assumes nothing.
use Rattle.std.specs.Prelude.{List, ℕ, ◌+◌, ◌*◌, ◌/◌, ◌%◌, ◌^◌, get_or}

-- bit j of a number
unfoldable pub bit_of : ℕ → ℕ → ℕ
bit_of a j = a / 2 ^ j % 2

-- bit k of a list of bytes, eight to a byte. Past the end it is 0
unfoldable pub bit_at : List ℕ → ℕ → ℕ
bit_at bs k = bit_of (get_or bs (k / 8) 0) (k % 8)

-- the byte with these bits
unfoldable pub byte_of : (ℕ → ℕ) → ℕ
byte_of bit = bit 0 + 2 * bit 1 + 4 * bit 2 + 8 * bit 3 + 16 * bit 4 + 32 * bit 5 + 64 * bit 6 + 128 * bit 7
