-- What the standard library reads from bytes and writes to them, in the rules' words.
-- Assumes nothing.
use mathlib.Core.Path.{◌≡◌, refl}
use mathlib.Core.List.{List, [], ◌∷◌}
use Prim.Native.Nat.{ℕ, ◌%◌, ◌/◌}
use native.Mathlib.Omega.{arith}
use Rattle.std.specs.Int.{w16, w32, from_le_bytes, to_le_bytes}
use Rattle.rules.specs.Words.{number, bytes_of, two_bytes_of, first_two}

pub number_read : (a b c d : ℕ) → from_le_bytes w32 (a ∷ b ∷ c ∷ d ∷ []) ≡ number a b c d
unfolding number
number_read a b c d = omega arith

pub two_read : (bytes : List ℕ) → from_le_bytes w16 bytes ≡ first_two bytes
unfolding first_two
two_read bytes = omega arith

pub bytes_written : (w : ℕ) → to_le_bytes w32 w ≡ bytes_of w
unfolding bytes_of
bytes_written w = refl

pub two_written : (n : ℕ) → to_le_bytes w16 (n % 65536) ≡ two_bytes_of n
unfolding two_bytes_of
two_written n =
    let low : n % 65536 % 256 ≡ n % 256 = omega arith in
    let high : n % 65536 / 256 % 256 ≡ n / 256 % 256 = omega arith in
    rw (low, high)
