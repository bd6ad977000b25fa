-- Numbers that come from C, in 64 bits, as the code takes them: a host's usize may have 32.
-- Assumes nothing.
use Rattle.std.specs.Prelude.{ℕ, min, ◌-◌, ◌^◌}

-- the number, or the largest of 32 bits if it is larger
abbrev pub clamped : ℕ → ℕ
clamped n = min n (2 ^ 32 - 1)
