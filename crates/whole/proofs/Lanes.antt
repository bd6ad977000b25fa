-- What holds of an entry, by its two bits.
-- Assumes nothing.
use Rattle.std.proofs.Common.{◌≡◌, ℕ, ◌+◌, ◌-◌, ◌*◌, ◌<◌, min, max, refl}
use Rattle.rules.specs.Tables.{is_used, is_head}
use Rattle.laws.proofs.Lists.{one}
use Rattle.laws.proofs.Bits.{two_bits}

-- an entry that is not FREE has a bit
pub used_bit : (l h : ℕ) → l < 2 → h < 2 → one (is_used (l + 2 * h)) ≡ max l h
used_bit = two_bits (λ (l h : ℕ). one (is_used (l + 2 * h)) ≡ max l h) refl refl refl refl

-- a HEAD has the low one alone
pub head_bit : (l h : ℕ) → l < 2 → h < 2 → one (is_head (l + 2 * h)) ≡ min l (1 - h)
head_bit = two_bits (λ (l h : ℕ). one (is_head (l + 2 * h)) ≡ min l (1 - h)) refl refl refl refl
