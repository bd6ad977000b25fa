-- `used_in`: the ones of a byte with a bit for each entry that is not FREE. What they are of a byte is a test over all bytes, which antt computes.
-- Assumes nothing.
use mathlib.Core.Path.{◌≡◌}
use mathlib.Core.List.{[], ◌∷◌}
use Prim.Native.Nat.{ℕ, ◌/◌, ◌≤◌, ◌<◌}
use native.Mathlib.Omega.{arith}
use lib.Bits.{bit_and, bit_or}
use lib.Count.{ones_in, ones}
use Rattle.rules.specs.Tests.{count}
use Rattle.rules.specs.Entries.{entry_of, entries_of}
use Rattle.rules.specs.Tables.{is_used, used}
use Rattle.laws.proofs.Below.{equal_below}
use Rattle.laws.proofs.Lists.{count_le}
use Rattle.packing.proofs.used_in.Goals as goal

-- a bit for each entry of a byte that is not FREE
abbrev used_bits : ℕ → ℕ
used_bits b = bit_and (bit_or b (b / 2)) 0x55

all_bytes : (b : ℕ) → b < 256 → ones (used_bits b) ≡ used (entries_of (b ∷ []))
unfolding entry_of entries_of used count ones ones_in
all_bytes = equal_below 256 (λ (b : ℕ). ones (used_bits b)) (λ (b : ℕ). used (entries_of (b ∷ []))) tt

-- at most four
few : (b : ℕ) → used (entries_of (b ∷ [])) ≤ 4
unfolding used entries_of
few b = count_le is_used (entries_of (b ∷ []))

pub returns : goal.returns
returns c =
    let value = all_bytes c.args.b c.ranges.b.fits in
    record { few = omega (arith, value, few c.args.b); value = value }
