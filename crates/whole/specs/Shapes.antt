-- Whether each entry may stand after the one before it: of 32 entries at once, and of some bytes of both planes.
-- Assumes nothing.
use Rattle.std.specs.Prelude.{◌≡◌, ℕ, zero, suc, ◌+◌, ◌*◌, ◌<◌, ◌≤◌, true, List, ◌∷◌, ◌==◌}
use Rattle.rules.specs.Tests.{pick}
use Rattle.rules.specs.Bits.{bit_of}
use Rattle.rules.specs.Entries.{FREE}
use Rattle.rules.specs.Tables.{entry_at, is_used, may_follow}
use Rattle.entries.specs.Groups.{lane, InPlanes}

-- the entry before entry j; the one before the first is p
abbrev pub previous : ℕ → (ℕ → ℕ) → ℕ → ℕ
previous p entry zero = p
previous p entry (suc j) = entry j

-- r has a bit for each of the 32 entries that may not stand after the one before it. `before` is 0 if the block before them is FREE, else 1
pub record BadBits (low high before r : ℕ) : Type 0 where
  pub entry : (j : ℕ) → j < 32 → (bit_of r j == 0) ≡ may_follow (previous before (lane low high) j) (lane low high j)
  -- the number fits where the high bits do
  pub fits : r ≤ high

-- entry k may stand after the one before it. What stands before block 0 counts as FREE
abbrev pub Allowed : List ℕ → ℕ → Type 0
Allowed es k = may_follow (entry_at (FREE ∷ es) k) (entry_at es k) ≡ true

-- 1 if the block before block k is used, else 0
abbrev pub used_before : List ℕ → ℕ → ℕ
used_before es k = pick (is_used (entry_at (FREE ∷ es) k)) 1 0

-- The n entries from block b on are tested: if nothing is found, each of them is allowed; if every entry of the table is allowed, nothing is found. `before` says whether the
-- last of them is used.
pub record TestedFrom (es : List ℕ) (b n bad before : ℕ) : Type 0 where
  pub sound : bad ≡ 0 → (k : ℕ) → b ≤ k → k < b + n → Allowed es k
  pub full : ((k : ℕ) → Allowed es k) → bad ≡ 0
  pub last : before ≡ used_before es (b + n)

-- the n entries in two numbers are tested, wherever they stand
abbrev pub TestsBits : ℕ → ℕ → ℕ → ℕ → ℕ → ℕ → Type 0
TestsBits low high n before bad before' = (es : List ℕ) (b : ℕ) → ((j : ℕ) → j < n → entry_at es (b + j) ≡ lane low high j) → before ≡ used_before es b → TestedFrom es b n bad before'

-- the entries of n bytes of both planes from byte `at` on are tested, whatever entries the planes hold
abbrev pub TestsOn : List ℕ → List ℕ → ℕ → ℕ → ℕ → ℕ → ℕ → Type 0
TestsOn lows highs at n before bad before' = (es : List ℕ) → InPlanes es lows highs → before ≡ used_before es (8 * at) → TestedFrom es (8 * at) (8 * n) bad before'
