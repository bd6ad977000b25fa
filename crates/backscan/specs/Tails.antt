-- TAILs one after the other, and the blocks of 64 that are none.
-- Assumes nothing.
use Rattle.std.specs.Prelude.{◌≡◌, ◌≢◌, List, ℕ, ◌+◌, ◌*◌, ◌≤◌, ◌<◌}
use Rattle.rules.specs.Tests.{pick}
use Rattle.rules.specs.Bits.{bit_of}
use Rattle.rules.specs.Entries.{TAIL}
use Rattle.rules.specs.Tables.{entry_at, is_tail}

-- `bits` has a bit for each of the 64 blocks from block 64 * i on that is no TAIL
abbrev pub NonTails : List ℕ → ℕ → ℕ → Type 0
NonTails es i bits = (j : ℕ) → j < 64 → bit_of bits j ≡ pick (is_tail (entry_at es (64 * i + j))) 0 1

-- back from block b there are TAILs down to block s, which is none unless it is block 0
pub record Back (es : List ℕ) (b s : ℕ) : Type 0 where
  pub from : s ≤ b
  pub tails : (k : ℕ) → s < k → k < b → entry_at es k ≡ TAIL
  pub first : 0 < s → entry_at es s ≢ TAIL
