-- Bits of 32 blocks, and rows of bits that are set.
-- Assumes nothing.
use Rattle.std.specs.Prelude.{◌≡◌, ◌≢◌, ◌⊎◌, List, ℕ, ◌+◌, ◌*◌, ◌-◌, ◌^◌, ◌≤◌, ◌<◌, get_or}
use Rattle.rules.specs.Tests.{pick}
use Rattle.rules.specs.Bits.{bit_of}
use Rattle.rules.specs.Entries.{HEAD}
use Rattle.rules.specs.Tables.{is_free}

-- `bits` has a bit for each of the 32 blocks from block 32 * i on that is FREE. Past the end of the table there is none
abbrev pub FreeIn : List ℕ → ℕ → ℕ → Type 0
FreeIn es i bits = (j : ℕ) → j < 32 → bit_of bits j ≡ pick (is_free (get_or es (32 * i + j) HEAD)) 1 0

-- n of w bits come before the first that is set
pub record ZerosOf (w bits n : ℕ) : Type 0 where
  pub few : n ≤ w
  pub before : (j : ℕ) → j < n → bit_of bits j ≡ 0
  pub next : n < w → bit_of bits n ≡ 1

-- n of the 64 bits come before the first that is set
abbrev pub Zeros : ℕ → ℕ → Type 0
Zeros = ZerosOf 64

-- n of the 32 bits stand above the last that is set
pub record ZerosAbove (bits n : ℕ) : Type 0 where
  pub few : n ≤ 32
  pub above : (j : ℕ) → j < n → bit_of bits (31 - j) ≡ 0
  pub next : n < 32 → bit_of bits (31 - n) ≡ 1

-- a row: the count bits from bit j on are set
abbrev pub Row : ℕ → ℕ → ℕ → Type 0
Row bits count j = (d : ℕ) → d < count → bit_of bits (j + d) ≡ 1

-- r has a bit where a row of count bits starts, and no other, of the 32 of `bits`; those of `next` follow them
pub record RowStarts (bits next count r : ℕ) : Type 0 where
  pub set : (j : ℕ) → j < 32 → Row (bits + 2 ^ 32 * next) count j → bit_of r j ≡ 1
  pub only : (j : ℕ) → j < 32 → bit_of r j ≢ 0 → Row (bits + 2 ^ 32 * next) count j

-- the whole row from bit j on: its count bits are set, and the next is not
pub record WholeRow (bits j count : ℕ) : Type 0 where
  pub row : Row bits count j
  pub next : bit_of bits (j + count) ≢ 1

-- r is the length of the longest row, or n if no row is longer than n
pub record LongestRow (bits n r : ℕ) : Type 0 where
  pub least : n ≤ r
  pub found : (r ≡ n) ⊎ ((j : ℕ) × Row bits r j)
  pub most : (count j : ℕ) → count ≤ 32 → Row bits count j → count ≤ r
