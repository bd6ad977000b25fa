-- Where a search for room need not look.
-- Assumes nothing.
use Rattle.std.specs.Prelude.{◌≡◌, ◌≢◌, Bool, true, false, List, ℕ, ◌+◌, ◌*◌, ◌^◌, ◌≤◌, ◌<◌, length, get_or}
use Rattle.rules.specs.Bits.{bit_of}
use Rattle.rules.specs.Entries.{FREE, HEAD}
use Rattle.laws.specs.Meaning.{Aligned, Fits, Run}

-- nowhere from block s on and before block e may b blocks start
abbrev pub NoStart : List ℕ → ℕ → ℕ → ℕ → Type 0
NoStart es b s e = (q : ℕ) → s ≤ q → q < e → Fits es b q → ⊥

-- the bits of b blocks from bit j on are set, as far as 64 bits go: the 32 of `free`, and then those of `next`
abbrev pub AllSet : ℕ → ℕ → ℕ → ℕ → Type 0
AllSet free next b j = (d : ℕ) → d < b → j + d < 64 → bit_of (free + 2 ^ 32 * next) (j + d) ≡ 1

-- at none of the first 32 bits at which b blocks are aligned are they all set
abbrev pub NoneSet : ℕ → ℕ → ℕ → Type 0
NoneSet free next b = (j : ℕ) → j < 32 → Aligned b j → AllSet free next b j → ⊥

-- r has a bit for each of 32 blocks at which a row of b bits of FREE blocks starts and b blocks are aligned; it may have others of FREE blocks at which they are aligned
pub record Starts (free next b r : ℕ) : Type 0 where
  pub all : (j : ℕ) → j < 32 → Aligned b j → AllSet free next b j → bit_of r j ≡ 1
  pub is_free : (j : ℕ) → j < 32 → bit_of r j ≡ 1 → bit_of free j ≡ 1
  pub aligned : (j : ℕ) → j < 32 → bit_of r j ≡ 1 → Aligned b j

-- the search from block s on may go on at block r: b blocks may start nowhere before it, and they are aligned there, unless it is the table's end
pub record Next (es : List ℕ) (b s r : ℕ) : Type 0 where
  pub inside : r ≤ length es
  pub from : s ≤ r
  pub none_before : NoStart es b s r
  pub aligned : r < length es → Aligned b r

-- the `free` blocks from k on are FREE blocks of the table. If they have ended, a used block or the table's end comes after them; else there is one at least
pub record FreeFor (es : List ℕ) (k free : ℕ) (ended : Bool) : Type 0 where
  pub run : Run es free k
  pub next : ended ≡ true → get_or es (k + free) HEAD ≢ FREE
  pub more : ended ≡ false → 0 < free
