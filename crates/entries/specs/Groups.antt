-- Entries by many: the bits of a plane's byte that a run of blocks has, and entries in two numbers.
-- Assumes nothing.
use Rattle.std.specs.Prelude.{◌≡◌, List, ℕ, ◌+◌, ◌*◌, ◌<◌, leb, ltb}
use Rattle.rules.specs.Tests.{pick, both}
use Rattle.rules.specs.Bits.{bit_of, bit_at}
use Rattle.rules.specs.Tables.{entry_at}

-- `bits` has the bits of byte i of a plane that are of the blocks from a to before b, and no other
abbrev pub Span : ℕ → ℕ → ℕ → ℕ → Type 0
Span i a b bits = (j : ℕ) → j < 8 → bit_of bits j ≡ pick (both (leb a (8 * i + j)) (ltb (8 * i + j) b)) 1 0

-- entry j of two numbers that hold entries: the low bit of each in one, its high bit in the other
abbrev pub lane : ℕ → ℕ → ℕ → ℕ
lane low high j = bit_of low j + 2 * bit_of high j

-- the two numbers hold the n entries from block n * i on
abbrev pub InLanes : ℕ → List ℕ → ℕ → ℕ → ℕ → Type 0
InLanes n es i low high = (j : ℕ) → j < n → entry_at es (n * i + j) ≡ lane low high j

-- 64 of them
abbrev pub InGroup : List ℕ → ℕ → ℕ → ℕ → Type 0
InGroup es i low high = InLanes 64 es i low high

-- the two planes, each by itself, hold the entries es. Past the last they have no bit
abbrev pub InPlanes : List ℕ → List ℕ → List ℕ → Type 0
InPlanes es lows highs = (k : ℕ) → entry_at es k ≡ bit_at lows k + 2 * bit_at highs k

-- two numbers hold the n entries from block n * i on, whatever entries the planes hold
abbrev pub InParts : ℕ → List ℕ → List ℕ → ℕ → ℕ → ℕ → Type 0
InParts n lows highs i low high = (es : List ℕ) → InPlanes es lows highs → InLanes n es i low high

-- 32 of them
abbrev pub InWords : List ℕ → List ℕ → ℕ → ℕ → ℕ → Type 0
InWords lows highs i low high = InParts 32 lows highs i low high
