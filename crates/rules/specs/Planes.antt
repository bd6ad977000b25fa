-- The form of the lent table: two bit planes. For 4t blocks the table is the low bits of all entries, eight blocks to a byte, the lowest bit first, and then their
-- high bits in the same way. Where t is odd each plane has four bits of no block at its end: they are spare, and zero.
-- Only this module knows how entries lie in the planes; every other rule speaks of the list of entries.
-- Assumes nothing.
use Rattle.std.specs.Prelude.{◌≡◌, Bool, true, List, ◌++◌, ℕ, ◌+◌, ◌-◌, ◌*◌, ◌/◌, ◌%◌, ◌≤◌, eqb, length}
use Rattle.rules.specs.Tests.{tabulate}
use Rattle.rules.specs.Bits.{bit_at, byte_of}
use Rattle.rules.specs.Tables.{entry_at, used}
use Rattle.rules.specs.Outcomes.{Heap}
use Rattle.rules.specs.Forms.{Form}

-- how many bytes a plane has: half of t, rounded up
unfoldable pub plane_bytes : ℕ → ℕ
plane_bytes t = (t + 1) / 2

-- the entry of block k: its low bit is bit k of the first plane, its high bit is bit k of the second
unfoldable pub entry_in : ℕ → List ℕ → ℕ → ℕ
entry_in t table k = bit_at table k + 2 * bit_at table (8 * plane_bytes t + k)

-- the entries of the 4t blocks
unfoldable pub entries_in : ℕ → List ℕ → List ℕ
entries_in t table = tabulate (4 * t) (entry_in t table)

-- the entries that the planes have past the last block: none if t is even, four if it is odd
unfoldable pub spare : ℕ → List ℕ → List ℕ
spare t table = tabulate (8 * plane_bytes t - 4 * t) (λ (j : ℕ). entry_in t table (4 * t + j))

-- no spare bit is set
unfoldable pub spare_free : ℕ → List ℕ → Bool
spare_free t table = eqb (used (spare t table)) 0

-- the plane with these bits
unfoldable pub plane : ℕ → (ℕ → ℕ) → List ℕ
plane t bit = tabulate (plane_bytes t) (λ (i : ℕ). byte_of (λ (j : ℕ). bit (8 * i + j)))

-- the table of 4t entries: the inverse of entries_in
unfoldable pub planes_of : ℕ → List ℕ → List ℕ
planes_of t es = plane t (λ (k : ℕ). entry_at es k % 2) ++ plane t (λ (k : ℕ). entry_at es k / 2 % 2)

-- Two planes for 4t blocks. That t is from 1 to 1,024 is tested with the shape, as the number of blocks
abbrev pub planes : ℕ → Form
planes t = record { fits = λ table. eqb (length table) (2 * plane_bytes t); clean = spare_free t; read = entries_in t; write = planes_of t }

-- ---- what the code asks of a table, and leaves of it

-- t is not too large, and the table's length is that of its two planes
pub record Sized (t : ℕ) (table : List ℕ) : Type 0 where
  pub few : t ≤ 1024
  pub long : length table ≡ 2 * plane_bytes t

-- and no spare bit is set
pub record IsTable (t : ℕ) (table : List ℕ) : Type 0 where
  pub sized : Sized t table
  pub clean : spare_free t table ≡ true

-- and these are its entries
pub record Holds (t : ℕ) (es table : List ℕ) : Type 0 where
  pub is_table : IsTable t table
  pub entries : entries_in t table ≡ es

-- the heap in a pool and a table of two planes
abbrev pub heap_at : ℕ → List ℕ → List ℕ → Heap
heap_at t pool table = record { pool = pool; entries = entries_in t table }
