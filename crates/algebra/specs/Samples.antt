-- The heap on which the laws of this crate are used, in any form of the table: that of crates/keeping/specs/Samples.antt.
--
--   block   0   1 2 3   4 5   6   7   8 9   10 11
--   object  A   B       C     D   .   E     F
--
-- C points to E and E to D; B points to A; F points to itself.
-- Assumes nothing.
use Rattle.std.specs.Prelude.{List, [], ◌∷◌, ◌++◌, ℕ, zero, suc, ◌*◌, replicate}
use Rattle.rules.specs.Tests.{pick}
use Rattle.rules.specs.Words.{bytes_of}
use Rattle.rules.specs.Entries.{FREE, HEAD, TAIL}
use Rattle.rules.specs.Tables.{entry_at, is_head}
use Rattle.rules.specs.Forms.{Form}
use Rattle.rules.specs.Planes.{entries_in, planes_of, planes}
use Rattle.rules.specs.Memory.{Memory, memory}
use Rattle.keeping.specs.Samples.{address_at, sample_pool}

-- the pool, and a table with these entries
abbrev pub with_entries : Form → List ℕ → Memory
with_entries f es = memory sample_pool (f.write es)

abbrev pub sample_in : Form → Memory
sample_in f = with_entries f (HEAD ∷ HEAD ∷ TAIL ∷ TAIL ∷ HEAD ∷ TAIL ∷ HEAD ∷ FREE ∷ HEAD ∷ TAIL ∷ HEAD ∷ TAIL ∷ [])

-- without B and C
abbrev pub without_bc : Form → Memory
without_bc f = with_entries f (HEAD ∷ FREE ∷ FREE ∷ FREE ∷ FREE ∷ FREE ∷ HEAD ∷ FREE ∷ HEAD ∷ TAIL ∷ HEAD ∷ TAIL ∷ [])

-- without A and E
abbrev pub without_ae : Form → Memory
without_ae f = with_entries f (FREE ∷ HEAD ∷ TAIL ∷ TAIL ∷ HEAD ∷ TAIL ∷ HEAD ∷ FREE ∷ FREE ∷ FREE ∷ HEAD ∷ TAIL ∷ [])

-- with C, D and E alone
abbrev pub with_cde : Form → Memory
with_cde f = with_entries f (FREE ∷ FREE ∷ FREE ∷ FREE ∷ HEAD ∷ TAIL ∷ HEAD ∷ FREE ∷ HEAD ∷ TAIL ∷ FREE ∷ FREE ∷ [])

-- the entries with A and B alone; with A, C, D and E; with all five
abbrev pub entries_ab : List ℕ
entries_ab = HEAD ∷ HEAD ∷ TAIL ∷ TAIL ∷ replicate 8 FREE

abbrev pub entries_acde : List ℕ
entries_acde = HEAD ∷ FREE ∷ FREE ∷ FREE ∷ HEAD ∷ TAIL ∷ HEAD ∷ FREE ∷ HEAD ∷ TAIL ∷ FREE ∷ FREE ∷ []

abbrev pub entries_abcde : List ℕ
entries_abcde = HEAD ∷ HEAD ∷ TAIL ∷ TAIL ∷ HEAD ∷ TAIL ∷ HEAD ∷ FREE ∷ HEAD ∷ TAIL ∷ FREE ∷ FREE ∷ []

-- root lists
abbrev pub root_b : List ℕ
root_b = bytes_of (address_at 1)

abbrev pub roots_ac : List ℕ
roots_ac = bytes_of (address_at 0) ++ bytes_of (address_at 4)

abbrev pub roots_ce : List ℕ
roots_ce = bytes_of (address_at 4) ++ bytes_of (address_at 8)

abbrev pub roots_ec : List ℕ
roots_ec = bytes_of (address_at 8) ++ bytes_of (address_at 4)

-- a list so many times over
unfoldable pub times : ℕ → List ℕ → List ℕ
times zero xs = []
times (suc n) xs = xs ++ times n xs

-- a mark stack of n entries, which hold something
abbrev pub stack_of : ℕ → List ℕ
stack_of n = replicate (4 * n) 7

-- ---- where the laws fail

-- the address of E alone
abbrev pub root_e : List ℕ
root_e = bytes_of (address_at 8)

-- a list with one byte more: the same words, but not whole ones
abbrev pub torn : List ℕ → List ℕ
torn roots = roots ++ 0 ∷ []

-- the same heap with a TAIL in block 0, which no call but init and an opening accepts
abbrev pub tail_first : Memory
tail_first = with_entries (planes 3) (TAIL ∷ HEAD ∷ TAIL ∷ TAIL ∷ HEAD ∷ TAIL ∷ HEAD ∷ FREE ∷ HEAD ∷ TAIL ∷ HEAD ∷ TAIL ∷ [])

-- a form that is not faithful: two planes, but it loses a table with an object at block 1
abbrev pub lossy : Form
lossy = record { fits = (planes 3).fits; clean = (planes 3).clean; read = entries_in 3; write = λ es. pick (is_head (entry_at es 1)) [] (planes_of 3 es) }
