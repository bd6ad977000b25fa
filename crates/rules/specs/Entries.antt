-- The four entries, and the packed order: two bits for each block, four to a byte, entry 0 in the two lowest bits.
-- Heap images have this order, and examples are written in it because it is short; the lent table has another (Planes). Only this module knows how entries
-- lie in packed bytes; every other rule speaks of the list of entries.
-- Assumes nothing.
use Rattle.std.specs.Prelude.{List, [], ◌∷◌, ℕ, ◌+◌, ◌*◌, ◌/◌, ◌%◌, ◌^◌}

abbrev pub FREE : ℕ
FREE = 0

abbrev pub HEAD : ℕ
HEAD = 1

abbrev pub TAIL : ℕ
TAIL = 2

abbrev pub MARK : ℕ
MARK = 3

-- entry j of a packed byte
unfoldable pub entry_of : ℕ → ℕ → ℕ
entry_of b j = b / 4 ^ j % 4

-- the entries of a packed table, block 0 first: block k is in byte k / 4, entry k mod 4
unfoldable pub entries_of : List ℕ → List ℕ
entries_of [] = []
entries_of (b ∷ bs) = entry_of b 0 ∷ entry_of b 1 ∷ entry_of b 2 ∷ entry_of b 3 ∷ entries_of bs

-- the packed table of a list of entries, whose number is a multiple of four: the inverse of entries_of (laws table_of_entries_of, entries_of_table_of)
unfoldable pub table_of : List ℕ → List ℕ
table_of [] = []
table_of (a ∷ []) = []
table_of (a ∷ b ∷ []) = []
table_of (a ∷ b ∷ c ∷ []) = []
table_of (a ∷ b ∷ c ∷ d ∷ es) = (a + 4 * b + 16 * c + 64 * d) ∷ table_of es
