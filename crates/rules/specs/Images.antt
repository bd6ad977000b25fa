-- A heap image: a heap and a root list as one file, for a host that has neither. Four sections, each after its count: the base, the table, the used blocks, the roots.
-- Assumes nothing.
use Rattle.std.specs.Prelude.{List, [], ◌∷◌, ◌++◌, ℕ, suc, ◌*◌, ◌/◌, length, take, drop}
use Rattle.rules.specs.Tests.{pick}
use Rattle.rules.specs.Words.{bytes_of, two_bytes_of}
use Rattle.rules.specs.Entries.{table_of}
use Rattle.rules.specs.Tables.{is_free, used}
use Rattle.rules.specs.Outcomes.{Heap}

-- a section: how many there are of what it holds, as 16 bits, the lowest byte first; and then their bytes
unfoldable pub section : ℕ → List ℕ → List ℕ
section count body = two_bytes_of count ++ body

-- The sections of a heap with these entries, whose used blocks have these bytes: one word, the base; the packed table, counted in bytes; the used blocks, 16 bytes each;
-- the roots, counted in words. Whatever form the lent table has, that of the image is packed, four blocks to a byte
unfoldable pub sections : ℕ → List ℕ → List ℕ → List ℕ → List ℕ
sections base es blocks roots =
    section 1 (bytes_of base)
    ++ section (length es / 4) (table_of es)
    ++ section (used es) blocks
    ++ section (length roots / 4) roots

-- the 16 bytes of block k
unfoldable pub block_bytes : List ℕ → ℕ → List ℕ
block_bytes pool k = take 16 (drop (16 * k) pool)

-- the bytes of the used blocks, in rising order, where es are the entries from block k on: none of a FREE block
unfoldable pub used_from : List ℕ → ℕ → List ℕ → List ℕ
used_from pool k [] = []
used_from pool k (e ∷ es) = pick (is_free e) [] (block_bytes pool k) ++ used_from pool (suc k) es

-- the image of a heap and a root list, which is written as it is
unfoldable pub image_of : ℕ → Heap → List ℕ → List ℕ
image_of base h roots = sections base h.entries (used_from h.pool 0 h.entries) roots
