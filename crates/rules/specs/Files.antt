-- A file that is to be opened as a heap image (Images): any bytes at all, read from the front, section by section. The first fault counts.
-- Assumes nothing.
use Rattle.std.specs.Prelude.{not, List, [], ◌∷◌, ◌++◌, ℕ, ◌*◌, leb, ltb, length, take, drop, replicate}
use Rattle.rules.specs.Tests.{pick, both}
use Rattle.rules.specs.Words.{first_two, word_at}
use Rattle.rules.specs.Entries.{entries_of}
use Rattle.rules.specs.Tables.{is_free, used}
use Rattle.rules.specs.Outcomes.{Heap}
use Rattle.rules.specs.Refusals.{Test, test, first_of}

-- what a section may hold: how many bytes each of what it counts has, the fewest and the most there may be, and the refusal if there are fewer or more
pub record Kind : Type 0 where
  pub size : ℕ
  pub fewest : ℕ
  pub most : ℕ
  pub wrong : ℕ

-- one base, four bytes
abbrev pub one_base : Kind
one_base = record { size = 4; fewest = 1; most = 1; wrong = 15 }

-- the bytes of a packed table
abbrev pub table_bytes : Kind
table_bytes = record { size = 1; fewest = 1; most = 1024; wrong = 15 }

-- so many blocks, 16 bytes each
abbrev pub blocks_of : ℕ → Kind
blocks_of n = record { size = 16; fewest = n; most = n; wrong = 15 }

-- roots, four bytes each
abbrev pub root_words : Kind
root_words = record { size = 4; fewest = 0; most = 4096; wrong = 3 }

-- a section: its count, the bytes of what it counts, and what is behind it
pub record Section : Type 0 where
  pub count : ℕ
  pub body : List ℕ
  pub rest : List ℕ

-- the section at the front of these bytes. Of one that is cut short it is what there is
unfoldable pub section_in : Kind → List ℕ → Section
section_in k bs = record { count = first_two bs; body = take (k.size * first_two bs) (drop 2 bs); rest = drop (k.size * first_two bs) (drop 2 bs) }

-- 14: the file ends before so many bytes
abbrev pub cut_short : List ℕ → ℕ → Test
cut_short bs n = test 14 (ltb (length bs) n)

-- 15, or 3 of roots: another count than there may be
abbrev pub wrong_count : Kind → ℕ → Test
wrong_count k n = test k.wrong (not (both (leb k.fewest n) (leb n k.most)))

-- 16: bytes are left over
abbrev pub left_over : List ℕ → Test
left_over bs = test 16 (ltb 0 (length bs))

-- the faults of a section, in the order of its bytes: the count is tested before the body
unfoldable pub section_tests : Kind → List ℕ → List Test
section_tests k bs = cut_short bs 2 ∷ wrong_count k (first_two bs) ∷ cut_short (drop 2 bs) (k.size * first_two bs) ∷ []

-- the four sections of a file
pub record File : Type 0 where
  pub base : Section
  pub table : Section
  pub blocks : Section
  pub roots : Section

-- the entries of its table
abbrev pub entries_for : Section → List ℕ
entries_for table = entries_of table.body

-- its blocks are those whose entry is not FREE, be it MARK
abbrev pub used_in : Section → Kind
used_in table = blocks_of (used (entries_for table))

-- each section is behind the one before it
unfoldable pub file_of : List ℕ → File
file_of image =
    let base : Section = section_in one_base image in
    let table : Section = section_in table_bytes base.rest in
    let blocks : Section = section_in (used_in table) table.rest in
    record { base = base; table = table; blocks = blocks; roots = section_in root_words blocks.rest }

-- the faults of a file, from the front
unfoldable pub file_tests : List ℕ → List Test
file_tests image =
    let f : File = file_of image in
    section_tests one_base image
    ++ section_tests table_bytes f.base.rest
    ++ section_tests (used_in f.table) f.table.rest
    ++ section_tests root_words f.blocks.rest
    ++ left_over f.roots.rest ∷ []

-- the number of its first fault, 0 if it has none
unfoldable pub fault_of : List ℕ → ℕ
fault_of image = first_of (file_tests image)

-- the pool of these entries: each used block has the next 16 of the bytes, and every other byte is zero
unfoldable pub pool_of : List ℕ → List ℕ → List ℕ
pool_of [] bytes = []
pool_of (e ∷ es) bytes = pick (is_free e) (replicate 16 0) (take 16 bytes) ++ pool_of es (pick (is_free e) bytes (drop 16 bytes))

-- what a file says: the base, the heap and the roots
abbrev pub base_of : File → ℕ
base_of f = word_at f.base.body 0

abbrev pub heap_of_file : File → Heap
heap_of_file f = record { pool = pool_of (entries_for f.table) f.blocks.body; entries = entries_for f.table }

abbrev pub roots_of : File → List ℕ
roots_of f = f.roots.body
