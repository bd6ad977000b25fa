-- Files that are opened, byte by byte: the result of each opening, with all of the root list that was lent for it. The table that is lent is never well-formed, and its spare bits, where it has some, are set: what it held does not matter.
-- Assumes nothing.
use Rattle.std.specs.Prelude.{◌≡◌, refl, List, [], ◌∷◌, ◌++◌, map, ℕ, length, take, replicate}
use Rattle.rules.specs.Tests.{count, tabulate}
use Rattle.rules.specs.Bits.{bit_of, bit_at, byte_of}
use Rattle.rules.specs.Words.{number, first_two, word_at}
use Rattle.rules.specs.Entries.{entry_of, entries_of}
use Rattle.rules.specs.Tables.{may_follow, well_after, well_formed, used}
use Rattle.rules.specs.Pointers.{address_of, good_base}
use Rattle.rules.specs.Planes.{plane_bytes, entry_in, entries_in, spare, spare_free, plane, planes_of, planes}
use Rattle.rules.specs.Outcomes.{only_refusal, opened_at, unless_refused}
use Rattle.rules.specs.Refusals.{first_of, good_shape}
use Rattle.rules.specs.Files.{section_in, section_tests, file_of, file_tests, fault_of, pool_of}
use Rattle.rules.specs.Calls.{good_target, open_image}
use Rattle.rules.specs.Runs.{OpenImage, step}
use Rattle.rules.specs.Memory.{Memory, memory, Result, filling, with_buffer, or_refused, perform}
use Rattle.rules.specs.Examples.{zeros, fives, sevens}
use Rattle.rules.specs.ImageExamples.{one_image}

-- the result of an opening with its root list, and what it should be
pub record FileExample : Type 0 where
  pub is : Result
  pub ought : Result

-- what is lent for an opening: t, pool and table, and a root list
pub record Target : Type 0 where
  pub t : ℕ
  pub memory : Memory
  pub roots : List ℕ

-- the file is opened there
abbrev pub opened : Target → List ℕ → Result
opened x file = with_buffer x.roots (perform (planes x.t) (OpenImage file (length x.roots)) [] x.memory)

-- nothing but the number is answered, and every byte that was lent is as it was
abbrev pub unopened : Target → ℕ → Result
unopened x r = filling (only_refusal r) x.memory x.roots

-- the file says this base, pool, table and roots, behind which the root list is as it was
abbrev pub opens : Target → List ℕ → ℕ → List ℕ → List ℕ → List ℕ → List ℕ → ℕ → FileExample
opens x file base pool table roots after n = record { is = opened x file; ought = filling (opened_at base n) (memory pool table) (roots ++ after) }

-- or it is refused
abbrev pub refuses : Target → List ℕ → ℕ → FileExample
refuses x file r = record { is = opened x file; ought = unopened x r }

-- ---- what is lent

-- t is 1; the table has no well-formed entries, and its spare bits are set; there is room for three roots
abbrev pub four : Target
four = record { t = 1; memory = memory (sevens 64) (255 ∷ 254 ∷ []); roots = sevens 12 }

-- with another root list
abbrev pub four_with : List ℕ → Target
four_with roots = record { t = 1; memory = memory (sevens 64) (255 ∷ 254 ∷ []); roots = roots }

-- t is 2: the table is as long as if t were 1
abbrev pub eight : Target
eight = record { t = 2; memory = memory (sevens 128) (255 ∷ 254 ∷ []); roots = sevens 12 }

-- t is 3: twelve blocks
abbrev pub twelve : Target
twelve = record { t = 3; memory = memory (sevens 192) (255 ∷ 255 ∷ 254 ∷ 254 ∷ []); roots = sevens 4 }

-- ---- files

-- one of t = 1 with this base, one byte of the table, and what is behind it
abbrev pub file_at : List ℕ → ℕ → List ℕ → List ℕ
file_at base table rest = (1 ∷ 0 ∷ []) ++ base ++ (1 ∷ 0 ∷ table ∷ []) ++ rest

-- at base 4,096
abbrev pub file : ℕ → List ℕ → List ℕ
file table rest = file_at (0 ∷ 16 ∷ 0 ∷ 0 ∷ []) table rest

-- one block, MARK, and one root
abbrev pub marked : List ℕ
marked = file 3 ((1 ∷ 0 ∷ []) ++ fives 16 ++ (1 ∷ 0 ∷ []) ++ fives 4)

unfoldable pub file_examples : List FileExample
file_examples =
    -- the 33 bytes, for a root list that is longer, and one that is as long
    opens four one_image 4096 (zeros 64) (1 ∷ 0 ∷ []) (0 ∷ 16 ∷ 0 ∷ 0 ∷ []) (sevens 8) 1
    ∷ opens (four_with (sevens 4)) one_image 4096 (zeros 64) (1 ∷ 0 ∷ []) (0 ∷ 16 ∷ 0 ∷ 0 ∷ []) [] 1
    -- no object and no root; an object of blocks 1 and 2, with a FREE block before it and one behind it; t odd
    ∷ opens four (file 0 (0 ∷ 0 ∷ 0 ∷ 0 ∷ [])) 4096 (zeros 64) (0 ∷ 0 ∷ []) [] (sevens 12) 0
    ∷ opens four (file 36 ((2 ∷ 0 ∷ []) ++ fives 16 ++ sevens 16 ++ (2 ∷ 0 ∷ []) ++ fives 8)) 4096 (zeros 16 ++ fives 16 ++ sevens 16 ++ zeros 16) (2 ∷ 4 ∷ []) (fives 8) (sevens 4) 2
    ∷ opens twelve ((1 ∷ 0 ∷ 16 ∷ 0 ∷ 0 ∷ 32 ∷ 3 ∷ 0 ∷ 101 ∷ 100 ∷ 165 ∷ 11 ∷ 0 ∷ []) ++ fives 176 ++ (0 ∷ 0 ∷ [])) 536870928 (fives 64 ++ zeros 16 ++ fives 112) (171 ∷ 3 ∷ 68 ∷ 12 ∷ []) [] (sevens 4) 0
    -- a count of one byte, whatever that is
    ∷ refuses four (2 ∷ []) 14
    ∷ refuses four (1 ∷ 0 ∷ 0 ∷ 16 ∷ 0 ∷ 0 ∷ 0 ∷ []) 14
    ∷ refuses four (file 1 (2 ∷ [])) 14
    ∷ refuses four (file 0 (0 ∷ 0 ∷ 0 ∷ [])) 14
    -- a byte is left over
    ∷ refuses four (one_image ++ 0 ∷ []) 16
    -- two bases, of which there are one, a half and none; no byte of a table, or 1,025
    ∷ refuses four (2 ∷ 0 ∷ 0 ∷ 16 ∷ 0 ∷ 0 ∷ []) 15
    ∷ refuses four (2 ∷ 0 ∷ 0 ∷ 16 ∷ []) 15
    ∷ refuses four (2 ∷ 0 ∷ []) 15
    ∷ refuses four (1 ∷ 0 ∷ 0 ∷ 16 ∷ 0 ∷ 0 ∷ 0 ∷ 0 ∷ []) 15
    ∷ refuses four (1 ∷ 0 ∷ 0 ∷ 16 ∷ 0 ∷ 0 ∷ 1 ∷ 4 ∷ []) 15
    -- two blocks, or none, where one is used; a MARK is counted with the blocks, and the table is then ill-formed
    ∷ refuses four (file 1 (2 ∷ 0 ∷ [])) 15
    ∷ refuses four (file 1 (0 ∷ 0 ∷ [])) 15
    ∷ refuses four (file 3 (0 ∷ 0 ∷ [])) 15
    ∷ refuses four marked 2
    -- 4,097 roots, of which there is none; 4,096, of which there is none
    ∷ refuses four (file 0 (0 ∷ 0 ∷ 1 ∷ 16 ∷ [])) 3
    ∷ refuses four (file 0 (0 ∷ 0 ∷ 0 ∷ 16 ∷ [])) 14
    -- the base is not a multiple of 16, is 0, or leaves no room for the blocks; t is another; the pool is shorter or longer, or the table is; the root list is not whole words
    ∷ refuses four (file_at (8 ∷ 16 ∷ 0 ∷ 0 ∷ []) 0 (0 ∷ 0 ∷ 0 ∷ 0 ∷ [])) 1
    ∷ refuses four (file_at (0 ∷ 0 ∷ 0 ∷ 0 ∷ []) 0 (0 ∷ 0 ∷ 0 ∷ 0 ∷ [])) 1
    ∷ refuses four (file_at (208 ∷ 255 ∷ 255 ∷ 255 ∷ []) 0 (0 ∷ 0 ∷ 0 ∷ 0 ∷ [])) 1
    ∷ refuses eight one_image 1
    ∷ refuses (record { t = 1; memory = memory (sevens 63) (255 ∷ 254 ∷ []); roots = sevens 12 }) one_image 1
    ∷ refuses (record { t = 1; memory = memory (sevens 128) (255 ∷ 254 ∷ []); roots = sevens 12 }) one_image 1
    ∷ refuses (record { t = 1; memory = memory (sevens 64) (255 ∷ []); roots = sevens 12 }) one_image 1
    ∷ refuses (record { t = 1; memory = memory (sevens 64) (255 ∷ 254 ∷ 0 ∷ []); roots = sevens 12 }) one_image 1
    ∷ refuses (four_with (sevens 5)) one_image 1
    -- a fault of the file comes before 1, which comes before 2, which comes before a short root list
    ∷ refuses (four_with (sevens 5)) (one_image ++ 0 ∷ []) 16
    ∷ refuses (record { t = 1; memory = memory (sevens 64) (255 ∷ []); roots = sevens 12 }) (one_image ++ 0 ∷ []) 16
    ∷ refuses (four_with (sevens 5)) marked 1
    ∷ refuses (four_with []) marked 2
    ∷ refuses (four_with []) one_image 17
    ∷ []

-- there are so many
pub file_examples_number : length file_examples ≡ 35
unfolding file_examples
file_examples_number = refl

-- every example is as it should be
pub file_examples_hold : map (λ (x : FileExample). x.is) file_examples ≡ map (λ (x : FileExample). x.ought) file_examples
unfolding file_examples count tabulate bit_of bit_at byte_of number first_two word_at entry_of entries_of plane_bytes entry_in entries_in spare spare_free plane planes_of may_follow well_after well_formed used address_of good_base unless_refused first_of good_shape section_in section_tests file_of file_tests fault_of pool_of good_target open_image step or_refused perform
file_examples_hold = refl

-- The 33 bytes open for a root list of more than 4,096 entries too, whatever it holds behind the first.
abbrev pub LongList : Type 0
LongList =
    (rest : List ℕ) → length rest ≡ 16384
    → opened (four_with (sevens 4 ++ rest)) one_image ≡ filling (opened_at 4096 1) (memory (zeros 64) (1 ∷ 0 ∷ [])) ((0 ∷ 16 ∷ 0 ∷ 0 ∷ []) ++ rest)

pub long_list : LongList
unfolding count tabulate bit_of bit_at byte_of number first_two word_at entry_of entries_of plane_bytes entry_in entries_in spare spare_free plane planes_of may_follow well_after well_formed used address_of good_base unless_refused first_of good_shape section_in section_tests file_of file_tests fault_of pool_of good_target open_image step or_refused perform
long_list rest r = rw r refl

-- Each of the 33 beginnings of those 33 bytes is cut short.
abbrev pub PrefixesCutShort : Type 0
PrefixesCutShort = map (λ (n : ℕ). opened four (take n one_image)) (tabulate 33 (λ (n : ℕ). n)) ≡ replicate 33 (unopened four 14)

pub prefixes_cut_short : PrefixesCutShort
unfolding count tabulate bit_of bit_at byte_of number first_two word_at entry_of entries_of plane_bytes entry_in entries_in spare spare_free plane planes_of may_follow well_after well_formed used address_of good_base unless_refused first_of good_shape section_in section_tests file_of file_tests fault_of pool_of good_target open_image step or_refused perform
prefixes_cut_short = refl
