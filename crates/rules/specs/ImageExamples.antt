-- Heap images, byte by byte, of heaps at base 4,096 (one at 536,870,928): the result of each writing, with all of the buffer that was lent for it.
-- Assumes nothing.
use Rattle.std.specs.Prelude.{◌≡◌, refl, List, [], ◌∷◌, ◌++◌, map, ℕ, length, replicate}
use Rattle.rules.specs.Tests.{count, tabulate}
use Rattle.rules.specs.Bits.{bit_of, bit_at, byte_of}
use Rattle.rules.specs.Words.{bytes_of, two_bytes_of}
use Rattle.rules.specs.Entries.{table_of}
use Rattle.rules.specs.Tables.{may_follow, well_after, well_formed, used}
use Rattle.rules.specs.Pointers.{address_of, good_base}
use Rattle.rules.specs.Planes.{plane_bytes, entry_in, entries_in, spare, spare_free, plane, planes_of, planes}
use Rattle.rules.specs.Outcomes.{only_refusal, written_to, unless_refused}
use Rattle.rules.specs.Refusals.{first_of, good_shape, whole_words}
use Rattle.rules.specs.Images.{section, sections, block_bytes, used_from, image_of}
use Rattle.rules.specs.Calls.{write_image}
use Rattle.rules.specs.Runs.{WriteImage, step}
use Rattle.rules.specs.Memory.{Memory, memory, Result, filling, with_buffer, or_refused, perform}
use Rattle.rules.specs.Examples.{zeros, fives, sevens}

-- the result of a writing with its buffer, and what it should be
pub record ImageExample : Type 0 where
  pub is : Result
  pub ought : Result

-- a heap at a base, in memory with t, and roots
pub record Source : Type 0 where
  pub t : ℕ
  pub base : ℕ
  pub memory : Memory
  pub roots : List ℕ

-- its image, written into the buffer
abbrev pub into : List ℕ → Source → Result
into buffer s = with_buffer buffer (perform (planes s.t) (WriteImage s.base s.roots (length buffer)) [] s.memory)

-- the buffer's bytes are then an image, and after it what was there
abbrev pub writes : Source → List ℕ → List ℕ → List ℕ → ImageExample
writes s buffer image after = record {
  is = into buffer s;
  ought = filling (written_to (length image)) s.memory (image ++ after);
}

-- or it is refused, and they are as they were
abbrev pub refuses : Source → List ℕ → ℕ → ImageExample
refuses s buffer r = record { is = into buffer s; ought = filling (only_refusal r) s.memory buffer }

-- ---- the heaps

-- one object, of block 0, in a pool of zeros; the root is its address
abbrev pub one : Source
one = record { t = 1; base = 4096; memory = memory (zeros 64) (1 ∷ 0 ∷ []); roots = 0 ∷ 16 ∷ 0 ∷ 0 ∷ [] }

-- its image, of 33 bytes: the base after a count of 1, a table of 1 byte, 1 block, 1 root
abbrev pub one_image : List ℕ
one_image = (0x01 ∷ 0x00 ∷ 0x00 ∷ 0x10 ∷ 0x00 ∷ 0x00 ∷ 0x01 ∷ 0x00 ∷ 0x01 ∷ 0x01 ∷ 0x00 ∷ []) ++ replicate 16 0x00 ++ (0x01 ∷ 0x00 ∷ 0x00 ∷ 0x10 ∷ 0x00 ∷ 0x00 ∷ [])

-- no object and no root: no byte of the pool is written
abbrev pub none : Source
none = record { t = 1; base = 4096; memory = memory (sevens 64) (0 ∷ 0 ∷ []); roots = [] }

-- an object of blocks 1 and 2, with a FREE block before it and one after it; the roots are no addresses
abbrev pub middle : Source
middle = record { t = 1; base = 4096; memory = memory (sevens 16 ++ fives 16 ++ zeros 16 ++ sevens 16) (2 ∷ 4 ∷ []); roots = 239 ∷ 190 ∷ 173 ∷ 222 ∷ 5 ∷ 0 ∷ 0 ∷ 0 ∷ [] }

-- twelve blocks, t odd: HEAD HEAD TAIL HEAD, FREE HEAD TAIL HEAD, HEAD HEAD TAIL TAIL, so 101, 100 and 165 packed
abbrev pub odd : Source
odd = record { t = 3; base = 536870928; memory = memory (fives 64 ++ sevens 16 ++ fives 112) (171 ∷ 3 ∷ 68 ∷ 12 ∷ []); roots = [] }

-- as many roots as need the second byte of their count
abbrev pub rooted : Source
rooted = record { t = 1; base = 4096; memory = memory (sevens 64) (0 ∷ 0 ∷ []); roots = fives 1028 }

unfoldable pub image_examples : List ImageExample
image_examples =
    -- into a buffer that is longer, one that is as long, one that is a byte shorter, and none
    writes one (sevens 40) one_image (sevens 7)
    ∷ writes one (sevens 33) one_image []
    ∷ refuses one (sevens 32) 10
    ∷ refuses one [] 10
    ∷ writes none (fives 15) (1 ∷ 0 ∷ 0 ∷ 16 ∷ 0 ∷ 0 ∷ 1 ∷ 0 ∷ 0 ∷ 0 ∷ 0 ∷ 0 ∷ 0 ∷ []) (fives 2)
    ∷ writes middle (sevens 54) ((1 ∷ 0 ∷ 0 ∷ 16 ∷ 0 ∷ 0 ∷ 1 ∷ 0 ∷ 36 ∷ 2 ∷ 0 ∷ []) ++ fives 16 ++ zeros 16 ++ (2 ∷ 0 ∷ 239 ∷ 190 ∷ 173 ∷ 222 ∷ 5 ∷ 0 ∷ 0 ∷ 0 ∷ [])) (sevens 1)
    ∷ writes odd (zeros 191) ((1 ∷ 0 ∷ 16 ∷ 0 ∷ 0 ∷ 32 ∷ 3 ∷ 0 ∷ 101 ∷ 100 ∷ 165 ∷ 11 ∷ 0 ∷ []) ++ fives 176 ++ (0 ∷ 0 ∷ [])) []
    ∷ writes rooted (zeros 1041) ((1 ∷ 0 ∷ 0 ∷ 16 ∷ 0 ∷ 0 ∷ 1 ∷ 0 ∷ 0 ∷ 0 ∷ 0 ∷ 1 ∷ 1 ∷ []) ++ fives 1028) []
    -- roots that are not whole words are 1, before a spare bit and before a short buffer
    ∷ refuses (record { t = 1; base = 4096; memory = memory (zeros 64) (16 ∷ 0 ∷ []); roots = sevens 5 }) (sevens 8) 1
    ∷ []

-- there are so many
pub image_examples_number : length image_examples ≡ 9
unfolding image_examples
image_examples_number = refl

-- every example is as it should be
pub image_examples_hold : map (λ (x : ImageExample). x.is) image_examples ≡ map (λ (x : ImageExample). x.ought) image_examples
unfolding image_examples count tabulate bit_of bit_at byte_of bytes_of two_bytes_of table_of plane_bytes entry_in entries_in spare spare_free plane planes_of may_follow well_after well_formed used address_of good_base unless_refused first_of good_shape whole_words section sections block_bytes used_from image_of write_image step or_refused perform
image_examples_hold = refl

-- a heap with this low plane, and these roots
abbrev pub many_rooted : ℕ → List ℕ → Source
many_rooted low roots = record { t = 1; base = 4096; memory = memory (zeros 64) (low ∷ 0 ∷ []); roots = roots }

-- Too many roots, whatever they are, are 3: behind a spare bit, which is 2, and before a short buffer.
abbrev pub ManyRoots : Type 0
ManyRoots =
    (roots : List ℕ) → length roots ≡ 16388
    → (into (sevens 8) (many_rooted 16 roots) ≡ filling (only_refusal 2) (many_rooted 16 roots).memory (sevens 8))
    × (into (sevens 8) (many_rooted 1 roots) ≡ filling (only_refusal 3) (many_rooted 1 roots).memory (sevens 8))

pub many_roots : ManyRoots
unfolding count tabulate bit_of bit_at byte_of bytes_of two_bytes_of table_of plane_bytes entry_in entries_in spare spare_free plane planes_of may_follow well_after well_formed used address_of good_base unless_refused first_of good_shape whole_words section sections block_bytes used_from image_of write_image step or_refused perform
many_roots roots r = (rw r refl, rw r refl)
