-- The refusals as conditions in sentences, those of each call in rising order, of a file from its front. The first that holds gives the number.
-- Assumes nothing.
use Rattle.std.specs.Prelude.{◌≡◌, ◌≢◌, ◌⊎◌, List, [], ◌∷◌, ℕ, suc, ◌+◌, ◌*◌, ◌/◌, ◌%◌, ◌≤◌, ◌<◌, length, get_or, take, drop}
use Rattle.rules.specs.Words.{number}
use Rattle.rules.specs.Entries.{HEAD, entries_of}
use Rattle.rules.specs.Tables.{entry_at, block_count, used}
use Rattle.laws.specs.Meaning.{Well, Fits, GrowsInPlace, Shape}
use Rattle.rules.specs.Outcomes.{Heap}
use Rattle.rules.specs.Calls.{blocks_for}

-- a refusal number and its condition
pub record Condition : Type 1 where
  pub number : ℕ
  pub holds : Type 0

abbrev pub when : ℕ → Type 0 → Condition
when r holds = record { number = r; holds = holds }

-- r is the number of the first condition that holds, and 0 if none does
unfoldable pub First : List Condition → ℕ → Type 0
First [] r = r ≡ 0
First (c ∷ cs) r = (c.holds × (r ≡ c.number)) ⊎ (¬ c.holds × First cs r)

-- the object at k, which is to have b' blocks, may get them where it is: they are aligned there, and those that join it are FREE
abbrev pub RoomAfter : Heap → ℕ → ℕ → Type 0
RoomAfter h k b' = GrowsInPlace h.entries k (block_count h.entries k) b'

-- b blocks may start nowhere: no run of FREE blocks is long enough from an aligned block on
abbrev pub NoFit : Heap → ℕ → Type 0
NoFit h b = (s : ℕ) → ¬ Fits h.entries b s

-- the object at k, which is to have more blocks, b', has room neither where it is nor elsewhere
abbrev pub NoWay : Heap → ℕ → ℕ → Type 0
NoWay h k b' = (block_count h.entries k < b') × ¬ RoomAfter h k b' × NoFit h b'

unfoldable pub of_init : ℕ → Heap → List Condition
of_init base h = when 1 (¬ Shape base h) ∷ []

unfoldable pub of_allocate : ℕ → Heap → ℕ → List Condition
of_allocate base h bytes = when 1 (¬ Shape base h) ∷ when 2 (¬ Well h.entries) ∷ when 5 (bytes ≡ 0) ∷ when 9 (NoFit h (blocks_for bytes)) ∷ []

unfoldable pub of_free : ℕ → Heap → ℕ → List Condition
of_free base h k =
    when 1 (¬ Shape base h) ∷ when 2 (¬ Well h.entries) ∷ when 6 (length h.entries ≤ k) ∷ when 7 (entry_at h.entries k ≢ HEAD) ∷ []

unfoldable pub of_reallocate : ℕ → Heap → ℕ → ℕ → List Condition
of_reallocate base h k bytes =
    when 1 (¬ Shape base h) ∷ when 2 (¬ Well h.entries) ∷ when 5 (bytes ≡ 0) ∷ when 6 (length h.entries ≤ k) ∷ when 7 (entry_at h.entries k ≢ HEAD)
    ∷ when 9 (NoWay h k (blocks_for bytes)) ∷ []

-- of a collection, 1 is also for roots or a mark stack that are not whole words
unfoldable pub of_collect : ℕ → Heap → List ℕ → List ℕ → List Condition
of_collect base h roots stack =
    when 1 (¬ (Shape base h × (length roots % 4 ≡ 0) × (length stack % 4 ≡ 0))) ∷ when 2 (¬ Well h.entries) ∷ when 3 (4096 < length roots / 4)
    ∷ when 4 (64 < length stack / 4) ∷ []

unfoldable pub of_survey : ℕ → Heap → List Condition
of_survey base h = when 1 (¬ Shape base h) ∷ when 2 (¬ Well h.entries) ∷ []

-- of load and of store
unfoldable pub of_word : ℕ → Heap → ℕ → ℕ → List Condition
of_word base h k i =
    when 1 (¬ Shape base h) ∷ when 2 (¬ Well h.entries) ∷ when 6 (length h.entries ≤ k) ∷ when 7 (entry_at h.entries k ≢ HEAD)
    ∷ when 8 (4 * block_count h.entries k ≤ i) ∷ []

-- how many bytes an image has: six of the base with its count, and the other three counts; a byte for four blocks; 16 for each used block; the roots
abbrev pub image_length : Heap → List ℕ → ℕ
image_length h roots = 12 + length h.entries / 4 + 16 * used h.entries + length roots

-- of an image for a buffer of so many bytes: 1 is also for roots that are not whole words
unfoldable pub of_write_image : ℕ → Heap → List ℕ → ℕ → List Condition
of_write_image base h roots room =
    when 1 (¬ (Shape base h × (length roots % 4 ≡ 0))) ∷ when 2 (¬ Well h.entries) ∷ when 3 (4096 < length roots / 4)
    ∷ when 10 (room < image_length h roots) ∷ []

-- ---- a file, by the places of its bytes

-- the count in the two bytes at place i, the first the lowest
abbrev pub count_at : List ℕ → ℕ → ℕ
count_at image i = get_or image i 0 + 256 * get_or image (suc i) 0

-- the base, in the four bytes from place 2 on
abbrev pub base_in : List ℕ → ℕ
base_in image = number (get_or image 2 0) (get_or image 3 0) (get_or image 4 0) (get_or image 5 0)

-- how many bytes its table has, counted at place 6, and the entries in these, four to a byte
abbrev pub table_count : List ℕ → ℕ
table_count image = count_at image 6

abbrev pub file_entries : List ℕ → List ℕ
file_entries image = entries_of (take (table_count image) (drop 8 image))

-- how many of them are not FREE
abbrev pub used_count : List ℕ → ℕ
used_count image = used (file_entries image)

-- the places of the count of blocks, and of that of the roots
abbrev pub block_place : List ℕ → ℕ
block_place image = 8 + table_count image

abbrev pub root_place : List ℕ → ℕ
root_place image = 10 + table_count image + 16 * used_count image

abbrev pub root_count : List ℕ → ℕ
root_count image = count_at image (root_place image)

-- where the roots end, and the file should
abbrev pub file_end : List ℕ → ℕ
file_end image = root_place image + 2 + 4 * root_count image

-- pool and table are as large as the file's, its base suits them, and the root list, of so many bytes, is whole words
abbrev pub Suits : Heap → List ℕ → ℕ → Type 0
Suits h image room = Shape (base_in image) h × (length h.entries ≡ 4 * table_count image) × (room % 4 ≡ 0)

-- Of the opening of a file: the first fault from the front. A count is wrong before its body is too short. Then 1, also if what is lent does not suit the file, 2 of its table,
-- and 17 if the root list is shorter than its roots
unfoldable pub of_open_image : Heap → List ℕ → ℕ → List Condition
of_open_image h image room =
    when 14 (length image < 2) ∷ when 15 (count_at image 0 ≢ 1) ∷ when 14 (length image < 6)
    ∷ when 14 (length image < 8) ∷ when 15 (¬ ((1 ≤ table_count image) × (table_count image ≤ 1024))) ∷ when 14 (length image < block_place image)
    ∷ when 14 (length image < block_place image + 2) ∷ when 15 (count_at image (block_place image) ≢ used_count image) ∷ when 14 (length image < root_place image)
    ∷ when 14 (length image < root_place image + 2) ∷ when 3 (4096 < root_count image) ∷ when 14 (length image < file_end image)
    ∷ when 16 (file_end image < length image)
    ∷ when 1 (¬ Suits h image room) ∷ when 2 (¬ Well (file_entries image)) ∷ when 17 (room < 4 * root_count image)
    ∷ []
