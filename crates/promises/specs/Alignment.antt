-- Where large objects start. No call makes an object of four blocks or more at a block that is not divisible by four, and none lets an object there grow to so many; so
-- from init on, or from the opening of a file without one, there is none until a file with one is opened. Tables of old heaps and files may have some: they are left where they are until they grow.
-- Assumes nothing.
use Rattle.std.specs.Prelude.{◌≡◌, ◌⊎◌, true, List, ◌∷◌, ℕ, ◌≤◌}
use Rattle.laws.specs.Meaning.{Aligned}
use Rattle.rules.specs.Outcomes.{Heap}
use Rattle.rules.specs.Forms.{Form}
use Rattle.laws.specs.Faithful.{Faithful}
use Rattle.rules.specs.Tables.{well_formed}
use Rattle.rules.specs.Files.{fault_of, file_of, heap_of_file}
use Rattle.rules.specs.Runs.{Turn, EveryFile, starts_anew}
use Rattle.rules.specs.Memory.{Memory, heap_in, AcceptedIn, turn_in, after_in}
use Rattle.promises.specs.Promises.{Object, blocks_of}

-- every object is aligned: it has fewer than four blocks, or starts at a block divisible by four
abbrev pub AllAligned : Heap → Type 0
AllAligned h = (o : ℕ) → Object h o → Aligned (blocks_of h o) o

-- the object o was there before, with as many blocks or more
pub record Older (before after : Heap) (o : ℕ) : Type 0 where
  pub head : Object before o
  pub blocks : blocks_of after o ≤ blocks_of before o

-- every object is aligned, unless it was there before with as many blocks or more
abbrev pub NewAligned : Heap → Heap → Type 0
NewAligned before after = (o : ℕ) → Object after o → Aligned (blocks_of after o) o ⊎ Older before after o

-- the file has only such objects; nothing is asked of one that cannot be opened for a fault of its own, or because its table is ill-formed
abbrev pub FileAligned : List ℕ → Type 0
FileAligned image = fault_of image ≡ 0 → well_formed (heap_of_file (file_of image)).entries ≡ true → AllAligned (heap_of_file (file_of image))

-- Every list of calls, refused ones included, leaves such a heap of whatever heap the memory held, for every form of the table, if the files that it is to open have only such objects.
abbrev pub NewObjectsAligned : Type 0
NewObjectsAligned = (f : Form) → Faithful f → (ts : List Turn) → EveryFile FileAligned ts → (m : Memory) → NewAligned (heap_in f m) (heap_in f (after_in f ts m))

-- From an accepted init or opening on, every object is aligned after every list of calls, if the files that they are to open have only such objects.
abbrev pub AlignedFromStart : Type 0
AlignedFromStart =
    (f : Form) → Faithful f → (first : Turn) (ts : List Turn) → starts_anew first.call ≡ true → EveryFile FileAligned (first ∷ ts) → (m : Memory) → AcceptedIn (turn_in f first m)
    → AllAligned (heap_in f (after_in f (first ∷ ts) m))
