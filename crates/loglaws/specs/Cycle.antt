-- The full cycle: from an accepted init on, any number of appends and drops is to their user what it is on a plain list of pairs, refusals and all.
-- Assumes nothing.
use Rattle.std.specs.Prelude.{◌≡◌, not, List, [], ◌∷◌, ◌++◌, map, ℕ, ◌*◌, ◌/◌, ◌^◌, ◌<◌, eqb, leb, ltb, ℤ, pos, neg_ℤ, length}
use Rattle.rules.specs.Tests.{pick, both}
use Rattle.rules.specs.Refusals.{test, first_of, whole_words}
use Rattle.rules.specs.Forms.{Form}
use Rattle.rules.specs.Planes.{planes}
use Rattle.rules.specs.Runs.{Init}
use Rattle.rules.specs.Memory.{Memory, AcceptedIn, perform}
use Rattle.programs.specs.Programs.{Program, Ran, run}
use Rattle.logs.specs.Log.{Reply, append, read, drop}
use Rattle.loglaws.specs.Pairs.{Pair, read_pairs}

-- what a logger does
pub data Deed : Type 0 where
  -- time, tips, the caller's roots, the lent mark stack
  Append : ℕ → ℕ → List ℕ → List ℕ → Deed
  Drop : Deed

-- ---- deeds on the log

-- the program of a deed, on the log with this first address, and the mark stack that is lent to it
abbrev pub program_of : ℕ → ℕ → Deed → Program Reply
program_of base first (Append time tips roots stack) = append base first time tips roots stack
program_of base first Drop = drop base first

abbrev pub stack_of : Deed → List ℕ
stack_of (Append time tips roots stack) = stack
stack_of Drop = []

abbrev pub ran_to : Form → ℕ → Deed → ℕ → Memory → Ran Reply
ran_to f base d first m = run f (program_of base first d) (stack_of d) m

-- the logger keeps the answered first address, and after a refusal the old one
abbrev pub first_by : ℕ → Reply → ℕ
first_by first r = pick (eqb r.refusal 0) r.first first

-- the replies to some deeds, in order
unfoldable pub replies_to : Form → ℕ → List Deed → ℕ → Memory → List Reply
replies_to f base [] first m = []
replies_to f base (d ∷ ds) first m =
    let r : Ran Reply = ran_to f base d first m in
    r.reply ∷ replies_to f base ds (first_by first r.reply) r.memory

-- the first address after them
unfoldable pub first_after : Form → ℕ → List Deed → ℕ → Memory → ℕ
first_after f base [] first m = first
first_after f base (d ∷ ds) first m =
    let r : Ran Reply = ran_to f base d first m in
    first_after f base ds (first_by first r.reply) r.memory

-- and the memory
unfoldable pub memory_after : Form → ℕ → List Deed → ℕ → Memory → Memory
memory_after f base [] first m = m
memory_after f base (d ∷ ds) first m =
    let r : Ran Reply = ran_to f base d first m in
    memory_after f base ds (first_by first r.reply) r.memory

-- ---- the same deeds on a plain list with room for so many pairs

-- what a deed tells: its refusal number, and the change in used blocks
pub record Told : Type 0 where
  pub refusal : ℕ
  pub change : ℤ

abbrev pub told : Reply → Told
told r = record { refusal = r.refusal; change = r.change }

-- by which number a deed is refused: an append by 1, 3 or 4 for its lists and by 9 where the list is full, a drop by 19 where it is empty
unfoldable pub refused_on : ℕ → Deed → List Pair → ℕ
refused_on room (Append time tips roots stack) ps =
    first_of
    (test 1 (not (both (whole_words roots) (whole_words stack)))
    ∷ test 3 (leb 4096 (length roots / 4))
    ∷ test 4 (ltb 64 (length stack / 4))
    ∷ test 9 (leb room (length ps))
    ∷ [])
refused_on room Drop ps = first_of (test 19 (leb (length ps) 0) ∷ [])

-- what it does else: an append adds its pair at the end, a drop takes the first away
unfoldable pub done_on : Deed → List Pair → List Pair
done_on (Append time tips roots stack) ps = ps ++ record { time = time; tips = tips } ∷ []
done_on Drop [] = []
done_on Drop (p ∷ ps) = ps

-- each pair is two blocks
abbrev pub change_of : Deed → ℤ
change_of (Append time tips roots stack) = pos 2
change_of Drop = neg_ℤ (pos 2)

-- a refused deed changes nothing. So does 9: all objects are in the log, and append's collection frees none
abbrev pub told_on : ℕ → Deed → List Pair → Told
told_on room d ps = record { refusal = refused_on room d ps; change = pick (eqb (refused_on room d ps) 0) (change_of d) (pos 0) }

abbrev pub pairs_on : ℕ → Deed → List Pair → List Pair
pairs_on room d ps = pick (eqb (refused_on room d ps) 0) (done_on d ps) ps

-- what some deeds tell, in order
unfoldable pub told_by : ℕ → List Deed → List Pair → List Told
told_by room [] ps = []
told_by room (d ∷ ds) ps = told_on room d ps ∷ told_by room ds (pairs_on room d ps)

-- the list after them
unfoldable pub pairs_after : ℕ → List Deed → List Pair → List Pair
pairs_after room [] ps = ps
pairs_after room (d ∷ ds) ps = pairs_after room ds (pairs_on room d ps)

-- ---- the log is that list

-- time and tips are words, as C's are
unfoldable pub InWords : Deed → Type 0
InWords (Append time tips roots stack) = (time < 2 ^ 32) × (tips < 2 ^ 32)
InWords Drop = Unit {0}

pub data AllInWords : List Deed → Type 0 where
  done : AllInWords []
  next : {d : Deed} {ds : List Deed} → InWords d → AllInWords ds → AllInWords (d ∷ ds)

-- how many pairs 4t blocks have room for
abbrev pub room_in : ℕ → ℕ
room_in t = 2 * t

-- From an accepted init on, with the empty log, whose first address is 0: the deeds tell what they tell on the empty list, and then a read replies what a read of the list does,
-- at every index. As the deeds are any, so it is after each of them.
unfoldable pub LogIsList : Type 0
LogIsList =
    (t base : ℕ) (m : Memory) (ds : List Deed) → AllInWords ds → AcceptedIn (perform (planes t) (Init base) [] m)
    → let m₀ : Memory = (perform (planes t) (Init base) [] m).memory in
    (map told (replies_to (planes t) base ds 0 m₀) ≡ told_by (room_in t) ds [])
    × ((index : ℕ) → (run (planes t) (read base (first_after (planes t) base ds 0 m₀) index) [] (memory_after (planes t) base ds 0 m₀)).reply
    ≡ read_pairs (pairs_after (room_in t) ds []) index)
