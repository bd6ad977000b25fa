-- Lists of calls: each gets the heap as the one before left it.
-- Assumes nothing.
use Rattle.std.specs.Prelude.{◌≡◌, Bool, true, false, List, [], ◌∷◌, ℕ}
use Rattle.std.proofs.Math.Option.{Option, some, none}
use Rattle.rules.specs.Outcomes.{Heap, Answer, Outcome}
use Rattle.rules.specs.Calls.{init, allocate, free, reallocate, collect, survey, load, store, write_image, open_image}

-- a call with all its arguments except pool, table, mark stack and what is in a buffer. Every call takes the base first, but for one that finds it in a file
pub data Call : Type 0 where
  Init : ℕ → Call
  -- bytes
  Allocate : ℕ → ℕ → Call
  -- block
  Free : ℕ → ℕ → Call
  -- block, bytes
  Reallocate : ℕ → ℕ → ℕ → Call
  -- roots, four bytes to a word
  Collect : ℕ → List ℕ → Call
  Survey : ℕ → Call
  -- block, word index
  Load : ℕ → ℕ → ℕ → Call
  -- block, word index, word
  Store : ℕ → ℕ → ℕ → ℕ → Call
  -- roots, the length of the buffer for the image
  WriteImage : ℕ → List ℕ → ℕ → Call
  -- the file, the length of the root list in bytes
  OpenImage : List ℕ → ℕ → Call

-- a call on a heap. The mark stack is lent to a collection; no other call looks at it
unfoldable pub step : Call → List ℕ → Heap → Outcome
step (Init base) stack h = init base h
step (Allocate base bytes) stack h = allocate base h bytes
step (Free base k) stack h = free base h k
step (Reallocate base k bytes) stack h = reallocate base h k bytes
step (Collect base roots) stack h = collect base h roots stack
step (Survey base) stack h = survey base h
step (Load base k i) stack h = load base h k i
step (Store base k i w) stack h = store base h k i w
step (WriteImage base roots room) stack h = write_image base h roots room
step (OpenImage image room) stack h = open_image h image room

-- the file that a call reads, if it reads one
abbrev pub file_in : Call → Option (List ℕ)
file_in (Init base) = none
file_in (Allocate base bytes) = none
file_in (Free base k) = none
file_in (Reallocate base k bytes) = none
file_in (Collect base roots) = none
file_in (Survey base) = none
file_in (Load base k i) = none
file_in (Store base k i w) = none
file_in (WriteImage base roots room) = none
file_in (OpenImage image room) = some image

-- that file, if there is one, has this property
abbrev pub FileIs : (List ℕ → Type 0) → Call → Type 0
FileIs P c = (image : List ℕ) → file_in c ≡ some image → P image

-- whether the call fills a whole heap, whatever was there
abbrev pub starts_anew : Call → Bool
starts_anew (Init base) = true
starts_anew (Allocate base bytes) = false
starts_anew (Free base k) = false
starts_anew (Reallocate base k bytes) = false
starts_anew (Collect base roots) = false
starts_anew (Survey base) = false
starts_anew (Load base k i) = false
starts_anew (Store base k i w) = false
starts_anew (WriteImage base roots room) = false
starts_anew (OpenImage image room) = true

-- a call and the mark stack that is lent to it
pub record Turn : Type 0 where
  pub call : Call
  pub stack : List ℕ

-- so have all files that the calls read
pub data EveryFile (P : List ℕ → Type 0) : List Turn → Type 0 where
  done : EveryFile P []
  next : {t : Turn} {ts : List Turn} → FileIs P t.call → EveryFile P ts → EveryFile P (t ∷ ts)

-- the heap after the calls
unfoldable pub after : List Turn → Heap → Heap
after [] h = h
after (t ∷ ts) h = after ts (step t.call t.stack h).heap

-- the answers, in order
unfoldable pub answers : List Turn → Heap → List Answer
answers [] h = []
answers (t ∷ ts) h = (step t.call t.stack h).answer ∷ answers ts (step t.call t.stack h).heap

-- what the calls wrote into buffers, in order
unfoldable pub fillings : List Turn → Heap → List (List ℕ)
fillings [] h = []
fillings (t ∷ ts) h = (step t.call t.stack h).filled ∷ fillings ts (step t.call t.stack h).heap
