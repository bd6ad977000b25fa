-- Lent memory: what the caller hands to every call, in bytes, and what a call leaves of it.
-- The rules speak of a heap, which is a pool and a list of entries (Calls, Runs). Here the same calls are said of bytes. The heap is read from them by the table's form;
-- a refused call leaves every byte as it was, and an accepted one the bytes that its entries are written as.
-- Assumes nothing.
use Rattle.std.specs.Prelude.{◌≡◌, Bool, true, false, not, List, [], ◌∷◌, ◌++◌, ℕ, zero, suc, eqb, length, drop}
use Rattle.std.proofs.Math.Option.{Option, some, none}
use Rattle.rules.specs.Tests.{both, either}
use Rattle.rules.specs.Forms.{Form}
use Rattle.rules.specs.Outcomes.{Heap, Answer, Outcome, only_refusal}
use Rattle.rules.specs.Refusals.{Test, test, first_of}
use Rattle.rules.specs.Files.{fault_of}
use Rattle.rules.specs.Runs.{Call, Init, Allocate, Free, Reallocate, Collect, Survey, Load, Store, WriteImage, OpenImage, step, file_in, Turn}

-- the bytes of a heap, which are lent to every call. What else is lent lies beside them (Lent)
pub record Memory : Type 0 where
  pub pool : List ℕ
  pub table : List ℕ

abbrev pub memory : List ℕ → List ℕ → Memory
memory pool table = record { pool = pool; table = table }

-- the heap that the memory holds
abbrev pub heap_in : Form → Memory → Heap
heap_in f m = record { pool = m.pool; entries = f.read m.table }

-- the lengths fit: else it is refusal 1
abbrev pub lengths_fit : Form → Memory → Bool
lengths_fit f m = f.fits m.table

-- its lengths fit, and its table is as the form asks
pub record Sound (f : Form) (m : Memory) : Type 0 where
  pub fits : lengths_fit f m ≡ true
  pub clean : f.clean m.table ≡ true

-- the memory that an accepted call leaves, with this heap in it
abbrev pub holding : Form → Call → Memory → Heap → Memory
holding f c m h = memory h.pool (f.write h.entries)

-- the answer, and what all that was lent then holds
pub record Result : Type 0 where
  pub answer : Answer
  pub memory : Memory
  -- the mark stack; only a collection takes one
  pub stack : List ℕ
  -- what the call wrote, from the front on, into a buffer that was lent for it to fill: an image, or the roots of one
  pub filled : List ℕ

abbrev pub result : Answer → Memory → List ℕ → Result
result a m stack = record { answer = a; memory = m; stack = stack; filled = [] }

-- of a call that takes no mark stack and fills a buffer
abbrev pub filling : Answer → Memory → List ℕ → Result
filling a m bytes = record { answer = a; memory = m; stack = []; filled = bytes }

-- the result with all of the buffer that was lent to be filled: what the call wrote, and behind it what was there
abbrev pub with_buffer : List ℕ → Result → Result
with_buffer buffer r = record { answer = r.answer; memory = r.memory; stack = r.stack; filled = r.filled ++ drop (length r.filled) buffer }

-- the call is accepted
abbrev pub AcceptedIn : Result → Type 0
AcceptedIn r = r.answer.refusal ≡ 0

-- the mark stack that a call gets: none but a collection takes one
abbrev pub stack_for : Call → List ℕ → List ℕ
stack_for (Init base) stack = []
stack_for (Allocate base bytes) stack = []
stack_for (Free base k) stack = []
stack_for (Reallocate base k bytes) stack = []
stack_for (Collect base roots) stack = stack
stack_for (Survey base) stack = []
stack_for (Load base k i) stack = []
stack_for (Store base k i w) stack = []
stack_for (WriteImage base roots room) stack = []
stack_for (OpenImage image room) stack = []

-- whether the call reads the table: init and the opening of an image only fill it, and do not test what it held
abbrev pub reads_table : Call → Bool
reads_table (Init base) = false
reads_table (Allocate base bytes) = true
reads_table (Free base k) = true
reads_table (Reallocate base k bytes) = true
reads_table (Collect base roots) = true
reads_table (Survey base) = true
reads_table (Load base k i) = true
reads_table (Store base k i w) = true
reads_table (WriteImage base roots room) = true
reads_table (OpenImage image room) = false

-- the fault of the file that a call reads, 0 if it has none or there is no file
abbrev pub fault_by : Option (List ℕ) → ℕ
fault_by none = 0
fault_by (some image) = fault_of image

abbrev pub fault_in : Call → ℕ
fault_in c = fault_by (file_in c)

-- The tests of a call on lent memory, where the call on the heap in it is refused by r, or not if r is 0: the fault of a file; then those that come first in the other calls,
-- which are 1 and 2 with what the form adds to them; then the call's own. What is tested last comes after these.
abbrev pub tests_in : Form → Call → Memory → ℕ → List Test
tests_in f c m r =
    test (fault_in c) (not (eqb (fault_in c) 0))
    ∷ test 1 (either (eqb r 1) (not (lengths_fit f m)))
    ∷ test 2 (either (eqb r 2) (both (reads_table c) (not (f.clean m.table))))
    ∷ test r (not (eqb r 0))
    ∷ []

-- on a refusal only the number is answered, and every byte is as it was
unfoldable pub or_refused : ℕ → Memory → List ℕ → Result → Result
or_refused zero m stack done = done
or_refused (suc r) m stack done = result (only_refusal (suc r)) m stack

-- what an accepted call gives
abbrev pub done_in : Form → Call → List ℕ → Memory → Result
done_in f c stack m =
    let o : Outcome = step c stack (heap_in f m) in
    record { answer = o.answer; memory = holding f c m o.heap; stack = o.stack; filled = o.filled }

-- a call on lent memory, with the mark stack that is lent for it
unfoldable pub perform : Form → Call → List ℕ → Memory → Result
perform f c stack m =
    or_refused (first_of (tests_in f c m (step c stack (heap_in f m)).answer.refusal)) m (stack_for c stack) (done_in f c stack m)

-- ---- lists of calls, each on the memory as the one before left it

abbrev pub turn_in : Form → Turn → Memory → Result
turn_in f t m = perform f t.call t.stack m

-- the memory after the calls
unfoldable pub after_in : Form → List Turn → Memory → Memory
after_in f [] m = m
after_in f (t ∷ ts) m = after_in f ts (turn_in f t m).memory

-- the answers, in order
unfoldable pub answers_in : Form → List Turn → Memory → List Answer
answers_in f [] m = []
answers_in f (t ∷ ts) m = (turn_in f t m).answer ∷ answers_in f ts (turn_in f t m).memory

-- what the calls wrote into buffers, in order
unfoldable pub filled_in : Form → List Turn → Memory → List (List ℕ)
filled_in f [] m = []
filled_in f (t ∷ ts) m = (turn_in f t m).filled ∷ filled_in f ts (turn_in f t m).memory
