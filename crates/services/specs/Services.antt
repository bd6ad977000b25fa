-- Services: all that C can ask for, in one type, and lists of them. A service is a call of the heap or one of the log; each is given a t of its own, which says how the table lies in bytes.
-- Assumes nothing.
use Rattle.std.specs.Prelude.{List, [], ◌∷◌, ℕ}
use Rattle.rules.specs.Tests.{pick}
use Rattle.rules.specs.Outcomes.{Answer, only_refusal}
use Rattle.rules.specs.Runs.{Call}
use Rattle.rules.specs.Forms.{Form}
use Rattle.rules.specs.Planes.{planes}
use Rattle.rules.specs.Lent.{Lent, Served, served, serve_call}
use Rattle.keeping.specs.Keeping.{but_rescans}
use Rattle.programs.specs.Programs.{Program, give, ask, collects}
use Rattle.promises.specs.OtherT.{at_other_t}
use Rattle.logs.specs.Log.{Reply, declined, append, read, drop}

-- a call of the heap, or one of the log, each with all its arguments except t, the mark stack, and what is lent to every call. Those of the log take the base and the first address first
pub data Service : Type 0 where
  HeapCall : Call → Service
  -- time, tip count, roots
  Append : ℕ → ℕ → ℕ → ℕ → List ℕ → Service
  -- index
  Read : ℕ → ℕ → ℕ → Service
  Drop : ℕ → ℕ → Service

-- what a caller is told
pub data Response : Type 0 where
  answered : Answer → Response
  replied : Reply → Response

abbrev pub refusal_of : Response → ℕ
refusal_of (answered a) = a.refusal
refusal_of (replied y) = y.refusal

-- a program of heap calls on all that is lent, with a mark stack that is lent to each of its collections
unfoldable pub serve_program : {A : Type 0} → Form → Program A → List ℕ → Lent → Served A
serve_program f (give a) stack l = served a l stack []
serve_program f (ask c go) stack l =
    let r : Served Answer = serve_call f c stack l in
    serve_program f (go (but_rescans r.reply)) (pick (collects c) r.stack stack) r.lent

-- a service, and what its caller is told of it
abbrev pub answered_by : Served Answer → Served Response
answered_by r = served (answered r.reply) r.lent r.stack r.filled

abbrev pub replied_by : Served Reply → Served Response
replied_by r = served (replied r.reply) r.lent r.stack r.filled

unfoldable pub serve_in : Form → Service → List ℕ → Lent → Served Response
serve_in f (HeapCall c) stack l = answered_by (serve_call f c stack l)
serve_in f (Append base first time tips roots) stack l = replied_by (serve_program f (append base first time tips roots stack) stack l)
serve_in f (Read base first index) stack l = replied_by (serve_program f (read base first index) stack l)
serve_in f (Drop base first) stack l = replied_by (serve_program f (drop base first) stack l)

-- with this t: the table has two planes for 4t blocks
abbrev pub serve : ℕ → Service → List ℕ → Lent → Served Response
serve t s stack l = serve_in (planes t) s stack l

-- what is told where it is given another t than the heap's: the fault of the file that it reads, or 1
abbrev pub told_other_t : Service → Response
told_other_t (HeapCall c) = answered (only_refusal (at_other_t c))
told_other_t (Append base first time tips roots) = replied (declined 1)
told_other_t (Read base first index) = replied (declined 1)
told_other_t (Drop base first) = replied (declined 1)

-- ---- lists of services, each on what the one before left

-- a service that is asked for, the t that it is given, and the mark stack that is lent to it
pub record Asked : Type 0 where
  pub t : ℕ
  pub service : Service
  pub stack : List ℕ

abbrev pub asked : ℕ → Service → List ℕ → Asked
asked t s stack = record { t = t; service = s; stack = stack }

abbrev pub served_to : Asked → Lent → Served Response
served_to x l = serve x.t x.service x.stack l

-- what the callers are told, in order, where each service is served so
unfoldable pub responses_by : (Asked → Lent → Served Response) → List Asked → Lent → List Response
responses_by by [] l = []
responses_by by (x ∷ xs) l = (by x l).reply ∷ responses_by by xs (by x l).lent

-- what the services wrote into buffers, in order
unfoldable pub buffers_by : (Asked → Lent → Served Response) → List Asked → Lent → List (List ℕ)
buffers_by by [] l = []
buffers_by by (x ∷ xs) l = (by x l).filled ∷ buffers_by by xs (by x l).lent

-- all that is lent, after them
unfoldable pub lent_after_by : (Asked → Lent → Served Response) → List Asked → Lent → Lent
lent_after_by by [] l = l
lent_after_by by (x ∷ xs) l = lent_after_by by xs (by x l).lent

-- on tables of two planes, as the services are for C
abbrev pub responses : List Asked → Lent → List Response
responses xs l = responses_by served_to xs l

abbrev pub buffers : List Asked → Lent → List (List ℕ)
buffers xs l = buffers_by served_to xs l

abbrev pub lent_after : List Asked → Lent → Lent
lent_after xs l = lent_after_by served_to xs l
