-- A service on all that is lent is the heap's call on the memory, or the log's program of such calls: what is told, the memory, the mark stack and the buffer are the same, and what lies beside, which is nothing today, is as it was.
-- So what is promised of calls and programs on memory (Promises, OnBytes, LogPromises) is promised of services.
-- Assumes nothing.
use Rattle.std.specs.Prelude.{◌≡◌, ◌≢◌, List, [], ℕ, ◌*◌, length}
use Rattle.rules.specs.Forms.{Form}
use Rattle.rules.specs.Runs.{Call}
use Rattle.rules.specs.Memory.{Result, stack_for, perform}
use Rattle.rules.specs.Lent.{Lent, lent, Served, served}
use Rattle.programs.specs.Programs.{Ran, run}
use Rattle.logs.specs.Log.{Reply, append, read, drop}
use Rattle.services.specs.Services.{Service, HeapCall, Append, Read, Drop, Response, answered, replied, serve_in, told_other_t, Asked, served_to}

-- a call on the memory of l, and a program on it, as services
abbrev pub served_call : Lent → Result → Served Response
served_call l r = served (answered r.answer) (lent r.memory l.beside) r.stack r.filled

abbrev pub served_log : Lent → Ran Reply → Served Response
served_log l r = served (replied r.reply) (lent r.memory l.beside) r.stack []

-- the mark stack of a refused service, as it was lent: a call of the heap that does not collect is lent none
abbrev pub stack_of : Service → List ℕ → List ℕ
stack_of (HeapCall c) stack = stack_for c stack
stack_of (Append base first time tips roots) stack = stack
stack_of (Read base first index) stack = stack
stack_of (Drop base first) stack = stack

pub record OnMemory : Type 0 where
  pub heap_call : (f : Form) (c : Call) (stack : List ℕ) (l : Lent) → serve_in f (HeapCall c) stack l ≡ served_call l (perform f c stack l.memory)
  pub log_append : (f : Form) (base first time tips : ℕ) (roots stack : List ℕ) (l : Lent)
      → serve_in f (Append base first time tips roots) stack l ≡ served_log l (run f (append base first time tips roots stack) stack l.memory)
  pub log_read : (f : Form) (base first index : ℕ) (stack : List ℕ) (l : Lent) → serve_in f (Read base first index) stack l ≡ served_log l (run f (read base first index) stack l.memory)
  pub log_drop : (f : Form) (base first : ℕ) (stack : List ℕ) (l : Lent) → serve_in f (Drop base first) stack l ≡ served_log l (run f (drop base first) stack l.memory)
  -- given another t than that of the pool's 64t bytes, every service is refused, and all that is lent is as it was
  pub other_t : (t : ℕ) (x : Asked) (l : Lent) → length l.memory.pool ≡ 64 * t → x.t ≢ t
      → served_to x l ≡ served (told_other_t x.service) l (stack_of x.service x.stack) []
