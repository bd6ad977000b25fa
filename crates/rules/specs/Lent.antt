-- What is lent to every call: the memory, and what lies beside it. A call on it is the call on its memory; the tests of what lies beside have their places among those of the call.
-- Assumes nothing.
use Rattle.std.specs.Prelude.{Bool, true, not, List, [], ◌∷◌, ◌++◌, ℕ, zero, suc, eqb, length, drop}
use Rattle.rules.specs.Tests.{either}
use Rattle.rules.specs.Outcomes.{Answer, only_refusal}
use Rattle.rules.specs.Refusals.{Test, test, first_of}
use Rattle.rules.specs.Forms.{Form}
use Rattle.rules.specs.Runs.{Call}
use Rattle.rules.specs.Memory.{Memory, memory, Result, stack_for, fault_in, perform}

-- ---- what lies beside pool and table. This is the place for a table or a record that is lent to every call: a field here, its tests, and what a call leaves of it

-- nothing lies there
pub record Beside : Type 0 where

abbrev pub nothing : Beside
nothing = record {}

-- what it adds to the tests of a call: whether its lengths fit, else it is 1; tests before 2, and tests directly behind 2
pub record BesideTests : Type 0 where
  pub fits : Bool
  pub before : List Test
  pub behind : List Test

-- of a call on a table of these entries
unfoldable pub tests_beside : Call → List ℕ → Beside → BesideTests
tests_beside c es b = record { fits = true; before = []; behind = [] }

-- what an accepted call leaves of it, from the entries before and after and the call's answer
unfoldable pub beside_after : Call → List ℕ → List ℕ → Answer → Beside → Beside
beside_after c es es' a b = b

-- ---- a call on all that is lent

pub record Lent : Type 0 where
  pub memory : Memory
  pub beside : Beside

abbrev pub lent : Memory → Beside → Lent
lent m b = record { memory = m; beside = b }

-- a pool and a table, as C lends them
abbrev pub lending : List ℕ → List ℕ → Lent
lending pool table = lent (memory pool table) nothing

-- what is replied, and what all that was lent then holds: the mark stack too, of a call that takes one, and what was written from the front on into a buffer that was lent to be filled
pub record Served (R : Type 0) : Type 0 where
  pub reply : R
  pub lent : Lent
  pub stack : List ℕ
  pub filled : List ℕ

abbrev pub served : {R : Type 0} → R → Lent → List ℕ → List ℕ → Served R
served a l stack bytes = record { reply = a; lent = l; stack = stack; filled = bytes }

-- with all of the buffer that was lent to be filled: what was written, and behind it what was there
abbrev pub into_buffer : {R : Type 0} → List ℕ → Served R → Served R
into_buffer buffer r = served r.reply r.lent r.stack (r.filled ++ drop (length r.filled) buffer)

-- The tests in their order, where r is the number by which the call is refused on the memory alone, or 0: the fault of a file, 1, those before 2, 2, those behind it, and the call's own
abbrev pub tests_on : BesideTests → Call → ℕ → List Test
tests_on b c r =
    test (fault_in c) (not (eqb (fault_in c) 0))
    ∷ test 1 (either (eqb r 1) (not b.fits))
    ∷ b.before
    ++ test 2 (eqb r 2)
    ∷ b.behind
    ++ test r (not (eqb r 0))
    ∷ []

-- on a refusal only the number is answered, and all that was lent is as it was
unfoldable pub or_unserved : ℕ → Lent → List ℕ → Served Answer → Served Answer
or_unserved zero l stack done = done
or_unserved (suc r) l stack done = served (only_refusal (suc r)) l stack []

unfoldable pub serve_call : Form → Call → List ℕ → Lent → Served Answer
serve_call f c stack l =
    let r : Result = perform f c stack l.memory in
    let es : List ℕ = f.read l.memory.table in
    or_unserved (first_of (tests_on (tests_beside c es l.beside) c r.answer.refusal)) l (stack_for c stack)
    (served r.answer (lent r.memory (beside_after c es (f.read r.memory.table) r.answer l.beside)) r.stack r.filled)
