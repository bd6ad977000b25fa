-- Programs: calls on one heap, where the next call may depend on what those before it answered.
-- Assumes nothing.
use Rattle.std.specs.Prelude.{Bool, true, false, List, ℕ}
use Rattle.rules.specs.Tests.{pick}
use Rattle.rules.specs.Outcomes.{Answer}
use Rattle.rules.specs.Runs.{Call, Init, Allocate, Free, Reallocate, Collect, Survey, Load, Store, WriteImage, OpenImage}
use Rattle.rules.specs.Forms.{Form}
use Rattle.rules.specs.Memory.{Memory, Result, perform}
use Rattle.keeping.specs.Keeping.{but_rescans}

-- a program gives a reply, or makes a call and goes on by its answer. It is not told the number of rescans, which depends on the mark stack, nor what a call writes into a buffer
pub data Program (A : Type 0) : Type 0 where
  give : A → Program A
  ask : Call → (Answer → Program A) → Program A

-- whether a call is a collection
abbrev pub collects : Call → Bool
collects (Init base) = false
collects (Allocate base bytes) = false
collects (Free base k) = false
collects (Reallocate base k bytes) = false
collects (Collect base roots) = true
collects (Survey base) = false
collects (Load base k i) = false
collects (Store base k i w) = false
collects (WriteImage base roots room) = false
collects (OpenImage image room) = false

-- the reply, and what all that was lent then holds
pub record Ran (A : Type 0) : Type 0 where
  pub reply : A
  pub memory : Memory
  pub stack : List ℕ

abbrev pub ran : {A : Type 0} → A → Memory → List ℕ → Ran A
ran a m stack = record { reply = a; memory = m; stack = stack }

-- the lent mark stack after a call: a collection leaves it as it says, no other call looks at it
abbrev pub stack_after : Call → Result → List ℕ → List ℕ
stack_after c r stack = pick (collects c) r.stack stack

-- a program on lent memory, with a mark stack that is lent to each of its collections
unfoldable pub run : {A : Type 0} → Form → Program A → List ℕ → Memory → Ran A
run f (give a) stack m = ran a m stack
run f (ask c go) stack m =
    let r : Result = perform f c stack m in
    run f (go (but_rescans r.answer)) (stack_after c r stack) r.memory
