-- What is answered of a log, and what all that was lent then holds; and what an append does where there is no room.
-- Assumes nothing.
use Rattle.std.specs.Prelude.{List, ◌++◌, ℕ, ◌+ℤ◌, pos, Result, Ok, Err}
use Rattle.rules.specs.Tests.{pick}
use Rattle.rules.specs.Words.{bytes_of}
use Rattle.rules.specs.Runs.{Allocate, Collect}
use Rattle.rules.specs.Memory.{memory}
use Rattle.programs.specs.Programs.{Program, give, ask, Ran, ran}
use Rattle.logs.specs.Log.{Reply, logged, is_accepted, enter}
use Rattle.refusals.specs.Codes.{code}
use Rattle.refusals.specs.declared.Refusal.{Refusal}
use Rattle.appender.specs.declared.Logged.{Logged}
use Rattle.appender.specs.declared.Declined.{Declined}

-- a refusal before any collection
abbrev pub declined_by : Refusal → Declined
declined_by r = record { refusal = r; change = pos 0 }

-- the first address and the change; of a refusal the change that a collection made nevertheless
abbrev pub logs : Result Logged Declined → List ℕ → List ℕ → List ℕ → Ran Reply
logs (Ok l) pool table stack = ran (logged 0 l.first l.change) (memory pool table) stack
logs (Err d) pool table stack = ran (logged (code d.refusal) 0 d.change) (memory pool table) stack

-- what an append does where there is no room for an entry
abbrev pub again_to : ℕ → ℕ → ℕ → ℕ → List ℕ → List ℕ → Program Reply
again_to base first time tips roots ks =
    ask (Collect base (bytes_of first ++ roots)) (λ c.
    ask (Allocate base 32) (λ b.
    pick (is_accepted b) (enter base first time tips ks b.block (c.change +ℤ b.change))
    (give (logged 9 0 c.change))))
