-- What each call of the log answers, and what all that was lent then holds; and what the first tests of an append, and the search for an entry, come to.
-- Assumes nothing.
use Rattle.std.specs.Prelude.{◌≡◌, List, [], ℕ, ◌/◌, leb, ltb, true, length, Result, Ok, Err}
use Rattle.std.proofs.Math.Option.{Option, some, none}
use Rattle.rules.specs.Tests.{both}
use Rattle.rules.specs.Forms.{Form}
use Rattle.rules.specs.Planes.{planes, heap_at}
use Rattle.rules.specs.Refusals.{whole_words}
use Rattle.rules.specs.Runs.{Survey}
use Rattle.rules.specs.Memory.{Memory, memory, AcceptedIn, perform}
use Rattle.promises.specs.Promises.{Object, blocks_of}
use Rattle.programs.specs.Programs.{Program, Ran, ran, run}
use Rattle.logs.specs.Log.{Reply, readout, declined, decline, decline_if, checked, on_log, at_index}
use Rattle.numbers.specs.declared.Block.{Block}
use Rattle.refusals.specs.Codes.{code}
use Rattle.refusals.specs.declared.Refusal.{Refusal}
use Rattle.appender.specs.Answers.{declined_by, logs}
use Rattle.appender.specs.declared.Logged.{Logged}
use Rattle.rainlog.specs.declared.Readout.{Readout}

-- an entry; of a refusal every other part is zero
abbrev pub reads : Result Readout Refusal → List ℕ → List ℕ → Ran Reply
reads (Ok e) pool table = ran (readout 0 e.time e.tips) (memory pool table) []
reads (Err r) pool table = ran (readout (code r) 0 0) (memory pool table) []

-- the first address behind the oldest entry, and the change; of a refusal every other part is zero
abbrev pub drops : Result Logged Refusal → List ℕ → List ℕ → Ran Reply
drops (Ok l) pool table = logs (Ok l) pool table []
drops (Err r) pool table = logs (Err (declined_by r)) pool table []

-- the tests of an append that come before the log is looked at, and what is behind them
abbrev pub tested : ℕ → List ℕ → List ℕ → Program Reply → Program Reply
tested base roots stack next =
    checked base (both (whole_words roots) (whole_words stack)) (decline_if (leb 4096 (length roots / 4)) 3 (decline_if (ltb 64 (length stack / 4)) 4 next))

-- their number is r: whatever is behind them, it is declined by r, or else done
pub record Tests (f : Form) (base : ℕ) (roots stack : List ℕ) (m : Memory) (r : ℕ) : Type 0 where
  pub declines : (r ≡ 0 → ⊥) → (next : Program Reply) → ran (declined r) m stack ≡ run f (tested base roots stack next) stack m
  pub passes : r ≡ 0 → (next : Program Reply) → run f next stack m ≡ run f (tested base roots stack next) stack m
  -- and the heap is accepted
  pub accepts : r ≡ 0 → AcceptedIn (perform f (Survey base) [] m)

-- what is done with the entry at an index, if there is one, on a heap that is checked
abbrev pub looked_up : ℕ → ℕ → ℕ → (Option ℕ → Program Reply) → Program Reply
looked_up base first index go = checked base true (on_log base first (λ ks. go (at_index ks index)))

-- the entry is the object at block k: whatever is done with an entry, it is done with it
pub record Present (t base first index : ℕ) (pool table : List ℕ) (k : ℕ) : Type 0 where
  pub accepted : AcceptedIn (perform (planes t) (Survey base) [] (memory pool table))
  pub object : Object (heap_at t pool table) k
  pub blocks : blocks_of (heap_at t pool table) k ≡ 2
  pub does : (go : Option ℕ → Program Reply) → run (planes t) (go (some k)) [] (memory pool table) ≡ run (planes t) (looked_up base first index go) [] (memory pool table)

-- or it is declined by the refusal, if no entry is declined by 19
abbrev pub Sought : ℕ → ℕ → ℕ → ℕ → List ℕ → List ℕ → Result Block Refusal → Type 0
Sought t base first index pool table (Ok k) = Present t base first index pool table k.0
Sought t base first index pool table (Err r) =
    (go : Option ℕ → Program Reply) → go none ≡ decline 19 → ran (declined (code r)) (memory pool table) [] ≡ run (planes t) (looked_up base first index go) [] (memory pool table)
