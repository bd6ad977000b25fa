-- Programs, call by call: a call whose result is known is left behind. A heap that is checked stays so.
-- Assumes nothing.
use mathlib.Core.Path.{◌≡◌}
use mathlib.Core.Bool.{false}
use mathlib.Core.List.{List, [], ◌∷◌}
use Prim.Native.Nat.{ℕ}
use Rattle.rules.specs.Outcomes.{Answer}
use Rattle.rules.specs.Runs.{Call, Collect, Survey}
use Rattle.rules.specs.Forms.{Form}
use Rattle.rules.specs.Planes.{planes}
use Rattle.rules.specs.Memory.{Memory, Result, AcceptedIn, perform, after_in}
use Rattle.laws.proofs.Planes.{planes_faithful}
use Rattle.keeping.specs.Keeping.{but_rescans}
use Rattle.programs.specs.Programs.{collects}
use Rattle.programs.specs.Programs.{Program, ask, run}
use Rattle.programs.proofs.Stacks.{stack_unseen}
use Rattle.loglaws.proofs.Lasting.{passes_after}

-- a call with the result x is left behind
pub asked : {A : Type 0} (f : Form) (c : Call) (go : Answer → Program A) (stack : List ℕ) (m : Memory) (x : Result) → collects c ≡ false → x ≡ perform f c [] m
    → run f (ask c go) stack m ≡ run f (go (but_rescans x.answer)) stack x.memory
unfolding run
asked f c go stack m x plain e = rw (stack_unseen f c stack m plain, plain, ← e)

-- a collection leaves its mark stack too
pub asked_collect : {A : Type 0} (f : Form) (base : ℕ) (roots : List ℕ) (go : Answer → Program A) (stack : List ℕ) (m : Memory) (x : Result) → x ≡ perform f (Collect base roots) stack m
    → run f (ask (Collect base roots) go) stack m ≡ run f (go (but_rescans x.answer)) x.stack x.memory
unfolding run
asked_collect f base roots go stack m x e = rw (← e)

-- 1 and 2 are passed after a call if they were before it
pub stays_checked : (t base : ℕ) (c : Call) (stack : List ℕ) (m : Memory) {x : Result} → x ≡ perform (planes t) c stack m
    → AcceptedIn (perform (planes t) (Survey base) [] m) → AcceptedIn (perform (planes t) (Survey base) [] x.memory)
unfolding after_in
stays_checked t base c stack m e ok = rw e (passes_after (planes t) (planes_faithful t) base (record { call = c; stack = stack } ∷ []) m ok)
