-- A plain list is that of some heap, whatever services have made it of an empty one. So its collections keep exactly what is reachable in it.
-- Assumes nothing.
use mathlib.Core.Bool.{Bool, true, false}
use mathlib.Core.List.{List, [], ◌∷◌}
use Prim.Native.Nat.{ℕ, ◌*◌, ◌≤◌}
use lib.Dec.{eqb}
use Rattle.rules.specs.Tests.{pick}
use Rattle.rules.specs.Outcomes.{Heap}
use Rattle.rules.specs.Runs.{Call, step}
use Rattle.plain.specs.Objects.{Object, Plain}
use Rattle.plain.specs.Tracing.{trace, among}
use Rattle.plain.specs.Reaching.{Keeps}
use Rattle.plain.specs.Replies.{reply}
use Rattle.simulation.proofs.Agrees.{Represents}
use Rattle.simulation.proofs.Calls.{step_agrees}
use Rattle.simulation.proofs.Reached.{blank, blank_represents, keeps_reachable}
use Rattle.programs.specs.Programs.{Program, give, ask}
use Rattle.programs.specs.AsList.{run_list}
use Rattle.services.specs.Services.{told_other_t, Service, HeapCall, Append, Read, Drop, Asked}
use Rattle.refinement.specs.AsList.{serve_list, served_list_to, list_after}

-- some heap represents the list
abbrev pub Represented : Plain → Type 0
Represented p = (h : Heap) × Represents p h

-- so one does after a call, a program and a service
reply_represented : (c : Call) (stack : List ℕ) {p : Plain} → Represented p → Represented (reply c stack p).heap
reply_represented c stack (h, r) = ((step c stack h).heap, (step_agrees c stack r).heap)

run_represented : {A : Type 0} (q : Program A) (stack : List ℕ) (p : Plain) → Represented p → Represented (run_list q stack p).heap
unfolding run_list
run_represented (give a) stack p r = r
run_represented (ask c go) stack p r = run_represented (go _) stack (reply c stack p).heap (reply_represented c stack r)

serve_represented : (s : Service) (stack : List ℕ) (p : Plain) → Represented p → Represented (serve_list s stack p).heap
unfolding serve_list
serve_represented (HeapCall c) stack p r = reply_represented c stack r
serve_represented (Append base first time tips roots) stack p r = run_represented _ stack p r
serve_represented (Read base first index) stack p r = run_represented _ stack p r
serve_represented (Drop base first) stack p r = run_represented _ stack p r

pub after_represented : (xs : List Asked) (p : Plain) → Represented p → Represented (list_after xs p)
unfolding list_after
after_represented [] p r = r
after_represented (x ∷ xs) p r = after_represented xs (served_list_to x p).heap (go (eqb (4 * x.t) p.size))
  where
    go : (b : Bool) → Represented (pick b (serve_list x.service x.stack p) (record { reply = told_other_t x.service; heap = p; filled = [] })).heap
    go true = serve_represented x.service x.stack p r
    go false = r

pub list_keeps_reachable : (n : ℕ) (xs : List Asked) (base room : ℕ) (roots : List ℕ) → 1 ≤ n → n ≤ 4096
    → let os : List Object = (list_after xs (record { size = n; objects = [] })).objects in
    Keeps base os roots (among (trace (record { base = base; objects = os; room = room }) roots).reached os)
list_keeps_reachable n xs base room roots l u =
    let (h, r) = after_represented xs (record { size = n; objects = [] }) (blank n, blank_represents n l u) in
    keeps_reachable base h _ r.laid roots room
