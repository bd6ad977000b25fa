-- What a service does to the memory that is lent: what lies beside is as it was; a service that is given another t than the pool has room for is refused, and leaves everything.
-- Assumes nothing.
use mathlib.Core.Path.{◌≡◌, refl, sym, subst}
use mathlib.Core.Logic.{◌≢◌}
use mathlib.Core.Bool.{Bool, true, false}
use mathlib.Core.List.{List, []}
use Prim.Native.Nat.{ℕ, suc, ◌*◌}
use native.Mathlib.Omega.{arith}
use lib.ListN.{length}
use borrow.Author.Tests.{ne_eqb}
use Rattle.rules.specs.Tests.{pick}
use Rattle.rules.specs.Forms.{Form}
use Rattle.rules.specs.Outcomes.{only_refusal}
use Rattle.rules.specs.Planes.{planes}
use Rattle.rules.specs.Runs.{Call, Survey, step}
use Rattle.rules.specs.Memory.{Memory, Result, result, heap_in, Sound, perform}
use Rattle.rules.specs.Lent.{Lent, lent, Served, served}
use Rattle.laws.specs.Meaning.{AllBytes}
use Rattle.laws.specs.Faithful.{Faithful}
use Rattle.laws.proofs.Memory.{sound_next, kept_by}
use Rattle.laws.proofs.Planes.{planes_bytes}
use Rattle.laws.proofs.Lent.{serve_call_is}
use Rattle.promises.proofs.Bytes.{on_bytes}
use Rattle.keeping.specs.Keeping.{but_rescans}
use Rattle.promises.proofs.OtherT.{one_call, pool_kept}
use Rattle.programs.proofs.OnHeaps.{run_on_heap}
use Rattle.programs.specs.Programs.{Program, give, ask, Ran, ran, stack_after, run}
use Rattle.logs.specs.Log.{Reply, declined, decline, is_accepted, checked, append, read, drop}
use Rattle.services.specs.Services.{Service, HeapCall, Append, Read, Drop, Response, answered, replied, serve_program, serve_in, told_other_t}
use Rattle.services.specs.OnMemory.{stack_of}

-- ---- on the memory alone

-- what is told, and what memory, mark stack and buffer then hold
pub record Acted : Type 0 where
  pub reply : Response
  pub memory : Memory
  pub stack : List ℕ
  pub filled : List ℕ

abbrev pub call_acted : Result → Acted
call_acted r = record { reply = answered r.answer; memory = r.memory; stack = r.stack; filled = r.filled }

abbrev pub log_acted : Ran Reply → Acted
log_acted r = record { reply = replied r.reply; memory = r.memory; stack = r.stack; filled = [] }

unfoldable pub act : Form → Service → List ℕ → Memory → Acted
act f (HeapCall c) stack m = call_acted (perform f c stack m)
act f (Append base first time tips roots) stack m = log_acted (run f (append base first time tips roots stack) stack m)
act f (Read base first index) stack m = log_acted (run f (read base first index) stack m)
act f (Drop base first) stack m = log_acted (run f (drop base first) stack m)

-- with what lies beside as it was
abbrev pub beside_it : Lent → Acted → Served Response
beside_it l x = served x.reply (lent x.memory l.beside) x.stack x.filled

pub serve_program_is : {A : Type 0} (f : Form) (p : Program A) (stack : List ℕ) (l : Lent)
    → let r : Ran A = run f p stack l.memory in
    serve_program f p stack l ≡ served r.reply (lent r.memory l.beside) r.stack []
unfolding serve_program run
serve_program_is f (give a) stack l = refl
serve_program_is f (ask c go) stack l = rw (serve_call_is f c stack l) (serve_program_is f (go _) _ (lent (perform f c stack l.memory).memory l.beside))

pub serve_is : (f : Form) (s : Service) (stack : List ℕ) (l : Lent) → serve_in f s stack l ≡ beside_it l (act f s stack l.memory)
unfolding serve_in act
serve_is f (HeapCall c) stack l = rw (serve_call_is f c stack l)
serve_is f (Append base first time tips roots) stack l = rw (serve_program_is f (append base first time tips roots stack) stack l)
serve_is f (Read base first index) stack l = rw (serve_program_is f (read base first index) stack l)
serve_is f (Drop base first) stack l = rw (serve_program_is f (drop base first) stack l)

-- ---- another t

-- a program of the log whose survey is refused
pub checked_refused : (f : Form) (base r : ℕ) (next : Program Reply) (stack : List ℕ) (m : Memory) → perform f (Survey base) stack m ≡ result (only_refusal (suc r)) m []
    → run f (checked base true next) stack m ≡ ran (declined (suc r)) m stack
unfolding checked run
checked_refused f base r next stack m e =
    subst
    (λ (x : Result).
    run f (pick (is_accepted (but_rescans x.answer)) next (decline (but_rescans x.answer).refusal)) (stack_after (Survey base) x stack) x.memory ≡ ran (declined (suc r)) m stack)
    (sym e) (rw (ne_eqb (suc r) 0 (λ q. omega (arith, q))))

-- it is refused by 1 also where what else is lent is not as it should be
checked_by_one : (f : Form) (base : ℕ) (good : Bool) (next : Program Reply) (stack : List ℕ) (m : Memory) → perform f (Survey base) stack m ≡ result (only_refusal 1) m []
    → run f (checked base good next) stack m ≡ ran (declined 1) m stack
unfolding checked run
checked_by_one f base true next stack m e = checked_refused f base 0 next stack m e
checked_by_one f base false next stack m e = refl

-- what is told is the refusal, and nothing is changed
pub record Unmoved (s : Service) (given : List ℕ) (m : Memory) (x : Acted) : Type 0 where
  pub reply : x.reply ≡ told_other_t s
  pub memory : x.memory ≡ m
  pub stack : x.stack ≡ stack_of s given
  pub filled : x.filled ≡ []

unmoved_log : (s : Service) (m : Memory) (stack : List ℕ) {r : Ran Reply} → told_other_t s ≡ replied (declined 1) → stack_of s stack ≡ stack → r ≡ ran (declined 1) m stack → Unmoved s stack m (log_acted r)
unmoved_log s m stack told same e = rw e (record { reply = sym told; memory = refl; stack = sym same; filled = refl })

module _ (t t' : ℕ) (stack : List ℕ) (m : Memory) (size : length m.pool ≡ 64 * t) (other : t' ≢ t) where
  pub act_other_t : (s : Service) → Unmoved s stack m (act (planes t') s stack m)
  unfolding act append read drop
  act_other_t (HeapCall c) = rw (one_call t t' c stack m size other) (record { reply = refl; memory = refl; stack = refl; filled = refl })
  act_other_t (Append base first time tips roots) =
      unmoved_log _ m stack refl refl (checked_by_one (planes t') base _ _ stack m (one_call t t' (Survey base) stack m size other))
  act_other_t (Read base first index) = unmoved_log _ m stack refl refl (checked_by_one (planes t') base true _ stack m (one_call t t' (Survey base) stack m size other))
  act_other_t (Drop base first) = unmoved_log _ m stack refl refl (checked_by_one (planes t') base true _ stack m (one_call t t' (Survey base) stack m size other))

-- ---- no service changes the length of the pool

pub run_pool_kept : {A : Type 0} (f : Form) (p : Program A) (stack : List ℕ) (m : Memory) (n : ℕ) → length m.pool ≡ n → length (run f p stack m).memory.pool ≡ n
unfolding run
run_pool_kept f (give a) stack m n size = size
run_pool_kept f (ask c go) stack m n size = run_pool_kept f (go _) _ _ n (pool_kept f c stack m n size)

pub act_pool_kept : (f : Form) (s : Service) (stack : List ℕ) (m : Memory) (n : ℕ) → length m.pool ≡ n → length (act f s stack m).memory.pool ≡ n
unfolding act
act_pool_kept f (HeapCall c) stack m n size = pool_kept f c stack m n size
act_pool_kept f (Append base first time tips roots) stack m n size = run_pool_kept f (append base first time tips roots stack) stack m n size
act_pool_kept f (Read base first index) stack m n size = run_pool_kept f (read base first index) stack m n size
act_pool_kept f (Drop base first) stack m n size = run_pool_kept f (drop base first) stack m n size

-- ---- and it leaves a memory as its form asks, whose table is bytes

module _ (f : Form) (faithful : Faithful f) where
  run_sound : {A : Type 0} (q : Program A) (stack : List ℕ) (m : Memory) → Sound f m → Sound f (run f q stack m).memory
  run_sound q stack m sound = (run_on_heap f faithful q stack m sound).3

  pub act_sound : (s : Service) (stack : List ℕ) (m : Memory) → Sound f m → Sound f (act f s stack m).memory
  unfolding act
  act_sound (HeapCall c) stack m sound = sound_next f faithful c stack m sound
  act_sound (Append base first time tips roots) stack m sound = run_sound _ stack m sound
  act_sound (Read base first index) stack m sound = run_sound _ stack m sound
  act_sound (Drop base first) stack m sound = run_sound _ stack m sound

module _ (t : ℕ) where
  call_bytes : (c : Call) (stack : List ℕ) (m : Memory) → AllBytes m.table → AllBytes (perform (planes t) c stack m).memory.table
  call_bytes c stack m bytes =
      kept_by (λ (n : Memory). AllBytes n.table) (planes t) c stack m
      (λ z. subst (λ (r : Result). AllBytes r.memory.table) (sym (on_bytes.accepted_bytes (planes t) c stack m z).1) (planes_bytes t (step c stack (heap_in (planes t) m)).heap.entries)) bytes

  run_bytes : {A : Type 0} (p : Program A) (stack : List ℕ) (m : Memory) → AllBytes m.table → AllBytes (run (planes t) p stack m).memory.table
  unfolding run
  run_bytes (give a) stack m bytes = bytes
  run_bytes (ask c go) stack m bytes = run_bytes (go _) _ _ (call_bytes c stack m bytes)

  pub act_bytes : (s : Service) (stack : List ℕ) (m : Memory) → AllBytes m.table → AllBytes (act (planes t) s stack m).memory.table
  unfolding act
  act_bytes (HeapCall c) stack m bytes = call_bytes c stack m bytes
  act_bytes (Append base first time tips roots) stack m bytes = run_bytes (append base first time tips roots stack) stack m bytes
  act_bytes (Read base first index) stack m bytes = run_bytes (read base first index) stack m bytes
  act_bytes (Drop base first) stack m bytes = run_bytes (drop base first) stack m bytes
