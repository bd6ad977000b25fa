-- A service is the call on the memory; and what an entry point for C has done on its memory, said of the service that it is.
-- Assumes nothing.
use mathlib.Core.Path.{◌≡◌, refl, sym, ap, ◌∙◌}
use mathlib.Core.Logic.{◌≢◌}
use mathlib.Core.List.{List, [], ◌∷◌}
use Prim.Native.Nat.{ℕ, ◌*◌}
use lib.ListN.{length}
use Rattle.rules.specs.Planes.{planes}
use Rattle.rules.specs.Runs.{Call}
use Rattle.rules.specs.Memory.{Memory, Result, with_buffer, perform}
use Rattle.rules.specs.Lent.{Lent, nothing, lent, served, into_buffer}
use Rattle.programs.specs.Programs.{Ran, run}
use Rattle.logs.specs.Log.{Reply, append, read, drop}
use Rattle.services.specs.Services.{HeapCall, Append, Read, Drop, serve, told_other_t, Asked, served_to, responses, buffers, lent_after, responses_by, buffers_by, lent_after_by}
use Rattle.services.specs.OnMemory.{served_call, served_log, stack_of, OnMemory}
use Rattle.services.proofs.Laws.{act, serve_is, act_other_t}

-- given another t
refused_unmoved : (t : ℕ) (x : Asked) (l : Lent) → length l.memory.pool ≡ 64 * t → x.t ≢ t → served_to x l ≡ served (told_other_t x.service) l (stack_of x.service x.stack) []
refused_unmoved t x l size other =
    let u = act_other_t t x.t x.stack l.memory size other x.service in
    serve_is (planes x.t) x.service x.stack l ∙ rw (u.reply, u.memory, u.stack, u.filled)

pub on_memory : OnMemory
unfolding act
on_memory = record {
  heap_call = λ f c stack l. serve_is f (HeapCall c) stack l;
  log_append = λ f base first time tips roots stack l. serve_is f (Append base first time tips roots) stack l;
  log_read = λ f base first index stack l. serve_is f (Read base first index) stack l;
  log_drop = λ f base first stack l. serve_is f (Drop base first) stack l;
  other_t = refused_unmoved;
}

-- so a list of services goes on as if it had not been asked for
pub passed_over : (t : ℕ) (x : Asked) (xs : List Asked) (l : Lent) → length l.memory.pool ≡ 64 * t → x.t ≢ t
    → (responses (x ∷ xs) l ≡ told_other_t x.service ∷ responses xs l) × (buffers (x ∷ xs) l ≡ [] ∷ buffers xs l) × (lent_after (x ∷ xs) l ≡ lent_after xs l)
unfolding responses_by buffers_by lent_after_by
passed_over t x xs l size other = rw (on_memory.other_t t x l size other) (refl, refl, refl)

module _ (t : ℕ) (stack : List ℕ) (m : Memory) where
  -- beside the memory lies nothing
  abbrev alone : Lent
  alone = lent m nothing

  pub call_served : (c : Call) (r : Result) → r ≡ perform (planes t) c stack m → served_call alone r ≡ serve t (HeapCall c) stack alone
  call_served c r e = ap (served_call alone) e ∙ sym (on_memory.heap_call (planes t) c stack alone)

  -- with the buffer that it fills
  pub call_filled : (c : Call) (buffer : List ℕ) (r : Result) → r ≡ with_buffer buffer (perform (planes t) c stack m) → served_call alone r ≡ into_buffer buffer (serve t (HeapCall c) stack alone)
  call_filled c buffer r e = ap (served_call alone) e ∙ sym (ap (into_buffer buffer) (on_memory.heap_call (planes t) c stack alone))

  pub append_served : (base first time tips : ℕ) (roots : List ℕ) (r : Ran Reply) → r ≡ run (planes t) (append base first time tips roots stack) stack m
      → served_log alone r ≡ serve t (Append base first time tips roots) stack alone
  append_served base first time tips roots r e = ap (served_log alone) e ∙ sym (on_memory.log_append (planes t) base first time tips roots stack alone)

  pub read_served : (base first index : ℕ) (r : Ran Reply) → r ≡ run (planes t) (read base first index) stack m → served_log alone r ≡ serve t (Read base first index) stack alone
  read_served base first index r e = ap (served_log alone) e ∙ sym (on_memory.log_read (planes t) base first index stack alone)

  pub drop_served : (base first : ℕ) (r : Ran Reply) → r ≡ run (planes t) (drop base first) stack m → served_log alone r ≡ serve t (Drop base first) stack alone
  drop_served base first r e = ap (served_log alone) e ∙ sym (on_memory.log_drop (planes t) base first stack alone)
