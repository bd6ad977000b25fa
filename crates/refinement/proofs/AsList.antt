-- Services on lent memory and on a plain list: where the heap in the memory represents the list, it does again after each service, which is answered, and fills a buffer, alike on both.
-- Assumes nothing.
use mathlib.Core.Path.{◌≡◌, refl, sym, ap, subst, ◌∙◌}
use mathlib.Core.Logic.{◌≢◌}
use mathlib.Core.Bool.{true, false}
use mathlib.Core.List.{List, [], ◌∷◌}
use Prim.Native.Nat.{ℕ, ◌*◌}
use native.Mathlib.Decide.{ℕ_discrete}
use native.Mathlib.Omega.{arith}
use lib.IntN.{ℤ, pos}
use lib.ListN.{length}
use borrow.Author.Tests.{eq-eqb, ne_eqb}
use Rattle.rules.specs.Forms.{Form}
use Rattle.rules.specs.Outcomes.{Heap, Answer}
use Rattle.rules.specs.Planes.{planes, entries_in}
use Rattle.rules.specs.Runs.{Call, FileIs, starts_anew, step}
use Rattle.rules.specs.Memory.{Memory, Result, heap_in, Sound, AcceptedIn, perform}
use Rattle.rules.specs.Lent.{Lent, lent, Served}
use Rattle.laws.specs.Meaning.{AllBytes}
use Rattle.laws.specs.Faithful.{Faithful}
use Rattle.laws.proofs.Memory.{Follows, follows_sound, follows_accepted, sound_next, passes_in}
use Rattle.laws.proofs.Planes.{planes_faithful, length_entries_in}
use Rattle.laws.proofs.Sizes.{step_keeps}
use Rattle.keeping.specs.Keeping.{but_rescans}
use Rattle.plain.specs.Objects.{Plain}
use Rattle.plain.specs.Replies.{Reply as ListReply, reply}
use Rattle.simulation.proofs.Agrees.{Represents, Agrees}
use Rattle.simulation.proofs.Inits.{anew}
use Rattle.simulation.proofs.Calls.{step_agrees, first_agrees}
use Rattle.promises.proofs.Bytes.{on_bytes}
use Rattle.programs.specs.Programs.{Program, ask, Ran, stack_after, run}
use Rattle.programs.specs.AsList.{RanList, run_list}
use Rattle.programs.proofs.Stacks.{still_long}
use Rattle.programs.proofs.AsList.{reply_by_length}
use Rattle.programs.proofs.Laws.{cons_same}
use Rattle.logs.specs.Log.{Reply, read}
use Rattle.services.specs.Services.{Service, HeapCall, Append, Read, Drop, Response, answered, replied, refusal_of, Asked, asked, served_to, responses, buffers, responses_by, buffers_by}
use Rattle.refinement.specs.AsList.{ServedList, serve_list, served_list_to, list_responses, list_buffers, OpensBytes, AllOpenBytes, done, next, from, AsList}
use Rattle.services.proofs.Laws.{Acted, act, serve_is, act_other_t}
use Rattle.refinement.proofs.Keeping.{list_keeps_reachable}
use Rattle.refinement.proofs.Sums.{used_is_sum}
use Rattle.refinement.proofs.Balance.{quiet_old, opens_none, Balanced, gives, looks, asks, append_balanced, read_balanced, drop_balanced}

-- ---- one call

-- the memory is as its form asks, and the heap in it represents the list
pub record Mirrors (f : Form) (m : Memory) (p : Plain) : Type 0 where
  pub sound : Sound f m
  pub represents : Represents p (heap_in f m)

-- a call on the memory agrees with a reply of the list: it is answered the same, and the memory mirrors the list that is left; and where pools and files are bytes, the pool is bytes again and the same
-- is filled
pub record CallAgrees (f : Form) (c : Call) (m : Memory) (r : Result) (x : ListReply) : Type 0 where
  pub answer : r.answer ≡ x.answer
  pub heap : Mirrors f r.memory x.heap
  pub bytes : AllBytes m.pool → FileIs AllBytes c → AllBytes r.memory.pool
  pub filled : AllBytes m.pool → FileIs AllBytes c → r.filled ≡ x.filled

module _ (f : Form) (faithful : Faithful f) where
  follows_agrees : (c : Call) (stack : List ℕ) (m : Memory) {x : ListReply} → Follows f (perform f c stack m) (step c stack (heap_in f m)) → Sound f (perform f c stack m).memory
      → Agrees x (step c stack (heap_in f m)) → CallAgrees f c m (perform f c stack m) x
  follows_agrees c stack m {x = x} y sound a =
      record {
        answer = y.answer ∙ a.answer;
        heap = record { sound = sound; represents = subst (Represents x.heap) (sym y.heap) a.heap };
        bytes = still;
        filled = λ bytes file. y.filled ∙ a.filled (subst (λ (h : Heap). AllBytes h.pool) y.heap (still bytes file));
      }
    where
      still : AllBytes m.pool → FileIs AllBytes c → AllBytes (perform f c stack m).memory.pool
      still bytes file = subst (λ (h : Heap). AllBytes h.pool) (sym y.heap) ((step_keeps c stack (heap_in f m)).all_bytes file bytes)

  -- on the list the mark stack may be another that is as long
  pub call_agrees : (c : Call) (stack given : List ℕ) (m : Memory) (p : Plain) → length stack ≡ length given → Mirrors f m p → CallAgrees f c m (perform f c stack m) (reply c given p)
  call_agrees c stack given m p l n =
      subst (CallAgrees f c m (perform f c stack m)) (reply_by_length c stack given p l)
      (follows_agrees c stack m (follows_sound f faithful c stack m n.sound) (sound_next f faithful c stack m n.sound) (step_agrees c stack n.represents))

  -- an accepted call that starts anew, whatever memory and list held
  pub first_call : (c : Call) (m : Memory) (p : Plain) → starts_anew c ≡ true → AcceptedIn (perform f c [] m) → p.size ≡ length (f.read m.table)
      → CallAgrees f c m (perform f c [] m) (reply c [] p)
  first_call c m p starts z same =
      let y = follows_accepted f faithful c [] m z in
      follows_agrees c [] m y (y.sound z) (first_agrees p (anew c [] (heap_in f m) starts (passes_in f c [] m z).own) same)

-- ---- a call of the log

-- a program on the memory agrees with one on the list
pub record RanAgrees (f : Form) (m : Memory) (r : Ran Reply) (x : RanList Reply) : Type 0 where
  pub reply : r.reply ≡ x.reply
  pub heap : Mirrors f r.memory x.heap
  pub bytes : AllBytes m.pool → AllBytes r.memory.pool

module _ (f : Form) (faithful : Faithful f) where
  -- a call, and then a program that agrees on what it leaves
  asked_agrees : (c : Call) (go : Answer → Program Reply) (stack given : List ℕ) (m : Memory) (p : Plain) → starts_anew c ≡ false → CallAgrees f c m (perform f c stack m) (reply c given p)
      → let r : Result = perform f c stack m in
      RanAgrees f r.memory (run f (go (but_rescans r.answer)) (stack_after c r stack) r.memory) (run_list (go (but_rescans r.answer)) given (reply c given p).heap)
      → RanAgrees f m (run f (ask c go) stack m) (run_list (ask c go) given p)
  unfolding run run_list
  asked_agrees c go stack given m p old a rest =
      subst (λ (b : Answer). RanAgrees f m (run f (ask c go) stack m) (run_list (go (but_rescans b)) given (reply c given p).heap)) a.answer
      (record { reply = rest.reply; heap = rest.heap; bytes = λ bytes. rest.bytes (a.bytes bytes (opens_none c old)) })

  run_agrees : {e : ℤ} {q : Program Reply} → Balanced e q → (stack given : List ℕ) (m : Memory) (p : Plain) → length stack ≡ length given → Mirrors f m p
      → RanAgrees f m (run f q stack m) (run_list q given p)
  unfolding run run_list
  run_agrees (gives y same) stack given m p l n = record { reply = refl; heap = n; bytes = λ bytes. bytes }
  run_agrees (looks {c = c} {go = go} quiet then) stack given m p l n =
      let r : Result = perform f c stack m in
      let a = call_agrees f faithful c stack given m p l n in
      asked_agrees c go stack given m p (quiet_old quiet) a
      (run_agrees (then (but_rescans r.answer)) (stack_after c r stack) given r.memory (reply c given p).heap (still_long f faithful c stack m ∙ l) a.heap)
  run_agrees (asks {c = c} {go = go} old then) stack given m p l n =
      let r : Result = perform f c stack m in
      let a = call_agrees f faithful c stack given m p l n in
      asked_agrees c go stack given m p old a
      (run_agrees (then (but_rescans r.answer) (λ refused. ap (λ (x : Result). x.answer.change) (on_bytes.refused_bytes f c stack m refused))) (stack_after c r stack) given r.memory
      (reply c given p).heap (still_long f faithful c stack m ∙ l) a.heap)

-- ---- services

-- a service on the memory agrees with one on the list
pub record ActAgrees (f : Form) (s : Service) (m : Memory) (x : Acted) (y : ServedList) : Type 0 where
  pub reply : x.reply ≡ y.reply
  pub heap : Mirrors f x.memory y.heap
  pub bytes : AllBytes m.pool → OpensBytes s → AllBytes x.memory.pool
  pub filled : AllBytes m.pool → OpensBytes s → x.filled ≡ y.filled

module _ (f : Form) (faithful : Faithful f) (stack : List ℕ) (m : Memory) (p : Plain) where
  call_acts : (c : Call) → CallAgrees f c m (perform f c stack m) (reply c stack p) → ActAgrees f (HeapCall c) m (act f (HeapCall c) stack m) (serve_list (HeapCall c) stack p)
  unfolding act serve_list
  call_acts c a = record { reply = ap answered a.answer; heap = a.heap; bytes = a.bytes; filled = a.filled }

  log_acts : (s : Service) {r : Ran Reply} {x : RanList Reply} → RanAgrees f m r x
      → ActAgrees f s m (record { reply = replied r.reply; memory = r.memory; stack = r.stack; filled = [] }) (record { reply = replied x.reply; heap = x.heap; filled = [] })
  log_acts s a = record { reply = ap replied a.reply; heap = a.heap; bytes = λ bytes _. a.bytes bytes; filled = λ _ _. refl }

  act_agrees : (s : Service) → Mirrors f m p → ActAgrees f s m (act f s stack m) (serve_list s stack p)
  unfolding act serve_list
  act_agrees (HeapCall c) n = call_acts c (call_agrees f faithful c stack stack m p refl n)
  act_agrees (Append base first time tips roots) n = log_acts _ (run_agrees f faithful (append_balanced base first time tips roots stack) stack stack m p refl n)
  act_agrees (Read base first index) n = log_acts _ (run_agrees f faithful (read_balanced base first index) stack stack m p refl n)
  act_agrees (Drop base first) n = log_acts _ (run_agrees f faithful (drop_balanced base first) stack stack m p refl n)

-- ---- with any t

-- the heap of 4t blocks mirrors the list, which has as many
abbrev pub MirrorsAt : ℕ → Lent → Plain → Type 0
MirrorsAt t l p = Mirrors (planes t) l.memory p

pub record ServedAgrees (t : ℕ) (s : Service) (l : Lent) (x : Served Response) (y : ServedList) : Type 0 where
  pub reply : x.reply ≡ y.reply
  pub heap : MirrorsAt t x.lent y.heap
  pub bytes : AllBytes l.memory.pool → OpensBytes s → AllBytes x.lent.memory.pool
  pub filled : AllBytes l.memory.pool → OpensBytes s → x.filled ≡ y.filled

module _ (t : ℕ) (l : Lent) (p : Plain) where
  own_agrees : (s : Service) (stack : List ℕ) → p.size ≡ 4 * t → ActAgrees (planes t) s l.memory (act (planes t) s stack l.memory) (serve_list s stack p)
      → ServedAgrees t s l (served_to (asked t s stack) l) (served_list_to (asked t s stack) p)
  own_agrees s stack size a =
      rw (serve_is (planes t) s stack l, eq-eqb (4 * t) p.size (sym size)) (record { reply = a.reply; heap = a.heap; bytes = a.bytes; filled = a.filled })

  -- the list has 4t blocks, and the pool 64t bytes
  pub sizes : MirrorsAt t l p → (p.size ≡ 4 * t) × (length l.memory.pool ≡ 64 * t)
  sizes n =
      let e : length (entries_in t l.memory.table) ≡ 4 * t = length_entries_in t l.memory.table in
      (n.represents.size ∙ e, n.represents.pool ∙ omega (arith, e))

  other_agrees : MirrorsAt t l p → (t' : ℕ) → t' ≢ t → (s : Service) (stack : List ℕ) → ServedAgrees t s l (served_to (asked t' s stack) l) (served_list_to (asked t' s stack) p)
  other_agrees n t' other s stack =
      let (size, long) = sizes n in
      let x = act_other_t t t' stack l.memory long other s in
      rw (serve_is (planes t') s stack l, ne_eqb (4 * t') p.size (λ e. other (omega (arith, e, size))))
      (record { reply = x.reply; heap = rw x.memory n; bytes = λ bytes _. rw x.memory bytes; filled = λ _ _. x.filled })

  pub served_agrees : MirrorsAt t l p → (x : Asked) → ServedAgrees t x.service l (served_to x l) (served_list_to x p)
  served_agrees n x = go (ℕ_discrete x.t t)
    where
      go : Dec (x.t ≡ t) → ServedAgrees t x.service l (served_to x l) (served_list_to x p)
      go (yes e) = rw e (own_agrees x.service x.stack (sizes n).0 (act_agrees (planes t) (planes_faithful t) x.stack l.memory p x.service n))
      go (no other) = other_agrees n x.t other x.service x.stack

-- ---- lists

all_responses : (t : ℕ) (xs : List Asked) (l : Lent) (p : Plain) → MirrorsAt t l p → responses xs l ≡ list_responses xs p
unfolding responses_by list_responses
all_responses t [] l p n = refl
all_responses t (x ∷ xs) l p n =
    let a = served_agrees t l p n x in
    cons_same a.reply (all_responses t xs (served_to x l).lent (served_list_to x p).heap a.heap)

all_buffers : (t : ℕ) {xs : List Asked} → AllOpenBytes xs → (l : Lent) (p : Plain) → MirrorsAt t l p → AllBytes l.memory.pool → buffers xs l ≡ list_buffers xs p
unfolding buffers_by list_buffers
all_buffers t done l p n bytes = refl
all_buffers t (next {x = x} file files) l p n bytes =
    let a = served_agrees t l p n x in
    cons_same (a.filled bytes file) (all_buffers t files (served_to x l).lent (served_list_to x p).heap a.heap (a.bytes bytes file))

-- from an accepted init or opening on
module _ (t : ℕ) (c : Call) (l : Lent) (p : Plain) (starts : starts_anew c ≡ true) (z : refusal_of (served_to (asked t (HeapCall c) []) l).reply ≡ 0) (size : p.size ≡ 4 * t) where
  pub first_agrees_with : ServedAgrees t (HeapCall c) l (served_to (asked t (HeapCall c) []) l) (served_list_to (asked t (HeapCall c) []) p)
  unfolding act
  first_agrees_with =
      own_agrees t l p (HeapCall c) [] size
      (call_acts (planes t) (planes_faithful t) [] l.memory p c
      (first_call (planes t) (planes_faithful t) c l.memory p starts (rw (serve_is (planes t) (HeapCall c) [] l) at z) (size ∙ sym (length_entries_in t l.memory.table))))

  responses_as_list : (xs : List Asked) → responses (from t c xs) l ≡ list_responses (from t c xs) p
  unfolding responses_by list_responses
  responses_as_list xs = cons_same first_agrees_with.reply (all_responses t xs _ _ first_agrees_with.heap)

  buffers_as_list : (xs : List Asked) → AllBytes l.memory.pool → AllOpenBytes (from t c xs) → buffers (from t c xs) l ≡ list_buffers (from t c xs) p
  unfolding buffers_by list_buffers
  buffers_as_list xs bytes (next file files) = cons_same (first_agrees_with.filled bytes file) (all_buffers t files _ _ first_agrees_with.heap (first_agrees_with.bytes bytes file))

pub as_list : AsList
as_list = record {
  same_responses = λ t c l p xs starts z size. responses_as_list t c l p starts z size xs;
  same_buffers = λ t c l p xs starts z size bytes files. buffers_as_list t c l p starts z size xs bytes files;
  keeps_reachable = list_keeps_reachable;
  used_is_sum = used_is_sum;
}
