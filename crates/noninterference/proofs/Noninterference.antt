-- Noninterference of services. Two memories that no call tells apart are two such again after each service: after a call of the heap, after a call of the log, which is a program of those, and after
-- a service that is given another t, which is refused on both.
-- Assumes nothing.
use mathlib.Core.Path.{◌≡◌, refl, sym, ap, subst, ◌∙◌}
use mathlib.Core.Logic.{◌≢◌}
use mathlib.Core.List.{List, ◌∷◌}
use Prim.Native.Nat.{ℕ, ◌*◌, ◌/◌}
use native.Mathlib.Decide.{ℕ_discrete}
use native.Mathlib.Omega.{arith}
use lib.Dec.{ltb}
use lib.ListN.{length}
use Rattle.rules.specs.Forms.{Form}
use Rattle.rules.specs.Outcomes.{Answer}
use Rattle.rules.specs.Planes.{planes}
use Rattle.rules.specs.Refusals.{whole_words}
use Rattle.rules.specs.Runs.{Call, Collect}
use Rattle.rules.specs.Memory.{Memory, Result, AcceptedIn, perform}
use Rattle.rules.specs.Lent.{Lent, lent, Served}
use Rattle.laws.proofs.Planes.{planes_faithful}
use Rattle.laws.specs.Faithful.{Faithful}
use Rattle.keeping.specs.Keeping.{but_rescans}
use Rattle.promises.proofs.Bytes.{pool_of_is}
use Rattle.unwinding.specs.Answers.{SameStacks, SameAnswer, equal, alike_but_rescans}
use Rattle.unwinding.proofs.Collections.{stacks_whole, stacks_short}
use Rattle.unwinding.proofs.Memories as calls
use Rattle.unwinding.proofs.Memories.{Twins, twin_tables, twin_bytes}
use Rattle.programs.specs.Programs.{Program, give, ask, Ran, stack_after, run}
use Rattle.programs.proofs.Stacks.{still_alike}
use Rattle.programs.proofs.Laws.{cons_same}
use Rattle.logs.specs.Log.{Reply, append, read, drop}
use Rattle.services.specs.Services.{Service, HeapCall, Append, Read, Drop, Response, answered, replied, refusal_of, serve_in, Asked, asked, served_to, responses_by, buffers_by, lent_after_by}
use Rattle.noninterference.specs.Noninterference.{Alike, done, next, SameResponse, equal, alike_but_rescans, Indistinct, Noninterference}
use Rattle.services.proofs.Laws.{Acted, call_acted, log_acted, act, serve_is, act_other_t, act_pool_kept}

-- ---- a program on two memories

-- two runs gave the same reply, and left two such memories
pub record RanAlike {A : Type 0} (f : Form) (r r' : Ran A) : Type 0 where
  pub reply : r.reply ≡ r'.reply
  pub memory : Twins f r.memory r'.memory

-- an answer is the same but for the rescans, of which a program is told nothing
but_rescans_same : {stack stack' : List ℕ} {a b : Answer} {c : Call} → SameAnswer stack stack' a b c → but_rescans a ≡ but_rescans b
but_rescans_same (equal e) = ap but_rescans e
but_rescans_same (alike_but_rescans z l e) = e

run_alike : {A : Type 0} (f : Form) → Faithful f → (p : Program A) (stack stack' : List ℕ) (m m' : Memory) → SameStacks stack stack' → Twins f m m'
    → RanAlike f (run f p stack m) (run f p stack' m')
unfolding run
run_alike f faithful (give a) stack stack' m m' s w = record { reply = refl; memory = w }
run_alike f faithful (ask c go) stack stack' m m' s w =
    let r : Result = perform f c stack m in
    let r' : Result = perform f c stack' m' in
    let x = calls.call_alike f faithful c stack stack' m m' s w in
    subst (λ (a : Answer). RanAlike f (run f (ask c go) stack m) (run f (go a) (stack_after c r' stack') r'.memory)) (but_rescans_same x.answer)
    (run_alike f faithful (go (but_rescans r.answer)) (stack_after c r stack) (stack_after c r' stack') r.memory r'.memory (still_alike f faithful c stack stack' m m' s) x.memory)

-- ---- a service on two memories

-- the same is told and written, and two such memories are left
pub record ActedAlike (f : Form) (s : Service) (stack stack' : List ℕ) (x x' : Acted) : Type 0 where
  pub reply : SameResponse stack stack' s x.reply x'.reply
  pub filled : x.filled ≡ x'.filled
  pub memory : Twins f x.memory x'.memory

told_alike : {stack stack' : List ℕ} {a b : Answer} (c : Call) → SameAnswer stack stack' a b c → SameResponse stack stack' (HeapCall c) (answered a) (answered b)
told_alike c (equal e) = equal (ap answered e)
told_alike _ (alike_but_rescans z l e) = alike_but_rescans z l e

call_alike : (f : Form) (c : Call) (stack stack' : List ℕ) {r r' : Result} → calls.CalledAlike f c stack stack' r r' → ActedAlike f (HeapCall c) stack stack' (call_acted r) (call_acted r')
call_alike f c stack stack' x = record { reply = told_alike c x.answer; filled = x.filled; memory = x.memory }

log_alike : (f : Form) (s : Service) {stack stack' : List ℕ} {r r' : Ran Reply} → RanAlike f r r' → ActedAlike f s stack stack' (log_acted r) (log_acted r')
log_alike f s x = record { reply = equal (ap replied x.reply); filled = refl; memory = x.memory }

-- append looks at two things of its mark stack: whether it is whole words, and whether it has more than 64 entries
append_by : (base first time tips : ℕ) (roots stack stack' : List ℕ) → whole_words stack ≡ whole_words stack' → ltb 64 (length stack / 4) ≡ ltb 64 (length stack' / 4)
    → append base first time tips roots stack ≡ append base first time tips roots stack'
unfolding append
append_by base first time tips roots stack stack' w l = rw (w, l)

module _ (t : ℕ) {stack stack' : List ℕ} {m m' : Memory} (same : SameStacks stack stack') (w : Twins (planes t) m m') where
  program_alike : {A : Type 0} (p : Program A) → RanAlike (planes t) (run (planes t) p stack m) (run (planes t) p stack' m')
  program_alike p = run_alike (planes t) (planes_faithful t) p stack stack' m m' same w

  pub act_alike : (s : Service) → ActedAlike (planes t) s stack stack' (act (planes t) s stack m) (act (planes t) s stack' m')
  unfolding act
  act_alike (HeapCall c) = call_alike (planes t) c stack stack' (calls.call_alike (planes t) (planes_faithful t) c stack stack' m m' same w)
  act_alike (Append base first time tips roots) =
      log_alike (planes t) _
      (subst (λ (p : Program Reply). RanAlike (planes t) (run (planes t) (append base first time tips roots stack) stack m) (run (planes t) p stack' m'))
      (append_by base first time tips roots stack stack' (stacks_whole same) (stacks_short same)) (program_alike (append base first time tips roots stack)))
  act_alike (Read base first index) = log_alike (planes t) _ (program_alike (read base first index))
  act_alike (Drop base first) = log_alike (planes t) _ (program_alike (drop base first))

-- ---- on all that is lent, with any t

-- no call tells the memories apart, their pools have 64t bytes, and what lies beside is the same
pub record LentTwins (t : ℕ) (l l' : Lent) : Type 0 where
  pub memory : Twins (planes t) l.memory l'.memory
  pub long : length l.memory.pool ≡ 64 * t
  pub long' : length l'.memory.pool ≡ 64 * t
  pub beside : l.beside ≡ l'.beside

pub record ServedAlike (t : ℕ) (s : Service) (stack stack' : List ℕ) (x x' : Served Response) : Type 0 where
  pub reply : SameResponse stack stack' s x.reply x'.reply
  pub filled : x.filled ≡ x'.filled
  pub lent : LentTwins t x.lent x'.lent

-- with the heaps' t: what holds on the memories, holds with what lies beside
own_alike : (t : ℕ) (l l' : Lent) → length l.memory.pool ≡ 64 * t → length l'.memory.pool ≡ 64 * t → l.beside ≡ l'.beside → (s : Service) (stack stack' : List ℕ)
    → ActedAlike (planes t) s stack stack' (act (planes t) s stack l.memory) (act (planes t) s stack' l'.memory)
    → ServedAlike t s stack stack' (serve_in (planes t) s stack l) (serve_in (planes t) s stack' l')
own_alike t l l' long long' beside s stack stack' x =
    rw (serve_is (planes t) s stack l, serve_is (planes t) s stack' l')
    (record {
      reply = x.reply;
      filled = x.filled;
      lent = record {
        memory = x.memory;
        long = act_pool_kept (planes t) s stack l.memory (64 * t) long;
        long' = act_pool_kept (planes t) s stack' l'.memory (64 * t) long';
        beside = beside;
      };
    })

module _ (t : ℕ) {l l' : Lent} (w : LentTwins t l l') where
  -- with another: it is refused on both
  other_alike : (t' : ℕ) → t' ≢ t → (s : Service) (stack stack' : List ℕ) → ServedAlike t s stack stack' (serve_in (planes t') s stack l) (serve_in (planes t') s stack' l')
  other_alike t' other s stack stack' =
      let x = act_other_t t t' stack l.memory w.long other s in
      let x' = act_other_t t t' stack' l'.memory w.long' other s in
      rw (serve_is (planes t') s stack l, serve_is (planes t') s stack' l')
      (record {
        reply = equal (x.reply ∙ sym x'.reply);
        filled = x.filled ∙ sym x'.filled;
        lent = rw (x.memory, x'.memory) (record { memory = w.memory; long = w.long; long' = w.long'; beside = w.beside });
      })

  served_alike : (t' : ℕ) (s : Service) (stack stack' : List ℕ) → SameStacks stack stack' → ServedAlike t s stack stack' (serve_in (planes t') s stack l) (serve_in (planes t') s stack' l')
  served_alike t' s stack stack' same = go (ℕ_discrete t' t)
    where
      go : Dec (t' ≡ t) → ServedAlike t s stack stack' (serve_in (planes t') s stack l) (serve_in (planes t') s stack' l')
      go (yes e) = rw e (own_alike t l l' w.long w.long' w.beside s stack stack' (act_alike t same w.memory s))
      go (no other) = other_alike t' other s stack stack'

-- ---- lists

-- a service, and then services that do not tell apart what it leaves
then_alike : (t : ℕ) {t' : ℕ} (s : Service) {stack stack' : List ℕ} {xs ys : List Asked} {l l' : Lent} → ServedAlike t s stack stack' (serve_in (planes t') s stack l) (serve_in (planes t') s stack' l')
    → Indistinct t xs ys (serve_in (planes t') s stack l).lent (serve_in (planes t') s stack' l').lent → Indistinct t (asked t' s stack ∷ xs) (asked t' s stack' ∷ ys) l l'
unfolding responses_by buffers_by lent_after_by
then_alike t s x rest =
    record {
      same_responses = next x.reply rest.same_responses;
      same_buffers = cons_same x.filled rest.same_buffers;
      same_lent = rest.same_lent;
      same_bytes = rest.same_bytes;
    }

pub all_alike : (t : ℕ) {xs ys : List Asked} → Alike xs ys → {l l' : Lent} → LentTwins t l l' → Indistinct t xs ys l l'
unfolding responses_by buffers_by lent_after_by
all_alike t done w =
    record {
      same_responses = done;
      same_buffers = refl;
      same_lent = record { table = twin_tables (planes t) w.memory; beside = w.beside };
      same_bytes = twin_bytes (planes t) w.memory;
    }
all_alike t (next t' s {stack = stack} {stack' = stack'} same alike) w =
    let x = served_alike t w t' s stack stack' same in
    then_alike t s x (all_alike t alike x.lent)

-- ---- the first collection

-- what is asked for behind it is asked for alike
alike_behind : {x y : Asked} {xs ys : List Asked} → Alike (x ∷ xs) (y ∷ ys) → Alike xs ys
alike_behind (next _ _ same alike) = alike

pub noninterference : Noninterference
unfolding act
noninterference t base roots stack stack' l l' xs ys beside agree asked_alike x x' =
    let first = own_alike t l l' (pool_of_is t c stack l.memory refl (not_one z)) (pool_of_is t c stack' l'.memory refl (not_one z')) beside.beside (HeapCall c) stack stack' acted in
    then_alike t (HeapCall c) first (all_alike t (alike_behind asked_alike) first.lent)
  where
    c : Call
    c = Collect base roots

    -- it is accepted on the memories
    accepted : (stack : List ℕ) (l : Lent) → refusal_of (served_to (asked t (HeapCall c) stack) l).reply ≡ 0 → AcceptedIn (perform (planes t) c stack l.memory)
    accepted stack l x = rw (serve_is (planes t) (HeapCall c) stack l) at x

    z : AcceptedIn (perform (planes t) c stack l.memory)
    z = accepted stack l x

    z' : AcceptedIn (perform (planes t) c stack' l'.memory)
    z' = accepted stack' l' x'

    not_one : {r : ℕ} → r ≡ 0 → r ≢ 1
    not_one e d = omega (arith, e, d)

    acted : ActedAlike (planes t) (HeapCall c) stack stack' (act (planes t) (HeapCall c) stack l.memory) (act (planes t) (HeapCall c) stack' l'.memory)
    acted =
        call_alike (planes t) c stack stack'
        (calls.first_alike (planes t) (planes_faithful t) base roots stack stack' l.memory l'.memory beside.table agree z z')
