-- Used blocks are the sum of the answered changes: each call adds the change that it answers, each program of the log the sum of its calls' changes, and a service that is given another t nothing.
-- Assumes nothing.
use mathlib.Core.Path.{◌≡◌, refl, sym, ap, subst, ◌∙◌}
use mathlib.Core.Bool.{Bool, true, false}
use mathlib.Core.List.{List, [], ◌∷◌}
use Prim.Native.Nat.{ℕ, zero, suc, ◌*◌}
use native.Mathlib.Decide.{ℕ_discrete}
use native.Mathlib.Omega.{arith}
use lib.Dec.{eqb}
use lib.IntN.{ℤ, pos, ◌+ℤ◌, +ℤ_idr, +ℤ_assoc}
use lib.ListN.{length}
use Rattle.rules.specs.Tests.{pick}
use Rattle.rules.specs.Tables.{used}
use Rattle.rules.specs.Forms.{Form}
use Rattle.rules.specs.Outcomes.{Heap, Answer, Outcome, unless_refused}
use Rattle.rules.specs.Planes.{planes, entries_in}
use Rattle.rules.specs.Calls.{survey, load, store}
use Rattle.rules.specs.Runs.{Call, starts_anew, step}
use Rattle.rules.specs.Memory.{Memory, Result, heap_in, Sound, fault_in, AcceptedIn, perform}
use Rattle.rules.specs.Lent.{Lent, lent}
use Rattle.laws.specs.Faithful.{Faithful}
use Rattle.laws.proofs.Memory.{follows_sound, follows_accepted, sound_next}
use Rattle.laws.proofs.Lent.{no_fault}
use Rattle.laws.proofs.Planes.{planes_faithful}
use Rattle.laws.proofs.Refusals.{both_false}
use Rattle.keeping.specs.Keeping.{but_rescans}
use Rattle.promises.proofs.Bytes.{on_bytes, pool_of_is}
use Rattle.promises.proofs.OtherT.{pool_kept}
use Rattle.programs.specs.Programs.{Program, stack_after, run}
use Rattle.logs.specs.Log.{Reply}
use Rattle.services.specs.Services.{told_other_t, Service, HeapCall, Append, Read, Drop, refusal_of, Asked, asked, served_to, lent_after, lent_after_by}
use Rattle.refinement.specs.AsList.{counted_in, sum_of, from}
use Rattle.refinement.proofs.Counted.{counted}
use Rattle.refinement.proofs.Changes.{Sums, follows_sums, anew_sums}
use Rattle.services.proofs.Laws.{act_sound, Acted, act, serve_is, act_other_t, act_pool_kept}
use Rattle.refinement.proofs.Balance.{Quiet, survey as surveys, load as loads, store as stores, quiet_old, Balanced, gives, looks, asks, append_balanced, read_balanced, drop_balanced}

-- ---- one call

-- a call that changes no entry answers no change
unless_none : (n : ℕ) (h : Heap) (stack : List ℕ) (acted : Outcome) → acted.answer.change ≡ pos 0 → (unless_refused n h stack acted).answer.change ≡ pos 0
unfolding unless_refused
unless_none zero h stack acted e = e
unless_none (suc r) h stack acted e = refl

quiet_none : {c : Call} → Quiet c → (stack : List ℕ) (h : Heap) → (step c stack h).answer.change ≡ pos 0
unfolding step survey load store
quiet_none (surveys base) stack h = unless_none _ h [] _ refl
quiet_none (loads base k i) stack h = unless_none _ h [] _ refl
quiet_none (stores base k i w) stack h = unless_none _ h [] _ refl

-- one that does not start anew adds its change
counted_old : (c : Call) (a : Answer) (d : ℤ) → starts_anew c ≡ false → counted c a d ≡ d +ℤ a.change
unfolding counted_in
counted_old c a d e = rw e

-- ---- a call of the log

module _ (f : Form) (faithful : Faithful f) where
  -- the sum of what its calls answered, and of e before them
  run_sums : {e : ℤ} {q : Program Reply} → Balanced e q → (stack : List ℕ) (m : Memory) (d : ℤ) → Sound f m → Sums (heap_in f m) (d +ℤ e)
      → Sums (heap_in f (run f q stack m).memory) (d +ℤ (run f q stack m).reply.change)
  unfolding run
  run_sums (gives y same) stack m d sound s = subst (λ (x : ℤ). Sums (heap_in f m) (d +ℤ x)) (sym same) s
  run_sums {e = e} (looks {c = c} quiet then) stack m d sound s =
      let r : Result = perform f c stack m in
      let x = follows_sound f faithful c stack m sound in
      let none : r.answer.change ≡ pos 0 = ap (λ (a : Answer). a.change) x.answer ∙ quiet_none quiet stack (heap_in f m) in
      let same : counted c r.answer (d +ℤ e) ≡ d +ℤ e = counted_old c r.answer (d +ℤ e) (quiet_old quiet) ∙ ap (λ (z : ℤ). d +ℤ e +ℤ z) none ∙ +ℤ_idr (d +ℤ e) in
      run_sums (then (but_rescans r.answer)) (stack_after c r stack) r.memory d (sound_next f faithful c stack m sound)
      (subst (Sums (heap_in f r.memory)) same (follows_sums f faithful c stack m (d +ℤ e) x s))
  run_sums {e = e} (asks {c = c} old then) stack m d sound s =
      let r : Result = perform f c stack m in
      let x = follows_sound f faithful c stack m sound in
      run_sums (then (but_rescans r.answer) (λ refused. ap (λ (y : Result). y.answer.change) (on_bytes.refused_bytes f c stack m refused))) (stack_after c r stack) r.memory d
      (sound_next f faithful c stack m sound)
      (subst (Sums (heap_in f r.memory)) (counted_old c r.answer (d +ℤ e) old ∙ +ℤ_assoc d e r.answer.change) (follows_sums f faithful c stack m (d +ℤ e) x s))

-- ---- services

-- the sum d is the blocks that are used in the heap of 4t blocks, whose pool has 64t bytes
pub record SumsAt (t : ℕ) (l : Lent) (d : ℤ) : Type 0 where
  pub sound : Sound (planes t) l.memory
  pub long : length l.memory.pool ≡ 64 * t
  pub sums : Sums (heap_in (planes t) l.memory) d

module _ (f : Form) (faithful : Faithful f) where
  -- what a service answers is counted
  abbrev Counts : Service → Acted → ℤ → Type 0
  Counts s x d = Sums (heap_in f x.memory) (counted_in s x.reply d)

  log_counts : {q : Program Reply} → Balanced (pos 0) q → (stack : List ℕ) (m : Memory) (d : ℤ) → Sound f m → Sums (heap_in f m) d
      → Sums (heap_in f (run f q stack m).memory) (d +ℤ (run f q stack m).reply.change)
  log_counts balanced stack m d sound s = run_sums f faithful balanced stack m d sound (subst (Sums (heap_in f m)) (sym (+ℤ_idr d)) s)

  act_counts : (s : Service) (stack : List ℕ) (m : Memory) (d : ℤ) → Sound f m → Sums (heap_in f m) d → Counts s (act f s stack m) d
  unfolding act counted_in
  act_counts (HeapCall c) stack m d sound x = follows_sums f faithful c stack m d (follows_sound f faithful c stack m sound) x
  act_counts (Append base first time tips roots) stack m d sound x = log_counts (append_balanced base first time tips roots stack) stack m d sound x
  act_counts (Read base first index) stack m d sound x = log_counts (read_balanced base first index) stack m d sound x
  act_counts (Drop base first) stack m d sound x = log_counts (drop_balanced base first) stack m d sound x

-- a service that is given another t adds nothing
other_counts : (s : Service) (d : ℤ) → counted_in s (told_other_t s) d ≡ d
unfolding counted_in
other_counts (HeapCall c) d = rw (not_accepted (eqb (fault_in c) 0) refl, both_false (starts_anew c)) (+ℤ_idr d)
  where
    not_accepted : (b : Bool) → eqb (fault_in c) 0 ≡ b → eqb (pick b 1 (fault_in c)) 0 ≡ false
    not_accepted true e = refl
    not_accepted false e = e
other_counts (Append base first time tips roots) d = +ℤ_idr d
other_counts (Read base first index) d = +ℤ_idr d
other_counts (Drop base first) d = +ℤ_idr d

served_sums : (t : ℕ) (x : Asked) (l : Lent) (d : ℤ) → SumsAt t l d → SumsAt t (served_to x l).lent (counted_in x.service (served_to x l).reply d)
served_sums t x l d y = rw (serve_is (planes x.t) x.service x.stack l) (go (ℕ_discrete x.t t))
  where
    go : Dec (x.t ≡ t)
        → let z : Acted = act (planes x.t) x.service x.stack l.memory in
        SumsAt t (lent z.memory l.beside) (counted_in x.service z.reply d)
    go (yes e) =
        rw e
        (record {
          sound = act_sound (planes t) (planes_faithful t) x.service x.stack l.memory y.sound;
          long = act_pool_kept (planes t) x.service x.stack l.memory (64 * t) y.long;
          sums = act_counts (planes t) (planes_faithful t) x.service x.stack l.memory d y.sound y.sums;
        })
    go (no other) =
        let z = act_other_t t x.t x.stack l.memory y.long other x.service in
        rw (z.memory, z.reply, other_counts x.service d) (record { sound = y.sound; long = y.long; sums = y.sums })

all_sums : (t : ℕ) (xs : List Asked) (l : Lent) (d : ℤ) → SumsAt t l d → sum_of xs l d ≡ pos (used (entries_in t (lent_after xs l).memory.table))
unfolding sum_of lent_after_by
all_sums t [] l d y = y.sums
all_sums t (x ∷ xs) l d y = all_sums t xs (served_to x l).lent (counted_in x.service (served_to x l).reply d) (served_sums t x l d y)

-- from an accepted init or opening on, whatever was counted before
pub used_is_sum : (t : ℕ) (c : Call) (l : Lent) (xs : List Asked) (d : ℤ) → starts_anew c ≡ true → refusal_of (served_to (asked t (HeapCall c) []) l).reply ≡ 0
    → sum_of (from t c xs) l d ≡ pos (used (entries_in t (lent_after (from t c xs) l).memory.table))
unfolding sum_of lent_after_by act counted_in
used_is_sum t c l xs d starts z = all_sums t xs (served_to first l).lent (counted_in (HeapCall c) (served_to first l).reply d) begun
  where
    first : Asked
    first = asked t (HeapCall c) []

    accepted : AcceptedIn (perform (planes t) c [] l.memory)
    accepted = rw (serve_is (planes t) (HeapCall c) [] l) at z

    begun : SumsAt t (served_to first l).lent (counted_in (HeapCall c) (served_to first l).reply d)
    begun =
        rw (serve_is (planes t) (HeapCall c) [] l)
        (record {
          sound = (follows_accepted (planes t) (planes_faithful t) c [] l.memory accepted).sound accepted;
          long = pool_kept (planes t) c [] l.memory (64 * t) (pool_of_is t c [] l.memory (no_fault (planes t) c [] l.memory accepted) (λ e. omega (arith, e, accepted)));
          sums = anew_sums (planes t) (planes_faithful t) c [] l.memory d starts accepted;
        })
