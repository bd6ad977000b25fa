-- A log that lasts reads as before. Where a survey on the log's base is accepted it still is afterwards, and the chain says what is read; where it is refused it is refused by the same number
-- afterwards, and so is every read.
-- Assumes nothing.
use mathlib.Core.Path.{◌≡◌, refl, sym, ap, ◌∙◌}
use mathlib.Core.Logic.{◌≢◌, ◌⊎◌, inl, inr, ⊎_elim}
use mathlib.Core.Bool.{true, false, not}
use mathlib.Core.List.{List, [], ◌∷◌}
use Prim.Native.Nat.{ℕ, zero, suc}
use native.Mathlib.Decide.{ℕ_discrete}
use native.Mathlib.Omega.{arith}
use lib.ListN.{length}
use Rattle.rules.specs.Tables.{well_formed}
use Rattle.rules.specs.Planes.{planes}
use Rattle.rules.specs.Outcomes.{Heap, only_refusal}
use Rattle.rules.specs.Refusals.{good_shape, good_roots, good_lists, bad_shape, ill_formed}
use Rattle.rules.specs.Calls.{allocate, free, reallocate, collect, survey, load, store, write_image}
use Rattle.rules.specs.Runs.{Call, Init, Allocate, Free, Reallocate, Collect, Survey, Load, Store, WriteImage, OpenImage, step}
use Rattle.rules.specs.Memory.{Memory, Result, result, heap_in, Sound, stack_for, reads_table, perform, after_in}
use Rattle.rules.specs.Lent.{Lent}
use Rattle.laws.specs.Meaning.{AllBytes, Accepted}
use Rattle.laws.proofs.Memory.{Performed, acted, left, performed, accepted_sound, refusal_in}
use Rattle.laws.proofs.Planes.{planes_faithful, length_entries_in}
use Rattle.laws.proofs.Refusals.{accepted_none, first_passed, first_yes, refusal_is, shape_true, shape_of, shape_lengths, true_not_false, not_so}
use Rattle.promises.proofs.Bytes.{on_bytes}
use Rattle.programs.specs.Programs.{Program, give, ask, Ran, run}
use Rattle.programs.proofs.Stacks.{stack_unseen}
use Rattle.logs.specs.Log.{Reply, declined, append, read, drop}
use Rattle.loglaws.specs.Chains.{Entry, Chain}
use Rattle.loglaws.specs.Lasting.{Spares as SparesByCall}
use Rattle.loglaws.specs.Promises.{survey_in}
use Rattle.loglaws.proofs.Lasting.{survey_sound, sound_survey, passes_after}
use Rattle.loglaws.proofs.Promised.{log_promises}
use Rattle.loglaws.proofs.Reading.{read_as}
use Rattle.services.specs.Services.{Service, HeapCall, Append, Read, Drop, replied, Asked, served_to, lent_after_by}
use Rattle.lasting.specs.Lasting.{Spares, AllSpare, done, next, LentFor, LogLasts}
use Rattle.services.proofs.Laws.{act_sound, act, serve_is, checked_refused, act_other_t, act_pool_kept}
use Rattle.lasting.proofs.SameChain.{same_chain}
use Rattle.lasting.proofs.Lasting.{append_looked, read_looked, drop_looked, lent_next}

-- ---- a heap that passes 1 and 2 still does

module _ (t base : ℕ) where
  abbrev Surveyed : Memory → Type 0
  Surveyed m = survey_in (planes t) base m ≡ 0

  call_passes : (c : Call) (stack : List ℕ) (m : Memory) → Surveyed m → Surveyed (perform (planes t) c stack m).memory
  unfolding after_in
  call_passes c stack m z = passes_after (planes t) (planes_faithful t) base (record { call = c; stack = stack } ∷ []) m z

  run_passes : {A : Type 0} (p : Program A) (stack : List ℕ) (m : Memory) → Surveyed m → Surveyed (run (planes t) p stack m).memory
  unfolding run
  run_passes (give a) stack m z = z
  run_passes (ask c go) stack m z = run_passes (go _) _ _ (call_passes c stack m z)

  act_passes : (s : Service) (stack : List ℕ) (m : Memory) → Surveyed m → Surveyed (act (planes t) s stack m).memory
  unfolding act
  act_passes (HeapCall c) stack m z = call_passes c stack m z
  act_passes (Append b other time tips roots) stack m z = run_passes (append b other time tips roots stack) stack m z
  act_passes (Read b other index) stack m z = run_passes (read b other index) stack m z
  act_passes (Drop b other) stack m z = run_passes (drop b other) stack m z

-- ---- what is changed was well-formed

-- every byte is as it was, or the table was as it should be and well-formed
abbrev Stayed : ℕ → Memory → Memory → Type 0
Stayed t m n = (n ≡ m) ⊎ (Sound (planes t) m × (well_formed ((planes t).read m.table) ≡ true))

-- an accepted call that may spare a log
accepted_well : (base first : ℕ) (es : List Entry) (c : Call) (stack : List ℕ) (h : Heap) → SparesByCall base first es c → Accepted (step c stack h) → well_formed h.entries ≡ true
unfolding SparesByCall step allocate free reallocate collect survey load store write_image
accepted_well base first es (Init b) stack h spares z = absurd spares
accepted_well base first es (Allocate b bytes) stack h spares z = (first_passed (good_shape b h) h _ (accepted_none _ h [] _ z)).1
accepted_well base first es (Free b k) stack h spares z = (first_passed (good_shape b h) h _ (accepted_none _ h [] _ z)).1
accepted_well base first es (Reallocate b k bytes) stack h spares z = (first_passed (good_shape b h) h _ (accepted_none _ h [] _ z)).1
accepted_well base first es (Collect b roots) stack h spares z = (first_passed (good_lists b h roots stack) h _ (accepted_none _ h stack _ z)).1
accepted_well base first es (Survey b) stack h spares z = (first_passed (good_shape b h) h _ (accepted_none _ h [] _ z)).1
accepted_well base first es (Load b k i) stack h spares z = (first_passed (good_shape b h) h _ (accepted_none _ h [] _ z)).1
accepted_well base first es (Store b k i w) stack h spares z = (first_passed (good_shape b h) h _ (accepted_none _ h [] _ z)).1
accepted_well base first es (WriteImage b roots room) stack h spares z = (first_passed (good_roots b h roots) h _ (accepted_none _ h [] _ z)).1
accepted_well base first es (OpenImage image room) stack h spares z = absurd spares

module _ (t base first : ℕ) (es : List Entry) (stack : List ℕ) (m : Memory) (bytes : AllBytes m.table) where
  -- a survey that is accepted
  seen : (b : ℕ) {n : Memory} → survey_in (planes t) b m ≡ 0 → Stayed t m n
  seen b z = let x = survey_sound (planes t) b m z in inr (x.0, x.1.well)

  act_stayed : (s : Service) → Spares t base first es m s → Stayed t m (act (planes t) s stack m).memory
  unfolding act Spares SparesByCall
  act_stayed (HeapCall c) spares = go (performed (planes t) c stack m)
    where
      reads : (c : Call) → SparesByCall base first es c → reads_table c ≡ true
      reads (Init b) spares = absurd spares
      reads (Allocate b k) spares = refl
      reads (Free b k) spares = refl
      reads (Reallocate b k i) spares = refl
      reads (Collect b roots) spares = refl
      reads (Survey b) spares = refl
      reads (Load b k i) spares = refl
      reads (Store b k i w) spares = refl
      reads (WriteImage b roots room) spares = refl
      reads (OpenImage image room) spares = absurd spares

      go : Performed m (stack_for c stack) (perform (planes t) c stack m) → Stayed t m (perform (planes t) c stack m).memory
      go (acted z) = inr (accepted_sound (planes t) c stack m (reads c spares) z, accepted_well base first es c stack (heap_in (planes t) m) spares (on_bytes.accepted_bytes (planes t) c stack m z).0)
      go (left r e) = inl (ap (λ (x : Result). x.memory) e)
  act_stayed (Append b other time tips roots) spares = go (ℕ_discrete r.reply.refusal 0) (ℕ_discrete r.reply.refusal 9)
    where
      r : Ran Reply
      r = run (planes t) (append b other time tips roots stack) stack m

      go : Dec (r.reply.refusal ≡ 0) → Dec (r.reply.refusal ≡ 9) → Stayed t m r.memory
      go (yes e) d = seen b (append_looked t b other stack m time tips roots (inl e)).0.0
      go (no e) (yes d) = seen b (append_looked t b other stack m time tips roots (inr d)).0.0
      go (no e) (no d) = inl (log_promises.append_declined (planes t) (planes_faithful t) b other time tips roots stack m bytes e d).memory
  act_stayed (Read b other index) spares = go (ℕ_discrete r.reply.refusal 0)
    where
      r : Ran Reply
      r = run (planes t) (read b other index) stack m

      go : Dec (r.reply.refusal ≡ 0) → Stayed t m r.memory
      go (yes e) = seen b (read_looked t b other stack m index e).0.0
      go (no e) = inl (log_promises.read_declined (planes t) (planes_faithful t) b other index stack m bytes e).memory
  act_stayed (Drop b other) spares = go (ℕ_discrete r.reply.refusal 0)
    where
      r : Ran Reply
      r = run (planes t) (drop b other) stack m

      go : Dec (r.reply.refusal ≡ 0) → Stayed t m r.memory
      go (yes e) = seen b (drop_looked t b other stack m e).0.0
      go (no e) = inl (log_promises.drop_declined (planes t) (planes_faithful t) b other stack m bytes e).memory

-- ---- a refused survey stays refused, by the same number

-- where the shape is not good it is 1
shape_refused : (t base : ℕ) (m : Memory) → Sound (planes t) m → good_shape base (heap_in (planes t) m) ≡ false → survey_in (planes t) base m ≡ 1
unfolding step survey
shape_refused t base m sound bad =
    refusal_in (planes t) (planes_faithful t) (Survey base) [] m sound
    ∙ refusal_is _ (heap_in (planes t) m) [] _ (λ _. refl) ∙ first_yes (bad_shape (good_shape base (heap_in (planes t) m))) (ill_formed (heap_in (planes t) m) ∷ []) (ap not bad)

-- and where it is good, and the table as it should be and well-formed, the survey is accepted
shape_bad : (t base : ℕ) (m : Memory) → survey_in (planes t) base m ≢ 0 → Sound (planes t) m → well_formed ((planes t).read m.table) ≡ true → good_shape base (heap_in (planes t) m) ≡ false
shape_bad t base m refused sound well =
    not_so _ (λ good. refused (sound_survey (planes t) (planes_faithful t) base m sound (record { shape = shape_true base (heap_in (planes t) m) good; well = well })))

survey_same : (t base first : ℕ) (es : List Entry) (s : Service) (stack : List ℕ) (m : Memory) → AllBytes m.table → Spares t base first es m s → survey_in (planes t) base m ≢ 0
    → survey_in (planes t) base (act (planes t) s stack m).memory ≡ survey_in (planes t) base m
survey_same t base first es s stack m bytes spares refused = ⊎_elim (λ e. ap (survey_in (planes t) base) e) (λ x. go x.0 x.1) (act_stayed t base first es stack m bytes s spares)
  where
    n : Memory
    n = (act (planes t) s stack m).memory

    go : Sound (planes t) m → well_formed ((planes t).read m.table) ≡ true → survey_in (planes t) base n ≡ survey_in (planes t) base m
    go sound well =
        let bad = shape_bad t base m refused sound well in
        let same : good_shape base (heap_in (planes t) n) ≡ false = not_so _ (λ good. true_not_false (shape_of base (heap_in (planes t) m)
        (shape_lengths base (heap_in (planes t) n) (heap_in (planes t) m) (act_pool_kept (planes t) s stack m (length m.pool) refl) (length_entries_in t n.table ∙ sym (length_entries_in t m.table))
        (shape_true base (heap_in (planes t) n) good))) bad) in
        shape_refused t base n (act_sound (planes t) (planes_faithful t) s stack m sound) same ∙ sym (shape_refused t base m sound bad)

-- ---- lists

-- a survey on the log's base gives the same number after each service, and after all of them
module _ (t base first : ℕ) (es : List Entry) where
  act_survey : (s : Service) (stack : List ℕ) (m : Memory) → AllBytes m.table → Spares t base first es m s
      → survey_in (planes t) base (act (planes t) s stack m).memory ≡ survey_in (planes t) base m
  act_survey s stack m bytes spares = go (ℕ_discrete (survey_in (planes t) base m) 0)
    where
      go : Dec (survey_in (planes t) base m ≡ 0) → survey_in (planes t) base (act (planes t) s stack m).memory ≡ survey_in (planes t) base m
      go (yes z) = act_passes t base s stack m z ∙ sym z
      go (no refused) = survey_same t base first es s stack m bytes spares refused

  served_survey : (x : Asked) (l : Lent) → LentFor t l → (x.t ≡ t → Spares t base first es l.memory x.service)
      → survey_in (planes t) base (served_to x l).lent.memory ≡ survey_in (planes t) base l.memory
  served_survey x l w spares = rw (serve_is (planes x.t) x.service x.stack l) (go (ℕ_discrete x.t t))
    where
      go : Dec (x.t ≡ t) → survey_in (planes t) base (act (planes x.t) x.service x.stack l.memory).memory ≡ survey_in (planes t) base l.memory
      go (yes e) = rw e (act_survey x.service x.stack l.memory w.bytes (spares e))
      go (no other) = ap (survey_in (planes t) base) (act_other_t t x.t x.stack l.memory w.long other x.service).memory

  all_survey : (l : Lent) (xs : List Asked) → LentFor t l → AllSpare t base first es xs l
      → survey_in (planes t) base (lent_after_by served_to xs l).memory ≡ survey_in (planes t) base l.memory
  unfolding lent_after_by
  all_survey l [] w done = refl
  all_survey l (x ∷ xs) w (next spares rest) = all_survey (served_to x l).lent xs (lent_next t base first es x l w) rest ∙ served_survey x l w spares

-- ---- a read

-- where the survey is refused the read is, by the same number
pub refused_read : (t base first index r : ℕ) (stack : List ℕ) (m : Memory) → survey_in (planes t) base m ≡ suc r → (run (planes t) (read base first index) stack m).reply ≡ declined (suc r)
unfolding read
refused_read t base first index r stack m e =
    ap (λ (x : Ran Reply). x.reply) (checked_refused (planes t) base r _ stack m (stack_unseen (planes t) (Survey base) stack m refl ∙ go (performed (planes t) (Survey base) [] m)))
  where
    go : Performed m [] (perform (planes t) (Survey base) [] m) → perform (planes t) (Survey base) [] m ≡ result (only_refusal (suc r)) m []
    go (acted z) = absurd (omega (arith, z, e))
    go (left n q) = q ∙ ap (λ (k : ℕ). result (only_refusal k) m []) (sym (ap (λ (x : Result). x.answer.refusal) q) ∙ e)

-- two memories with one chain, on which a survey gives the same number
read_same : (t base first index : ℕ) (stack : List ℕ) (m n : Memory) (es : List Entry) → survey_in (planes t) base n ≡ survey_in (planes t) base m
    → Chain base (heap_in (planes t) m) first es → Chain base (heap_in (planes t) n) first es
    → (run (planes t) (read base first index) stack n).reply ≡ (run (planes t) (read base first index) stack m).reply
read_same t base first index stack m n es same chain chain' = go (survey_in (planes t) base m) refl
  where
    go : (r : ℕ) → survey_in (planes t) base m ≡ r → (run (planes t) (read base first index) stack n).reply ≡ (run (planes t) (read base first index) stack m).reply
    go zero z =
        read_as (planes t) (planes_faithful t) base first index stack n (same ∙ z) es chain' ∙ sym (read_as (planes t) (planes_faithful t) base first index stack m z es chain)
    go (suc r) e = refused_read t base first index r stack n (same ∙ e) ∙ sym (refused_read t base first index r stack m e)

pub log_lasts : LogLasts
unfolding act
log_lasts = record {
  same_chain = λ t base first l es xs w chain spare. same_chain t base first es l xs w chain spare;
  same_reading = λ t base first l es xs w chain spare index stack.
      let a = serve_is (planes t) (Read base first index) stack (lent_after_by served_to xs l) in
      let b = serve_is (planes t) (Read base first index) stack l in
      rw (a, b)
      (ap replied
      (read_same t base first index stack l.memory (lent_after_by served_to xs l).memory es (all_survey t base first es l xs w spare) chain (same_chain t base first es l xs w chain spare)));
}
