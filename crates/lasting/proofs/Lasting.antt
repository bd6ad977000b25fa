-- The log lasts: each service that spares it leaves its chain. Of calls of the heap that is known; an append to another log, and a drop from one, leave it by what the promises of the log say they
-- change; and a service that is given another t changes nothing.
-- Assumes nothing.
use mathlib.Core.Path.{◌≡◌, refl, sym, ap, subst, ◌∙◌}
use mathlib.Core.Logic.{◌≢◌, ◌⊎◌, inl, inr, ⊎_elim}
use mathlib.Core.List.{List, [], ◌∷◌, ◌++◌, Memᴰ}
use Prim.Native.Nat.{ℕ, zero, suc, ◌*◌, ◌^◌, ◌≤◌, ◌<◌}
use native.Mathlib.Decide.{ℕ_discrete}
use native.Mathlib.Omega.{arith}
use lib.ListN.{length}
use Rattle.rules.specs.Words.{bytes_of, words_of}
use Rattle.rules.specs.Forms.{Form}
use Rattle.rules.specs.Planes.{planes}
use Rattle.rules.specs.Outcomes.{Heap}
use Rattle.rules.specs.Runs.{Collect}
use Rattle.rules.specs.Memory.{Memory, heap_in}
use Rattle.rules.specs.Lent.{Lent, lent}
use Rattle.laws.specs.Meaning.{AllBytes}
use Rattle.laws.specs.Faithful.{Faithful}
use Rattle.laws.proofs.Planes.{planes_faithful}
use Rattle.promises.specs.Conditions.{Condition, First, NoFit}
use Rattle.programs.specs.Programs.{Ran, run}
use Rattle.logs.specs.Log.{Reply, decline, append, read, drop}
use Rattle.loglaws.specs.Chains.{Entry, Chain, Log, heads}
use Rattle.loglaws.specs.Lasting.{Apart, Spares as SparesByCall}
use Rattle.loglaws.specs.Promises.{survey_in, collection_in, LastOf, Longer, of_append, of_read, of_drop, NoEntry}
use Rattle.loglaws.proofs.Calling.{Followed, lost, found, followed}
use Rattle.loglaws.proofs.Checking.{survey_number_in}
use Rattle.loglaws.proofs.Chaining.{chain_same, chain_object, chain_one}
use Rattle.loglaws.proofs.Lasting.{lasts_once, survey_sound}
use Rattle.loglaws.proofs.Promised.{log_promises}
use Rattle.loglaws.proofs.Uses.{fit_or_not, longer_others, dropped_others}
use Rattle.services.specs.Services.{Service, HeapCall, Append, Read, Drop, Asked, served_to}
use Rattle.lasting.specs.Lasting.{Spares, LentFor}
use Rattle.services.proofs.Laws.{act_bytes, act, serve_is, act_other_t, act_pool_kept}

-- ---- the services of another log

-- a condition whose number is not given does not hold
behind : (c : Condition) (cs : List Condition) (n : ℕ) → First (c ∷ cs) n → n ≢ c.number → ¬ c.holds × First cs n
unfolding First
behind c cs n x other = ⊎_elim (λ here. absurd (other here.1)) (λ later. later) x

-- and where a number is given, the last one holds
only : (c : Condition) (n : ℕ) → First (c ∷ []) n → n ≢ 0 → c.holds
unfolding First
only c n x refused = ⊎_elim (λ here. here.0) (λ later. absurd (refused later.1)) x

-- a list has an element at an index that is below its length
split : {A : Type 0} (es : List A) (i : ℕ) → ¬ (length es ≤ i) → (before : List A) × (e : A) × (after : List A) × (es ≡ before ++ e ∷ after) × (length before ≡ i)
split [] i inside = absurd (inside (omega arith))
split (e ∷ es) zero inside = ([], e, es, refl, refl)
split (e ∷ es) (suc i) inside =
    let (before, d, after, is, long) = split es i (λ few. inside (omega (arith, few))) in
    (e ∷ before, d, after, ap (λ (ds : List _). e ∷ ds) is, ap suc long)

-- where a survey is refused by neither 1 nor 2 it is accepted
surveyed : (t base : ℕ) (m : Memory) → survey_in (planes t) base m ≢ 1 → survey_in (planes t) base m ≢ 2 → survey_in (planes t) base m ≡ 0
surveyed t base m one two = go (survey_in (planes t) base m) refl
  where
    go : (n : ℕ) → survey_in (planes t) base m ≡ n → survey_in (planes t) base m ≡ 0
    go zero e = e
    go (suc n) e = absurd (⊎_elim (λ q. one (e ∙ q)) (λ q. two (e ∙ q)) (survey_number_in (planes t) base m n e))

-- there is no log, or one with these entries
which : (t base other : ℕ) (stack : List ℕ) (m : Memory) → survey_in (planes t) base m ≡ 0 → (¬ Log base (heap_in (planes t) m) other) ⊎ Log base (heap_in (planes t) m) other
which t base other stack m z = go (followed base other (λ ks. decline 0) stack (heap_in (planes t) m) (survey_sound (planes t) base m z).1)
  where
    go : Followed base other (λ ks. decline 0) stack (heap_in (planes t) m) → (¬ Log base (heap_in (planes t) m) other) ⊎ Log base (heap_in (planes t) m) other
    go (lost no_log e) = inl no_log
    go (found ds own e) = inr (record { entries = ds; chain = own })

-- what is known where a call of a log is not refused before it comes to its entries: the survey is accepted, and there is a log
module _ (t b other : ℕ) (stack : List ℕ) (m : Memory) where
  abbrev pub Looked : Type 0
  Looked = (survey_in (planes t) b m ≡ 0) × Log b (heap_in (planes t) m) other

  looked : survey_in (planes t) b m ≢ 1 → survey_in (planes t) b m ≢ 2 → ¬ (¬ Log b (heap_in (planes t) m) other) → Looked
  looked one two eighteen =
      let z = surveyed t b m one two in
      (z, ⊎_elim (λ no_log. absurd (eighteen no_log)) (λ log. log) (which t b other stack m z))

  -- an append is refused by 9 only where there is no room
  pub append_looked : (time tips : ℕ) (roots : List ℕ)
      → let n : ℕ = (run (planes t) (append b other time tips roots stack) stack m).reply.refusal in
      (n ≡ 0) ⊎ (n ≡ 9) → Looked × (n ≡ 9 → NoFit (heap_in (planes t) m) 2)
  unfolding of_append
  append_looked time tips roots known =
      let n : ℕ = (run (planes t) (append b other time tips roots stack) stack m).reply.refusal in
      let not : (k : ℕ) → k ≢ 0 → k ≢ 9 → n ≢ k = λ k zero nine e. ⊎_elim (λ q. zero (sym e ∙ q)) (λ q. nine (sym e ∙ q)) known in
      let one = behind _ _ n (log_promises.append_refusal (planes t) (planes_faithful t) b other time tips roots stack m) (not 1 (λ q. omega (arith, q)) (λ q. omega (arith, q))) in
      let two = behind _ _ n one.1 (not 2 (λ q. omega (arith, q)) (λ q. omega (arith, q))) in
      let three = behind _ _ n two.1 (not 3 (λ q. omega (arith, q)) (λ q. omega (arith, q))) in
      let four = behind _ _ n three.1 (not 4 (λ q. omega (arith, q)) (λ q. omega (arith, q))) in
      let eighteen = behind _ _ n four.1 (not 18 (λ q. omega (arith, q)) (λ q. omega (arith, q))) in
      (looked (λ q. one.0 (inr q)) two.0 eighteen.0, λ nine. (only _ n eighteen.1 (λ q. omega (arith, q, nine))).0)

  -- of a read and a drop also that there is an entry
  entry_looked : (index n : ℕ) → First (of_read (planes t) b other index m) n → n ≡ 0 → Looked × ¬ NoEntry b (heap_in (planes t) m) other index
  unfolding of_read
  entry_looked index n first accepted =
      let not : (k : ℕ) → k ≢ 0 → n ≢ k = λ k zero e. zero (sym e ∙ accepted) in
      let one = behind _ _ n first (not 1 (λ q. omega (arith, q))) in
      let two = behind _ _ n one.1 (not 2 (λ q. omega (arith, q))) in
      let eighteen = behind _ _ n two.1 (not 18 (λ q. omega (arith, q))) in
      let nineteen = behind _ _ n eighteen.1 (not 19 (λ q. omega (arith, q))) in
      (looked one.0 two.0 eighteen.0, nineteen.0)

  pub read_looked : (index : ℕ) → (run (planes t) (read b other index) stack m).reply.refusal ≡ 0 → Looked × ¬ NoEntry b (heap_in (planes t) m) other index
  read_looked index accepted = entry_looked index _ (log_promises.read_refusal (planes t) (planes_faithful t) b other index stack m) accepted

  pub drop_looked : (run (planes t) (drop b other) stack m).reply.refusal ≡ 0 → Looked × ¬ NoEntry b (heap_in (planes t) m) other 0
  unfolding of_drop
  drop_looked accepted = entry_looked 0 _ (log_promises.drop_refusal (planes t) (planes_faithful t) b other stack m) accepted

module _ (t base : ℕ) (stack : List ℕ) (m : Memory) (bytes : AllBytes m.table) (first : ℕ) (es : List Entry) (chain : Chain base (heap_in (planes t) m) first es) where
  abbrev f : Form
  f = planes t

  abbrev faithful : Faithful f
  faithful = planes_faithful t

  -- the chain where nothing was changed
  unchanged : {n : Memory} → n ≡ m → Chain base (heap_in f n) first es
  unchanged e = subst (λ (n : Memory). Chain base (heap_in f n) first es) (sym e) chain

  -- an append to another log, on whatever base where it does not collect
  module _ (b other time tips : ℕ) (roots : List ℕ) (small : time < 2 ^ 32) (small' : tips < 2 ^ 32)
      (collects : NoFit (heap_in f m) 2 → (b ≡ base) × Memᴰ first (words_of (bytes_of other ++ roots)))
      (disjoint : (ds : List Entry) → Chain b (heap_in f m) other ds → (o : ℕ) → LastOf ds o → Apart es o) where
    abbrev appended : Ran Reply
    appended = run f (append b other time tips roots stack) stack m

    -- its collection leaves the log
    collected : NoFit (heap_in f m) 2 → Chain base (heap_in f (collection_in f b other roots stack m).memory) first es
    unfolding SparesByCall
    collected no-fit = lasts_once f faithful base first es (Collect b (bytes_of other ++ roots)) stack m (collects no-fit) chain

    -- and so does the entry more, in the log with the entries ds
    lengthened : (before after : Heap) (ds : List Entry) (k new : ℕ) → Chain b (heap_in f m) other ds → Chain b before other ds → Longer b other before ds k time tips after new
        → Chain base before first es → Chain base after first es
    lengthened before after ds k new own own' longer mine =
        chain_same base before after mine
        (λ o at. longer_others b other before ds k time tips after new own' longer o (chain_object base before mine o at) (λ last. disjoint ds own o last at))

    append_spares : Chain base (heap_in f appended.memory) first es
    append_spares = go (ℕ_discrete appended.reply.refusal 0) (ℕ_discrete appended.reply.refusal 9)
      where
        go : Dec (appended.reply.refusal ≡ 0) → Dec (appended.reply.refusal ≡ 9) → Chain base (heap_in f appended.memory) first es
        go (yes accepted) d =
            let log = (append_looked t b other stack m time tips roots (inl accepted)).0.1 in
            let ds : List Entry = log.entries in
            let own : Chain b (heap_in f m) other ds = log.chain in
            ⊎_elim
            (λ no-fit.
            let x = log_promises.appended_after f faithful b other time tips roots stack m small small' accepted no-fit in
            lengthened _ _ ds _ _ own (x.2 ds own) (x.0.longer ds (x.2 ds own)) (collected no-fit))
            (λ fit.
            let x = log_promises.appended f faithful b other time tips roots stack m small small' accepted fit in
            lengthened _ _ ds _ _ own own (x.0.longer ds own) chain)
            (fit_or_not (heap_in f m))
        go (no refused) (yes nine) =
            subst (λ (n : Memory). Chain base (heap_in f n) first es) (sym (log_promises.append_no_room f faithful b other time tips roots stack m bytes nine).1)
            (collected ((append_looked t b other stack m time tips roots (inr nine)).1 nine))
        go (no refused) (no no_nine) = unchanged (log_promises.append_declined f faithful b other time tips roots stack m bytes refused no_nine).memory

  -- a drop from another log, on whatever base
  module _ (b other : ℕ) (disjoint : (d : Entry) (ds : List Entry) → Chain b (heap_in f m) other (d ∷ ds) → Apart es d.head) where
    abbrev dropped : Ran Reply
    dropped = run f (drop b other) stack m

    drop_spares : Chain base (heap_in f dropped.memory) first es
    drop_spares = go (ℕ_discrete dropped.reply.refusal 0)
      where
        from : dropped.reply.refusal ≡ 0 → 16 ≤ b → (ds : List Entry) → Chain b (heap_in f m) other ds → ¬ NoEntry b (heap_in f m) other 0 → Chain base (heap_in f dropped.memory) first es
        from accepted high [] own some_entry = absurd (some_entry (λ gs c. omega (arith, ap length (chain_one b high (heap_in f m) c own))))
        from accepted high (d ∷ ds) own some_entry =
            chain_same base (heap_in f m) (heap_in f dropped.memory) chain
            (λ o at. dropped_others b (heap_in f m) other d ds _ _ own (log_promises.dropped f faithful b other stack m accepted d ds own).0 o (chain_object base (heap_in f m) chain o at)
            (λ e. disjoint d ds own (subst (λ (k : ℕ). Memᴰ k (heads es)) e at)))

        go : Dec (dropped.reply.refusal ≡ 0) → Chain base (heap_in f dropped.memory) first es
        go (yes accepted) =
            let ((z, log), some_entry) = drop_looked t b other stack m accepted in
            from accepted (survey_sound f b m z).1.shape.above log.entries log.chain some_entry
        go (no refused) = unchanged (log_promises.drop_declined f faithful b other stack m bytes refused).memory

  -- a read of any log changes nothing
  module _ (b other index : ℕ) where
    abbrev reading : Ran Reply
    reading = run f (read b other index) stack m

    read_spares : Chain base (heap_in f reading.memory) first es
    read_spares = go (ℕ_discrete reading.reply.refusal 0)
      where
        go : Dec (reading.reply.refusal ≡ 0) → Chain base (heap_in f reading.memory) first es
        go (yes accepted) =
            let ((z, log), some_entry) = read_looked t b other stack m index accepted in
            let high : 16 ≤ b = (survey_sound f b m z).1.shape.above in
            let (before, e, after, is, long) = split log.entries index (λ few. some_entry (λ gs c. omega (arith, few, ap length (chain_one b high (heap_in f m) c log.chain)))) in
            unchanged (log_promises.was_read f faithful b other index stack m bytes accepted before e after long (subst (Chain b (heap_in f m) other) is log.chain)).1
        go (no refused) = unchanged (log_promises.read_declined f faithful b other index stack m bytes refused).memory

-- ---- services

module _ (t base first : ℕ) (es : List Entry) where
  act_spares : (s : Service) (stack : List ℕ) (m : Memory) → AllBytes m.table → Spares t base first es m s → Chain base (heap_in (planes t) m) first es
      → Chain base (heap_in (planes t) (act (planes t) s stack m).memory) first es
  unfolding act Spares
  act_spares (HeapCall c) stack m bytes spares chain = lasts_once (planes t) (planes_faithful t) base first es c stack m spares chain
  act_spares (Append b other time tips roots) stack m bytes (small, small', collects, disjoint) chain =
      append_spares t base stack m bytes first es chain b other time tips roots small small' collects disjoint
  act_spares (Read b other index) stack m bytes spares chain = read_spares t base stack m bytes first es chain b other index
  act_spares (Drop b other) stack m bytes spares chain = drop_spares t base stack m bytes first es chain b other spares

  -- what is lent stays as it should be
  pub lent_next : (x : Asked) (l : Lent) → LentFor t l → LentFor t (served_to x l).lent
  lent_next x l w = rw (serve_is (planes x.t) x.service x.stack l) (go (ℕ_discrete x.t t))
    where
      go : Dec (x.t ≡ t) → LentFor t (lent (act (planes x.t) x.service x.stack l.memory).memory l.beside)
      go (yes e) =
          rw e
          (record { long = act_pool_kept (planes t) x.service x.stack l.memory (64 * t) w.long; bytes = act_bytes t x.service x.stack l.memory w.bytes })
      go (no other) = rw (act_other_t t x.t x.stack l.memory w.long other x.service).memory (record { long = w.long; bytes = w.bytes })

  pub served_spares : (x : Asked) (l : Lent) → LentFor t l → (x.t ≡ t → Spares t base first es l.memory x.service) → Chain base (heap_in (planes t) l.memory) first es
      → Chain base (heap_in (planes t) (served_to x l).lent.memory) first es
  served_spares x l w spares chain = rw (serve_is (planes x.t) x.service x.stack l) (go (ℕ_discrete x.t t))
    where
      go : Dec (x.t ≡ t) → Chain base (heap_in (planes t) (act (planes x.t) x.service x.stack l.memory).memory) first es
      go (yes e) = rw e (act_spares x.service x.stack l.memory w.bytes (spares e) chain)
      go (no other) = rw (act_other_t t x.t x.stack l.memory w.long other x.service).memory chain
