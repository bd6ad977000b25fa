-- Append: by which number it is refused, and what it does otherwise.
-- Assumes nothing.
use mathlib.Core.Path.{◌≡◌, refl, ap, ap₂, sym, subst, ◌∙◌}
use mathlib.Core.Logic.{◌≢◌, ◌⊎◌, inl, inr, ⊎_elim}
use mathlib.Core.Bool.{Bool, true, false}
use mathlib.Core.List.{List, ◌++◌}
use Prim.Native.Nat.{ℕ, ◌/◌, ◌%◌, ◌^◌, ◌≤◌, ◌<◌}
use native.Mathlib.Omega.{arith}
use lib.Dec.{eqb, leb, ltb}
use lib.IntN.{ℤ, pos, ◌+ℤ◌}
use lib.ListN.{length}
use borrow.Author.Tests.{eqb-true, leb-true, leb-false, ltb-true, ltb-false}
use Rattle.rules.specs.Tests.{both}
use Rattle.rules.specs.Words.{bytes_of}
use Rattle.laws.specs.Meaning.{AllBytes, Lowest, Passed, Accepted}
use Rattle.rules.specs.Outcomes.{Heap, Answer, Outcome}
use Rattle.rules.specs.Refusals.{whole_words}
use Rattle.rules.specs.Calls.{blocks_for, allocate, collect}
use Rattle.rules.specs.Runs.{Collect, step}
use Rattle.rules.specs.Forms.{Form}
use Rattle.laws.specs.Faithful.{Faithful}
use Rattle.rules.specs.Memory.{Memory, heap_in, Sound, Result}
use Rattle.laws.proofs.Refusals.{true_not_false}
use Rattle.laws.proofs.Memory.{Written, Follows, follows_sound}
use Rattle.keeping.specs.Keeping.{GoodStack}
use Rattle.promises.specs.Conditions.{First, NoFit}
use Rattle.promises.proofs.Promised.{promises}
use Rattle.programs.specs.Programs.{Program, Ran, ran, run}
use Rattle.programs.proofs.OnHeaps.{RanOn, run_on, RunsAs}
use Rattle.logs.specs.Log.{Reply, logged, declined, decline_if, on_log, enter, append_to, append}
use Rattle.loglaws.specs.Chains.{Entry, Chain, heads}
use Rattle.loglaws.specs.Promises.{survey_in, collection_in, of_append, Declined, Longer, Appended}
use Rattle.loglaws.proofs.Chaining.{chain_one}
use Rattle.loglaws.proofs.Calling.{resting, Followed, lost, found, followed, Entered, enter_refusal, entered, Asked, at_once, after_all, not_even, asked, kept_accepted, log_kept}
use Rattle.loglaws.proofs.Checking.{Checks, torn, halted, passes, checks}
use Rattle.loglaws.proofs.Ending.{written_same, written_of, declined_run, declined_ran}

-- ---- the tests of the lists

-- both lists are whole words, or not
pub whole_words_are : (xs ys : List ℕ) → both (whole_words xs) (whole_words ys) ≡ true → (length xs % 4 ≡ 0) × (length ys % 4 ≡ 0)
unfolding whole_words
whole_words_are xs ys = go (eqb (length xs % 4) 0) (eqb (length ys % 4) 0) refl refl
  where
    go : (a b : Bool) → eqb (length xs % 4) 0 ≡ a → eqb (length ys % 4) 0 ≡ b → both a b ≡ true → (length xs % 4 ≡ 0) × (length ys % 4 ≡ 0)
    go true true p q e = (eqb-true _ _ p, eqb-true _ _ q)
    go true false p q e = absurd (true_not_false e refl)
    go false b p q e = absurd (true_not_false e refl)

pub torn_words : (xs ys : List ℕ) → both (whole_words xs) (whole_words ys) ≡ false → ¬ ((length xs % 4 ≡ 0) × (length ys % 4 ≡ 0))
unfolding whole_words
torn_words xs ys e x = true_not_false (rw (x.0, x.1) refl) e

-- an allocation that is accepted has found two FREE blocks
room_not : (base : ℕ) (g : Heap) → Accepted (allocate base g 32) → ¬ NoFit g 2
unfolding blocks_for Lowest
room_not base g accepted none_fits = none_fits _ (promises.allocated base g 32 accepted).start.0

-- and uses two more
two_more : (base : ℕ) (g : Heap) → Accepted (allocate base g 32) → (allocate base g 32).answer.change ≡ pos 2
unfolding blocks_for
two_more base g accepted = (promises.allocated base g 32 accepted).change

-- a new entry on the heap g, which a log of any entries has: an address has one log
appended_on : (base first time tips : ℕ) (es : List Entry) (g : Heap) (k : ℕ) (d : ℤ) (lent : List ℕ) (o : RanOn Reply) → 16 ≤ base → Chain base g first es
    → Entered base first time tips es g k (d +ℤ pos 2) lent o → Appended base first time tips g d o.heap o.reply
appended_on base first time tips es g k d lent o high chain x =
    record {
      block = k;
      longer = λ ds other. subst (λ (xs : List Entry). Longer base first g xs k time tips o.heap o.reply.first) (chain_one base high g chain other) x.longer;
      reply = x.reply;
      good = x.good;
    }

module _ (f : Form) (faithful : Faithful f) (base first time tips : ℕ) (roots stack : List ℕ) (m : Memory) where
  abbrev h : Heap
  h = heap_in f m

  abbrev r : Ran Reply
  r = run f (append base first time tips roots stack) stack m

  abbrev c : Result
  c = collection_in f base first roots stack m

  -- behind the tests of the lists
  abbrev behind : Program Reply
  behind = on_log base first (append_to base first time tips roots)

  -- what is known once 1 to 4 and 18 have passed
  record Ready (es : List Entry) : Type 0 where
    chain : Chain base h first es
    sound : Sound f m
    good : Passed base h
    whole : length roots % 4 ≡ 0
    few : length roots / 4 < 4096
    stacked : GoodStack stack
    -- then the number is that of the last test
    last : (n : ℕ) → ((NoFit h 2 × NoFit (heap_in f c.memory) 2) × (n ≡ 9)) ⊎ (¬ (NoFit h 2 × NoFit (heap_in f c.memory) 2) × (n ≡ 0)) → First (of_append f base first roots stack m) n
    ran_as : RunsAs f r (run_on (append_to base first time tips roots (heads es)) stack h)
    written : Written f m → Written f r.memory

  data Starts : Type 0 where
    stops : (n : ℕ) → n ≢ 0 → n ≢ 9 → First (of_append f base first roots stack m) n → r.reply.refusal ≡ n → (AllBytes m.table → Declined m stack r) → Starts
    goes : (es : List Entry) → Ready es → Starts

  starts : Starts
  unfolding First of_append append run_on
  starts = go (checks f faithful base (decline_if (leb 4096 (length roots / 4)) 3 (decline_if (ltb 64 (length stack / 4)) 4 behind)) stack m (both (whole_words roots) (whole_words stack)))
    where
      refused_by : (n : ℕ) → r ≡ ran (declined n) m stack → r.reply.refusal ≡ n
      refused_by n e = ap (λ (x : Ran Reply). x.reply.refusal) e

      -- 1 and 2 do not hold
      none_before : both (whole_words roots) (whole_words stack) ≡ true → survey_in f base m ≡ 0 → ¬ (¬ ((length roots % 4 ≡ 0) × (length stack % 4 ≡ 0)) ⊎ (survey_in f base m ≡ 1))
      none_before q z = ⊎_elim (λ bad. bad (whole_words_are roots stack q)) (λ e. omega (arith, e, z))

      runs_on_log : both (whole_words roots) (whole_words stack) ≡ true → survey_in f base m ≡ 0 → Sound f m → Passed base h → (Written f m → Written f r.memory)
          → length roots / 4 < 4096 → length stack / 4 ≤ 64 → RunsAs f r (run_on behind stack h) → Followed base first (append_to base first time tips roots) stack h → Starts
      runs_on_log q z s good written few short ran_as (lost no_log e) =
          let at : RunsAs f r (resting (declined 18) h stack) = subst (λ (o : RanOn Reply). RunsAs f r o) e ran_as in
          stops 18 (λ w. omega (arith, w)) (λ w. omega (arith, w))
          (inr (none_before q z, inr (λ w. omega (arith, w, z), inr (λ w. omega (arith, w, few), inr (λ w. omega (arith, w, short), inl (no_log, refl))))))
          (ap (λ (x : Reply). x.refusal) at.0) (declined_run f faithful m stack r 18 s at written)
      runs_on_log q z s good written few short ran_as (found es chain e) =
          goes es (record {
            chain = chain;
            sound = s;
            good = good;
            whole = (whole_words_are roots stack q).0;
            few = few;
            stacked = record { whole = (whole_words_are roots stack q).1; short = short };
            last = λ n x.
                inr (none_before q z, inr (λ w. omega (arith, w, z), inr (λ w. omega (arith, w, few), inr (λ w. omega (arith, w, short), inr (λ no_log. no_log (record { entries = es; chain = chain }), x)))));
            ran_as = subst (λ (o : RanOn Reply). RunsAs f r o) e ran_as;
            written = written;
          })

      on_lists : both (whole_words roots) (whole_words stack) ≡ true → survey_in f base m ≡ 0 → Sound f m → Passed base h → (Written f m → Written f r.memory)
          → (a b : Bool) → leb 4096 (length roots / 4) ≡ a → ltb 64 (length stack / 4) ≡ b → RunsAs f r (run_on (decline_if a 3 (decline_if b 4 behind)) stack h) → Starts
      on_lists q z s good written true b p u ran_as =
          stops 3 (λ w. omega (arith, w)) (λ w. omega (arith, w)) (inr (none_before q z, inr (λ w. omega (arith, w, z), inl (leb-true _ _ p, refl))))
          (ap (λ (x : Reply). x.refusal) ran_as.0) (declined_run f faithful m stack r 3 s ran_as written)
      on_lists q z s good written false true p u ran_as =
          stops 4 (λ w. omega (arith, w)) (λ w. omega (arith, w))
          (inr (none_before q z, inr (λ w. omega (arith, w, z), inr (λ w. omega (arith, w, leb-false 4096 (length roots / 4) p), inl (ltb-true _ _ u, refl)))))
          (ap (λ (x : Reply). x.refusal) ran_as.0) (declined_run f faithful m stack r 4 s ran_as written)
      on_lists q z s good written false false p u ran_as =
          runs_on_log q z s good written (leb-false 4096 (length roots / 4) p) (ltb-false 64 (length stack / 4) u) ran_as
          (followed base first (append_to base first time tips roots) stack h good)

      go : Checks f faithful base (decline_if (leb 4096 (length roots / 4)) 3 (decline_if (ltb 64 (length stack / 4)) 4 behind)) stack m (both (whole_words roots) (whole_words stack)) → Starts
      go (torn q e) = stops 1 (λ w. omega (arith, w)) (λ w. omega (arith, w)) (inl (inl (torn_words roots stack q), refl)) (refused_by 1 e) (λ bytes. declined_ran f faithful m stack r 1 e)
      go (halted n q z number e) =
          ⊎_elim
          (λ one. stops n (λ w. omega (arith, w, one)) (λ w. omega (arith, w, one)) (inl (inr (z ∙ one), one)) (refused_by n e) (λ bytes. declined_ran f faithful m stack r n e))
          (λ two. stops n (λ w. omega (arith, w, two)) (λ w. omega (arith, w, two))
          (inr (⊎_elim (λ bad. bad (whole_words_are roots stack q)) (λ w. omega (arith, w, z, two)), inl (z ∙ two, two))) (refused_by n e) (λ bytes. declined_ran f faithful m stack r n e))
          number
      go (passes q z s good ran_as written) = on_lists q z s good written _ _ refl refl ran_as

  -- ---- behind the tests

  module _ (es : List Entry) (x : Ready es) where
    abbrev kept : Outcome
    kept = collect base h (bytes_of first ++ roots) stack

    -- the collection in memory is that on the heap
    follows : Follows f c kept
    unfolding step
    follows = follows_sound f faithful (Collect base (bytes_of first ++ roots)) stack m x.sound

    abbrev Asks : Type 0
    Asks = Asked f faithful base first time tips roots stack m x.good x.whole x.few x.stacked (heads es)

    asks : Asks
    asks = asked f faithful base first time tips roots stack m x.good x.whole x.few x.stacked (heads es)

    -- what append runs as
    as_run : (o : RanOn Reply) → run_on (append_to base first time tips roots (heads es)) stack h ≡ o → RunsAs f r o
    as_run o e = subst (λ (y : RanOn Reply). RunsAs f r y) e x.ran_as

    refusal_of : (o : RanOn Reply) → run_on (append_to base first time tips roots (heads es)) stack h ≡ o → r.reply.refusal ≡ o.reply.refusal
    refusal_of o e = ap (λ (y : Reply). y.refusal) (as_run o e).0

    number : Asks → First (of_append f base first roots stack m) r.reply.refusal
    number (at_once accepted e) =
        x.last r.reply.refusal (inr (λ none_fits. room_not base h accepted none_fits.0, refusal_of _ e ∙ enter_refusal base first time tips stack _ (heads es) _ _))
    number (after_all none_before accepted e) =
        x.last r.reply.refusal
        (inr (λ none_fits. room_not base kept.heap accepted (subst (λ (g : Heap). NoFit g 2) follows.heap none_fits.1), refusal_of _ e ∙ enter_refusal base first time tips kept.stack _ (heads es) _ _))
    number (not_even none_before none_after e) =
        x.last r.reply.refusal (inl ((none_before, subst (λ (g : Heap). NoFit g 2) (sym follows.heap) none_after), refusal_of _ e))

    -- a new entry on this heap, or on the one that the collection left
    once : time < 2 ^ 32 → tips < 2 ^ 32 → ¬ NoFit h 2 → r.reply.refusal ≡ 0 → Asks → Appended base first time tips h (pos 0) (heap_in f r.memory) r.reply × (r.stack ≡ stack) × Sound f r.memory
    once small small' some_fit accepted (at_once room e) =
        let a : Outcome = allocate base h 32 in
        let ran_as = as_run _ (e ∙ ap (λ (d : ℤ). run_on (enter base first time tips (heads es) a.answer.block d) stack a.heap) (two_more base h room)) in
        let n = entered base first time tips stack (pos 2) h x.good.shape.above es x.chain small small' room in (
          subst (λ (g : Heap). Appended base first time tips h (pos 0) g r.reply) (sym ran_as.1)
              (subst (Appended base first time tips h (pos 0) _) (sym ran_as.0) (appended_on base first time tips es h a.answer.block (pos 0) stack _ x.good.shape.above x.chain n)),
          ran_as.2 ∙ n.stack,
          ran_as.3,
        )
    once small small' some_fit accepted (after_all none_before room e) = absurd (some_fit none_before)
    once small small' some_fit accepted (not_even none_before none_after e) = absurd (some_fit none_before)

    log_stays : (ds : List Entry) → Chain base h first ds → Chain base (heap_in f c.memory) first ds
    log_stays ds chain = subst (λ (g : Heap). Chain base g first ds) (sym follows.heap) (log_kept f faithful base first time tips roots stack m x.good x.whole x.few x.stacked ds chain)

    later : time < 2 ^ 32 → tips < 2 ^ 32 → NoFit h 2 → r.reply.refusal ≡ 0 → Asks
        → Appended base first time tips (heap_in f c.memory) c.answer.change (heap_in f r.memory) r.reply × (r.stack ≡ c.stack) × Sound f r.memory
    later small small' none-fit accepted (at_once room e) = absurd (room_not base h room none-fit)
    later small small' none-fit accepted (after_all none_before room e) =
        let a : Outcome = allocate base kept.heap 32 in
        let changed : kept.answer.change ≡ c.answer.change = sym (ap (λ (y : Answer). y.change) follows.answer) in
        let ran_as = as_run _ (e ∙ ap (λ (d : ℤ). run_on (enter base first time tips (heads es) a.answer.block d) kept.stack a.heap) (ap₂ ◌+ℤ◌ changed (two_more base kept.heap room))) in
        let chain = subst (λ (g : Heap). Chain base g first es) follows.heap (log_stays es x.chain) in
        let n = entered base first time tips kept.stack (c.answer.change +ℤ pos 2) kept.heap x.good.shape.above es chain small small' room in (
          subst (λ (g : Heap). Appended base first time tips g c.answer.change (heap_in f r.memory) r.reply) (sym follows.heap)
              (subst (λ (g : Heap). Appended base first time tips kept.heap c.answer.change g r.reply) (sym ran_as.1)
              (subst (Appended base first time tips kept.heap c.answer.change _) (sym ran_as.0)
              (appended_on base first time tips es kept.heap a.answer.block c.answer.change kept.stack _ x.good.shape.above chain n))),
          ran_as.2 ∙ n.stack ∙ sym follows.stack,
          ran_as.3,
        )
    later small small' none-fit accepted (not_even none_before none_after e) = absurd (omega (arith, accepted, refusal_of _ e))

    -- or neither: the collection stands
    stands : AllBytes m.table → r.reply.refusal ≡ 9 → Asks → (r.reply ≡ logged 9 0 c.answer.change) × (r.memory ≡ c.memory) × (r.stack ≡ c.stack)
    stands bytes nine (at_once room e) = absurd (omega (arith, nine, refusal_of _ e, enter_refusal base first time tips stack (allocate base h 32).answer.change (heads es) (allocate base h 32).answer.block (allocate base h 32).heap))
    stands bytes nine (after_all none_before room e) =
        let a : Outcome = allocate base kept.heap 32 in
        absurd (omega (arith, nine, refusal_of _ e, enter_refusal base first time tips kept.stack (kept.answer.change +ℤ a.answer.change) (heads es) a.answer.block a.heap))
    stands bytes nine (not_even none_before none_after e) =
        let ran_as = as_run _ e in
        let accepted : c.answer.refusal ≡ 0 = ap (λ (y : Answer). y.refusal) follows.answer ∙ kept_accepted f faithful base first time tips roots stack m x.good x.whole x.few x.stacked in (
          ran_as.0 ∙ ap (λ (y : Answer). logged 9 0 y.change) (sym follows.answer),
          written_same f r.memory c.memory (x.written (written_of f faithful m bytes x.sound)) (follows.written accepted) (ran_as.1 ∙ sym follows.heap),
          ran_as.2 ∙ sym follows.stack,
        )

  -- ---- the promises

  pub append_refusal : First (of_append f base first roots stack m) r.reply.refusal
  append_refusal = go starts
    where
      go : Starts → First (of_append f base first roots stack m) r.reply.refusal
      go (stops n other no_nine first_is e declines) = subst (First (of_append f base first roots stack m)) (sym e) first_is
      go (goes es x) = number es x (asks es x)

  pub append_declined : AllBytes m.table → r.reply.refusal ≢ 0 → r.reply.refusal ≢ 9 → Declined m stack r
  append_declined bytes some_number no_nine = go starts
    where
      to : (es : List Entry) (x : Ready es) → Asks es x → Declined m stack r
      to es x (at_once room e) = absurd (some_number (refusal_of es x _ e ∙ enter_refusal base first time tips stack _ (heads es) _ _))
      to es x (after_all none_before room e) = absurd (some_number (refusal_of es x _ e ∙ enter_refusal base first time tips (kept es x).stack _ (heads es) _ _))
      to es x (not_even none_before none_after e) = absurd (no_nine (refusal_of es x _ e))

      go : Starts → Declined m stack r
      go (stops n other nine first_is e declines) = declines bytes
      go (goes es x) = to es x (asks es x)

  pub append_no_room : AllBytes m.table → r.reply.refusal ≡ 9
      → (r.reply ≡ logged 9 0 c.answer.change) × (r.memory ≡ c.memory) × (r.stack ≡ c.stack)
      × ((es : List Entry) → Chain base h first es → Chain base (heap_in f r.memory) first es)
  append_no_room bytes nine = go starts
    where
      go : Starts → (r.reply ≡ logged 9 0 c.answer.change) × (r.memory ≡ c.memory) × (r.stack ≡ c.stack)
          × ((es : List Entry) → Chain base h first es → Chain base (heap_in f r.memory) first es)
      go (stops n other no_nine first_is e declines) = absurd (no_nine (sym e ∙ nine))
      go (goes es x) =
          let s = stands es x bytes nine (asks es x) in
          (s.0, s.1, s.2, λ ds chain. subst (λ (n : Memory). Chain base (heap_in f n) first ds) (sym s.1) (log_stays es x ds chain))

  pub appended : time < 2 ^ 32 → tips < 2 ^ 32 → r.reply.refusal ≡ 0 → ¬ NoFit h 2 → Appended base first time tips h (pos 0) (heap_in f r.memory) r.reply × (r.stack ≡ stack) × Sound f r.memory
  appended small small' accepted some_fit = go starts
    where
      go : Starts → Appended base first time tips h (pos 0) (heap_in f r.memory) r.reply × (r.stack ≡ stack) × Sound f r.memory
      go (stops n other no_nine first_is e declines) = absurd (other (sym e ∙ accepted))
      go (goes es x) = once es x small small' some_fit accepted (asks es x)

  pub appended_after : time < 2 ^ 32 → tips < 2 ^ 32 → r.reply.refusal ≡ 0 → NoFit h 2
      → Appended base first time tips (heap_in f c.memory) c.answer.change (heap_in f r.memory) r.reply × (r.stack ≡ c.stack)
      × ((es : List Entry) → Chain base h first es → Chain base (heap_in f c.memory) first es) × Sound f r.memory
  appended_after small small' accepted none-fit = go starts
    where
      go : Starts → Appended base first time tips (heap_in f c.memory) c.answer.change (heap_in f r.memory) r.reply × (r.stack ≡ c.stack)
          × ((es : List Entry) → Chain base h first es → Chain base (heap_in f c.memory) first es) × Sound f r.memory
      go (stops n other no_nine first_is e declines) = absurd (other (sym e ∙ accepted))
      go (goes es x) = let l = later es x small small' none-fit accepted (asks es x) in (l.0, l.1, log_stays es x, l.2)
