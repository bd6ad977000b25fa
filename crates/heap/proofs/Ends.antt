-- Each way a call can end, as the result that the rules give on lent memory: refused by a test, out of room, or done.
-- Assumes nothing.
use mathlib.Core.Path.{◌≡◌, refl, sym, ap, ◌∙◌}
use mathlib.Core.Bool.{Bool, true, false, not}
use mathlib.Core.List.{List, [], ◌∷◌, ◌++◌}
use Prim.Native.Nat.{ℕ, zero, suc, ◌+◌, ◌*◌, ◌≤◌, ◌<◌}
use native.Mathlib.Omega.{arith}
use lib.Dec.{eqb}
use borrow.Author.Tests.{leb-false}
use lib.ListN.{length, replicate}
use Rattle.rules.specs.Tests.{both, either}
use Rattle.rules.specs.Words.{word_at, with_word}
use Rattle.rules.specs.Tables.{block_count, used, objects, longest}
use Rattle.laws.specs.Meaning.{AllBytes, Shape}
use Rattle.rules.specs.Outcomes.{Heap, Answer, only_refusal, leaves, findings, reading}
use Rattle.rules.specs.Refusals.{Test, test, first_of, good_shape, bad_shape, outside, no_head, no_word, init_tests, heap_tests, name_tests, word_tests}
use Rattle.rules.specs.Planes.{planes, entries_in, Sized, IsTable, Holds, heap_at}
use Rattle.rules.specs.Calls.{init, survey, load, store}
use Rattle.rules.specs.Runs.{Call, Init, Survey, Load, Store, step}
use Rattle.rules.specs.Memory.{Memory, memory, Sound, Result, result, AcceptedIn, reads_table, stack_for, tests_in, perform}
use Rattle.laws.proofs.Planes.{planes_faithful, is_table, table_sound, few_entries}
use Rattle.laws.proofs.Tables.{extent_of}
use Rattle.checks.proofs.FirstTests.{sized_by}
use Rattle.laws.proofs.Refusals.{refusal_is, true_not_false, both_false, both_left, both_right, first_last, first_none, first_rest, accepts, passed, named, own_tests}
use Rattle.laws.proofs.Memory.{fault_refuses, tests_own, refusal_in, sound_of, refused_first_in, refused_next_in, left_in, acted_in}
use Rattle.checks.specs.Refusal.{refusal_by}
use Rattle.heap.specs.Answers.{given}

positive : {r : ℕ} → (r ≡ 0 → ⊥) → 0 < r
positive ne = omega arith

-- the tests of an init of bad shape, or of a table whose length does not fit, give 1
init_number : (good fits : Bool) → both good fits ≡ false → let n = first_of (bad_shape good ∷ []) in
    first_of (test 1 (either (eqb n 1) (not fits)) ∷ test 2 (either (eqb n 2) false) ∷ test n (not (eqb n 0)) ∷ []) ≡ 1
unfolding first_of
init_number false fits e = refl
init_number true false e = refl
init_number true true e = absurd (true_not_false refl e)

-- a word that is an object's lies before the end of the blocks
pub word_below : (t : ℕ) (table : List ℕ) (k i : ℕ) → IsTable t table → let h = heap_at t [] table in first_of (name_tests h k ++ no_word h k i ∷ []) ≡ 0
    → (4 * k + i < 4 * length (entries_in t table)) × (length (entries_in t table) ≤ 4096)
word_below t table k i is e =
    let h = heap_at t [] table in
    let name = named h k (no_word h k i ∷ []) e in
    let room = (extent_of (entries_in t table) k name.inside).room in
    let last = first_rest (no_head h k) (no_word h k i ∷ []) (omega arith) (first_rest (outside h k) (no_head h k ∷ no_word h k i ∷ []) (omega arith) e) in
    let within = leb-false (4 * block_count (entries_in t table) k) i (first_none (no_word h k i) [] (omega arith) last).0 in
    (omega arith, few_entries t table is)

module _ (t base : ℕ) (pool table : List ℕ) where
  abbrev h : Heap
  h = heap_at t pool table

  abbrev m : Memory
  m = memory pool table

  -- ---- any call that takes no mark stack

  -- its tests, which have the number n on the heap, refuse it
  pub refused : (c : Call) {r n : ℕ} → (step c [] h).answer.refusal ≡ n → r ≡ first_of (tests_in (planes t) c m n) → (r ≡ 0 → ⊥)
      → result (only_refusal r) m (stack_for c []) ≡ perform (planes t) c [] m
  refused c {r = r} own e ne = left_in (planes t) c [] m r (ap (λ (n : ℕ). first_of (tests_in (planes t) c m n)) own ∙ sym e) (positive ne)

  -- the tests of the heap do, and not the form
  pub refused_own : (c : Call) (r : ℕ) → Sound (planes t) m → (step c [] h).answer.refusal ≡ r → 0 < r
      → result (only_refusal r) m (stack_for c []) ≡ perform (planes t) c [] m
  refused_own c r s own p = refused c own (sym (tests_own (planes t) c m r (λ ne. sym own ∙ fault_refuses c [] h ne) s.fits (rw s.clean (both_false (reads_table c))))) (λ z. omega arith)

  -- it acts, and leaves a table
  pub acts : (c : Call) (pool' table' : List ℕ) (a : Answer) → Sound (planes t) m → AllBytes table' → IsTable t table' → a.refusal ≡ 0
      → leaves a (heap_at t pool' table') ≡ step c [] h → result a (memory pool' table') [] ≡ perform (planes t) c [] m
  acts c pool' table' a s bytes i z e =
      acted_in (planes t) (planes_faithful t) c [] m (memory pool' table') [] a s.fits (rw s.clean (both_false (reads_table c))) bytes (table_sound t pool' table' i) z e

  -- what its check tells, once it gave 0
  pub record Checked (ts : List Test) : Type 0 where
    pub sound : Sound (planes t) m
    pub passes : first_of (heap_tests base h ++ ts) ≡ 0
    pub shape : Shape base h
    pub is : IsTable t table

  pub checked : (ts : List Test) → 0 ≡ first_of (tests_in (planes t) (Survey 0) m (first_of (heap_tests base h ++ ts))) → Checked ts
  checked ts test =
      let s = sound_of (planes t) m (heap_tests base h ++ ts) test refl in
      let shape = (passed base h ts s.1).shape in
      record { sound = s.0; passes = s.1; shape = shape; is = is_table t pool table shape.few s.0 }

  -- ---- init

  module _ {g : Bool} (test : g ≡ both (good_shape base h) ((planes t).fits table)) where
    pub init_refused : g ≡ false → given (only_refusal 1) pool table ≡ perform (planes t) (Init base) [] m
    unfolding step init first_of
    init_refused n =
        refused (Init base) (refusal_is (first_of (init_tests base h)) h [] _ (λ _. refl))
        (sym (init_number (good_shape base h) ((planes t).fits table) (sym test ∙ n))) (λ z. omega arith)

    pub init_done : (after : List ℕ) → g ≡ true → AllBytes after → ((t : ℕ) → Sized t table → Holds t (replicate (length (entries_in t table)) 0) after)
        → given (only_refusal 0) pool after ≡ perform (planes t) (Init base) [] m
    unfolding step init
    init_done after n bytes done =
        let e = sym test ∙ n in
        let d = done t (sized_by base t pool table test n) in
        acted_in (planes t) (planes_faithful t) (Init base) [] m (memory pool after) [] (only_refusal 0) (both_right (good_shape base h) _ e) refl bytes (table_sound t pool after d.is_table) refl
        (rw d.entries (sym (accepts _ _ _ (first_last (bad_shape (good_shape base h)) (ap not (both_left (good_shape base h) _ e))))))

  -- ---- survey

  survey_own : (step (Survey base) [] h).answer.refusal ≡ first_of (heap_tests base h)
  unfolding step survey
  survey_own = refusal_is (first_of (heap_tests base h)) h [] _ (λ _. refl)

  pub survey_refused : {r : ℕ} → r ≡ refusal_by t pool table (λ (g : Heap). heap_tests base g) → (r ≡ 0 → ⊥) → given (only_refusal r) pool table ≡ perform (planes t) (Survey base) [] m
  survey_refused test ne = refused (Survey base) survey_own test ne

  module _ (test : 0 ≡ refusal_by t pool table (λ (g : Heap). heap_tests base g)) where
    pub survey_checked : Checked []
    survey_checked = checked [] test

    pub survey_done : (u n l : ℕ) → AllBytes table → u ≡ used (entries_in t table) → n ≡ objects (entries_in t table) → l ≡ longest (entries_in t table)
        → given (findings 0 u n l) pool table ≡ perform (planes t) (Survey base) [] m
    unfolding step survey
    survey_done u n l all eu en el =
        let p = survey_checked in
        acts (Survey base) pool table (findings 0 u n l) p.sound all p.is refl (rw (eu, en, el) (sym (accepts _ _ _ p.passes)))

  -- the check alone gives its number
  pub survey_number : refusal_by t pool table (λ (g : Heap). heap_tests base g) ≡ (perform (planes t) (Survey base) [] m).answer.refusal
  survey_number = go (refusal_by t pool table (λ (g : Heap). heap_tests base g)) refl
    where
      go : (n : ℕ) → refusal_by t pool table (λ (g : Heap). heap_tests base g) ≡ n → refusal_by t pool table (λ (g : Heap). heap_tests base g) ≡ (perform (planes t) (Survey base) [] m).answer.refusal
      go zero z = let p = survey_checked (sym z) in z ∙ sym (refusal_in (planes t) (planes_faithful t) (Survey base) [] m p.sound ∙ survey_own ∙ p.passes)
      go (suc n) q = ap (λ (x : Result). x.answer.refusal) (survey_refused refl (λ z. omega arith))

  -- one that is accepted has passed the check
  pub accepted_checked : AcceptedIn (perform (planes t) (Survey base) [] m) → Checked []
  accepted_checked x = survey_checked (sym x ∙ sym survey_number)

  -- ---- load and store

  module _ (k i : ℕ) where
    -- the check of a word in two steps: the heap, and then the object's word
    pub word_first : {r : ℕ} → r ≡ (perform (planes t) (Survey base) [] m).answer.refusal → (r ≡ 0 → ⊥) → r ≡ refusal_by t pool table (λ (g : Heap). word_tests base g k i)
    word_first test ne = refused_first_in (planes t) m (heap_tests base h) (name_tests h k ++ no_word h k i ∷ []) refl refl (test ∙ sym survey_number) ne

    pub word_next : {n : ℕ} → AcceptedIn (perform (planes t) (Survey base) [] m) → n ≡ first_of (name_tests h k ++ no_word h k i ∷ []) → n ≡ refusal_by t pool table (λ (g : Heap). word_tests base g k i)
    word_next x e = refused_next_in (planes t) m (heap_tests base h) (name_tests h k ++ no_word h k i ∷ []) refl (sym x ∙ sym survey_number) refl e

    module _ {r : ℕ} (test : r ≡ refusal_by t pool table (λ (g : Heap). word_tests base g k i)) (ne : r ≡ 0 → ⊥) where
      pub load_refused : given (only_refusal r) pool table ≡ perform (planes t) (Load base k i) [] m
      unfolding step load
      load_refused = refused (Load base k i) (refusal_is (first_of (word_tests base h k i)) h [] _ (λ _. refl)) test ne

      pub store_refused : (w : ℕ) → given (only_refusal r) pool table ≡ perform (planes t) (Store base k i w) [] m
      unfolding step store
      store_refused w = refused (Store base k i w) (refusal_is (first_of (word_tests base h k i)) h [] _ (λ _. refl)) test ne

    -- of a word that is the object's, at the place `at` of the pool
    module _ (test : 0 ≡ refusal_by t pool table (λ (g : Heap). word_tests base g k i)) {at : ℕ} (place : at ≡ 4 * k + i) where
      word_checked : Checked (outside h k ∷ no_head h k ∷ no_word h k i ∷ [])
      word_checked = checked (outside h k ∷ no_head h k ∷ no_word h k i ∷ []) test

      pub load_done : (w : ℕ) → AllBytes table → w ≡ word_at pool at → given (reading 0 w) pool table ≡ perform (planes t) (Load base k i) [] m
      unfolding step load
      load_done w all e =
          let p = word_checked in
          acts (Load base k i) pool table (reading 0 w) p.sound all p.is refl (rw (e, place) (sym (accepts _ _ _ p.passes)))

      pub store_done : (w : ℕ) (pool' : List ℕ) → AllBytes table → pool' ≡ with_word pool at w → given (only_refusal 0) pool' table ≡ perform (planes t) (Store base k i w) [] m
      unfolding step store
      store_done w pool' all e =
          let p = word_checked in
          acts (Store base k i w) pool' table (only_refusal 0) p.sound all p.is refl (rw (e, place) (sym (accepts _ _ _ p.passes)))

      pub word_inside : 4 * at + 4 ≤ length pool
      word_inside = let p = word_checked in omega (arith, place, p.shape.pool, word_below t table k i p.is (own_tests base h _ p.passes))
