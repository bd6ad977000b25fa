-- The refusal numbers: each call answers the number of its first condition that holds, and on a refusal does nothing.
-- Assumes nothing.
use mathlib.Core.Path.{◌≡◌, refl, ap, ◌∙◌}
use mathlib.Core.Logic.{◌≢◌, ◌↔◌, inl, inr}
use mathlib.Core.Bool.{Bool, true, false}
use mathlib.Core.List.{List, [], ◌∷◌}
use mathlib.Core.Option.{Option, some, none}
use Prim.Native.Nat.{ℕ, ◌*◌, ◌/◌, ◌%◌, ◌≤◌, ◌<◌}
use native.Mathlib.Omega.{arith}
use lib.ListN.{length}
use borrow.Author.Tests.{eqb-true, eqb-false, leb-true, leb-false, ltb-true, ltb-false}
use Rattle.rules.specs.Tests.{pick, is_none}
use Rattle.rules.specs.Entries.{HEAD}
use Rattle.rules.specs.Tables.{entry_at, is_head, well_formed, block_count, first_fit}
use Rattle.laws.specs.Meaning.{Well, Lowest, Shape, Passed, Accepted}
use Rattle.rules.specs.Outcomes.{Heap}
use Rattle.rules.specs.Refusals.{Test, first_of, good_shape, bad_shape, good_roots, good_lists, ill_formed, many_roots, long_stack, short_buffer, no_bytes, outside, no_head, no_word, no_room, word_tests}
use Rattle.rules.specs.Calls.{Way, stay, shrink, grow, move, no_way, is_no_way, way_to, blocks_for, init, allocate, free, reallocate, collect, survey, load, store, way_of, write_image}
use Rattle.rules.specs.Runs.{Call, Init, Allocate, Free, Reallocate, Collect, Survey, Load, Store, WriteImage, OpenImage, step}
use Rattle.laws.proofs.Refusals.{true_not_false, not-true, not-false, first_yes, first_no, passes, asks, names, shape_true, shape_of, lists_of, lists_say, roots_of, roots_say}
use Rattle.rules.specs.Images.{image_of}
use Rattle.laws.proofs.Images.{length_image}
use Rattle.laws.proofs.Tables.{entry_inside, extent_of, well_says, well_of, first_lowest, none_first}
use Rattle.laws.proofs.Calls.{Ways, stays, shrinks, grows, moves, stuck, way_says, way_is, blocks_some, blocks_enough, blocks_least, blocks_more}
use Rattle.promises.specs.Conditions.{Condition, when, First, NoFit, NoWay, of_init, of_allocate, of_free, of_reallocate, of_collect, of_survey, of_word, image_length, of_write_image}
use Rattle.promises.specs.Promises.{Object, Refused}
use Rattle.promises.proofs.Checked.{number, refuses, init_checked, allocate_checked, free_checked, reallocate_checked, collect_checked, survey_checked, load_checked, store_checked, image_checked, open_checked}

-- ---- the first test that holds

-- a test that says what a condition says, before further tests
pub first_step : (t : Test) (ts : List Test) (c : Condition) (cs : List Condition) → t.number ≡ c.number
    → (t.holds ≡ true → c.holds) → (t.holds ≡ false → ¬ c.holds) → (t.holds ≡ false → First cs (first_of ts)) → First (c ∷ cs) (first_of (t ∷ ts))
unfolding First
first_step t ts c cs same says fails rest = go t.holds refl
  where
    go : (b : Bool) → t.holds ≡ b → First (c ∷ cs) (first_of (t ∷ ts))
    go true e = inl (says e, first_yes t ts e ∙ same)
    go false e = inr (fails e, rw (first_no t ts e) (rest e))

pub first_end : First [] (first_of [])
unfolding First first_of
first_end = refl

-- a number that is not the first test's is that of a later one
first_later : (t : Test) (ts : List Test) (r : ℕ) → t.number ≢ r → first_of (t ∷ ts) ≡ r → (t.holds ≡ false) × (first_of ts ≡ r)
unfolding first_of
first_later t ts r other e = go t.holds refl e
  where
    go : (b : Bool) → t.holds ≡ b → pick b t.number (first_of ts) ≡ r → (t.holds ≡ false) × (first_of ts ≡ r)
    go true h e = absurd (other e)
    go false h e = (h, e)

-- the last test holds if its number is given
first_last : (t : Test) (r : ℕ) → 0 < r → first_of (t ∷ []) ≡ r → t.holds ≡ true
unfolding first_of
first_last t r p e = go t.holds refl e
  where
    go : (b : Bool) → t.holds ≡ b → pick b t.number 0 ≡ r → t.holds ≡ true
    go true h e = h
    go false h e = absurd (omega arith)

-- ---- the blocks of a request

pub rounded_up : (bytes n : ℕ) → (blocks_for bytes ≤ n) ↔ (bytes ≤ 16 * n)
rounded_up bytes n = (λ fit. omega (arith, blocks_enough bytes), λ hold. blocks_least bytes n hold)

module _ (base : ℕ) (h : Heap) where
  -- ---- the tests that every call has

  shape_step : (ts : List Test) (cs : List Condition) → (Shape base h → First cs (first_of ts)) → First (when 1 (¬ Shape base h) ∷ cs) (first_of (bad_shape (good_shape base h) ∷ ts))
  shape_step ts cs rest =
      first_step (bad_shape (good_shape base h)) ts (when 1 (¬ Shape base h)) cs refl
      (λ e s. true_not_false (shape_of base h s) (not-true (good_shape base h) e))
      (λ e f. f (shape_true base h (not-false (good_shape base h) e)))
      (λ e. rest (shape_true base h (not-false (good_shape base h) e)))

  pub well_step : (ts : List Test) (cs : List Condition) → First cs (first_of ts) → First (when 2 (¬ Well h.entries) ∷ cs) (first_of (ill_formed h ∷ ts))
  well_step ts cs rest =
      first_step (ill_formed h) ts (when 2 (¬ Well h.entries)) cs refl
      (λ e s. true_not_false (well_of h.entries s) (not-true (well_formed h.entries) e))
      (λ e f. f (well_says h.entries (not-false (well_formed h.entries) e)))
      (λ e. rest)

  many_step : (roots : List ℕ) (ts : List Test) (cs : List Condition) → First cs (first_of ts) → First (when 3 (4096 < length roots / 4) ∷ cs) (first_of (many_roots roots ∷ ts))
  many_step roots ts cs rest =
      first_step (many_roots roots) ts (when 3 (4096 < length roots / 4)) cs refl
      (λ e. ltb-true 4096 (length roots / 4) e)
      (λ e l. omega (arith, ltb-false 4096 (length roots / 4) e))
      (λ _. rest)

  bytes_step : (bytes : ℕ) (ts : List Test) (cs : List Condition) → (0 < bytes → First cs (first_of ts)) → First (when 5 (bytes ≡ 0) ∷ cs) (first_of (no_bytes bytes ∷ ts))
  bytes_step bytes ts cs rest =
      first_step (no_bytes bytes) ts (when 5 (bytes ≡ 0)) cs refl
      (λ e. eqb-true bytes 0 e)
      (λ e. eqb-false bytes 0 e)
      (λ e. rest (omega (arith, eqb-false bytes 0 e)))

  -- the two tests of a call that names an object
  object_step : (k : ℕ) (ts : List Test) (cs : List Condition) → (Object h k → First cs (first_of ts))
      → First (when 6 (length h.entries ≤ k) ∷ when 7 (entry_at h.entries k ≢ HEAD) ∷ cs) (first_of (outside h k ∷ no_head h k ∷ ts))
  object_step k ts cs rest =
      first_step (outside h k) (no_head h k ∷ ts) (when 6 (length h.entries ≤ k)) (when 7 (entry_at h.entries k ≢ HEAD) ∷ cs) refl
      (λ e. leb-true (length h.entries) k e)
      (λ e l. omega (arith, leb-false (length h.entries) k e))
      (λ _. first_step (no_head h k) ts (when 7 (entry_at h.entries k ≢ HEAD)) cs refl
      (λ e. eqb-false (entry_at h.entries k) HEAD (not-true (is_head (entry_at h.entries k)) e))
      (λ e f. f (eqb-true (entry_at h.entries k) HEAD (not-false (is_head (entry_at h.entries k)) e)))
      (λ e. rest (eqb-true (entry_at h.entries k) HEAD (not-false (is_head (entry_at h.entries k)) e))))

  word_step : (k i : ℕ) → First (when 8 (4 * block_count h.entries k ≤ i) ∷ []) (first_of (no_word h k i ∷ []))
  word_step k i =
      first_step (no_word h k i) [] (when 8 (4 * block_count h.entries k ≤ i)) [] refl
      (λ e. leb-true (4 * block_count h.entries k) i e)
      (λ e l. omega (arith, leb-false (4 * block_count h.entries k) i e))
      (λ _. first_end)

  -- ---- no room

  fit_none : (b : ℕ) (o : Option ℕ) → Lowest h.entries b o → is_none o ≡ true → NoFit h b
  unfolding Lowest
  fit_none b none low e = low
  fit_none b (some s) low e = absurd (true_not_false e refl)

  fit_some : (b : ℕ) (o : Option ℕ) → Lowest h.entries b o → is_none o ≡ false → ¬ NoFit h b
  unfolding Lowest
  fit_some b none low e nowhere = true_not_false refl e
  fit_some b (some s) low e nowhere = nowhere s low.0

  way_none : (k c : ℕ) (w : Way) → Ways h.entries k (block_count h.entries k) c w → is_no_way w ≡ true → NoWay h k c
  unfolding Lowest
  way_none k c stay v e = absurd (true_not_false e refl)
  way_none k c shrink v e = absurd (true_not_false e refl)
  way_none k c grow v e = absurd (true_not_false e refl)
  way_none k c (move s) v e = absurd (true_not_false e refl)
  way_none k c no_way (stuck l full low) e = (l, full, low)

  way_some : (k c : ℕ) (w : Way) → Ways h.entries k (block_count h.entries k) c w → is_no_way w ≡ false → ¬ NoWay h k c
  unfolding Lowest
  way_some k c stay (stays q) e n = omega (arith, n.0)
  way_some k c shrink (shrinks l) e n = omega (arith, n.0)
  way_some k c grow (grows l g) e n = n.1 g
  way_some k c (move s) (moves l full low) e n = n.2 s low.0
  way_some k c no_way (stuck l full low) e n = true_not_false refl e

  way_of_is : (k bytes : ℕ) → 0 < bytes → Object h k
      → Ways h.entries k (block_count h.entries k) (blocks_for bytes) (way_to h.entries k (block_count h.entries k) (blocks_for bytes))
  way_of_is k bytes some_bytes head =
      way_says h.entries k (block_count h.entries k) (blocks_for bytes)
      (extent_of h.entries k (entry_inside h.entries k (λ f. omega arith))).room
      (blocks_some bytes some_bytes)

  -- ---- each call

  pub init_refusal : First (of_init base h) (init base h).answer.refusal
  unfolding of_init
  init_refusal = rw (number (init_checked base h)) (shape_step [] [] (λ _. first_end))

  pub allocate_refusal : (bytes : ℕ) → First (of_allocate base h bytes) (allocate base h bytes).answer.refusal
  unfolding of_allocate
  allocate_refusal bytes =
      rw (number (allocate_checked base h bytes))
      (shape_step _ _ (λ _. well_step _ _ (bytes_step bytes _ _ (λ more.
      let low = first_lowest h.entries (blocks_for bytes) (blocks_some bytes more) in
      first_step (no_room (is_none (first_fit h.entries (blocks_for bytes)))) [] (when 9 (NoFit h (blocks_for bytes))) [] refl
      (fit_none (blocks_for bytes) (first_fit h.entries (blocks_for bytes)) low)
      (fit_some (blocks_for bytes) (first_fit h.entries (blocks_for bytes)) low)
      (λ _. first_end)))))

  pub free_refusal : (k : ℕ) → First (of_free base h k) (free base h k).answer.refusal
  unfolding of_free
  free_refusal k = rw (number (free_checked base h k)) (shape_step _ _ (λ _. well_step _ _ (object_step k [] [] (λ _. first_end))))

  pub reallocate_refusal : (k bytes : ℕ) → First (of_reallocate base h k bytes) (reallocate base h k bytes).answer.refusal
  unfolding of_reallocate
  reallocate_refusal k bytes =
      rw (number (reallocate_checked base h k bytes))
      (shape_step _ _ (λ _. well_step _ _ (bytes_step bytes _ _ (λ more. object_step k _ _ (λ head.
      let way = way_of_is k bytes more head in
      first_step (no_room (is_no_way (way_of h k bytes))) [] (when 9 (NoWay h k (blocks_for bytes))) [] refl
      (way_none k (blocks_for bytes) (way_of h k bytes) way)
      (way_some k (blocks_for bytes) (way_of h k bytes) way)
      (λ _. first_end))))))

  pub collect_refusal : (roots stack : List ℕ) → First (of_collect base h roots stack) (collect base h roots stack).answer.refusal
  unfolding of_collect
  collect_refusal roots stack =
      rw (number (collect_checked base h roots stack))
      (first_step (bad_shape (good_lists base h roots stack)) _ (when 1 (¬ (Shape base h × (length roots % 4 ≡ 0) × (length stack % 4 ≡ 0)))) _ refl
      (λ e f. true_not_false (lists_of base h roots stack f) (not-true _ e))
      (λ e f. f (lists_say base h roots stack (not-false _ e)))
      (λ _. well_step _ _
      (many_step roots _ _
      (first_step (long_stack stack) [] (when 4 (64 < length stack / 4)) [] refl
      (λ e. ltb-true 64 (length stack / 4) e)
      (λ e l. omega (arith, ltb-false 64 (length stack / 4) e))
      (λ _. first_end)))))

  pub survey_refusal : First (of_survey base h) (survey base h).answer.refusal
  unfolding of_survey
  survey_refusal = rw (number (survey_checked base h)) (shape_step _ _ (λ _. well_step [] [] first_end))

  pub image_refusal : (roots : List ℕ) (room : ℕ) → First (of_write_image base h roots room) (write_image base h roots room).answer.refusal
  unfolding of_write_image
  image_refusal roots room =
      rw (number (image_checked base h roots room))
      (first_step (bad_shape (good_roots base h roots)) _ (when 1 (¬ (Shape base h × (length roots % 4 ≡ 0)))) _ refl
      (λ e f. true_not_false (roots_of base h roots f) (not-true _ e))
      (λ e f. f (roots_say base h roots (not-false _ e)))
      (λ e. let long = length_image base h roots (roots_say base h roots (not-false _ e)).0.pool in
      well_step _ _
      (many_step roots _ _
      (first_step (short_buffer room (image_of base h roots)) [] (when 10 (room < image_length h roots)) [] refl
      (λ f. omega (arith, long, ltb-true room (length (image_of base h roots)) f))
      (λ f l. omega (arith, long, ltb-false room (length (image_of base h roots)) f))
      (λ _. first_end)))))

  -- the tests of load and store
  word_refusal : (k i : ℕ) → First (of_word base h k i) (first_of (word_tests base h k i))
  unfolding of_word
  word_refusal k i = shape_step _ _ (λ _. well_step _ _ (object_step k _ _ (λ _. word_step k i)))

  pub load_refusal : (k i : ℕ) → First (of_word base h k i) (load base h k i).answer.refusal
  load_refusal k i = rw (number (load_checked base h k i)) (word_refusal k i)

  pub store_refusal : (k i w : ℕ) → First (of_word base h k i) (store base h k i w).answer.refusal
  store_refusal k i w = rw (number (store_checked base h k i w)) (word_refusal k i)

  -- ---- exactly when there is no room

  good_of : Shape base h → well_formed h.entries ≡ true → Passed base h
  good_of s w = record { shape = s; well = w }

  pub allocate_no_room : (bytes : ℕ) → ((allocate base h bytes).answer.refusal ≡ 9) ↔ (Passed base h × (0 < bytes) × NoFit h (blocks_for bytes))
  allocate_no_room bytes = (only, if)
    where
      low : 0 < bytes → Lowest h.entries (blocks_for bytes) (first_fit h.entries (blocks_for bytes))
      low more = first_lowest h.entries (blocks_for bytes) (blocks_some bytes more)

      only : (allocate base h bytes).answer.refusal ≡ 9 → Passed base h × (0 < bytes) × NoFit h (blocks_for bytes)
      only e =
          let a = first_later (bad_shape (good_shape base h)) _ 9 (λ q. omega arith) (rw (number (allocate_checked base h bytes)) at e) in
          let b = first_later (ill_formed h) _ 9 (λ q. omega arith) a.1 in
          let c = first_later (no_bytes bytes) _ 9 (λ q. omega arith) b.1 in
          let more : 0 < bytes = omega (arith, eqb-false bytes 0 c.0) in (
            good_of (shape_true base h (not-false _ a.0)) (not-false _ b.0),
            more,
            fit_none (blocks_for bytes) (first_fit h.entries (blocks_for bytes)) (low more) (first_last (no_room _) 9 (omega arith) c.1),
          )

      if : Passed base h × (0 < bytes) × NoFit h (blocks_for bytes) → (allocate base h bytes).answer.refusal ≡ 9
      if (good, more, nowhere) =
          number (allocate_checked base h bytes)
          ∙ passes base h _ good
          ∙ asks bytes _ more
          ∙ first_yes (no_room _) [] (ap is_none (none_first h.entries (blocks_for bytes) (blocks_some bytes more) nowhere))

  pub reallocate_no_room : (k bytes : ℕ)
      → ((reallocate base h k bytes).answer.refusal ≡ 9) ↔ (Passed base h × (0 < bytes) × Object h k × NoWay h k (blocks_for bytes))
  unfolding Lowest
  reallocate_no_room k bytes = (only, if)
    where
      only : (reallocate base h k bytes).answer.refusal ≡ 9 → Passed base h × (0 < bytes) × Object h k × NoWay h k (blocks_for bytes)
      only e =
          let a = first_later (bad_shape (good_shape base h)) _ 9 (λ q. omega arith) (rw (number (reallocate_checked base h k bytes)) at e) in
          let b = first_later (ill_formed h) _ 9 (λ q. omega arith) a.1 in
          let c = first_later (no_bytes bytes) _ 9 (λ q. omega arith) b.1 in
          let d = first_later (outside h k) _ 9 (λ q. omega arith) c.1 in
          let f = first_later (no_head h k) _ 9 (λ q. omega arith) d.1 in
          let more : 0 < bytes = omega (arith, eqb-false bytes 0 c.0) in
          let head : Object h k = eqb-true _ _ (not-false _ f.0) in (
            good_of (shape_true base h (not-false _ a.0)) (not-false _ b.0),
            more,
            head,
            way_none k (blocks_for bytes) (way_of h k bytes) (way_of_is k bytes more head) (first_last (no_room _) 9 (omega arith) f.1),
          )

      if : Passed base h × (0 < bytes) × Object h k × NoWay h k (blocks_for bytes) → (reallocate base h k bytes).answer.refusal ≡ 9
      if (good, more, head, (less, full, nowhere)) =
          let inside = entry_inside h.entries k (λ f. omega arith) in
          number (reallocate_checked base h k bytes)
          ∙ passes base h _ good
          ∙ asks bytes _ more
          ∙ names h k _ (record { inside = inside; head = head })
          ∙ first_yes (no_room _) []
          (ap is_no_way
          (way_is h.entries k (block_count h.entries k) (blocks_for bytes) (extent_of h.entries k inside).room (blocks_some bytes more) no_way
          (stuck less full nowhere)))

  -- ---- a request larger than the pool

  larger_nowhere : (bytes : ℕ) → Passed base h → length h.pool < bytes → NoFit h (blocks_for bytes)
  larger_nowhere bytes good larger s f = omega (arith, f.run.room, good.shape.pool, blocks_more bytes (length h.entries) (omega (arith, good.shape.pool)))

  pub allocate_larger : (bytes : ℕ) → Passed base h → length h.pool < bytes → (allocate base h bytes).answer.refusal ≡ 9
  allocate_larger bytes good larger = (allocate_no_room bytes).1 (good, omega arith, larger_nowhere bytes good larger)

  pub reallocate_larger : (k bytes : ℕ) → Passed base h → Object h k → length h.pool < bytes → (reallocate base h k bytes).answer.refusal ≡ 9
  reallocate_larger k bytes good head larger =
      let x = extent_of h.entries k (entry_inside h.entries k (λ f. omega arith)) in
      let more = blocks_more bytes (length h.entries) (omega (arith, good.shape.pool)) in
      (reallocate_no_room k bytes).1
      (good, omega arith, head, (omega (arith, x.room), λ g. omega (arith, g.run.room), larger_nowhere bytes good larger))

-- ---- a refused call does nothing

pub refused : (c : Call) (stack : List ℕ) (h : Heap) → ¬ Accepted (step c stack h) → Refused h (step c stack h)
unfolding step
refused (Init base) stack h no_number = (refuses (init_checked base h) no_number).0
refused (Allocate base bytes) stack h no_number = (refuses (allocate_checked base h bytes) no_number).0
refused (Free base k) stack h no_number = (refuses (free_checked base h k) no_number).0
refused (Reallocate base k bytes) stack h no_number = (refuses (reallocate_checked base h k bytes) no_number).0
refused (Collect base roots) stack h no_number = (refuses (collect_checked base h roots stack) no_number).0
refused (Survey base) stack h no_number = (refuses (survey_checked base h) no_number).0
refused (Load base k i) stack h no_number = (refuses (load_checked base h k i) no_number).0
refused (Store base k i w) stack h no_number = (refuses (store_checked base h k i w) no_number).0
refused (WriteImage base roots room) stack h no_number = (refuses (image_checked base h roots room) no_number).0
refused (OpenImage image room) stack h no_number = (refuses (open_checked h image room) no_number).0

pub refused_stack : (base : ℕ) (h : Heap) (roots stack : List ℕ) → ¬ Accepted (collect base h roots stack) → (collect base h roots stack).stack ≡ stack
refused_stack base h roots stack no_number = (refuses (collect_checked base h roots stack) no_number).1
