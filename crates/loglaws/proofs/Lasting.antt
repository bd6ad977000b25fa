-- The log lasts: a call that spares it leaves each of its objects. Only promises are used, never how a call is defined.
-- Assumes nothing.
use mathlib.Core.Path.{◌≡◌, refl, ap, sym, subst, ◌∙◌}
use mathlib.Core.Logic.{inr}
use mathlib.Core.Bool.{Bool, true, false}
use mathlib.Core.List.{List, [], ◌∷◌}
use Prim.Native.Nat.{ℕ}
use native.Mathlib.Omega.{arith}
use Rattle.rules.specs.Tables.{well_formed}
use Rattle.rules.specs.Refusals.{good_shape}
use Rattle.laws.specs.Meaning.{Shape, Passed, Accepted}
use Rattle.rules.specs.Outcomes.{Heap, Answer}
use Rattle.rules.specs.Calls.{survey}
use Rattle.rules.specs.Forms.{Form}
use Rattle.laws.specs.Faithful.{Faithful}
use Rattle.rules.specs.Runs.{Call, Init, Allocate, Free, Reallocate, Collect, Survey, Load, Store, WriteImage, OpenImage, step, Turn}
use Rattle.rules.specs.Memory.{Memory, heap_in, Sound, AcceptedIn, perform, turn_in, after_in}
use Rattle.laws.proofs.Refusals.{true_not_false, shape_true, shape_of, shape_lengths}
use Rattle.laws.proofs.Tables.{well_says, well_of}
use Rattle.laws.proofs.Memory.{accepted_sound, follows_accepted, kept_by}
use Rattle.promises.specs.Conditions.{First, of_survey}
use Rattle.promises.specs.Determined.{Sized}
use Rattle.promises.proofs.Promised.{promises}
use Rattle.promises.proofs.Bytes.{on_bytes, first_at, first_past}
use Rattle.promises.proofs.Observed.{survey_number}
use Rattle.promises.proofs.Whole.{sized}
use Rattle.loglaws.specs.Chains.{Entry, Chain}
use Rattle.loglaws.specs.Lasting.{Spares}
use Rattle.loglaws.proofs.Spared.{spared}

-- ---- the chain

module _ (f : Form) (faithful : Faithful f) (base first : ℕ) (es : List Entry) where
  -- so does a call on lent memory, and a refused one leaves every byte
  pub lasts_once : (c : Call) (stack : List ℕ) (m : Memory) → Spares base first es c → Chain base (heap_in f m) first es
      → Chain base (heap_in f (perform f c stack m).memory) first es
  lasts_once c stack m spares chain =
      kept_by (λ (n : Memory). Chain base (heap_in f n) first es) f c stack m
      (λ accepted.
      subst (λ (h : Heap). Chain base h first es) (sym (follows_accepted f faithful c stack m accepted).heap)
      (spared f faithful base first es c stack m spares chain (on_bytes.accepted_bytes f c stack m accepted).0))
      chain

-- ---- a heap that passes 1 and 2 still does after any calls

module _ (base : ℕ) (h : Heap) where
  -- a survey is accepted exactly if the shape is good and the table well-formed
  pub passed_survey : Passed base h → Accepted (survey base h)
  unfolding First of_survey
  passed_survey good = survey_number base h 0 (inr (λ bad. bad good.shape, inr (λ bad. bad (well_says h.entries good.well), refl)))

  pub survey_passed : Accepted (survey base h) → Passed base h
  unfolding of_survey
  survey_passed accepted = record { shape = shape; well = well (well_formed h.entries) refl }
    where
      good : (b : Bool) → good_shape base h ≡ b → Shape base h
      good true e = shape_true base h e
      good false e = absurd (omega (arith, accepted, first_at _ _ _ (promises.survey_refusal base h) (λ s. true_not_false (shape_of base h s) e)))

      shape : Shape base h
      shape = good (good_shape base h) refl

      well : (b : Bool) → well_formed h.entries ≡ b → well_formed h.entries ≡ true
      well true e = e
      well false e =
          let late = first_past _ _ _ (promises.survey_refusal base h) (λ bad. bad shape) in
          absurd (omega (arith, accepted, first_at _ _ _ late (λ w. true_not_false (well_of h.entries w) e)))

-- the same of lent memory
pub survey_sound : (f : Form) (base : ℕ) (m : Memory) → AcceptedIn (perform f (Survey base) [] m) → Sound f m × Passed base (heap_in f m)
unfolding step
survey_sound f base m accepted = (accepted_sound f (Survey base) [] m refl accepted, survey_passed base (heap_in f m) (on_bytes.accepted_bytes f (Survey base) [] m accepted).0)

module _ (f : Form) (faithful : Faithful f) (base : ℕ) where
  pub sound_survey : (m : Memory) → Sound f m → Passed base (heap_in f m) → AcceptedIn (perform f (Survey base) [] m)
  unfolding step
  sound_survey m sound good = ap (λ (a : Answer). a.refusal) (on_bytes.as_on_heap f faithful (Survey base) [] m sound).answer ∙ passed_survey base (heap_in f m) good

  -- an accepted call leaves a well-formed table
  stays_well : (c : Call) (stack : List ℕ) (m : Memory) → Passed base (heap_in f m) → Accepted (step c stack (heap_in f m)) → well_formed (step c stack (heap_in f m)).heap.entries ≡ true
  unfolding step
  stays_well (Init b) stack m good accepted = (promises.initialised b (heap_in f m) accepted).good.well
  stays_well (Allocate b bytes) stack m good accepted = (promises.allocated b (heap_in f m) bytes accepted).good.well
  stays_well (Free b k) stack m good accepted = (promises.freed b (heap_in f m) k accepted).good.well
  stays_well (Reallocate b k bytes) stack m good accepted = (promises.reallocated b (heap_in f m) k bytes accepted).good.well
  stays_well (Collect b roots) stack m good accepted = (promises.reclaimed f faithful b m roots stack accepted).good.well
  stays_well (Survey b) stack m good accepted = rw (promises.survey_leaves b (heap_in f m)) good.well
  stays_well (Load b k i) stack m good accepted = rw (promises.load_leaves b (heap_in f m) k i) good.well
  stays_well (Store b k i w) stack m good accepted = (promises.stored b (heap_in f m) k i w accepted).good.well
  stays_well (WriteImage b roots room) stack m good accepted = rw (promises.image_leaves b (heap_in f m) roots room) good.well
  stays_well (OpenImage image room) stack m good accepted = (promises.opened (heap_in f m) image room accepted).good.well

  -- and as many blocks and bytes as before, so that the shape is good as well
  passes_once : (c : Call) (stack : List ℕ) (m : Memory) → AcceptedIn (perform f (Survey base) [] m) → AcceptedIn (perform f (Survey base) [] (perform f c stack m).memory)
  passes_once c stack m passes =
      kept_by (λ (n : Memory). AcceptedIn (perform f (Survey base) [] n)) f c stack m
      (λ accepted.
      let good : Passed base (heap_in f m) = (survey_sound f base m passes).1 in
      let on_heap : Accepted (step c stack (heap_in f m)) = (on_bytes.accepted_bytes f c stack m accepted).0 in
      let s : Sized (heap_in f m) (step c stack (heap_in f m)) = sized c stack (heap_in f m) in
      let there = follows_accepted f faithful c stack m accepted in
      sound_survey (perform f c stack m).memory (there.sound accepted)
      (subst (Passed base) (sym there.heap)
      (record { shape = shape_lengths base (heap_in f m) _ (sym s.bytes) (sym s.blocks) good.shape; well = stays_well c stack m good on_heap })))
      passes

  pub passes_after : (ts : List Turn) (m : Memory) → AcceptedIn (perform f (Survey base) [] m) → AcceptedIn (perform f (Survey base) [] (after_in f ts m))
  unfolding after_in
  passes_after [] m passes = passes
  passes_after (t ∷ ts) m passes = passes_after ts (turn_in f t m).memory (passes_once t.call t.stack m passes)
