-- Each call as a list of tests and an act: its number is that of the tests, a refused call does nothing, an accepted one acts.
-- Assumes nothing.
use mathlib.Core.Path.{◌≡◌, refl, ap, ◌∙◌}
use mathlib.Core.Bool.{false}
use mathlib.Core.List.{List, []}
use Prim.Native.Nat.{ℕ, zero, suc, ◌+◌, ◌*◌, ◌/◌}
use native.Mathlib.Omega.{arith}
use lib.ListN.{length, replicate}
use Rattle.rules.specs.Tests.{or_else}
use Rattle.rules.specs.Words.{word_at, with_word, words_of}
use Rattle.rules.specs.Entries.{FREE}
use Rattle.rules.specs.Tables.{block_count, first_fit, used, objects, longest}
use Rattle.rules.specs.Outcomes.{Heap, Outcome, only_refusal, surveyed, loaded, written_to, opened_at, leaves, fills, unless_refused}
use Rattle.rules.specs.Refusals.{Test, first_of, no_bytes, outside, no_head, no_room, init_tests, heap_tests, object_tests, word_tests, collection_tests}
use Rattle.rules.specs.Marking.{mark_all}
use Rattle.rules.specs.Images.{image_of}
use Rattle.rules.specs.Files.{File, file_of, base_of, heap_of_file, roots_of}
use Rattle.rules.specs.Calls.{Way, stay, shrink, grow, move, no_way, is_no_way, way_of, allocate_tests, reallocate_tests, along, placing, taken, freed, blocks_for, init, allocate, free, reallocate, collecting, collect, survey, load, store, image_tests, write_image, open_tests, open_image}
use Rattle.laws.specs.Meaning.{Accepted}
use Rattle.laws.proofs.Refusals.{true_not_false, first_none, first_rest, accepts, own_tests}
use Rattle.promises.specs.Promises.{Refused}

-- the outcome r is refused by the first of the tests that holds, and else is what the act leaves
pub record Checked (h : Heap) (stack : List ℕ) (ts : List Test) (act r : Outcome) : Type 0 where
  pub is : r ≡ unless_refused (first_of ts) h stack act
  pub fine : first_of ts ≡ 0 → Accepted act

number_of : (n : ℕ) (h : Heap) (stack : List ℕ) (act : Outcome) → (n ≡ 0 → Accepted act) → (unless_refused n h stack act).answer.refusal ≡ n
unfolding unless_refused
number_of zero h stack act fine = fine refl
number_of (suc n) h stack act fine = refl

refused_by : (n : ℕ) (h : Heap) (stack : List ℕ) (act : Outcome) → (n ≡ 0 → Accepted act) → ¬ Accepted (unless_refused n h stack act)
    → Refused h (unless_refused n h stack act) × ((unless_refused n h stack act).stack ≡ stack)
unfolding unless_refused
refused_by zero h stack act fine no_number = absurd (no_number (fine refl))
refused_by (suc n) h stack act fine no_number = (record { answer = refl; heap = refl; filled = refl }, refl)

module _ {h : Heap} {stack : List ℕ} {ts : List Test} {act r : Outcome} (c : Checked h stack ts act r) where
  -- its number is that of the tests
  pub number : r.answer.refusal ≡ first_of ts
  number = ap (λ (o : Outcome). o.answer.refusal) c.is ∙ number_of (first_of ts) h stack act c.fine

  pub no_refusal : Accepted r → first_of ts ≡ 0
  no_refusal e = omega (arith, number)

  -- on a refusal nothing is done
  pub refuses : ¬ Accepted r → Refused h r × (r.stack ≡ stack)
  refuses = rw c.is (refused_by (first_of ts) h stack act c.fine)

  -- else the call acts
  pub acts : Accepted r → r ≡ act
  acts e = c.is ∙ accepts h stack act (no_refusal e)

-- ---- the tests and the act of each call

-- where allocate puts the object
abbrev pub start_of : Heap → ℕ → ℕ
start_of h bytes = or_else (first_fit h.entries (blocks_for bytes)) 0

module _ (base : ℕ) (h : Heap) where
  pub init_checked : Checked h [] (init_tests base h) (leaves (only_refusal 0) (record { pool = h.pool; entries = replicate (length h.entries) FREE })) (init base h)
  unfolding init
  init_checked = record { is = refl; fine = λ _. refl }

  pub allocate_checked : (bytes : ℕ) → Checked h [] (allocate_tests base h bytes) (placing h (start_of h bytes) (taken h (start_of h bytes) (blocks_for bytes))) (allocate base h bytes)
  unfolding allocate placing
  allocate_checked bytes = record { is = refl; fine = λ _. refl }

  pub free_checked : (k : ℕ) → Checked h [] (object_tests base h k) (placing h 0 (freed h k)) (free base h k)
  unfolding free placing
  free_checked k = record { is = refl; fine = λ _. refl }

  along_fine : (w : Way) (k b c : ℕ) → is_no_way w ≡ false → Accepted (along w h k b c)
  unfolding along placing
  along_fine stay k b c e = refl
  along_fine shrink k b c e = refl
  along_fine grow k b c e = refl
  along_fine (move s) k b c e = refl
  along_fine no_way k b c e = absurd (true_not_false refl e)

  pub reallocate_checked : (k bytes : ℕ)
      → Checked h [] (reallocate_tests base h k bytes) (along (way_of h k bytes) h k (block_count h.entries k) (blocks_for bytes)) (reallocate base h k bytes)
  unfolding reallocate
  reallocate_checked k bytes = record {
    is = refl;
    fine = λ e.
        let e3 = first_rest (no_bytes bytes) _ (omega arith) (own_tests base h _ e) in
        let e4 = first_rest (outside h k) _ (omega arith) e3 in
        let e5 = first_rest (no_head h k) _ (omega arith) e4 in
        along_fine (way_of h k bytes) k (block_count h.entries k) (blocks_for bytes) (first_none (no_room (is_no_way (way_of h k bytes))) [] (omega arith) e5).0;
  }

  pub collect_checked : (roots stack : List ℕ)
      → Checked h stack (collection_tests base h roots stack)
      (collecting h stack (mark_all (record { base = base; pool = h.pool; room = length stack / 4 }) (words_of roots) h.entries))
      (collect base h roots stack)
  unfolding collect collecting
  collect_checked roots stack = record { is = refl; fine = λ _. refl }

  pub survey_checked : Checked h [] (heap_tests base h) (leaves (surveyed (used h.entries) (objects h.entries) (longest h.entries)) h) (survey base h)
  unfolding survey
  survey_checked = record { is = refl; fine = λ _. refl }

  pub load_checked : (k i : ℕ) → Checked h [] (word_tests base h k i) (leaves (loaded (word_at h.pool (4 * k + i))) h) (load base h k i)
  unfolding load
  load_checked k i = record { is = refl; fine = λ _. refl }

  pub store_checked : (k i w : ℕ)
      → Checked h [] (word_tests base h k i) (leaves (only_refusal 0) (record { pool = with_word h.pool (4 * k + i) w; entries = h.entries })) (store base h k i w)
  unfolding store
  store_checked k i w = record { is = refl; fine = λ _. refl }

  pub image_checked : (roots : List ℕ) (room : ℕ)
      → Checked h [] (image_tests base h roots room) (fills (written_to (length (image_of base h roots))) h (image_of base h roots)) (write_image base h roots room)
  unfolding write_image
  image_checked roots room = record { is = refl; fine = λ _. refl }

pub open_checked : (h : Heap) (image : List ℕ) (room : ℕ)
    → let f : File = file_of image in
    Checked h [] (open_tests h image room) (fills (opened_at (base_of f) (length (roots_of f) / 4)) (heap_of_file f) (roots_of f)) (open_image h image room)
unfolding open_image
open_checked h image room = record { is = refl; fine = λ _. refl }
