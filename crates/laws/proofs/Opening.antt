-- What the opening of an image knows once it is not refused.
-- Assumes nothing.
use mathlib.Core.Path.{◌≡◌, refl, sym, ap, ◌∙◌}
use mathlib.Core.Bool.{true, not}
use mathlib.Core.List.{List, [], ◌∷◌, ◌++◌}
use Prim.Native.Nat.{ℕ, ◌%◌, ◌≤◌}
use native.Mathlib.Omega.{arith}
use lib.ListN.{length}
use borrow.Author.Tests.{eqb-true, eq-eqb, ltb-false, le-ltb}
use Rattle.rules.specs.Tests.{both}
use Rattle.rules.specs.Tables.{well_formed}
use Rattle.rules.specs.Outcomes.{Heap}
use Rattle.rules.specs.Refusals.{Test, first_of, good_shape, first_tests, bad_shape, ill_formed, short_roots}
use Rattle.rules.specs.Files.{File, section_tests, file_of, file_tests, fault_of, entries_for, base_of, heap_of_file, roots_of}
use Rattle.rules.specs.Calls.{good_target, open_tests}
use Rattle.laws.specs.Meaning.{Shape, Passed}
use Rattle.laws.proofs.Refusals.{both_left, both_right, shape_true, shape_of, shape_lengths, first_none, first_no, first_last, first_more, first_neither, first_passed}
use Rattle.laws.proofs.Files.{length_pool}
use Rattle.laws.proofs.Faults.{Faultless, faultless, no_fault, length_blocks}

-- the file has no fault, what is lent suits it, and the heap in it is well-formed
pub record Opens (h : Heap) (image : List ℕ) (room : ℕ) : Type 0 where
  pub faultless : Faultless image
  pub shape : Shape (base_of (file_of image)) h
  pub long : length (entries_for (file_of image).table) ≡ length h.entries
  pub words : room % 4 ≡ 0
  pub well : well_formed (entries_for (file_of image).table) ≡ true
  pub enough : length (roots_of (file_of image)) ≤ room

module _ (h : Heap) (image : List ℕ) (room : ℕ) where
  abbrev f : File
  f = file_of image

  abbrev next : List Test
  next = first_tests (good_target f h room) (heap_of_file f)

  abbrev last : Test
  last = short_roots room (roots_of f)

  pub open_passed : first_of (open_tests h image room) ≡ 0 → Opens h image room
  unfolding good_target file_tests section_tests fault_of
  open_passed e =
      let a = first_neither (file_tests image ++ next) (last ∷ []) refl e in
      let b = first_neither (file_tests image) next refl a.0 in
      let c = first_passed (good_target f h room) (heap_of_file f) [] b.1 in
      let sizes = both_left (both (good_shape (base_of f) h) _) _ c.0 in
      let d = first_none last [] (omega arith) a.1 in
      record {
        faultless = faultless image b.0;
        shape = shape_true (base_of f) h (both_left (good_shape (base_of f) h) _ sizes);
        long = eqb-true _ _ (both_right (good_shape (base_of f) h) _ sizes);
        words = eqb-true _ _ (both_right (both (good_shape (base_of f) h) _) _ c.0);
        well = c.1;
        enough = ltb-false room (length (roots_of f)) d.0;
      }

  pub open_passes : Opens h image room → first_of (open_tests h image room) ≡ 0
  unfolding good_target file_tests section_tests fault_of
  open_passes o =
      let good : good_target f h room ≡ true = rw (shape_of (base_of f) h o.shape, eq-eqb _ _ o.long, eq-eqb _ _ o.words) in
      let a = first_more (file_tests image) next refl (no_fault image o.faultless)
      ∙ first_no (bad_shape (good_target f h room)) (ill_formed (heap_of_file f) ∷ []) (ap not good) ∙ first_last (ill_formed (heap_of_file f)) (ap not o.well) in
      first_more (file_tests image ++ next) (last ∷ []) refl a ∙ first_last last (le-ltb room (length (roots_of f)) o.enough)

-- the heap that is opened has a good shape and is well-formed
pub opened_passed : (h : Heap) (image : List ℕ) (room : ℕ) → Opens h image room → Passed (base_of (file_of image)) (heap_of_file (file_of image))
opened_passed h image room o =
    let f : File = file_of image in
    let pool = length_pool (entries_for f.table) f.blocks.body (omega (arith, length_blocks image o.faultless)) in
    record { shape = shape_lengths (base_of f) h (heap_of_file f) (omega (arith, pool, o.long, o.shape.pool)) (sym o.long) o.shape; well = o.well }
