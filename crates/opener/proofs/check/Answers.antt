-- `check`: one law for each way out.
-- Assumes nothing.
use mathlib.Core.Path.{◌≡◌, refl, sym, ap, ◌∙◌}
use mathlib.Core.Bool.{Bool, true, false, not}
use mathlib.Core.List.{List}
use Prim.Native.Nat.{ℕ, ◌+◌, ◌-◌, ◌*◌, ◌%◌, ◌≤◌, ◌<◌}
use native.Mathlib.Omega.{arith}
use lib.ListN.{length, take, drop}
use borrow.Author.Rules.{rules}
use borrow.Author.Tests.{eq-eqb, ne_eqb, lt-ltb, le-ltb}
use Rattle.rules.specs.Tests.{both}
use Rattle.rules.specs.Entries.{entries_of}
use Rattle.rules.specs.Tables.{well_formed}
use Rattle.rules.specs.Outcomes.{Heap}
use Rattle.rules.specs.Refusals.{first_of, good_shape}
use Rattle.rules.specs.Planes.{planes, heap_at}
use Rattle.rules.specs.Files.{File as FileOf, file_of, entries_for, roots_of}
use Rattle.rules.specs.Calls.{good_target}
use Rattle.laws.proofs.Refusals.{both_false, both_true, first_yes, first_no, first_last}
use Rattle.laws.proofs.Entries.{length_entries_of}
use Rattle.laws.proofs.Planes.{length_entries_in}
use Rattle.laws.proofs.Widths.{in_32_bits, in_slice}
use Rattle.parser.specs.declared.File.{File}
use Rattle.parser.specs.Reading.{Says}
use Rattle.opener.specs.Filling.{lent_tests}
use Rattle.opener.proofs.Ends.{table_long, roots_long}
use Rattle.opener.proofs.check.Goals as goal
use Rattle.opener.proofs.check.Goals.{After-good_shape}

module _ {image : List ℕ} {file : File} (says : Says image file) (t : ℕ) (pool table : List ℕ) (room : ℕ) where
  abbrev f : FileOf
  f = file_of image

  abbrev h : Heap
  h = heap_at t pool table

  abbrev answer : ℕ
  answer = first_of (lent_tests t image pool table room)

  -- 1: another t, a torn list, or another shape
  unsuited : good_target f h room ≡ false → 1 ≡ answer
  unsuited e = sym (first_yes _ _ (rw e))

  blocks : (length (entries_for f.table) ≡ 4 * file.t) × (length h.entries ≡ 4 * t)
  blocks = (omega (arith, length_entries_of f.table.body, table_long says), length_entries_in t table)

  other_size : (file.t ≡ t → ⊥) → 1 ≡ answer
  unfolding good_target
  other_size ne = unsuited (rw (ne_eqb (length (entries_for f.table)) (length h.entries) (λ e. ne (omega (arith, e, blocks.0, blocks.1))), both_false) refl)

  torn : (room % 4 ≡ 0 → ⊥) → 1 ≡ answer
  unfolding good_target
  torn ne = unsuited (rw (ne_eqb (room % 4) 0 ne, both_false) refl)

  module _ (same : file.t ≡ t) (words : room % 4 ≡ 0) {good : Bool} (shape : good ≡ both (good_shape file.base h) ((planes t).fits table)) where
    target_is : good ≡ both (good_target f h room) ((planes t).fits table)
    unfolding good_target
    target_is = shape ∙ rw (says.base, eq-eqb (length (entries_for f.table)) (length h.entries) (omega (arith, same, blocks.0, blocks.1)), eq-eqb (room % 4) 0 words, both_true, both_true) refl

    ill_shaped : good ≡ false → 1 ≡ answer
    ill_shaped e = sym (first_yes _ _ (ap not (sym target_is ∙ e)))

    module _ (fine : good ≡ true) {well : Bool} (formed : well ≡ well_formed (entries_of (take (8 + t - 8) (drop 8 image)))) where
      formed_is : well ≡ well_formed (entries_for f.table)
      formed_is =
          let long : 8 + t - 8 ≡ file.t = omega (arith, same) in
          rw (says.table, ← long) formed

      ill_formed : well ≡ false → 2 ≡ answer
      ill_formed e = sym (first_no _ _ (ap not (sym target_is ∙ fine)) ∙ first_yes _ _ (ap not (sym formed_is ∙ e)))

      module _ (fits : well ≡ true) where
        short : room < 4 * file.roots → 17 ≡ answer
        short l =
            sym (first_no _ _ (ap not (sym target_is ∙ fine)) ∙ first_no _ _ (ap not (sym formed_is ∙ fits)) ∙ first_yes _ _ (lt-ltb room (length (roots_of f)) (omega (arith, roots_long says))))

        neither : 4 * file.roots ≤ room → 0 ≡ answer
        neither l =
            sym (first_no _ _ (ap not (sym target_is ∙ fine)) ∙ first_no _ _ (ap not (sym formed_is ∙ fits)) ∙ first_last _ (le-ltb room (length (roots_of f)) (omega (arith, roots_long says))))

-- whether the shape is good
shape_is : (c : After-good_shape) → c.good_shape.result ≡ both (good_shape c.args.file.base (heap_at c.args.t c.args.pool.now c.args.table.now)) ((planes c.args.t).fits c.args.table.now)
shape_is c = let e = c.new.ensures in rw (e.base, e.t, e.pool, e.table, c.from.ensures) at c.good_shape.ensures

pub returns-then-file-t : goal.returns-then-file-t
returns-then-file-t c = other_size c.requires _ _ _ _ c.if-file-t.true

pub returns-then-roots-ne0 : goal.returns-then-roots-ne0
returns-then-roots-ne0 c = torn c.requires _ _ _ _ c.if-roots-ne0.true

pub returns-then-not-good_shape : goal.returns-then-not-good_shape
returns-then-not-good_shape c =
    let shape = shape_is (goal.at.returns-then-not-good_shape c).After-good_shape in
    ill_shaped c.requires _ _ _ _ c.if-file-t.false c.if-roots-ne0.false shape c.if-not-good_shape.true

pub overflow_add-end : goal.overflow_add-end
overflow_add-end c = in_slice c.args.image.now (search rules) (search rules)

pub returns-then-not-well_formed : goal.returns-then-not-well_formed
returns-then-not-well_formed c =
    let shape = shape_is (goal.at.returns-then-not-well_formed c).After-good_shape in
    ill_formed c.requires _ _ _ _ c.if-file-t.false c.if-roots-ne0.false shape c.if-not-good_shape.false c.well_formed-2.ensures c.if-not-well_formed.true

pub overflow_mul-file : goal.overflow_mul-file
overflow_mul-file c = in_32_bits (search rules)

pub returns-then-roots-file : goal.returns-then-roots-file
returns-then-roots-file c =
    let shape = shape_is (goal.at.returns-then-roots-file c).After-good_shape in
    short c.requires _ _ _ _ c.if-file-t.false c.if-roots-ne0.false shape c.if-not-good_shape.false c.well_formed-2.ensures c.if-not-well_formed.false c.if-roots-file.true

pub returns : goal.returns
returns c =
    let shape = shape_is (goal.at.returns c).After-good_shape in
    neither c.requires _ _ _ _ c.if-file-t.false c.if-roots-ne0.false shape c.if-not-good_shape.false c.well_formed-2.ensures c.if-not-well_formed.false c.if-roots-file.false
