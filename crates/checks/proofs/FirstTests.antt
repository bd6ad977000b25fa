-- The tests that come first, 1 and 2, as the code makes them: the shape with the table's length, and then the spare bits with the entries. What a call knows of its table
-- once none of its tests holds.
-- Assumes nothing.
use mathlib.Core.Path.{◌≡◌, refl, sym, ◌∙◌}
use mathlib.Core.Bool.{Bool, true, false, not}
use mathlib.Core.List.{List, [], ◌∷◌, ◌++◌}
use Prim.Native.Nat.{ℕ}
use native.Mathlib.Omega.{arith}
use lib.Dec.{eqb}
use borrow.Author.Tests.{eqb-true}
use Rattle.rules.specs.Tests.{pick, both, either}
use Rattle.rules.specs.Tables.{well_formed}
use Rattle.rules.specs.Outcomes.{Heap}
use Rattle.rules.specs.Refusals.{Test, first_of, good_shape, good_roots, good_lists, many_roots, long_stack, first_tests, heap_tests, root_tests, collection_tests}
use Rattle.rules.specs.Memory.{memory}
use Rattle.rules.specs.Planes.{entries_in, spare_free, Sized, IsTable, planes, heap_at}
use Rattle.laws.proofs.Refusals.{both_left, both_right, shape_true, first_passed}
use Rattle.laws.proofs.Memory.{later, sound_of, refused_first_in}
use Rattle.laws.proofs.Planes.{length_entries_in}
use Rattle.checks.specs.Refusal.{refusal_by}

-- ---- what the code answers

-- the two tests, with what the form adds to each. Once it is known whether the shape is good, the pool does not matter
module _ (t : ℕ) (table : List ℕ) (good : Bool) where
  abbrev first : ℕ
  first = refusal_by t [] table (λ (h : Heap). first_tests good h)

  abbrev shapely : Bool
  shapely = both good ((planes t).fits table)

  abbrev sound : Bool
  sound = both (spare_free t table) (well_formed (entries_in t table))

  by_two : first ≡ pick shapely (pick sound 0 2) 1
  unfolding first_of
  by_two = go good (well_formed (entries_in t table)) ((planes t).fits table) (spare_free t table)
    where
      go : (g w d e : Bool)
          → let r : ℕ = pick (not g) 1 (pick (not w) 2 0) in
          pick (either (eqb r 1) (not d)) 1 (pick (either (eqb r 2) (not e)) 2 (pick (not (eqb r 0)) r 0)) ≡ pick (both g d) (pick (both e w) 0 2) 1
      go false w d e = refl
      go true false false e = refl
      go true true false e = refl
      go true false true false = refl
      go true false true true = refl
      go true true true false = refl
      go true true true true = refl

  pub ill_shaped : {g : Bool} → g ≡ shapely → g ≡ false → 1 ≡ first
  ill_shaped e n = sym (rw (sym e ∙ n) at by_two)

  module _ {g w : Bool} (e : g ≡ shapely) (fine : g ≡ true) (q : w ≡ sound) where
    pub ill_formed : w ≡ false → 2 ≡ first
    ill_formed n = sym (rw (sym e ∙ fine, sym q ∙ n) at by_two)

    pub neither : w ≡ true → 0 ≡ first
    neither n = sym (rw (sym e ∙ fine, sym q ∙ n) at by_two)

-- 1, whatever the shape: a list is no whole number of words
pub torn : (t : ℕ) (pool table : List ℕ) (good : Bool) (us : List Test) → later us ≡ true → good ≡ false → 1 ≡ refusal_by t pool table (λ (h : Heap). first_tests good h ++ us)
torn t pool table good us l bad =
    refused_first_in (planes t) (memory pool table) (first_tests good (heap_at t pool table)) us refl l
    (ill_shaped t table good {g = false} (rw bad refl) refl) (λ z. omega arith)

-- ---- what a call knows

module _ (base t : ℕ) (pool table : List ℕ) where
  abbrev heap_in : Heap
  heap_in = heap_at t pool table

  -- the table's length is that of its two planes, and t is not too large
  pub sized_of : good_shape base heap_in ≡ true → (planes t).fits table ≡ true → Sized t table
  sized_of shape fits = record { few = omega (arith, (shape_true base heap_in shape).few, length_entries_in t table); long = eqb-true _ _ fits }

  -- the same from what good_shape answers
  pub sized_by : {g : Bool} → g ≡ both (good_shape base heap_in) ((planes t).fits table) → g ≡ true → Sized t table
  sized_by e g = sized_of (both_left (good_shape base heap_in) _ (sym e ∙ g)) (both_right (good_shape base heap_in) _ (sym e ∙ g))

  -- none of the tests holds, the first of which is good only if the shape is
  pub is_table_by : (good : Bool) (us : List Test) {r : ℕ} → (good ≡ true → good_shape base heap_in ≡ true)
      → r ≡ refusal_by t pool table (λ (h : Heap). first_tests good h ++ us) → r ≡ 0 → IsTable t table × (first_of (first_tests good heap_in ++ us) ≡ 0)
  is_table_by good us shape e z =
      let p = sound_of (planes t) (memory pool table) (first_tests good heap_in ++ us) e z in
      (record { sized = sized_of (shape (first_passed good heap_in us p.1).0) p.0.fits; clean = p.0.clean }, p.1)

  -- of the calls that test the heap first
  pub is_table_of : (us : List Test) {r : ℕ} → r ≡ refusal_by t pool table (λ (h : Heap). heap_tests base h ++ us) → r ≡ 0
      → IsTable t table × (first_of (heap_tests base heap_in ++ us) ≡ 0)
  is_table_of us e z = is_table_by (good_shape base heap_in) us (λ g. g) e z

  -- of one that takes roots
  pub is_table_roots : (roots : List ℕ) {r : ℕ} → r ≡ refusal_by t pool table (λ (h : Heap). root_tests base h roots) → r ≡ 0
      → IsTable t table × (first_of (root_tests base heap_in roots) ≡ 0)
  is_table_roots roots e z = is_table_by (good_roots base heap_in roots) (many_roots roots ∷ []) (both_left (good_shape base heap_in) _) e z

  -- of a collection
  pub is_table_lists : (roots stack : List ℕ) {r : ℕ} → r ≡ refusal_by t pool table (λ (h : Heap). collection_tests base h roots stack) → r ≡ 0
      → IsTable t table × (first_of (collection_tests base heap_in roots stack) ≡ 0)
  is_table_lists roots stack e z =
      is_table_by (good_lists base heap_in roots stack) (many_roots roots ∷ long_stack stack ∷ []) (both_left (good_shape base heap_in) _) e z
