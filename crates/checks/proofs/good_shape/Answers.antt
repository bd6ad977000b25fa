-- `checks::good_shape` meets its contract: each early answer names the part of the shape that fails, the base decides last.
-- Assumes nothing.
use mathlib.Core.Path.{◌≡◌, refl, sym, ◌∙◌}
use mathlib.Core.Bool.{Bool, true, false}
use mathlib.Core.List.{List}
use Prim.Native.Nat.{ℕ, ◌*◌, ◌≤◌}
use native.Mathlib.Omega.{arith}
use borrow.Author.Tests.{le-leb, eq-eqb, eqb-true, eqb-false}
use lib.ListN.{length}
use Rattle.rules.specs.Tests.{both}
use Rattle.rules.specs.Pointers.{good_base}
use Rattle.rules.specs.Planes.{entries_in, planes, heap_at}
use Rattle.rules.specs.Refusals.{good_shape}
use Rattle.laws.specs.Meaning.{Shape}
use Rattle.laws.proofs.Planes.{length_entries_in}
use Rattle.laws.proofs.Refusals.{both_false, shape_not}
use Rattle.checks.proofs.good_shape.Goals as goal

module _ (base t : ℕ) (pool table : List ℕ) where
  abbrev answer : Bool
  answer = both (good_shape base (heap_at t pool table)) ((planes t).fits table)

  shapeless : (Shape base (heap_at t pool table) → ⊥) → false ≡ answer
  shapeless f = rw (shape_not base (heap_at t pool table) f)

  other_length : (planes t).fits table ≡ false → false ≡ answer
  other_length e = rw (e, both_false) refl

  -- where the lengths suit each other, the base decides
  by_base : (n : ℕ) → 1 ≤ n → n ≤ 4096 → n ≡ length (entries_in t table) → length pool ≡ 16 * n → (planes t).fits table ≡ true → good_base base n ≡ answer
  unfolding good_shape
  by_base n some few blocks long fits = rw (fits, long, ← blocks, le-leb _ _ some, le-leb _ _ few, eq-eqb (16 * n) (16 * n) refl) (go (good_base base n))
    where
      go : (b : Bool) → b ≡ both b true
      go true = refl
      go false = refl

-- that many blocks, once there are as many as entries
counted : (t : ℕ) (table : List ℕ) {n : ℕ} → n ≡ length (entries_in t table) → n ≡ 4 * t
counted t table e = e ∙ length_entries_in t table

pub returns-then-heap-lt1 : goal.returns-then-heap-lt1
returns-then-heap-lt1 c = shapeless _ _ _ _ (λ s. omega (arith, s.some, length_entries_in c.args.heap.now.t c.args.heap.now.table.now))

pub returns-then-heap-gt-MAX_T : goal.returns-then-heap-gt-MAX_T
returns-then-heap-gt-MAX_T c = shapeless _ _ _ _ (λ s. omega (arith, s.few, length_entries_in c.args.heap.now.t c.args.heap.now.table.now))

pub returns-then-not-fits : goal.returns-then-not-fits
returns-then-not-fits c = other_length _ _ _ _ (sym c.fits.ensures ∙ c.if-not-fits.true)

pub of_blocks-requires : goal.of_blocks-requires
of_blocks-requires c = omega (arith, counted _ _ (c.blocks-n.ensures c.args.heap.now.table.now))

pub returns-then-not-is_length_of : goal.returns-then-not-is_length_of
returns-then-not-is_length_of c =
    let a = c.args.heap.now in
    let other = eqb-false (length a.pool.now) c.of_blocks.result.0 (sym c.is_length_of.ensures ∙ c.if-not-is_length_of.true) in
    shapeless _ _ _ _ (λ s. other (omega (arith, s.pool, c.blocks-n.ensures a.table.now)))

pub is_base-requires : goal.is_base-requires
is_base-requires c = omega (arith, counted _ _ (c.blocks-n.ensures c.args.heap.now.table.now))

pub returns : goal.returns
returns c =
    let n = c.blocks-n.ensures c.args.heap.now.table.now in
    let few = counted _ _ n in
    let long = eqb-true _ _ (sym c.is_length_of.ensures ∙ c.if-not-is_length_of.false) in
    c.is_base.ensures
    ∙ by_base _ _ _ _ _ (omega (arith, few)) (omega (arith, few)) n (long ∙ c.of_blocks.ensures) (sym c.fits.ensures ∙ c.if-not-fits.false)
