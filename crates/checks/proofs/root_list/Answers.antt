-- `checks::root_list` meets its contract: one law for each way out. Assumes nothing.
use mathlib.Core.Path.{◌≡◌, refl, sym, ◌∙◌}
use mathlib.Core.List.{List, [], ◌∷◌, ◌++◌}
use Prim.Native.Nat.{ℕ, ◌/◌, ◌%◌, ◌≤◌, ◌<◌}
use borrow.Author.Tests.{eq-eqb, ne_eqb, lt-ltb, le-ltb}
use lib.ListN.{length}
use Rattle.rules.specs.Outcomes.{Heap}
use Rattle.rules.specs.Memory.{memory}
use Rattle.rules.specs.Planes.{planes, heap_at}
use Rattle.rules.specs.Refusals.{Test, first_of, whole_words, good_roots, many_roots, heap_tests, root_tests}
use Rattle.laws.proofs.Refusals.{first_yes, first_last, both_false, both_true}
use Rattle.laws.proofs.Memory.{refused_first_in, refused_next_in}
use Rattle.checks.specs.Refusal.{refusal_by}
use Rattle.checks.proofs.FirstTests.{torn}
use Rattle.refusals.proofs.Codes.{not_accepted, passed_on}
use Rattle.checks.proofs.root_list.Goals as goal

module _ (base t : ℕ) (pool table roots : List ℕ) {n : ℕ} (long : length roots ≡ n) where
  abbrev h : Heap
  h = heap_at t pool table

  abbrev own : List Test
  own = many_roots roots ∷ []

  abbrev answer : ℕ
  answer = refusal_by t pool table (λ (h : Heap). root_tests base h roots)

  torn_roots : (n % 4 ≡ 0 → ⊥) → 1 ≡ answer
  unfolding whole_words
  torn_roots ne = torn t pool table (good_roots base h roots) own refl (rw (long, ne_eqb _ _ ne, both_false) refl)

  -- the roots are whole words: the tests are those of the heap, and then their number
  module _ (whole : n % 4 ≡ 0) where
    as_heap : refusal_by t pool table (λ (h : Heap). heap_tests base h ++ own) ≡ answer
    unfolding whole_words
    as_heap = rw (long, eq-eqb _ _ whole, both_true) refl

    refused : {r : ℕ} → r ≡ refusal_by t pool table (λ (h : Heap). heap_tests base h) → (r ≡ 0 → ⊥) → r ≡ answer
    refused e ne = refused_first_in (planes t) (memory pool table) (heap_tests base h) own refl refl e ne ∙ as_heap

    passed : {r m : ℕ} → r ≡ refusal_by t pool table (λ (h : Heap). heap_tests base h) → r ≡ 0 → m ≡ first_of own → m ≡ answer
    passed e z q = refused_next_in (planes t) (memory pool table) (heap_tests base h) own refl e z q ∙ as_heap

    many : {r : ℕ} → r ≡ refusal_by t pool table (λ (h : Heap). heap_tests base h) → r ≡ 0 → 4096 < n / 4 → 3 ≡ answer
    many e z q = passed e z (sym (first_yes _ _ (rw long (lt-ltb _ _ q))))

    none : {r : ℕ} → r ≡ refusal_by t pool table (λ (h : Heap). heap_tests base h) → r ≡ 0 → n / 4 ≤ 4096 → 0 ≡ answer
    none e z q = passed e z (sym (first_last _ (rw long (le-ltb _ _ q))))

pub returns-then-bytes-ne0 : goal.returns-then-bytes-ne0
returns-then-bytes-ne0 c = λ roots long. torn_roots _ _ _ _ roots long c.if-bytes-ne0.true

pub returns-in_err-heap : goal.returns-in_err-heap
returns-in_err-heap c = λ roots long. passed_on _ _ c.from_residual.ensures.1 ∙ refused _ _ _ _ roots long c.if-bytes-ne0.false c.in_err-heap.ensures (not_accepted _)

pub returns-then-bytes-gt-MAX_ROOTS : goal.returns-then-bytes-gt-MAX_ROOTS
returns-then-bytes-gt-MAX_ROOTS c = λ roots long. many _ _ _ _ roots long c.if-bytes-ne0.false c.in_ok-heap.ensures refl c.if-bytes-gt-MAX_ROOTS.true

pub returns : goal.returns
returns c = λ roots long. none _ _ _ _ roots long c.if-bytes-ne0.false c.in_ok-heap.ensures refl c.if-bytes-gt-MAX_ROOTS.false
