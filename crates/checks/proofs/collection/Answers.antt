-- `checks::collection` meets its contract: one law for each way out. Assumes nothing.
use mathlib.Core.Path.{◌≡◌, refl, sym, ◌∙◌}
use mathlib.Core.List.{List, [], ◌∷◌, ◌++◌}
use Prim.Native.Nat.{ℕ, ◌/◌, ◌%◌, ◌≤◌, ◌<◌}
use borrow.Author.Tests.{eq-eqb, ne_eqb, lt-ltb, le-ltb}
use lib.ListN.{length}
use Rattle.rules.specs.Outcomes.{Heap}
use Rattle.rules.specs.Memory.{memory}
use Rattle.rules.specs.Planes.{planes, heap_at}
use Rattle.rules.specs.Refusals.{Test, first_of, whole_words, good_lists, many_roots, long_stack, root_tests, collection_tests}
use Rattle.laws.proofs.Refusals.{first_yes, first_last, both_false, both_true}
use Rattle.laws.proofs.Memory.{refused_first_in, refused_next_in}
use Rattle.checks.specs.Refusal.{refusal_by}
use Rattle.checks.proofs.FirstTests.{torn}
use Rattle.refusals.proofs.Codes.{not_accepted, passed_on}
use Rattle.checks.proofs.collection.Goals as goal

module _ (base t : ℕ) (pool table roots stack : List ℕ) where
  abbrev h : Heap
  h = heap_at t pool table

  abbrev own : List Test
  own = long_stack stack ∷ []

  abbrev answer : ℕ
  answer = refusal_by t pool table (λ (h : Heap). collection_tests base h roots stack)

  torn_stack : (length stack % 4 ≡ 0 → ⊥) → 1 ≡ answer
  unfolding whole_words
  torn_stack ne = torn t pool table (good_lists base h roots stack) (many_roots roots ∷ own) refl (rw (ne_eqb _ _ ne, both_false, both_false) refl)

  -- the mark stack is whole words: the tests are those of the roots, and then its length
  module _ (whole : length stack % 4 ≡ 0) where
    as_roots : refusal_by t pool table (λ (h : Heap). root_tests base h roots ++ own) ≡ answer
    unfolding whole_words
    as_roots = rw (eq-eqb _ _ whole, both_true) refl

    refused : {r : ℕ} → r ≡ refusal_by t pool table (λ (h : Heap). root_tests base h roots) → (r ≡ 0 → ⊥) → r ≡ answer
    refused e ne = refused_first_in (planes t) (memory pool table) (root_tests base h roots) own refl refl e ne ∙ as_roots

    passed : {r n : ℕ} → r ≡ refusal_by t pool table (λ (h : Heap). root_tests base h roots) → r ≡ 0 → n ≡ first_of own → n ≡ answer
    passed e z q = refused_next_in (planes t) (memory pool table) (root_tests base h roots) own refl e z q ∙ as_roots

    long : {r : ℕ} → r ≡ refusal_by t pool table (λ (h : Heap). root_tests base h roots) → r ≡ 0 → 64 < length stack / 4 → 4 ≡ answer
    long e z q = passed e z (sym (first_yes _ _ (lt-ltb _ _ q)))

    none : {r : ℕ} → r ≡ refusal_by t pool table (λ (h : Heap). root_tests base h roots) → r ≡ 0 → length stack / 4 ≤ 64 → 0 ≡ answer
    none e z q = passed e z (sym (first_last _ (le-ltb _ _ q)))

pub returns-then-stack-ne0 : goal.returns-then-stack-ne0
returns-then-stack-ne0 c = λ roots e. torn_stack _ _ _ _ roots _ c.if-stack-ne0.true

pub returns-in_err-root_list : goal.returns-in_err-root_list
returns-in_err-root_list c = λ roots e. passed_on _ _ c.from_residual.ensures.1 ∙ refused _ _ _ _ roots _ c.if-stack-ne0.false (c.in_err-root_list.ensures roots e) (not_accepted _)

pub returns-then-stack-gt-MAX_STACK_ENTRIES : goal.returns-then-stack-gt-MAX_STACK_ENTRIES
returns-then-stack-gt-MAX_STACK_ENTRIES c = λ roots e. long _ _ _ _ roots _ c.if-stack-ne0.false (c.in_ok-root_list.ensures roots e) refl c.if-stack-gt-MAX_STACK_ENTRIES.true

pub returns : goal.returns
returns c = λ roots e. none _ _ _ _ roots _ c.if-stack-ne0.false (c.in_ok-root_list.ensures roots e) refl c.if-stack-gt-MAX_STACK_ENTRIES.false
