-- The theorems of keeping, said of the call: what an accepted collection answers and leaves, whatever the mark stack.
-- Assumes nothing.
use mathlib.Core.Path.{◌≡◌, refl, ap, ◌∙◌}
use mathlib.Core.Logic.{◌≢◌}
use mathlib.Core.Bool.{true, not}
use mathlib.Core.List.{List}
use Prim.Native.Nat.{ℕ, ◌+◌, ◌*◌, ◌/◌, ◌%◌, ◌≤◌, ◌<◌}
use native.Mathlib.Omega.{arith}
use lib.ListN.{length, get_or}
use borrow.Author.Tests.{le-ltb}
use Rattle.rules.specs.Words.{words_of}
use Rattle.rules.specs.Entries.{FREE}
use Rattle.rules.specs.Tables.{entry_at, well_formed, block_count, used}
use Rattle.rules.specs.Outcomes.{Heap, Outcome, unless_refused}
use Rattle.rules.specs.Refusals.{first_of, good_lists, bad_shape, ill_formed, many_roots, long_stack, collection_tests}
use Rattle.rules.specs.Calls.{collecting, collect}
use Rattle.laws.specs.Meaning.{Accepted}
use Rattle.rules.specs.Memory.{heap_in}
use Rattle.laws.proofs.Refusals.{first_no, first_last, lists_of, accepts, accepted_none}
use Rattle.laws.proofs.Tables.{extent_of, extent_used}
use Rattle.laws.proofs.Marking.{head_inside}
use Rattle.keeping.specs.Keeping.{marking, collected, Collected, KeepsExactly, AnyStack, Agree}
use Rattle.keeping.proofs.Owners.{reachable_head}
use Rattle.keeping.proofs.Kept.{keeps}
use Rattle.keeping.proofs.Counts.{few_rescans, used_less}
use Rattle.keeping.proofs.Same.{any_room}
use Rattle.keeping.proofs.Asked.{Asked, tests_ask}

-- what a collection does if none of its tests holds
abbrev pub acted : ℕ → Heap → List ℕ → List ℕ → Outcome
acted base h roots stack = collecting h stack (marking base h (words_of roots) (length stack / 4))

pub collect_from : (base : ℕ) (h : Heap) (roots stack : List ℕ)
    → collect base h roots stack ≡ unless_refused (first_of (collection_tests base h roots stack)) h stack (acted base h roots stack)
unfolding collect marking
collect_from base h roots stack = refl

-- ---- what a collection asks

module _ (base : ℕ) (h : Heap) (roots stack : List ℕ) where
  tests_none : Asked base h roots stack → first_of (collection_tests base h roots stack) ≡ 0
  tests_none a =
      first_no (bad_shape (good_lists base h roots stack)) _ (ap not (lists_of base h roots stack (a.passed.shape, a.good_roots.whole, a.good_stack.whole)))
      ∙ first_no (ill_formed h) _ (ap not a.passed.well)
      ∙ first_no (many_roots roots) _ (le-ltb 4096 (length roots / 4) a.good_roots.few)
      ∙ first_last (long_stack stack) (le-ltb 64 (length stack / 4) a.good_stack.short)

  no_refusal : Accepted (collect base h roots stack) → first_of (collection_tests base h roots stack) ≡ 0
  no_refusal accepted =
      accepted_none (first_of (collection_tests base h roots stack)) h stack (acted base h roots stack) (rw (collect_from base h roots stack) at accepted)

  pub collect_asks : Accepted (collect base h roots stack) → Asked base h roots stack
  collect_asks accepted = tests_ask base h roots stack (no_refusal accepted)

  pub collect_accepts : Asked base h roots stack → Accepted (collect base h roots stack)
  unfolding collecting
  collect_accepts a = rw (collect_from base h roots stack ∙ accepts h stack (acted base h roots stack) (tests_none a)) refl

-- ---- one collection

module _ (base : ℕ) (h : Heap) (roots stack : List ℕ) (accepted : Accepted (collect base h roots stack)) where
  pub collect_is : collect base h roots stack ≡ acted base h roots stack
  collect_is = collect_from base h roots stack ∙ accepts h stack (acted base h roots stack) (no_refusal base h roots stack accepted)

  pub collect_well : well_formed h.entries ≡ true
  collect_well = (collect_asks base h roots stack accepted).passed.well

  pub collect_entries : (collect base h roots stack).heap.entries ≡ collected base h (words_of roots) (length stack / 4)
  unfolding collecting collected
  collect_entries = ap (λ (o : Outcome). o.heap.entries) collect_is

  -- the whole statement
  pub collect_keeps : ((k : ℕ) → entry_at h.entries k < 4) → Collected base h roots stack (collect base h roots stack)
  unfolding collecting collected
  collect_keeps small =
      let ws = words_of roots in
      let room = length stack / 4 in
      rw collect_is
      (record {
        pool = refl;
        table = keeps base h ws room (record { well = collect_well; small = small });
        kept = refl;
        passes = refl;
        few = few_rescans base h ws room collect_well;
        change = refl;
        stack = refl;
      })

  -- no more blocks are used than before
  pub collect_less : used (collect base h roots stack).heap.entries ≤ used h.entries
  collect_less = rw collect_entries (used_less base h (words_of roots) (length stack / 4) collect_well)

-- ---- the statements

pub keeps_exactly : KeepsExactly
keeps_exactly f faithful base m roots stack accepted = collect_keeps base (heap_in f m) roots stack accepted (faithful.small m.table)

pub any_stack : AnyStack
unfolding collecting collected
any_stack f base m roots stack stack' accepted accepted' =
    let h = heap_in f m in
    let same = any_room base h (words_of roots) (length stack / 4) (length stack' / 4) (collect_well base h roots stack accepted) in
    rw (collect_is base h roots stack accepted, collect_is base h roots stack' accepted') (rw same, rw same)

-- ---- two heaps

-- heaps with the same table and the same bytes in every used block agree, whatever the roots
pub used_agree : (base : ℕ) (roots : List ℕ) (h g : Heap) → well_formed h.entries ≡ true → h.entries ≡ g.entries
    → ((k : ℕ) → entry_at h.entries k ≢ FREE → (i : ℕ) → i < 16 → get_or h.pool (16 * k + i) 0 ≡ get_or g.pool (16 * k + i) 0) → Agree base roots h g
used_agree base roots h g well table same =
    record {
      table = table;
      bytes = λ o r i l.
          let e = reachable_head base h roots well o r in
          let u = extent_used h.entries o (block_count h.entries o) (extent_of h.entries o (head_inside h.entries o e)) (λ f. omega arith) (i / 16) (omega arith) in
          let j : 16 * (o + i / 16) + i % 16 ≡ 16 * o + i = omega arith in
          rw j at (same (o + i / 16) u (i % 16) (omega arith));
    }
