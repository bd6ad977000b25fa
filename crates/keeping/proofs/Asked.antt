-- What a collection asks: it is accepted exactly if this is.
-- Assumes nothing.
use mathlib.Core.Path.{◌≡◌}
use mathlib.Core.List.{List, [], ◌∷◌}
use Prim.Native.Nat.{ℕ, ◌/◌}
use native.Mathlib.Omega.{arith}
use lib.ListN.{length}
use borrow.Author.Tests.{ltb-false}
use Rattle.rules.specs.Outcomes.{Heap}
use Rattle.rules.specs.Refusals.{first_of, good_lists, many_roots, long_stack, collection_tests}
use Rattle.laws.specs.Meaning.{Passed}
use Rattle.laws.proofs.Refusals.{first_none, first_passed, lists_say}
use Rattle.keeping.specs.Keeping.{GoodRoots, GoodStack}

pub record Asked (base : ℕ) (h : Heap) (roots stack : List ℕ) : Type 0 where
  pub passed : Passed base h
  pub good_roots : GoodRoots roots
  pub good_stack : GoodStack stack

module _ (base : ℕ) (h : Heap) (roots stack : List ℕ) where
  pub tests_ask : first_of (collection_tests base h roots stack) ≡ 0 → Asked base h roots stack
  tests_ask e =
      let p = first_passed (good_lists base h roots stack) h _ e in
      let s = lists_say base h roots stack p.0 in
      let r = first_none (many_roots roots) (long_stack stack ∷ []) (omega arith) p.2 in
      let t = first_none (long_stack stack) [] (omega arith) r.1 in
      record {
        passed = record { shape = s.0; well = p.1 };
        good_roots = record { whole = s.1; few = ltb-false 4096 (length roots / 4) r.0 };
        good_stack = record { whole = s.2; short = ltb-false 64 (length stack / 4) t.0 };
      }
