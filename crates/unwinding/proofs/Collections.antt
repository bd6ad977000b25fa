-- A collection made on two heaps that differ in bytes of unreachable objects alone: the same table, the same answer, and pools that match again.
-- Only the number of rescans looks at the room of the mark stack.
-- Assumes nothing.
use mathlib.Core.Path.{◌≡◌, refl, sym, ap, ◌∙◌}
use mathlib.Core.Logic.{◌≢◌, inl}
use mathlib.Core.Bool.{true}
use mathlib.Core.List.{List, []}
use Prim.Native.Nat.{ℕ, ◌+◌, ◌*◌, ◌/◌, ◌%◌, ◌<◌}
use native.Mathlib.Omega.{arith}
use native.Mathlib.Decide.{ℕ_discrete}
use lib.Dec.{eqb, ltb}
use lib.ListN.{length}
use borrow.Author.Tests.{le-ltb}
use Rattle.rules.specs.Words.{words_of}
use Rattle.rules.specs.Entries.{FREE}
use Rattle.rules.specs.Tables.{entry_at, well_formed}
use Rattle.laws.specs.Faithful.{Small}
use Rattle.rules.specs.Outcomes.{Heap}
use Rattle.rules.specs.Refusals.{whole_words}
use Rattle.rules.specs.Calls.{collecting, collect}
use Rattle.rules.specs.Runs.{Collect}
use Rattle.laws.specs.Meaning.{Accepted}
use Rattle.laws.proofs.Matching.{SameByte, Matching, match_sets}
use Rattle.laws.proofs.Twice.{heap, unless_both, shape_same}
use Rattle.keeping.specs.Keeping.{collected, Agree}
use Rattle.keeping.proofs.Kept.{collected_used}
use Rattle.keeping.proofs.Alike.{agree_words, marking_alike, collected_alike, collected_bytes}
use Rattle.keeping.proofs.Asked.{tests_ask}
use Rattle.keeping.proofs.Collections.{acted, collect_from, collect_asks, collect_is, used_agree}
use Rattle.unwinding.specs.Answers.{SameStacks, equally_long, both_good, SameAnswer, equal, alike_but_rescans}
use Rattle.unwinding.proofs.Same.{Same}

-- ---- the mark stacks pass the same tests

pub stacks_whole : {stack stack' : List ℕ} → SameStacks stack stack' → whole_words stack ≡ whole_words stack'
unfolding whole_words
stacks_whole (equally_long l) = rw l
stacks_whole (both_good x y) = ap (λ (r : ℕ). eqb r 0) (x.whole ∙ sym y.whole)

pub stacks_short : {stack stack' : List ℕ} → SameStacks stack stack' → ltb 64 (length stack / 4) ≡ ltb 64 (length stack' / 4)
stacks_short (equally_long l) = rw l
stacks_short (both_good x y) = le-ltb _ _ x.short ∙ sym (le-ltb _ _ y.short)

-- ---- two collections that act

module _ (base : ℕ) (roots es p q stack stack' : List ℕ) (well : well_formed es ≡ true) where
  abbrev h : Heap
  h = heap p es

  abbrev h'' : Heap
  h'' = heap q es

  -- the table that the first leaves
  abbrev left : List ℕ
  left = collected base h (words_of roots) (length stack / 4)

  same_acted : Agree base (words_of roots) h h'' → Matching left p q → Same (Collect base roots) stack stack' (acted base h roots stack) (acted base h'' roots stack')
  unfolding collecting collected
  same_acted a match = record { answer = answer (ℕ_discrete (length stack) (length stack')); filled = refl; table = table; match = match }
    where
      table : left ≡ collected base h'' (words_of roots) (length stack' / 4)
      table = collected_alike base h h'' (words_of roots) well (agree_words a) (length stack / 4) (length stack' / 4)

      answer : Dec (length stack ≡ length stack') → SameAnswer stack stack' (acted base h roots stack).answer (acted base h'' roots stack').answer (Collect base roots)
      answer (yes e) = equal (rw (e, marking_alike base h h'' (words_of roots) well (agree_words a) (length stack' / 4)))
      answer (no e) = alike_but_rescans refl e (rw table)

-- ---- a collection on pools that match

pub same_collect : (base : ℕ) (roots es p q stack stack' : List ℕ) → Matching es p q → SameStacks stack stack'
    → Same (Collect base roots) stack stack' (collect base (heap p es) roots stack) (collect base (heap q es) roots stack')
same_collect base roots es p q stack stack' match s =
    rw (collect_from base g roots stack, collect_from base g' roots stack', shape_same base es p q match.long, stacks_whole s, stacks_short s)
    (unless_both (Same (Collect base roots) stack stack') _ (λ r. record { answer = equal refl; filled = refl; table = refl; match = match })
    (λ z. let well = (tests_ask base g' roots stack' z).passed.well in
    same_acted base roots es p q stack stack' well (used_agree base (words_of roots) g g' well refl used)
    (match_sets _ 0 [] match (λ i u. inl (λ f. u (collected_used base g (words_of roots) (length stack / 4) well (i / 16) u ∙ f))))))
  where
    g : Heap
    g = heap p es

    g' : Heap
    g' = heap q es

    used : (k : ℕ) → entry_at es k ≢ FREE → (i : ℕ) → i < 16 → SameByte p q (16 * k + i)
    used k u i l = let e : (16 * k + i) / 16 ≡ k = omega arith in match.bytes (16 * k + i) (rw e u)

-- ---- the first collection

pub same_first : (base : ℕ) (roots es p q stack stack' : List ℕ) → Small es → Agree base (words_of roots) (heap p es) (heap q es)
    → Accepted (collect base (heap p es) roots stack) → Accepted (collect base (heap q es) roots stack')
    → Same (Collect base roots) stack stack' (collect base (heap p es) roots stack) (collect base (heap q es) roots stack')
same_first base roots es p q stack stack' small a x x' =
    let h = heap p es in
    let h'' = heap q es in
    let s = (collect_asks base h roots stack x).passed in
    let s' = (collect_asks base h'' roots stack' x').passed in
    rw (collect_is base h roots stack x, collect_is base h'' roots stack' x')
    (same_acted base roots es p q stack stack' s.well a
    (record {
      long = s.shape.pool ∙ sym s'.shape.pool;
      bytes = λ i u. let e : 16 * (i / 16) + i % 16 ≡ i = omega arith in
          rw e at (collected_bytes base h h'' (words_of roots) (length stack / 4) (record { well = s.well; small = small }) a (i / 16) u (i % 16) (omega arith));
    }))
