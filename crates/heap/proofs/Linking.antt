-- What loads of an object answer on a heap that is checked, and when they say that it has two blocks.
-- Assumes nothing.
use mathlib.Core.Path.{◌≡◌, refl, sym, ap, ◌∙◌}
use mathlib.Core.Bool.{Bool, true, false}
use mathlib.Core.List.{List, [], ◌∷◌, ◌++◌}
use mathlib.Core.Option.{some, none}
use Prim.Native.Nat.{ℕ, zero, suc, ◌+◌, ◌*◌, ◌≤◌, ◌<◌}
use native.Mathlib.Omega.{arith}
use native.Mathlib.Decide.{dec_lt}
use lib.Dec.{eqb, leb}
use lib.ListN.{length}
use borrow.Author.Tests.{eqb-true, eqb-false, eq-eqb, ne_eqb, le-leb, lt-leb}
use Rattle.rules.specs.Tests.{pick, both}
use Rattle.rules.specs.Words.{word_at}
use Rattle.rules.specs.Tables.{entry_at, is_head, block_count}
use Rattle.rules.specs.Outcomes.{Answer}
use Rattle.rules.specs.Refusals.{first_of, no_word, name_tests}
use Rattle.rules.specs.Planes.{planes, entries_in, heap_at}
use Rattle.rules.specs.Runs.{Survey, Load}
use Rattle.rules.specs.Memory.{Result, memory, AcceptedIn, perform}
use Rattle.laws.specs.Meaning.{AllBytes}
use Rattle.laws.proofs.Refusals.{both_left, both_right}
use Rattle.heap.specs.Answers.{next_by}
use Rattle.heap.proofs.Ends.{word_next, load_refused, load_done}

module _ (t base : ℕ) (pool table : List ℕ) (bytes : AllBytes table) (ok : AcceptedIn (perform (planes t) (Survey base) [] (memory pool table))) (k : ℕ) where
  abbrev es : List ℕ
  es = entries_in t table

  abbrev load : ℕ → Answer
  load i = (perform (planes t) (Load base k i) [] (memory pool table)).answer

  -- the number of a load's own tests
  abbrev number : ℕ → ℕ
  number i = first_of (name_tests (heap_at t pool table) k ++ no_word (heap_at t pool table) k i ∷ [])

  load_value : (i : ℕ) → number i ≡ 0 → ((load i).refusal ≡ 0) × ((load i).value ≡ word_at pool (4 * k + i))
  load_value i z =
      let done = load_done t base pool table k i (word_next t base pool table k i ok (sym z)) refl (word_at pool (4 * k + i)) bytes refl in
      (sym (ap (λ (x : Result). x.answer.refusal) done), sym (ap (λ (x : Result). x.answer.value) done))

  load_number : (i : ℕ) → (load i).refusal ≡ number i
  load_number i = go (number i) refl
    where
      go : (n : ℕ) → number i ≡ n → (load i).refusal ≡ number i
      go zero z = (load_value i z).0 ∙ sym z
      go (suc n) q =
          sym (ap (λ (x : Result). x.answer.refusal) (load_refused t base pool table k i (word_next t base pool table k i ok refl) (λ z. omega (arith, q, z))))

  -- ---- the three ways it is no object of two blocks, and the one that it is

  short : (number 7 ≡ 0 → ⊥) → none ≡ next_by load
  unfolding next_by
  short ne = rw (load_number 7, ne_eqb (number 7) 0 ne)

  long : number 7 ≡ 0 → (number 8 ≡ 8 → ⊥) → none ≡ next_by load
  unfolding next_by
  long z ne = rw (load_number 7, load_number 8, eq-eqb (number 7) 0 z, ne_eqb (number 8) 8 ne)

  right : number 7 ≡ 0 → number 8 ≡ 8 → number 0 ≡ 0 → some (word_at pool (4 * k + 0)) ≡ next_by load
  unfolding next_by
  right z e first = rw (load_number 7, load_number 8, eq-eqb (number 7) 0 z, eq-eqb (number 8) 8 e, (load_value 0 first).1)

  no_block : length es ≤ k → number 7 ≡ 6
  unfolding first_of
  no_block l = rw (le-leb (length es) k l)

  pub next_outside : length es ≤ k → none ≡ next_by load
  next_outside l = short (λ z. omega (arith, no_block l, z))

  module _ (inside : k < length es) where
    no_head : is_head (entry_at es k) ≡ false → number 7 ≡ 7
    unfolding first_of
    no_head q = rw (lt-leb (length es) k inside, q)

    of_head : is_head (entry_at es k) ≡ true → (i : ℕ) → number i ≡ pick (leb (4 * block_count es k) i) 8 0
    unfolding first_of
    of_head q i = rw (lt-leb (length es) k inside, q)

    past : is_head (entry_at es k) ≡ true → (i : ℕ) → 4 * block_count es k ≤ i → number i ≡ 8
    past q i l = of_head q i ∙ rw (le-leb (4 * block_count es k) i l)

    within : is_head (entry_at es k) ≡ true → (i : ℕ) → i < 4 * block_count es k → number i ≡ 0
    within q i l = of_head q i ∙ rw (lt-leb (4 * block_count es k) i l)

    pub next_of : both (is_head (entry_at es k)) (eqb (block_count es k) 2) ≡ true → some (word_at pool (4 * k + 0)) ≡ next_by load
    next_of e =
        let q = both_left (is_head (entry_at es k)) _ e in
        let two = eqb-true (block_count es k) 2 (both_right (is_head (entry_at es k)) _ e) in
        right (within q 7 (omega (arith, two))) (past q 8 (omega (arith, two))) (within q 0 (omega (arith, two)))

    pub next_other : both (is_head (entry_at es k)) (eqb (block_count es k) 2) ≡ false → none ≡ next_by load
    next_other e = go (is_head (entry_at es k)) refl e
      where
        counted : is_head (entry_at es k) ≡ true → (block_count es k ≡ 2 → ⊥) → Dec (block_count es k < 2) → none ≡ next_by load
        counted q ne (yes l) = short (λ z. omega (arith, past q 7 (omega (arith, l)), z))
        counted q ne (no l) = long (within q 7 (omega (arith, l))) (λ p. omega (arith, within q 8 (omega (arith, l, ne)), p))

        go : (b : Bool) → is_head (entry_at es k) ≡ b → both b (eqb (block_count es k) 2) ≡ false → none ≡ next_by load
        go false q f = short (λ z. omega (arith, no_head q, z))
        go true q f = counted q (eqb-false (block_count es k) 2 f) (dec_lt (block_count es k) 2)
