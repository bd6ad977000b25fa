-- Init, survey, load and store agree with the plain list.
-- Assumes nothing.
use mathlib.Core.Path.{◌≡◌, refl, sym, ap, ◌∙◌}
use mathlib.Core.Bool.{not}
use mathlib.Core.List.{List, [], ◌∷◌}
use Prim.Native.Nat.{ℕ, ◌+◌, ◌*◌, ◌%◌, ◌^◌, ◌<◌}
use native.Mathlib.Decide.{ℕ_discrete}
use native.Mathlib.Omega.{arith}
use lib.Dec.{leb}
use lib.ListN.{length, get_or, set, replicate, length-set, length-replicate, get_or-replicate}
use lib.Seq.{get_or-set_same, get_or-set_other}
use borrow.Author.Tests.{leb-false}
use Rattle.rules.specs.Words.{word_at, with_word}
use Rattle.rules.specs.Entries.{FREE}
use Rattle.laws.specs.Meaning.{Extent}
use Rattle.rules.specs.Outcomes.{Heap, unless_refused}
use Rattle.rules.specs.Refusals.{first_of, good_shape, bad_shape, outside, no_head, no_word}
use Rattle.rules.specs.Calls.{init, survey, load, store}
use Rattle.rules.specs.Runs.{Init, Survey, Load, Store}
use Rattle.laws.proofs.Words.{length_with_word, word_at_other}
use Rattle.laws.proofs.Tables.{count_is}
use Rattle.plain.specs.Objects.{Object, object, Plain}
use Rattle.plain.specs.Replies.{misplaced, loaded_from, stored_in, reply}
use Rattle.simulation.proofs.Laid.{Lies, Laid, done}
use Rattle.simulation.proofs.Gaps.{laid_used, laid_objects, laid_longest}
use Rattle.simulation.proofs.Words.{word_stored}
use Rattle.simulation.proofs.Edits.{Edit, laid_kept, laid_replace}
use Rattle.simulation.proofs.Agrees.{Represents, represents_other, Agrees, agree_test, agree_heap, agree_named, agree_shape}

-- ---- init

-- an empty table is an empty list
pub empty_laid : (pool : List ℕ) (n : ℕ) → Laid pool (replicate n FREE) 0 []
empty_laid pool n = done {from = 0} (omega arith) (λ k l r. get_or-replicate n k FREE FREE (rw (length-replicate n FREE) at r))

module _ {p : Plain} {h : Heap} (r : Represents p h) where
  pub init_agrees : (base : ℕ) (stack : List ℕ) → Agrees (reply (Init base) stack p) (init base h)
  unfolding reply init unless_refused first_of
  init_agrees base stack =
      agree_test r (bad_shape (good_shape base h)) [] (misplaced base p) [] _ _ (omega arith) (ap not (agree_shape r base))
      (λ _. record {
        answer = refl;
        heap = represents_other r _ [] refl (length-replicate (length h.entries) FREE) (empty_laid h.pool (length h.entries));
        filled = λ _. refl;
      })

  -- ---- survey

  pub survey_agrees : (base : ℕ) (stack : List ℕ) → Agrees (reply (Survey base) stack p) (survey base h)
  unfolding reply survey unless_refused first_of
  survey_agrees base stack =
      agree_heap r base [] [] _ _ (record { answer = rw (laid_used r.laid, laid_objects r.laid, laid_longest r.laid, r.size); heap = r; filled = λ _. refl })

  -- ---- load and store

  word_test : (k i : ℕ) (o : Object) → Extent h.entries k o.blocks → (no_word h k i).holds ≡ leb (4 * o.blocks) i
  word_test k i o x = rw (count_is h.entries k o.blocks x)

  pub load_agrees : (base k i : ℕ) (stack : List ℕ) → Agrees (reply (Load base k i) stack p) (load base h k i)
  unfolding reply load loaded_from unless_refused first_of
  load_agrees base k i stack =
      agree_heap r base (outside h k ∷ no_head h k ∷ no_word h k i ∷ []) [] _ _
      (agree_named r k (no_word h k i ∷ []) _ (loaded_from p i)
      (λ o q s y x. agree_test r (no_word h k i) [] (leb (4 * o.blocks) i) [] _ _ (omega arith) (word_test k i o x)
      (λ e. record { answer = rw (y.words.at i (leb-false (4 * o.blocks) i e), s); heap = r; filled = λ _. refl })))

  -- pool and table with word i of the object o stored
  module _ (k i w : ℕ) (o : Object) (s : o.start ≡ k) (y : Lies h.pool h.entries o) (x : Extent h.entries k o.blocks) (inside : i < 4 * o.blocks) where
    store_edit : Edit h.pool h.entries (with_word h.pool (4 * k + i) w) h.entries k o.blocks
    store_edit = record {
      long = refl;
      entries = λ j out. refl;
      words = λ j out. word_at_other h.pool (4 * k + i) j w (λ e. out (omega arith) (omega arith));
    }

    stored : Object
    stored = object o.start o.blocks (set o.words i (w % 2 ^ 32))

    store_word : (j : ℕ) → j < 4 * o.blocks → Dec (j ≡ i) → get_or (set o.words i (w % 2 ^ 32)) j 0 ≡ word_at (with_word h.pool (4 * k + i) w) (4 * o.start + j)
    store_word j l (yes e) =
        let m = r.pool in
        let u = x.room in
        let v = y.words.long in
        rw (e, s, get_or-set_same o.words i (w % 2 ^ 32) 0 (omega arith)) (sym (word_stored h.pool (4 * k + i) w (omega arith)))
    store_word j l (no e) =
        rw (get_or-set_other o.words i j (w % 2 ^ 32) 0 e, word_at_other h.pool (4 * k + i) (4 * o.start + j) w (λ q. e (omega arith))) (y.words.at j l)

    store_lies : Lies (with_word h.pool (4 * k + i) w) h.entries stored
    unfolding stored
    store_lies = record {
      some_block = y.some_block;
      head = y.head;
      tails = y.tails;
      words = record {
        long = length-set o.words i (w % 2 ^ 32) ∙ y.words.long;
        at = λ j l. store_word j l (ℕ_discrete j i);
      };
    }

  pub store_agrees : (base k i w : ℕ) (stack : List ℕ) → Agrees (reply (Store base k i w) stack p) (store base h k i w)
  unfolding reply store stored_in unless_refused first_of stored
  store_agrees base k i w stack =
      agree_heap r base (outside h k ∷ no_head h k ∷ no_word h k i ∷ []) [] _ _
      (agree_named r k (no_word h k i ∷ []) _ (stored_in p i w)
      (λ o q s y x. agree_test r (no_word h k i) [] (leb (4 * o.blocks) i) [] _ _ (omega arith) (word_test k i o x)
      (λ e. let l = leb-false (4 * o.blocks) i e in
      let d = store_edit k i w o s y x l in
      record {
        answer = refl;
        heap = represents_other r _ _ (length_with_word h.pool (4 * k + i) w) refl
            (laid_replace d o (stored k i w o s y x l) s s (store_lies k i w o s y x l) (λ os t. laid_kept d t (omega arith)) r.laid q);
        filled = λ _. refl;
      })))
