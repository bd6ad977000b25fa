-- An accepted store: four bytes, and what loads then answer. Survey and load, which only read.
-- Assumes nothing.
use mathlib.Core.Path.{◌≡◌, refl, ap, ◌∙◌}
use mathlib.Core.Logic.{◌≢◌, ◌⊎◌, ⊎_elim}
use mathlib.Core.List.{List, []}
use Prim.Native.Nat.{ℕ, zero, suc, ◌+◌, ◌*◌, ◌^◌, ◌≤◌, ◌<◌}
use native.Mathlib.Decide.{ℕ_discrete}
use native.Mathlib.Omega.{arith}
use lib.ListN.{length}
use borrow.Author.Tests.{leb-false, lt-leb}
use Rattle.rules.specs.Words.{word_at, with_word}
use Rattle.rules.specs.Tables.{block_count}
use Rattle.laws.specs.Meaning.{Extent, Passed, Named, Accepted}
use Rattle.rules.specs.Outcomes.{Heap, Outcome, leaves, loaded, only_refusal, unless_refused}
use Rattle.rules.specs.Refusals.{first_of, good_shape, outside, no_head, no_word, word_tests}
use Rattle.rules.specs.Calls.{survey, load, store}
use Rattle.laws.proofs.Words.{length_with_word, with_word_in, with_word_out, word_at_with_word, word_at_other}
use Rattle.laws.proofs.Refusals.{passed, passes, named, names, first_none, first_last, first_rest, own_tests}
use Rattle.laws.proofs.Tables.{entry_inside, extent_of, objects_apart, longest_says}
use Rattle.promises.specs.Promises.{Object, Same, Loaded, Stored, Surveyed}
use Rattle.promises.proofs.Checked.{load_checked, store_checked, survey_checked, number, no_refusal, acts}
use Rattle.promises.proofs.Counting.{shape_kept}

-- what a call on word i of the object k knows once it is not refused
record Word (base : ℕ) (h : Heap) (k i : ℕ) : Type 0 where
  good : Passed base h
  object : Named h k
  inside : i < 4 * block_count h.entries k

word_of : (base : ℕ) (h : Heap) (k i : ℕ) → first_of (word_tests base h k i) ≡ 0 → Word base h k i
word_of base h k i e =
    let e2 = own_tests base h _ e in
    let e3 = first_rest (no_head h k) _ (omega arith) (first_rest (outside h k) _ (omega arith) e2) in
    record {
      good = passed base h _ e;
      object = named h k _ e2;
      inside = leb-false (4 * block_count h.entries k) i (first_none (no_word h k i) [] (omega arith) e3).0;
    }

of_word : (base : ℕ) (h : Heap) (k i : ℕ) → Word base h k i → first_of (word_tests base h k i) ≡ 0
of_word base h k i v =
    passes base h _ v.good
    ∙ names h k _ v.object
    ∙ first_last (no_word h k i) (lt-leb (4 * block_count h.entries k) i v.inside)

-- words of two objects, or two words of one, lie apart
words_apart : (base : ℕ) (h : Heap) (k i o j : ℕ) → Word base h k i → Word base h o j → (o ≢ k) ⊎ (j ≢ i) → 4 * o + j ≢ 4 * k + i
words_apart base h k i o j v u other same = go (ℕ_discrete o k)
  where
    go : Dec (o ≡ k) → ⊥
    go (yes e) = ⊎_elim (λ ne. ne e) (λ ne. ne (omega arith)) other
    go (no ne) =
        ⊎_elim (λ left. omega (arith, u.inside)) (λ right. omega (arith, v.inside))
        (objects_apart h.entries o (block_count h.entries o) k (block_count h.entries k)
        (extent_of h.entries o u.object.inside) (extent_of h.entries k v.object.inside) u.object.head v.object.head ne)

-- two calls with the same tests answer alike if their acts do
same_answer : (n : ℕ) (h h' : Heap) (act act' : Outcome) → (n ≡ 0 → act.answer ≡ act'.answer) → (unless_refused n h [] act).answer ≡ (unless_refused n h' [] act').answer
unfolding unless_refused
same_answer zero h h' act act' same = same refl
same_answer (suc n) h h' act act' same = refl

module _ (base : ℕ) (h : Heap) (k i w : ℕ) where
  abbrev after : Heap
  after = record { pool = with_word h.pool (4 * k + i) w; entries = h.entries }

  same_shape : good_shape base after ≡ good_shape base h
  unfolding good_shape
  same_shape = rw length_with_word

  same_tests : (o j : ℕ) → first_of (word_tests base after o j) ≡ first_of (word_tests base h o j)
  same_tests o j = rw same_shape

  module _ (v : Word base h k i) where
    abbrev es : List ℕ
    es = h.entries

    extent : Extent es k (block_count es k)
    extent = extent_of es k v.object.inside

    room : 4 * (4 * k + i) + 4 ≤ length h.pool
    room = omega (arith, v.inside, extent.room, v.good.shape.pool)

    after_good : Passed base after
    after_good = record { shape = shape_kept base h after (length_with_word h.pool (4 * k + i) w) refl v.good.shape; well = v.good.well }

    after_others : (o : ℕ) → Object h o → o ≢ k → Same h after o
    after_others o head other =
        let x = extent_of es o (entry_inside es o (λ f. omega arith)) in
        let apart = objects_apart es o (block_count es o) k (block_count es k) x extent head v.object.head other in
        record {
          head = head;
          blocks = refl;
          bytes = λ j l. with_word_out h.pool (4 * k + i) w (16 * o + j) (λ e. ⊎_elim (λ left. omega arith) (λ right. omega (arith, v.inside)) apart);
        }

    load_back : w < 2 ^ 32 → (load base after k i).answer ≡ loaded w
    load_back small =
        let again : Word base after k i = record { good = after_good; object = record { inside = v.object.inside; head = v.object.head }; inside = v.inside } in
        ap (λ (r : Outcome). r.answer) (acts (load_checked base after k i) (number (load_checked base after k i) ∙ of_word base after k i again))
        ∙ ap loaded (word_at_with_word h.pool (4 * k + i) w room small)

    load_other : (o j : ℕ) → (o ≢ k) ⊎ (j ≢ i) → (load base after o j).answer ≡ (load base h o j).answer
    load_other o j other =
        rw ((load_checked base after o j).is, (load_checked base h o j).is, same_tests o j)
        (same_answer (first_of (word_tests base h o j)) after h _ _
        (λ e. ap loaded (word_at_other h.pool (4 * k + i) (4 * o + j) w (words_apart base h k i o j v (word_of base h o j e) other))))

    after_stored : Stored base h k i w (leaves (only_refusal 0) after)
    after_stored = record {
      table = refl;
      four = λ j l. let e : 4 * (4 * k + i) + j ≡ 16 * k + 4 * i + j = omega arith in rw e at (with_word_in h.pool (4 * k + i) w j room l);
      bytes = λ j out. with_word_out h.pool (4 * k + i) w j (λ e. out (omega arith, omega arith));
      others = after_others;
      back = load_back;
      other = load_other;
      good = after_good;
    }

  pub stored : Accepted (store base h k i w) → Stored base h k i w (store base h k i w)
  stored accepted =
      rw (acts (store_checked base h k i w) accepted) (after_stored (word_of base h k i (no_refusal (store_checked base h k i w) accepted)))

-- ---- calls that only read

pub same_heap : (n : ℕ) (h : Heap) (act : Outcome) → act.heap ≡ h → (unless_refused n h [] act).heap ≡ h
unfolding unless_refused
same_heap zero h act e = e
same_heap (suc n) h act e = refl

pub survey_leaves : (base : ℕ) (h : Heap) → (survey base h).heap ≡ h
survey_leaves base h = ap (λ (r : Outcome). r.heap) (survey_checked base h).is ∙ same_heap _ h _ refl

pub load_leaves : (base : ℕ) (h : Heap) (k i : ℕ) → (load base h k i).heap ≡ h
load_leaves base h k i = ap (λ (r : Outcome). r.heap) (load_checked base h k i).is ∙ same_heap _ h _ refl

pub surveyed : (base : ℕ) (h : Heap) → Accepted (survey base h) → Surveyed h (survey base h)
surveyed base h accepted = rw (acts (survey_checked base h) accepted) (record { used = refl; objects = refl; longest = longest_says h.entries })

pub read : (base : ℕ) (h : Heap) (k i : ℕ) → Accepted (load base h k i) → Loaded h k i (load base h k i)
unfolding word_at
read base h k i accepted =
    let e : 4 * (4 * k + i) ≡ 16 * k + 4 * i = omega arith in
    rw (acts (load_checked base h k i) accepted) (record { value = rw e; only = refl })
