-- Collect agrees with the plain list: the sweep leaves the marked objects as they were, and every other block FREE.
-- Assumes nothing.
use mathlib.Core.Path.{◌≡◌, refl, sym, ap, ◌∙◌}
use mathlib.Core.Logic.{◌≢◌, ⊎_elim}
use mathlib.Core.Bool.{Bool, true, false, not}
use mathlib.Core.List.{List, [], ◌∷◌}
use Prim.Native.Nat.{ℕ, ◌+◌, ◌-◌, ◌/◌, ◌≤◌, ◌<◌}
use native.Mathlib.Decide.{ℕ_discrete, dec_lt}
use native.Mathlib.Omega.{arith}
use lib.Dec.{eqb}
use lib.ListN.{length}
use borrow.Author.Tests.{eqb-true, eqb-false}
use Rattle.rules.specs.Tests.{pick, both}
use Rattle.rules.specs.Words.{words_of}
use Rattle.rules.specs.Entries.{FREE, HEAD, TAIL, MARK}
use Rattle.rules.specs.Tables.{entry_at}
use Rattle.rules.specs.Outcomes.{Heap, change_from, unless_refused}
use Rattle.rules.specs.Refusals.{first_of, whole_words, bad_shape, good_lists, ill_formed, many_roots, long_stack}
use Rattle.rules.specs.Marking.{Marked, sweep}
use Rattle.rules.specs.Calls.{collecting, collect}
use Rattle.rules.specs.Runs.{Collect}
use Rattle.laws.proofs.Marking.{sweep_length}
use Rattle.laws.proofs.Marks.{Marks}
use Rattle.keeping.proofs.Swept.{Swept, kept, tail, freed, swept, swept_mark, tail_kept, tail_freed}
use Rattle.plain.specs.Objects.{Object, Plain, end}
use Rattle.plain.specs.Tracing.{is_in, Traced, among}
use Rattle.plain.specs.Replies.{collected_by, reply}
use Rattle.simulation.proofs.Laid.{Clear, Lies, Laid, done, next}
use Rattle.simulation.proofs.Gaps.{laid_used, laid_objects}
use Rattle.simulation.proofs.Edits.{laid_lower}
use Rattle.simulation.proofs.Traces.{Ends, trace_follows}
use Rattle.simulation.proofs.Agrees.{Represents, represents_other, Agrees, agree_shape, agree_test, agree_well}

swept_long : (es : List ℕ) → length (sweep es) ≡ length es
unfolding sweep
swept_long es = sweep_length false es

-- what is FREE stays so, and a HEAD becomes it
swept_free : (es : List ℕ) (k : ℕ) → entry_at es k ≢ MARK → entry_at es k ≢ TAIL → entry_at (sweep es) k ≡ FREE
swept_free es k m t = go (swept es k)
  where
    go : {e : ℕ} {f : Bool} → Swept f (entry_at es k) e → e ≡ FREE
    go (kept q) = absurd (m q)
    go (tail q f) = absurd (t q)
    go (freed q f) = refl

-- the entries after the marking, and which objects are marked
module _ (pool es₀ es : List ℕ) (g : Marks es₀ es) (reached : List ℕ) (marked : (k : ℕ) → eqb (entry_at es k) MARK ≡ is_in k reached) where
  -- an entry that is no HEAD stays
  same : (k e : ℕ) → entry_at es₀ k ≡ e → e ≢ HEAD → entry_at es k ≡ e
  same k e q n = ⊎_elim (λ t. t ∙ q) (λ t. absurd (n (sym q ∙ t.0))) (g.at k)

  clear_swept : (a b : ℕ) → Clear es₀ a b → Clear (sweep es) a b
  clear_swept a b f k l u =
      let e = same k FREE (f k l u) (λ h. omega arith) in
      swept_free es k (λ m. omega arith) (λ t. omega arith)

  module _ (o : Object) (y : Lies pool es₀ o) where
    tails_now : (i : ℕ) → 0 < i → i < o.blocks → entry_at es (o.start + i) ≡ TAIL
    tails_now i l u = same (o.start + i) TAIL (y.tails (o.start + i) (omega arith) (omega arith)) (λ h. omega arith)

    -- a marked object stays
    lies_swept : is_in o.start reached ≡ true → Lies pool (sweep es) o
    lies_swept t =
        let m : entry_at es o.start ≡ MARK = eqb-true _ _ (marked o.start ∙ t) in
        record {
          some_block = y.some_block;
          head = swept_mark es o.start m;
          tails = λ k l u.
              let e : o.start + (k - o.start) ≡ k = omega arith in
              rw e at (tail_kept es o.start (k - o.start) (λ i p q. tails_now i p (omega arith)) (omega arith) m);
          words = y.words;
        }

    -- another becomes FREE
    clear_object : is_in o.start reached ≡ false → Clear (sweep es) o.start (end o)
    clear_object t k l u = go (ℕ_discrete k o.start)
      where
        n : entry_at es o.start ≢ MARK
        n = eqb-false _ _ (marked o.start ∙ t)

        h : entry_at es o.start ≡ HEAD
        h = ⊎_elim (λ q. q ∙ y.head) (λ q. absurd (n q.1)) (g.at o.start)

        go : Dec (k ≡ o.start) → entry_at (sweep es) k ≡ FREE
        go (yes e) = rw e (swept_free es o.start n (λ t. omega (arith, h)))
        go (no e) =
            let i : o.start + (k - o.start) ≡ k = omega arith in
            rw i at (tail_freed es o.start (k - o.start) (λ j p q. tails_now j p (omega arith)) (omega arith) h)

  pub laid_swept : {from : ℕ} {os : List Object} → Laid pool es₀ from os → Laid pool (sweep es) from (among reached os)
  unfolding among
  laid_swept {from} (done r f) =
      let l = swept_long es in
      let m = g.long in
      done {from = from} (omega arith) (λ k i j. clear_swept from (length es₀) f k i (omega arith))
  laid_swept {from} (next {o = o} {os = os} l f y e r) = go (is_in o.start reached) refl (laid_swept r)
    where
      go : (t : Bool) → is_in o.start reached ≡ t → Laid pool (sweep es) (end o) (among reached os) → Laid pool (sweep es) from (pick t (o ∷ among reached os) (among reached os))
      go true t rest =
          let i = swept_long es in
          let m = g.long in
          next {o = o} l (clear_swept from o.start f) (lies_swept o y t) (omega arith) rest
      go false t rest = laid_lower rest from (omega (arith, y.some_block)) (λ k i j. to k i j (dec_lt k o.start))
        where
          to : (k : ℕ) → from ≤ k → k < end o → Dec (k < o.start) → entry_at (sweep es) k ≡ FREE
          to k i j (yes u) = clear_swept from o.start f k i u
          to k i j (no u) = clear_object o y t k (omega arith) j

module _ {p : Plain} {h : Heap} (r : Represents p h) where
  collecting_agrees : (base room : ℕ) (stack : List ℕ) (t : Traced) (m : Marked) → Ends base h.pool h.entries p.objects room r.laid t m
      → Agrees (collected_by p t) (collecting h stack m)
  unfolding collected_by collecting change_from
  collecting_agrees base room stack t m e =
      let d = laid_swept h.pool h.entries m.last.entries e.marks t.reached e.marked r.laid in
      record {
        answer = rw (laid_used r.laid, laid_used d, laid_objects d, e.rescans);
        heap = represents_other r _ _ refl (swept_long m.last.entries ∙ e.marks.long) d;
        filled = λ _. refl;
      }

  pub collect_agrees : (base : ℕ) (roots stack : List ℕ) → Agrees (reply (Collect base roots) stack p) (collect base h roots stack)
  unfolding reply collect unless_refused first_of
  collect_agrees base roots stack =
      agree_test r (bad_shape (good_lists base h roots stack)) (ill_formed h ∷ many_roots roots ∷ long_stack stack ∷ []) _ stack _ _ (omega arith)
      (ap (λ (t : Bool). not (both t (both (whole_words roots) (whole_words stack)))) (agree_shape r base))
      (λ _. agree_well r (many_roots roots ∷ long_stack stack ∷ []) stack _ _
      (agree_test r (many_roots roots) (long_stack stack ∷ []) _ stack _ _ (omega arith) refl
      (λ _. agree_test r (long_stack stack) [] _ stack _ _ (omega arith) refl
      (λ _. collecting_agrees base (length stack / 4) stack _ _ (trace_follows base h.pool h.entries p.objects (length stack / 4) r.laid (words_of roots))))))
