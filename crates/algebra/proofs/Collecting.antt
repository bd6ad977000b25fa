-- Collections of a heap: from roots with the same members, from joined root lists, and a second time.
-- Assumes nothing.
use mathlib.Core.Path.{◌≡◌, refl, sym, ap, ◌∙◌}
use mathlib.Core.Logic.{◌↔◌, ◌⊎◌, inl, inr, ⊎_elim}
use mathlib.Core.List.{List, ◌++◌}
use mathlib.Core.Option.{some}
use Prim.Native.Nat.{ℕ, ◌+◌, ◌*◌, ◌/◌, ◌≤◌}
use native.Mathlib.Decide.{ℕ_discrete}
use native.Mathlib.Omega.{arith}
use lib.IntN.{pos}
use lib.ListN.{length, length-append}
use borrow.Author.Tests.{eq-eqb, ne_eqb}
use Rattle.rules.specs.Words.{word_at, words_of}
use Rattle.rules.specs.Entries.{FREE, HEAD}
use Rattle.rules.specs.Tables.{entry_at, used, objects}
use Rattle.rules.specs.Pointers.{leads_to}
use Rattle.laws.specs.Faithful.{Small}
use Rattle.rules.specs.Outcomes.{Heap, Outcome, change_from}
use Rattle.rules.specs.Reach.{Edge, Reachable, root, edge}
use Rattle.rules.specs.Calls.{collecting, collect}
use Rattle.laws.specs.Meaning.{Accepted}
use Rattle.laws.proofs.Words.{words_of_append}
use Rattle.laws.proofs.Leading.{leads_stays}
use Rattle.laws.proofs.Calls.{sub_same}
use Rattle.keeping.specs.Keeping.{collected, Held, Keeps, Collected, but_rescans, GoodRoots, GoodStack}
use Rattle.keeping.proofs.Owners.{reachable_head}
use Rattle.keeping.proofs.Same.{keeps_one, collected_same}
use Rattle.keeping.proofs.Collections.{collect_asks, collect_accepts, collect_is, collect_well, collect_keeps}
use Rattle.promises.proofs.Counting.{shape_kept}
use Rattle.algebra.specs.Algebra.{SameMembers, unless_free}
use Rattle.algebra.proofs.Roots.{reachable_more, reachable_either, reachable_left, reachable_right}

-- ---- roots with the same members

pub members_same : (base : ℕ) (h : Heap) (roots roots' stack stack' : List ℕ) → Accepted (collect base h roots stack)
    → SameMembers (words_of roots) (words_of roots') → GoodRoots roots' → GoodStack stack'
    → let o : Outcome = collect base h roots stack in
    let o' : Outcome = collect base h roots' stack' in
    Accepted o' × (o.heap ≡ o'.heap) × (but_rescans o.answer ≡ but_rescans o'.answer)
unfolding collecting collected
members_same base h roots roots' stack stack' accepted members good_roots good_stack =
    let a = (collect_asks base h roots stack accepted).passed in
    let accepted' = collect_accepts base h roots' stack' (record { passed = a; good_roots = good_roots; good_stack = good_stack }) in
    let same = collected_same base h h (words_of roots) (words_of roots') (length stack / 4) (length stack' / 4) a.well refl
    (reachable_more base h (words_of roots) (words_of roots') (λ w. (members w).0))
    (reachable_more base h (words_of roots') (words_of roots) (λ w. (members w).1)) in
    let e = collect_is base h roots stack accepted in
    let e' = collect_is base h roots' stack' accepted' in
    (accepted', rw (e, e', same) refl, rw (e, e', same) refl)

-- ---- joined root lists

-- what the collections leave, of one heap
module _ {base : ℕ} {h : Heap} {ws vs one other joined : List ℕ} (s : Keeps base h ws one) (t : Keeps base h vs other) (u : Keeps base h (ws ++ vs) joined) where
  held_left : (k : ℕ) → Held base h ws k → Held base h (ws ++ vs) k
  held_left k x = record { object = x.object; reachable = reachable_left base h ws vs x.object x.reachable; owns = x.owns }

  held_right : (k : ℕ) → Held base h vs k → Held base h (ws ++ vs) k
  held_right k x = record { object = x.object; reachable = reachable_right base h ws vs x.object x.reachable; owns = x.owns }

  held_either : (k : ℕ) → Held base h (ws ++ vs) k → Held base h ws k ⊎ Held base h vs k
  held_either k x =
      ⊎_elim
      (λ r. inl (record { object = x.object; reachable = r; owns = x.owns }))
      (λ r. inr (record { object = x.object; reachable = r; owns = x.owns }))
      (reachable_either base h ws vs x.object x.reachable)

  pub joined_kept : (o : ℕ) → (entry_at joined o ≡ HEAD) ↔ ((entry_at one o ≡ HEAD) ⊎ (entry_at other o ≡ HEAD))
  joined_kept o = (
    λ e. ⊎_elim (λ r. inl (s.kept o r)) (λ r. inr (t.kept o r)) (reachable_either base h ws vs o (u.only o e)),
    ⊎_elim (λ e. u.kept o (reachable_left base h ws vs o (s.only o e))) (λ e. u.kept o (reachable_right base h ws vs o (t.only o e))),
  )

  pub joined_blocks : (k : ℕ) → entry_at joined k ≡ unless_free (entry_at one k) (entry_at other k)
  joined_blocks k = go (ℕ_discrete (entry_at one k) FREE) (ℕ_discrete (entry_at other k) FREE) (ℕ_discrete (entry_at joined k) FREE)
    where
      go : Dec (entry_at one k ≡ FREE) → Dec (entry_at other k ≡ FREE) → Dec (entry_at joined k ≡ FREE) → entry_at joined k ≡ unless_free (entry_at one k) (entry_at other k)
      go (no n) d e = let x = s.rest k n in rw (ne_eqb _ _ n) (u.whole k (held_left k x) ∙ sym (s.whole k x))
      go (yes p) (no n) e = let x = t.rest k n in rw (eq-eqb _ _ p) (u.whole k (held_right k x) ∙ sym (t.whole k x))
      go (yes p) (yes q) (yes r) = rw (eq-eqb _ _ p) (r ∙ sym q)
      go (yes p) (yes q) (no n) =
          let x = u.rest k n in
          absurd (n (⊎_elim (λ y. u.whole k x ∙ sym (s.whole k y) ∙ p) (λ y. u.whole k x ∙ sym (t.whole k y) ∙ q) (held_either k x)))

-- a joined list is accepted if its parts are, within 4,096
pub joined_accepted : (base : ℕ) (h : Heap) (roots roots' stack stack' stack'' : List ℕ)
    → Accepted (collect base h roots stack) → Accepted (collect base h roots' stack') → length (roots ++ roots') / 4 ≤ 4096 → GoodStack stack''
    → Accepted (collect base h (roots ++ roots') stack'')
joined_accepted base h roots roots' stack stack' stack'' accepted accepted' few good_stack =
    let a = collect_asks base h roots stack accepted in
    let a' = collect_asks base h roots' stack' accepted' in
    collect_accepts base h (roots ++ roots') stack''
    (record {
      passed = a.passed;
      good_roots = record { whole = rw (length-append roots roots') (omega (arith, a.good_roots.whole, a'.good_roots.whole)); few = few };
      good_stack = good_stack;
    })

-- the words of a joined list are those of its parts
pub joined_words : (base : ℕ) (h : Heap) (roots roots' stack : List ℕ) → Accepted (collect base h roots stack)
    → words_of (roots ++ roots') ≡ words_of roots ++ words_of roots'
joined_words base h roots roots' stack accepted = words_of_append roots roots' (collect_asks base h roots stack accepted).good_roots.whole

-- ---- a second collection

-- the entries that a collection leaves are those that a collection of what it left has to leave
module _ {base : ℕ} {h g : Heap} {ws : List ℕ} (pool : g.pool ≡ h.pool) (s : Keeps base h ws g.entries) (head : (o : ℕ) → Reachable base h ws o → entry_at h.entries o ≡ HEAD) where
  -- a word leads to a reachable object as before
  leads_again : (w k : ℕ) → Reachable base h ws k → leads_to base h.entries w ≡ some k → leads_to base g.entries w ≡ some k
  leads_again w k r q =
      leads_stays base h.entries g.entries w k s.long
      (λ i l. s.whole (k + i) (record { object = k; reachable = r; owns = record { head = head k r; from = omega arith; to = omega arith } })) q

  edge_again : (o k : ℕ) → Reachable base h ws o → Edge base h o k → Edge base g o k
  edge_again o k r x = record {
    word = x.word;
    inside = rw (s.count o r) x.inside;
    leads = rw pool (leads_again (word_at h.pool (4 * o + x.word)) k (edge r x) x.leads);
  }

  -- what was reachable still is, and nothing else
  reachable_again : (k : ℕ) → Reachable base h ws k → Reachable base g ws k
  reachable_again k (root {w = w} m q) = root m (leads_again w k (root m q) q)
  reachable_again k (edge {o = o} r x) = edge (reachable_again o r) (edge_again o k r x)

  reachable_before : (k : ℕ) → Reachable base g ws k → Reachable base h ws k
  reachable_before k r = s.only k (reachable_head base g ws s.proper.well k r)

  keeps_again : Keeps base g ws g.entries
  keeps_again = record {
    long = refl;
    kept = λ o r. s.kept o (reachable_before o r);
    only = λ o e. reachable_again o (s.only o e);
    count = λ o r. refl;
    whole = λ k x. refl;
    rest = λ k n. held_again k (s.rest k n);
    proper = s.proper;
  }
    where
      held_again : (k : ℕ) → Held base h ws k → Held base g ws k
      held_again k x = record {
        object = x.object;
        reachable = reachable_again x.object x.reachable;
        owns = record {
          head = s.kept x.object x.reachable;
          from = x.owns.from;
          to = rw (s.count x.object x.reachable) x.owns.to;
        };
      }

-- what a second collection answers and leaves
pub record Again (first second : Outcome) : Type 0 where
  pub accepted : Accepted second
  pub heap : second.heap ≡ first.heap
  pub kept : second.answer.kept ≡ first.answer.kept
  pub change : second.answer.change ≡ pos 0

module _ (base : ℕ) (h : Heap) (roots stack stack' : List ℕ) (small : Small h.entries) (accepted : Accepted (collect base h roots stack)) (good_stack : GoodStack stack') where
  abbrev first : Outcome
  first = collect base h roots stack

  abbrev second : Outcome
  second = collect base first.heap roots stack'

  first_collected : Collected base h roots stack first
  first_collected = collect_keeps base h roots stack accepted small

  second_accepted : Accepted second
  second_accepted =
      let a = collect_asks base h roots stack accepted in
      collect_accepts base first.heap roots stack'
      (record {
        passed = record {
          shape = shape_kept base h first.heap (ap length first_collected.pool) first_collected.table.long a.passed.shape;
          well = first_collected.table.proper.well;
        };
        good_roots = a.good_roots;
        good_stack = good_stack;
      })

  second_collected : Collected base first.heap roots stack' second
  second_collected = collect_keeps base first.heap roots stack' second_accepted first_collected.table.proper.small

  entries_same : second.heap.entries ≡ first.heap.entries
  entries_same =
      keeps_one second_collected.table
      (keeps_again first_collected.pool first_collected.table (reachable_head base h (words_of roots) (collect_well base h roots stack accepted)))

  pub collect_again : Again first second
  unfolding change_from
  collect_again =
      let u = used first.heap.entries in
      record {
        accepted = second_accepted;
        heap = λ i. record { pool = second_collected.pool i; entries = entries_same i };
        kept = second_collected.kept ∙ ap objects entries_same ∙ sym first_collected.kept;
        change = second_collected.change ∙ ap (change_from first.heap.entries) entries_same ∙ sub_same u u 0 0 (omega arith);
      }
