-- The act of a collection, put together from the marking, the sweep and the clearing of the stack; and the call around it.
-- Assumes nothing.
use mathlib.Core.Path.{◌≡◌, refl, sym, ap, ◌∙◌}
use mathlib.Core.Bool.{not, false}
use mathlib.Core.List.{List, ◌∷◌, ◌++◌}
use mathlib.Core.Option.{none}
use Prim.Native.Nat.{ℕ, ◌+◌, ◌/◌, ◌≤◌, ◌<◌}
use native.Mathlib.Omega.{arith}
use lib.IntN.{ℤ, pos, neg_ℤ}
use lib.ListN.{length, replicate, length-append}
use borrow.Author.Tests.{ltb-false}
use Rattle.std.specs.Prelude.{Result as Returned, Ok, IsErrAnd}
use Rattle.std.proofs.lemmas.Result.{err_from_is_err_and}
use Rattle.rules.specs.Words.{bytes_of, words_of}
use Rattle.rules.specs.Pointers.{address_of, leads_to}
use Rattle.rules.specs.Tables.{used}
use Rattle.rules.specs.Planes.{planes, entries_in, IsTable, heap_at}
use Rattle.laws.specs.Meaning.{AllBytes, Leads, Shape as GoodShape}
use Rattle.rules.specs.Outcomes.{Heap, Outcome, change_from, collection}
use Rattle.rules.specs.Refusals.{first_of, good_lists, many_roots, collection_tests}
use Rattle.rules.specs.Marking.{Context, Marked, marked_in, root_to, mark_root, mark_roots, mark_all}
use Rattle.rules.specs.Calls.{collecting, collect}
use Rattle.rules.specs.Runs.{Collect, step}
use Rattle.rules.specs.Memory.{Memory, memory, Sound, tests_in, perform}
use Rattle.laws.proofs.Words.{length_bytes_of}
use Rattle.laws.proofs.Pointers.{leads_says, leads_one}
use Rattle.laws.proofs.Planes.{planes_faithful, table_sound}
use Rattle.checks.proofs.FirstTests.{is_table_lists}
use Rattle.laws.proofs.Refusals.{refusal_is, accepts, lists_say, first_passed, first_none}
use Rattle.laws.proofs.Calls.{sub_less}
use Rattle.laws.proofs.Used.{marking_used}
use Rattle.laws.proofs.Memory.{sound_of, left_in, acted_in}
use Rattle.refusals.specs.Codes.{code}
use Rattle.refusals.specs.declared.Refusal.{Refusal}
use Rattle.refusals.proofs.Codes.{not_accepted}
use Rattle.checks.specs.Refusal.{refusal_by}
use Rattle.sweeper.specs.declared.Swept.{Swept}
use Rattle.collector.specs.declared.Collected.{Collected}
use Rattle.visitor.specs.Variables.{idle, context_of, Shape}
use Rattle.sweeper.specs.Sweeps.{TableSwept}
use Rattle.collector.specs.Answers.{answer_of, outcome_of, result_of}

-- `table₁` is the table after marking, `table₂` after the sweep
module _ (t : ℕ) (c : Context) (pool table table₁ table₂ stack stack₂ ws : List ℕ) (r : ℕ) (s : Swept) (change : ℤ)
    (mark : marked_in (idle t table₁ false) r ≡ mark_all c ws (entries_in t table)) (swept : TableSwept (entries_in t table₁) (entries_in t table₂) s) where
  freed_is : s.freed + used (entries_in t table₂) ≡ used (entries_in t table)
  freed_is =
      let u : used (entries_in t table₁) ≡ used (entries_in t table) = ap (λ (m : Marked). used m.last.entries) mark ∙ marking_used c ws (entries_in t table) in
      swept.freed ∙ u

  change_is : neg_ℤ (pos s.freed) ≡ change_from (entries_in t table) (entries_in t table₂)
  unfolding change_from
  change_is =
      let u : used (entries_in t table) ≡ used (entries_in t table₂) + s.freed = omega (arith, freed_is) in
      rw u (sym (sub_less (used (entries_in t table₂)) s.freed))

  pub ran : stack₂ ≡ replicate (length stack) 0 → change ≡ neg_ℤ (pos s.freed)
      → outcome_of (Ok (record { kept = s.kept; rescans = r; change = change })) (heap_at t pool table₂) stack₂ ≡ collecting (heap_at t pool table) stack (mark_all c ws (entries_in t table))
  unfolding collecting
  ran e d = rw (← mark, ← swept.entries, e, d, change_is, swept.kept)

-- ---- a root word before the caller's roots

pub bytes_first : (w : ℕ) (bs : List ℕ) → length (bytes_of w ++ bs) ≡ length bs + 4
bytes_first w bs = omega (arith, length-append (bytes_of w) bs, length_bytes_of w)

-- no block has address 0, so the root 0 leads nowhere
pub root_nowhere : (c : Context) (ws es : List ℕ) → 0 < c.base → mark_all c (0 ∷ ws) es ≡ mark_all c ws es
unfolding mark_all mark_roots mark_root root_to Leads address_of
root_nowhere c ws es more =
    let nowhere : leads_to c.base es 0 ≡ none = leads_one c.base es 0 (leads_to c.base es 0) none (leads_says c.base es 0) (λ k p. omega (arith, p.address)) in
    rw nowhere

-- the call: refused by the first test that holds, or else the act on a heap of good shape
module _ (t base : ℕ) (pool table roots stack : List ℕ) (r : ℕ)
    (first : r ≡ refusal_by t pool table (λ (h : Heap). collection_tests base h roots stack)) where
  abbrev h : Heap
  h = heap_at t pool table

  abbrev m : Memory
  m = memory pool table

  own : (collect base h roots stack).answer.refusal ≡ first_of (collection_tests base h roots stack)
  unfolding collect collecting
  own = refusal_is (first_of (collection_tests base h roots stack)) h stack _ (λ _. refl)

  pub collect_refused : (x : Returned Collected Refusal) (e : Refusal) → IsErrAnd x (λ y. y ≡ e) → r ≡ code e → result_of x pool table stack ≡ perform (planes t) (Collect base roots) stack m
  unfolding step
  collect_refused x e passed same =
      let p = err_from_is_err_and x passed in
      let ne : r ≡ 0 → ⊥ = λ z. not_accepted e (sym same ∙ z) in
      let refused : collection r 0 0 (pos 0) ≡ answer_of x = rw (p.1, p.2, same) refl in
      rw (← refused)
      (left_in (planes t) (Collect base roots) stack m r (ap (λ (n : ℕ). first_of (tests_in (planes t) (Collect base roots) m n)) own ∙ sym first) (omega arith))

  module _ (ok : r ≡ 0) where
    passes : Sound (planes t) m × (first_of (collection_tests base h roots stack) ≡ 0)
    passes = sound_of (planes t) m (collection_tests base h roots stack) first ok

    -- marked from words that mark the same as the roots
    pub collect_accepted : (c : Collected) (ws table' stack' : List ℕ)
        → mark_all (context_of base pool stack) ws (entries_in t table) ≡ mark_all (context_of base pool stack) (words_of roots) (entries_in t table) → AllBytes table'
        → IsTable t table' × (outcome_of (Ok c) (heap_at t pool table') stack' ≡ collecting h stack (mark_all (context_of base pool stack) ws (entries_in t table)))
        → result_of (Ok c) pool table' stack' ≡ perform (planes t) (Collect base roots) stack m
    unfolding step collect collecting
    collect_accepted c ws table' stack' same bytes done =
        let s = passes.0 in
        acted_in (planes t) (planes_faithful t) (Collect base roots) stack m (memory pool table') stack' (answer_of (Ok c)) s.fits (ap not s.clean) bytes
        (table_sound t pool table' done.0) (ap (λ (o : Outcome). o.answer.refusal) done.1)
        (done.1 ∙ ap (collecting h stack) same ∙ sym (accepts h stack _ passes.1))

    good : GoodShape base h
    good = (lists_say base h roots stack (first_passed (good_lists base h roots stack) h _ passes.1).0).0

    pub collect_shape : Shape base t pool table
    unfolding address_of
    collect_shape = record { is_table = (is_table_lists base t pool table roots stack first ok).0; whole = good.pool; ends = good.below }

    pub collect_few : length roots / 4 ≤ 4096
    collect_few = ltb-false 4096 (length roots / 4) (first_none (many_roots roots) _ (omega arith) (first_passed (good_lists base h roots stack) h _ passes.1).2).0

    pub base_above : 0 < base
    base_above = omega (arith, good.above)
