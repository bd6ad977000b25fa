-- Each way the adding of an entry can end, as what its program comes to.
-- Assumes nothing.
use mathlib.Core.Path.{◌≡◌, refl, sym, ap, ◌∙◌}
use mathlib.Core.List.{List, [], ◌++◌}
use mathlib.Core.Option.{some, none}
use Prim.Native.Nat.{ℕ}
use lib.IntN.{ℤ, pos, ◌+ℤ◌}
use borrow.Author.Tests.{ne_eqb}
use Rattle.std.specs.Prelude.{Result as Returned, Ok, Err, Some, None, MatchResult}
use Rattle.rules.specs.Tests.{pick}
use Rattle.rules.specs.Words.{bytes_of}
use Rattle.rules.specs.Pointers.{address_of}
use Rattle.rules.specs.Outcomes.{Answer}
use Rattle.rules.specs.Runs.{Allocate, Collect, Store}
use Rattle.rules.specs.Planes.{planes}
use Rattle.rules.specs.Memory.{memory, perform}
use Rattle.programs.specs.Programs.{Program, give, ask, Ran, ran, run}
use Rattle.logs.specs.Log.{Reply, logged, is_accepted, last_of, join, enter, append_to}
use Rattle.heap.specs.Answers.{status}
use Rattle.objects.specs.declared.Placed.{Placed}
use Rattle.allocator.specs.Answers.{placed}
use Rattle.objects.specs.Answers.{place_of}
use Rattle.collector.specs.Answers.{answer_of, result_of}
use Rattle.collector.specs.declared.Collected.{Collected}
use Rattle.numbers.specs.Places.{found}
use Rattle.numbers.specs.declared.Block.{Block}
use Rattle.refusals.specs.Codes.{code}
use Rattle.refusals.specs.declared.Refusal.{Refusal}
use Rattle.refusals.specs.declared.Refusal.TheVariants.{NoRoom}
use Rattle.refusals.proofs.Codes.{not_accepted}
use Rattle.chain.specs.declared.Walk.{Walk}
use Rattle.chain.specs.Walks.{last_by}
use Rattle.appender.specs.Answers.{again_to, logs}
use Rattle.appender.proofs.Asking.{asked, asked_collect}

-- ---- a new entry, at block k, with the pool before it and after each store

module _ (t base first time tips k : ℕ) (w : Walk) (d : ℤ) (table pool pool₁ pool₂ : List ℕ) (a b : Returned (Unit {0}) Refusal) {own : ℕ}
    (time_stored : status a pool₁ table ≡ perform (planes t) (Store base k 1 time) [] (memory pool table))
    (tips_stored : status b pool₂ table ≡ perform (planes t) (Store base k 2 tips) [] (memory pool₁ table))
    (address : own ≡ address_of base k) (ks stack : List ℕ) (last : last_of ks ≡ last_by w) where
  joins : run (planes t) (join base first (last_of ks) k d) stack (memory pool₂ table) ≡ run (planes t) (enter base first time tips ks k d) stack (memory pool table)
  unfolding enter
  joins = sym (asked (planes t) (Store base k 1 time) _ stack _ _ refl time_stored ∙ asked (planes t) (Store base k 2 tips) _ stack _ _ refl tips_stored)

  -- the log starts with it
  pub enters_first : w.last ≡ None → logs (Ok (record { first = own; change = d })) pool₂ table stack ≡ run (planes t) (enter base first time tips ks k d) stack (memory pool table)
  unfolding join run
  enters_first z =
      let none_last : last_of ks ≡ none = last ∙ ap found z in
      rw address (rw none_last at joins)

  -- or it stands behind the last
  pub enters_behind : (l : Block) (pool₃ : List ℕ) (x : Returned (Unit {0}) Refusal) → w.last ≡ Some l → status x pool₃ table ≡ perform (planes t) (Store base l.0 0 own) [] (memory pool₂ table)
      → logs (Ok (record { first = first; change = d })) pool₃ table stack ≡ run (planes t) (enter base first time tips ks k d) stack (memory pool table)
  unfolding join run
  enters_behind l pool₃ x z stored =
      let some_last : last_of ks ≡ some l.0 = last ∙ ap found z in
      let there = asked (planes t) (Store base l.0 0 (address_of base k)) (λ y. give (logged 0 first d)) stack (memory pool₂ table) _ refl (rw address at stored) in
      sym there ∙ rw some_last at joins

-- ---- room for it

-- the change by a collection: none, if it was refused
pub reclaimed_by : (c : Returned Collected Refusal) (d : ℤ) → MatchResult c (λ x. d ≡ x.change) (λ _. d ≡ pos 0) → d ≡ (answer_of c).change
reclaimed_by (Ok x) d e = e
reclaimed_by (Err r) d e = e

module _ (t base first time tips : ℕ) (roots ks stack : List ℕ) (pool table : List ℕ) where
  -- the entry at block k, with the change d
  abbrev entering : ℕ → ℤ → Program Reply
  entering k d = enter base first time tips ks k d

  abbrev seeking : Answer → Program Reply
  seeking x = pick (is_accepted x) (entering x.block x.change) (again_to base first time tips roots ks)

  abbrev reseeking : ℤ → Answer → Program Reply
  reseeking d x = pick (is_accepted x) (entering x.block (d +ℤ x.change)) (give (logged 9 0 d))

  module _ (pool₁ table₁ : List ℕ) where
    -- there is
    pub adds : (a : Placed) → placed (Ok a) pool₁ table₁ ≡ perform (planes t) (Allocate base 32) [] (memory pool table) → {y : Ran Reply} {d : ℤ} → d ≡ a.change
        → y ≡ run (planes t) (entering a.block.0 d) stack (memory pool₁ table₁) → y ≡ run (planes t) (append_to base first time tips roots ks) stack (memory pool table)
    unfolding append_to
    adds a asks e done =
        done ∙ ap (λ (x : ℤ). run (planes t) (entering a.block.0 x) stack (memory pool₁ table₁)) e
        ∙ sym (asked (planes t) (Allocate base 32) seeking stack (memory pool table) _ refl asks)

    -- there is none, and what is done then comes to y
    pub adds_again : (r : Refusal) → placed (Err r) pool₁ table₁ ≡ perform (planes t) (Allocate base 32) [] (memory pool table) → {y : Ran Reply}
        → y ≡ run (planes t) (again_to base first time tips roots ks) stack (memory pool₁ table₁) → y ≡ run (planes t) (append_to base first time tips roots ks) stack (memory pool table)
    unfolding append_to
    adds_again r asks done = done ∙ sym (rw (ne_eqb (code r) 0 (not_accepted r)) at (asked (planes t) (Allocate base 32) seeking stack (memory pool table) _ refl asks))

  -- after a collection
  module _ (c : Returned Collected Refusal) (table₁ stack₁ pool₂ table₂ : List ℕ)
      (collects : result_of c pool table₁ stack₁ ≡ perform (planes t) (Collect base (bytes_of first ++ roots)) stack (memory pool table)) {d : ℤ} (reclaimed : d ≡ (answer_of c).change) where
    reseeks : (p : Returned Placed Refusal) → placed p pool₂ table₂ ≡ perform (planes t) (Allocate base 32) [] (memory pool table₁)
        → run (planes t) (again_to base first time tips roots ks) stack (memory pool table) ≡ run (planes t) (reseeking d (place_of p)) stack₁ (memory pool₂ table₂)
    reseeks p asks =
        asked_collect (planes t) base (bytes_of first ++ roots) (λ x. ask (Allocate base 32) (reseeking x.change)) stack (memory pool table) _ collects
        ∙ asked (planes t) (Allocate base 32) (reseeking (answer_of c).change) stack₁ (memory pool table₁) _ refl asks
        ∙ ap (λ (x : ℤ). run (planes t) (reseeking x (place_of p)) stack₁ (memory pool₂ table₂)) (sym reclaimed)

    pub again_adds : (a : Placed) → placed (Ok a) pool₂ table₂ ≡ perform (planes t) (Allocate base 32) [] (memory pool table₁) → {y : Ran Reply} {n : ℤ} → n ≡ d +ℤ a.change
        → y ≡ run (planes t) (entering a.block.0 n) stack₁ (memory pool₂ table₂) → y ≡ run (planes t) (again_to base first time tips roots ks) stack (memory pool table)
    again_adds a asks e done = done ∙ ap (λ (x : ℤ). run (planes t) (entering a.block.0 x) stack₁ (memory pool₂ table₂)) e ∙ sym (reseeks (Ok a) asks)

    -- 9: the collection stands
    pub again_full : (r : Refusal) → placed (Err r) pool₂ table₂ ≡ perform (planes t) (Allocate base 32) [] (memory pool table₁) → {n : ℤ} → n ≡ d
        → logs (Err (record { refusal = NoRoom; change = n })) pool₂ table₂ stack₁ ≡ run (planes t) (again_to base first time tips roots ks) stack (memory pool table)
    unfolding run
    again_full r asks e = ap (λ (x : ℤ). ran (logged 9 0 x) (memory pool₂ table₂) stack₁) e ∙ sym (rw (ne_eqb (code r) 0 (not_accepted r)) at (reseeks (Err r) asks))
