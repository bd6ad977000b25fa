-- Where a word leads by its target, and what a visit and a root do there.
-- Assumes nothing.
use mathlib.Core.Path.{◌≡◌, refl, sym, ◌∙◌}
use mathlib.Core.Bool.{Bool, true, false}
use mathlib.Core.List.{List}
use mathlib.Core.Option.{Option, some, none}
use Prim.Native.Nat.{ℕ, ◌-◌, ◌/◌, ◌%◌, ◌<◌}
use native.Mathlib.Decide.{dec_lt}
use native.Mathlib.Omega.{arith}
use lib.Dec.{eqb, leb, ltb}
use lib.ListN.{length}
use borrow.Author.Tests.{eqb-true, eqb-false, eq-eqb, ne_eqb, ltb-true, lt-ltb, le-ltb}
use Rattle.rules.specs.Tests.{pick, both}
use Rattle.rules.specs.Entries.{HEAD, TAIL, MARK}
use Rattle.rules.specs.Tables.{entry_at, is_head, start_of}
use Rattle.rules.specs.Pointers.{target_of, heads_object, head_at, leads_to}
use Rattle.rules.specs.Marking.{Context, State, marked, pushed, visit_to, visit, trace, root_to, mark_root}
use Rattle.rules.specs.Planes.{entries_in}
use Rattle.laws.proofs.Planes.{same_length}
use Rattle.laws.proofs.Tables.{entry_inside, start_own}
use Rattle.laws.proofs.Marking.{head_inside}

-- a target is one of the n blocks
pub target_inside : (base n w k : ℕ) → some k ≡ target_of base n w → k < n
unfolding target_of
target_inside base n w k q = go (leb base w) (eqb ((w - base) % 16) 0) (ltb ((w - base) / 16) n) refl q
  where
    go : (a b c : Bool) → ltb ((w - base) / 16) n ≡ c → some k ≡ pick (both a (both b c)) (some ((w - base) / 16)) none → k < n
    go true true true e q = let same : k ≡ (w - base) / 16 = cc in rw same (ltb-true _ _ e)
    go true true false e q = let z : ◌≡◌ {A = ℕ} 0 1 = cc in absurd (omega arith)
    go true false c e q = let z : ◌≡◌ {A = ℕ} 0 1 = cc in absurd (omega arith)
    go false b c e q = let z : ◌≡◌ {A = ℕ} 0 1 = cc in absurd (omega arith)

-- a TAIL is a block of every table of 4t blocks
pub tail_inside : (t : ℕ) (table table' : List ℕ) (k : ℕ) → entry_at (entries_in t table) k ≡ TAIL → k < length (entries_in t table')
tail_inside t table table' k e = omega (arith, same_length t table' table, entry_inside (entries_in t table) k (λ f. omega (arith, e, f)))

-- what the code's test of a head says
pub head_is : (e : ℕ) {b : Bool} → b ≡ is_head e → b ≡ true → e ≡ HEAD
head_is e q t = eqb-true e HEAD (sym q ∙ t)

pub no_head : (e : ℕ) {b : Bool} → b ≡ is_head e → b ≡ false → e ≡ HEAD → ⊥
no_head e q t = eqb-false e HEAD (sym q ∙ t)

-- the object of block k starts at block h: `g h` is done if that is HEAD, else `z`
module _ (es : List ℕ) (k h : ℕ) (at : h ≡ start_of es k)
    {A : Type 0} (f : Option ℕ → A) (g : ℕ → A) (z : A) (at_none : f none ≡ z) (at_some : (j : ℕ) → f (some j) ≡ pick (is_head (entry_at es j)) (g j) z) where
  led_to : entry_at es h ≡ HEAD → f (head_at es (some k)) ≡ g h
  unfolding head_at heads_object
  led_to q = rw (← at, eq-eqb _ _ q) (at_some h ∙ rw (eq-eqb _ _ q))

  led_nowhere : (entry_at es h ≡ HEAD → ⊥) → f (head_at es (some k)) ≡ z
  unfolding head_at heads_object
  led_nowhere q = rw (← at, ne_eqb _ _ q) (go (eqb (entry_at es h) MARK))
    where
      go : (b : Bool) → f (pick b (some h) none) ≡ z
      go true = at_some h ∙ rw (ne_eqb _ _ q)
      go false = at_none

module _ (c : Context) (s : State) (k h : ℕ) (at : h ≡ start_of s.entries k) where
  pub visit_takes : entry_at s.entries h ≡ HEAD → visit_to c s (head_at s.entries (some k)) ≡ pushed c h (marked h s)
  unfolding visit_to
  visit_takes = led_to s.entries k h at (visit_to c s) (λ j. pushed c j (marked j s)) s refl (λ j. refl)

  pub visit_stays : (entry_at s.entries h ≡ HEAD → ⊥) → visit_to c s (head_at s.entries (some k)) ≡ s
  unfolding visit_to
  visit_stays = led_nowhere s.entries k h at (visit_to c s) (λ j. pushed c j (marked j s)) s refl (λ j. refl)

  pub root_takes : entry_at s.entries h ≡ HEAD → root_to c s (head_at s.entries (some k)) ≡ trace c h (marked h s)
  unfolding root_to
  root_takes = led_to s.entries k h at (root_to c s) (λ j. trace c j (marked j s)) s refl (λ j. refl)

  pub root_stays : (entry_at s.entries h ≡ HEAD → ⊥) → root_to c s (head_at s.entries (some k)) ≡ s
  unfolding root_to
  root_stays = led_nowhere s.entries k h at (root_to c s) (λ j. trace c j (marked j s)) s refl (λ j. refl)

-- a word leads where its target does
module _ (c : Context) (w : ℕ) (s : State) (n : ℕ) (all : n ≡ length s.entries) {o : Option ℕ} (q : o ≡ target_of c.base n w) where
  pub visit_target : visit c w s ≡ visit_to c s (head_at s.entries o)
  unfolding visit leads_to
  visit_target = rw (q, all)

  pub root_target : mark_root c w s ≡ root_to c s (head_at s.entries o)
  unfolding mark_root leads_to
  root_target = rw (q, all)

-- and nowhere if it has none
module _ (c : Context) (w : ℕ) (s : State) (n : ℕ) (all : n ≡ length s.entries) (q : none ≡ target_of c.base n w) where
  pub visit_none : visit c w s ≡ s
  unfolding visit_to head_at
  visit_none = visit_target c w s n all q

  pub root_none : mark_root c w s ≡ s
  unfolding root_to head_at
  root_none = root_target c w s n all q

-- a word whose block is k, if that is one of the table's
module _ (c : Context) (w : ℕ) (s : State) (k : ℕ) (t : target_of c.base (length s.entries) w ≡ pick (ltb k (length s.entries)) (some k) none) where
  pub visit_at : k < length s.entries → visit c w s ≡ visit_to c s (head_at s.entries (some k))
  visit_at h = visit_target c w s (length s.entries) refl (sym (rw (lt-ltb k (length s.entries) h) at t))

  pub visit_head : entry_at s.entries k ≡ HEAD → visit c w s ≡ pushed c k (marked k s)
  visit_head e = visit_at (head_inside s.entries k e) ∙ visit_takes c s k k (sym (start_own s.entries k (λ q. omega (arith, e, q)))) e

  pub visit_other : (entry_at s.entries k ≡ HEAD → ⊥) → (entry_at s.entries k ≡ TAIL → ⊥) → visit c w s ≡ s
  visit_other no_head no_tail = go (dec_lt k (length s.entries))
    where
      go : Dec (k < length s.entries) → visit c w s ≡ s
      go (yes l) = visit_at l ∙ visit_stays c s k k (sym (start_own s.entries k no_tail)) no_head
      go (no l) = visit_none c w s (length s.entries) refl (sym (rw (le-ltb k (length s.entries) (omega (arith, l))) at t))
