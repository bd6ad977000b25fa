-- A turn and the end of each loop over roots, blocks and rescans, in the code's variables. `stack₀` is the stack at the loop's
-- start: it fixes the room.
-- Assumes nothing.
use mathlib.Core.Path.{◌≡◌, refl, sym, ap, ◌∙◌}
use mathlib.Core.Bool.{Bool, true, false}
use mathlib.Core.List.{List}
use Prim.Native.Nat.{ℕ, ◌+◌, ◌-◌, ◌≤◌, ◌<◌}
use native.Mathlib.Numerals.{add-one}
use lib.ListN.{length, get_or, drop}
use Rattle.rules.specs.Tables.{entry_at}
use Rattle.rules.specs.Entries.{MARK}
use Rattle.rules.specs.Planes.{entries_in}
use Rattle.rules.specs.Marking.{Context, State, marked_in, trace, mark_root, mark_roots, pass_block, pass_from, pass, rescan, mark_all}
use Rattle.laws.proofs.Marking.{roots_turn, pass_walks, pass_turn, pass_end, to_rescan, pass_measure, rescan_more, rescan_done, mark_all_from}
use Rattle.visitor.specs.Variables.{context_of, idle}
use Rattle.tracer.proofs.Turning.{context_same}

-- a block that is MARK, traced
pub block_end : (c : Context) (k : ℕ) (s : State) {z : State} → entry_at s.entries k ≡ MARK → z ≡ trace c k s → z ≡ pass_block c k s
block_end c k s h q = q ∙ sym (pass_walks c k s h)

module _ (base : ℕ) (pool stack₀ : List ℕ) where
  pub roots_next : (ws : List ℕ) (i w : ℕ) (stack : List ℕ) (s : State) {s' z : State} → i < length ws → length stack ≡ length stack₀ → w ≡ get_or ws i 0
      → s' ≡ mark_root (context_of base pool stack) w s
      → mark_roots (context_of base pool stack₀) (drop i ws) s ≡ z → mark_roots (context_of base pool stack₀) (drop (i + 1) ws) s' ≡ z
  roots_next ws i w stack s h e v q r =
      roots_turn (context_of base pool stack₀) ws i s h (context_same base pool stack₀ stack e) (q ∙ ap (λ (u : ℕ). mark_root (context_of base pool stack) u s) v) r

  pub pass_next : (k n : ℕ) (stack : List ℕ) (s : State) {s' z : State} → k < n → length stack ≡ length stack₀ → s' ≡ pass_block (context_of base pool stack) k s
      → pass_from (context_of base pool stack₀) k (n - k) s ≡ z → pass_from (context_of base pool stack₀) (k + 1) (n - (k + 1)) s' ≡ z
  pass_next k n stack s h e q r = pass_turn (context_of base pool stack₀) k n s h (context_same base pool stack₀ stack e) q r

module _ (base t : ℕ) (pool stack₀ : List ℕ) where
  pub pass_last : (k n : ℕ) (table₀ : List ℕ) (s : State) → n ≤ k → n ≡ length (entries_in t table₀)
      → pass_from (context_of base pool stack₀) k (n - k) s ≡ pass_from (context_of base pool stack₀) 0 n (idle t table₀ false) → s ≡ pass (context_of base pool stack₀) (idle t table₀ true)
  unfolding pass
  pass_last k n table₀ s h e r = pass_end (context_of base pool stack₀) k n s h r ∙ rw e

  -- what a rescan leaves
  pub record Rescanned (table table' : List ℕ) (overflow overflow' : Bool) : Type 0 where
    pub less : to_rescan (idle t table' overflow') < to_rescan (idle t table overflow)
    pub same : (r : ℕ) → rescan (context_of base pool stack₀) (idle t table' overflow') (r + 1) ≡ rescan (context_of base pool stack₀) (idle t table overflow) r

  pub rescanned : (stack table table' : List ℕ) (overflow overflow' : Bool) → overflow ≡ true → length stack ≡ length stack₀
      → idle t table' overflow' ≡ pass (context_of base pool stack) (idle t table true) → Rescanned table table' overflow overflow'
  rescanned stack table table' overflow overflow' h e q =
      let c : Context = context_of base pool stack₀ in
      let p : idle t table' overflow' ≡ pass c (idle t table true) = rw (context_same base pool stack₀ stack e) at q in
      record {
        less = rw (p, h) (pass_measure c (idle t table true) refl);
        same = λ r. rw (p, h, add-one) (sym (rescan_more c (idle t table true) r refl));
      }

pub mark_end : (base t : ℕ) (pool stack stack₀ ws table table₁ table₂ : List ℕ) (overflow₁ overflow : Bool) (r : ℕ) → length stack ≡ length stack₀ → overflow ≡ false
    → idle t table₁ overflow₁ ≡ mark_roots (context_of base pool stack₀) ws (idle t table false)
    → rescan (context_of base pool stack) (idle t table₂ overflow) r ≡ rescan (context_of base pool stack) (idle t table₁ overflow₁) 0
    → marked_in (idle t table₂ false) r ≡ mark_all (context_of base pool stack₀) ws (entries_in t table)
mark_end base t pool stack stack₀ ws table table₁ table₂ overflow₁ overflow r e h q i =
    let c : Context = context_of base pool stack₀ in
    let j : rescan c (idle t table₂ false) r ≡ rescan c (idle t table₁ overflow₁) 0 = rw (context_same base pool stack₀ stack e, h) at i in
    sym (rescan_done c (idle t table₂ false) r refl) ∙ j ∙ sym (mark_all_from c ws (entries_in t table) q refl)
