-- A turn and the end of a walk and of a trace, over the code's variables. `stack₀` is the stack at the loop's start: it fixes the room.
-- Assumes nothing.
use mathlib.Core.Path.{◌≡◌, refl, sym, ap, ◌∙◌}
use mathlib.Core.List.Memᴰ
use mathlib.Core.List.{List, ◌∷◌}
use Prim.Native.Nat.{ℕ, ◌+◌, ◌-◌, ◌*◌, ◌^◌, ◌≤◌, ◌<◌}
use native.Mathlib.Omega.{arith}
use lib.ListN.{length}
use Rattle.rules.specs.Words.{word_at}
use Rattle.rules.specs.Tables.{block_count, start_of}
use Rattle.rules.specs.Pointers.{address_of}
use Rattle.rules.specs.Planes.{entries_in, IsTable}
use Rattle.rules.specs.Marking.{Context, State, state, visit, walk_words, walk, drain, trace}
use Rattle.laws.proofs.Planes.{same_length}
use Rattle.laws.proofs.Marking.{words_turn, words_end, to_drain, pop_less, walk_measure, drain_pop, drain_nil, Sane, sane_pop, sane_walk}
use Rattle.visitor.specs.declared.Marking.{Marking}
use Rattle.visitor.specs.Variables.{stacked, context_of, overflow_of, state_of, idle, Shape, Came, CanTrace}
use Rattle.visitor.proofs.Stacking.{stacked_length, stacked_pop}

-- a stack of the same length makes the same context
pub context_same : (base : ℕ) (pool stack stack' : List ℕ) → length stack' ≡ length stack → context_of base pool stack' ≡ context_of base pool stack
context_same base pool stack stack' e = rw e

module _ (base : ℕ) (pool stack₀ : List ℕ) where
  pub walk_turn : (first i w : ℕ) (stack : List ℕ) (s : State) {s' z : State} → 0 < i → length stack ≡ length stack₀ → w ≡ word_at pool (first + (i - 1))
      → s' ≡ visit (context_of base pool stack) w s → walk_words (context_of base pool stack₀) first i s ≡ z → walk_words (context_of base pool stack₀) first (i - 1) s' ≡ z
  walk_turn first i w stack s h e v q r =
      words_turn (context_of base pool stack₀) first i s h (context_same base pool stack₀ stack e) (q ∙ ap (λ (u : ℕ). visit (context_of base pool stack) u s) v) r

  pub walk_end : (k n first i : ℕ) (s s₀ : State) → i ≤ 0 → first ≡ 4 * k → n ≡ block_count s₀.entries k
      → walk_words (context_of base pool stack₀) first i s ≡ walk_words (context_of base pool stack₀) first (4 * n) s₀ → s ≡ walk (context_of base pool stack₀) k s₀
  unfolding walk
  walk_end k n first i s s₀ h f e r = words_end (context_of base pool stack₀) first i s h r ∙ rw (f, e)

-- any other table of 4t blocks has the same shape
pub shape_same : (base t : ℕ) (pool table table' : List ℕ) → Shape base t pool table → IsTable t table' → Shape base t pool table'
shape_same base t pool table table' s i =
    record { is_table = i; whole = rw (same_length t table' table) s.whole; ends = rw (same_length t table' table) s.ends }

-- where there is a block, the base is an address, and so is the end of the blocks of any such table at most 2 ^ 32
pub in_space : (base t : ℕ) (pool table table' : List ℕ) (k : ℕ) → Shape base t pool table → k < length (entries_in t table)
    → (base < 2 ^ 32) × (address_of base (length (entries_in t table')) ≤ 2 ^ 32)
unfolding address_of
in_space base t pool table table' k s h = (omega (arith, s.ends, h), omega (arith, s.ends, same_length t table' table))

-- at the start of a trace the stack is empty, and block 0 is its own start
pub can_start : (base t : ℕ) (pool table stack : List ℕ) (m : Marking) → Shape base t pool table → m.depth ≡ 0 → m.first.0 ≡ 0 → m.last.0 ≡ 0 → CanTrace base t pool table stack m
unfolding start_of
can_start base t pool table stack m shape e f l =
    record { shape = shape; deep = omega arith; knows = rw (f, l) refl; below = λ k i. absurd (Memᴰ.not-nil (rw e at i)) }

-- the block taken from the stack, with what is then left to trace
pub record Popped (base t : ℕ) (pool stack₀ table stack : List ℕ) (m : Marking) (k : ℕ) (table' stack' : List ℕ) (m' : Marking) (w : ℕ) : Type 0 where
  pub can : CanTrace base t pool table' stack' m'
  pub inside : w < length (entries_in t table')
  pub less : to_drain (state_of t table' stack' m') < to_drain (state_of t table stack m)
  pub same : trace (context_of base pool stack₀) w (state_of t table' stack' m') ≡ trace (context_of base pool stack₀) k (state_of t table stack m)

-- the walk of an object leaves a state from which the last pushed one is traced
module _ (base t : ℕ) (pool stack₀ table stack : List ℕ) (m : Marking) (can : CanTrace base t pool table stack m) (long : length stack ≡ length stack₀)
    (k : ℕ) (table' stack' : List ℕ) (m' : Marking) (came : Came t (walk (context_of base pool stack) k (state_of t table stack m)) table' stack' m') where
  abbrev c : Context
  c = context_of base pool stack₀

  walked : state_of t table' stack' m' ≡ walk c k (state_of t table stack m)
  walked = rw (context_same base pool stack₀ stack long) at came.same

  sane : Sane c (length (entries_in t table)) (state_of t table' stack' m')
  sane = rw walked (sane_walk k (state_of t table stack m) (record { long = refl; below = can.below; fits = rw (stacked_length stack m.depth, ← long) can.deep }))

  pub trace_end : m'.depth ≡ 0 → idle t table' (overflow_of m') ≡ trace c k (state_of t table stack m)
  unfolding trace
  trace_end e = sym (drain_nil c (entries_in t table') (overflow_of m')) ∙ (rw e at (ap (drain c) walked))

  pub popped : (w : ℕ) → 0 < m'.depth → w ≡ word_at stack' (m'.depth - 1)
      → Popped base t pool stack₀ table stack m k table' stack' (record { depth = m'.depth - 1; lost = m'.lost; first = m'.first; last = m'.last }) w
  unfolding trace
  popped w h e =
      let st : List ℕ = stacked stack' (m'.depth - 1) in
      let full : state_of t table' stack' m' ≡ state (entries_in t table') (w ∷ st) (overflow_of m') = rw (e, stacked_pop stack' m'.depth h) in
      let g : Sane c (length (entries_in t table)) (state (entries_in t table') (w ∷ st) (overflow_of m')) = rw full at sane in
      let l : length (entries_in t table') ≡ length (entries_in t table) = g.long in
      record {
        can = record { shape = shape_same base t pool table table' can.shape came.is_table; deep = omega (arith, came.deep); knows = came.knows; below = rw l (sane_pop g).below };
        inside = rw l (g.below w (Memᴰ.head refl));
        less = omega (arith, walk_measure c k (state_of t table stack m), ap to_drain (sym full ∙ walked), pop_less (entries_in t table') w st (overflow_of m'));
        same = sym (drain_pop c (entries_in t table') w st (overflow_of m')) ∙ ap (drain c) (sym full ∙ walked);
      }
