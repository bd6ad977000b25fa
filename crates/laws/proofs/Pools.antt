-- Laws of the pool's bytes: blocks that are cleared, and an object that is copied to another place.
-- Assumes nothing.
use mathlib.Core.Path.{◌≡◌, ◌∙◌}
use mathlib.Core.List.{List, ◌++◌}
use Prim.Native.Nat.{ℕ, ◌+◌, ◌-◌, ◌*◌, ◌≤◌, ◌<◌}
use native.Mathlib.Omega.{arith}
use lib.ListN.{length, get_or, take, drop, replicate, length-append, length-drop, length-replicate, get_or-replicate, get_or-append}
use lib.Seq.{sets, length-sets, length-take-le, get_or-take, get_or-drop, get_or-append-add}
use Rattle.rules.specs.Outcomes.{Heap, cleared_blocks}
use Rattle.rules.specs.Calls.{moved}
use Rattle.laws.proofs.Lists.{sets_append, sets_in, sets_out}

zeros_length : (n : ℕ) → length {A = ℕ} (replicate n 0) ≡ n
zeros_length n = length-replicate n 0

-- ---- b blocks from s on are cleared

pub cleared_length : (pool : List ℕ) (s b : ℕ) → length (cleared_blocks pool s b) ≡ length pool
unfolding cleared_blocks
cleared_length pool s b = length-sets pool (16 * s) (replicate (16 * b) 0)

pub cleared_in : (pool : List ℕ) (s b i : ℕ) → 16 * (s + b) ≤ length pool → i < 16 * b → get_or (cleared_blocks pool s b) (16 * s + i) 0 ≡ 0
unfolding cleared_blocks
cleared_in pool s b i r h =
    sets_in pool (16 * s) (replicate (16 * b) 0) i 0 (omega (arith, zeros_length (16 * b))) (omega (arith, zeros_length (16 * b))) ∙ get_or-replicate (16 * b) i 0 0 h

pub cleared_out : (pool : List ℕ) (s b i : ℕ) → (16 * s ≤ i → i < 16 * (s + b) → ⊥) → get_or (cleared_blocks pool s b) i 0 ≡ get_or pool i 0
unfolding cleared_blocks
cleared_out pool s b i out = sets_out pool (16 * s) (replicate (16 * b) 0) i 0 (λ l r. out l (omega (arith, zeros_length (16 * b))))

-- ---- an object of b blocks at k is copied to s, where it has c blocks

module _ (h : Heap) (k b c s : ℕ) where
  pub moved_length : length (moved h k b c s).pool ≡ length h.pool
  unfolding moved
  moved_length = length-sets h.pool (16 * s) (take (16 * b) (drop (16 * k) h.pool) ++ replicate (16 * (c - b)) 0)

  module _ (old : 16 * (k + b) ≤ length h.pool) (more : b ≤ c) where
    -- what is copied, and what is stored
    front : List ℕ
    front = take (16 * b) (drop (16 * k) h.pool)

    stored : List ℕ
    stored = front ++ replicate (16 * (c - b)) 0

    front_length : length front ≡ 16 * b
    unfolding front
    front_length = length-take-le (16 * b) (drop (16 * k) h.pool) (omega (arith, length-drop (16 * k) h.pool))

    stored_length : length stored ≡ 16 * c
    unfolding stored
    stored_length = omega (arith, length-append front (replicate (16 * (c - b)) 0), front_length, zeros_length (16 * (c - b)))

    -- copying the front and then clearing the rest
    pub moved_steps : cleared_blocks (sets h.pool (16 * s) (take (16 * b) (drop (16 * k) h.pool))) (s + b) (c - b) ≡ (moved h k b c s).pool
    unfolding moved cleared_blocks front
    moved_steps =
        let e : 16 * (s + b) ≡ 16 * s + length (take (16 * b) (drop (16 * k) h.pool)) = omega (arith, front_length) in
        rw (e, sets_append h.pool (16 * s) (take (16 * b) (drop (16 * k) h.pool)) (replicate (16 * (c - b)) 0))

    pub moved_out : (i : ℕ) → (16 * s ≤ i → i < 16 * (s + c) → ⊥) → get_or (moved h k b c s).pool i 0 ≡ get_or h.pool i 0
    unfolding moved front stored
    moved_out i out = sets_out h.pool (16 * s) stored i 0 (λ l r. out l (omega (arith, stored_length)))

    module _ (new : 16 * (s + c) ≤ length h.pool) where
      moved_in : (i : ℕ) → i < 16 * c → get_or (moved h k b c s).pool (16 * s + i) 0 ≡ get_or stored i 0
      unfolding moved front stored
      moved_in i l = sets_in h.pool (16 * s) stored i 0 (omega (arith, stored_length)) (omega (arith, stored_length))

      pub moved_kept : (i : ℕ) → i < 16 * b → get_or (moved h k b c s).pool (16 * s + i) 0 ≡ get_or h.pool (16 * k + i) 0
      unfolding front stored
      moved_kept i l =
          moved_in i (omega arith)
          ∙ get_or-append front (replicate (16 * (c - b)) 0) 0 i (omega (arith, front_length))
          ∙ get_or-take (16 * b) (drop (16 * k) h.pool) i 0 l
          ∙ get_or-drop (16 * k) h.pool i 0

      pub moved_zero : (i : ℕ) → 16 * b ≤ i → i < 16 * c → get_or (moved h k b c s).pool (16 * s + i) 0 ≡ 0
      unfolding stored
      moved_zero i l r =
          let e : length front + (i - 16 * b) ≡ i = omega (arith, front_length) in
          moved_in i r
          ∙ rw e at (get_or-append-add front (replicate (16 * (c - b)) 0) (i - 16 * b) 0)
          ∙ get_or-replicate (16 * (c - b)) (i - 16 * b) 0 0 (omega arith)
