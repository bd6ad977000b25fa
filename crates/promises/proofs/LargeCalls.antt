-- The promises on large objects, in bytes and block numbers: one call.
-- Assumes nothing.
use mathlib.Core.Path.{◌≡◌}
use mathlib.Core.Logic.{◌⊎◌, inl, inr, ⊎_elim}
use Prim.Native.Nat.{ℕ, ◌+◌, ◌-◌, ◌*◌, ◌%◌, ◌≤◌, ◌<◌}
use native.Mathlib.Omega.{arith}
use Rattle.rules.specs.Pointers.{address_of}
use Rattle.laws.specs.Meaning.{Run, Accepted}
use Rattle.rules.specs.Outcomes.{Heap}
use Rattle.rules.specs.Calls.{blocks_for, allocate, reallocate}
use Rattle.promises.specs.Promises.{blocks_of}
use Rattle.promises.proofs.Promised.{promises}

pub more_than_48 : (bytes : ℕ) → 48 < bytes → 4 ≤ blocks_for bytes
unfolding blocks_for
more_than_48 bytes more = omega arith

-- more than 48 bytes start at a block divisible by four, if they are allocated or are more blocks than the object had
pub allocated_large : (base : ℕ) (h : Heap) (bytes : ℕ) → Accepted (allocate base h bytes) → 48 < bytes → (allocate base h bytes).answer.block % 4 ≡ 0
allocated_large base h bytes accepted more = ⊎_elim (λ few. absurd (omega (arith, more_than_48 bytes more))) (λ e. e) (promises.allocated base h bytes accepted).aligned

pub reallocated_large : (base : ℕ) (h : Heap) (k bytes : ℕ) → Accepted (reallocate base h k bytes) → 48 < bytes → blocks_of h k < blocks_for bytes
    → (reallocate base h k bytes).answer.block % 4 ≡ 0
reallocated_large base h k bytes accepted more larger =
    ⊎_elim (λ few. absurd (omega (arith, more_than_48 bytes more))) (λ e. e) ((promises.reallocated base h k bytes accepted).aligned larger)

-- where blocks are numbered from a base that is a multiple of 64, their address is one
pub large_address : (base s : ℕ) → base % 64 ≡ 0 → s % 4 ≡ 0 → address_of base s % 64 ≡ 0
unfolding address_of
large_address base s even front = omega arith

-- an object grows where it is if the blocks directly after it are FREE, from a block divisible by four, or to up to 48 bytes
pub reallocated_grows : (base : ℕ) (h : Heap) (k bytes : ℕ) → Accepted (reallocate base h k bytes) → (k % 4 ≡ 0) ⊎ (bytes ≤ 48)
    → Run h.entries (blocks_for bytes - blocks_of h k) (k + blocks_of h k) → (reallocate base h k bytes).answer.block ≡ k
reallocated_grows base h k bytes accepted place run =
    (promises.reallocated base h k bytes accepted).in_place
    (inr (record { aligned = ⊎_elim inr (λ few. inl (omega (arith, (promises.rounded_up bytes 3).1 few))) place; run = run }))

-- to no more bytes than its blocks hold an object stays, wherever it starts
pub reallocated_stays : (base : ℕ) (h : Heap) (k bytes : ℕ) → Accepted (reallocate base h k bytes) → bytes ≤ 16 * blocks_of h k → (reallocate base h k bytes).answer.block ≡ k
reallocated_stays base h k bytes accepted few = (promises.reallocated base h k bytes accepted).in_place (inl ((promises.rounded_up bytes (blocks_of h k)).1 few))
