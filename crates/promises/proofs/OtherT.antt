-- A pool of 64 * t bytes is a heap's with this t alone: a call that is given another is refused, and leaves every byte.
-- Assumes nothing.
use mathlib.Core.Path.{◌≡◌, refl, ap, sym, ◌∙◌}
use mathlib.Core.Logic.{◌≢◌}
use mathlib.Core.Bool.{Bool, true, false}
use mathlib.Core.List.{List}
use Prim.Native.Nat.{ℕ, ◌*◌}
use native.Mathlib.Decide.{ℕ_discrete}
use native.Mathlib.Omega.{arith}
use lib.Dec.{eqb}
use lib.ListN.{length}
use borrow.Author.Tests.{eqb-false, eq-eqb, ne_eqb}
use Rattle.rules.specs.Tests.{pick}
use Rattle.rules.specs.Outcomes.{only_refusal}
use Rattle.rules.specs.Runs.{Call}
use Rattle.rules.specs.Forms.{Form}
use Rattle.rules.specs.Planes.{planes}
use Rattle.rules.specs.Memory.{Memory, heap_in, Result, result, stack_for, fault_in, perform}
use Rattle.laws.proofs.Memory.{kept_by}
use Rattle.laws.proofs.Sizes.{step_keeps}
use Rattle.promises.specs.OtherT.{at_other_t}
use Rattle.promises.proofs.Bytes.{on_bytes, pool_of_is, first_at}

-- the number: the fault of the call's file, or 1
other_number : (t t' : ℕ) (c : Call) (stack : List ℕ) (m : Memory) → length m.pool ≡ 64 * t → t' ≢ t → (perform (planes t') c stack m).answer.refusal ≡ at_other_t c
other_number t t' c stack m size other = go (ℕ_discrete (fault_in c) 0) (ℕ_discrete (perform (planes t') c stack m).answer.refusal 1)
  where
    go : Dec (fault_in c ≡ 0) → Dec ((perform (planes t') c stack m).answer.refusal ≡ 1) → (perform (planes t') c stack m).answer.refusal ≡ at_other_t c
    go (yes whole) (yes e) = rw (eq-eqb (fault_in c) 0 whole) e
    go (yes whole) (no passed) = absurd (other (omega (arith, size, pool_of_is t' c stack m whole passed)))
    go (no fault) _ = rw (ne_eqb (fault_in c) 0 fault) (first_at _ _ _ (on_bytes.number (planes t') c stack m) fault)

pub one_call : (t t' : ℕ) (c : Call) (stack : List ℕ) (m : Memory) → length m.pool ≡ 64 * t → t' ≢ t
    → perform (planes t') c stack m ≡ result (only_refusal (at_other_t c)) m (stack_for c stack)
one_call t t' c stack m size other =
    let e = other_number t t' c stack m size other in
    on_bytes.refused_bytes (planes t') c stack m (λ z. some_number (eqb (fault_in c) 0) refl (sym e ∙ z)) ∙ ap (λ (r : ℕ). result (only_refusal r) m (stack_for c stack)) e
  where
    some_number : (b : Bool) → eqb (fault_in c) 0 ≡ b → pick b 1 (fault_in c) ≡ 0 → ⊥
    some_number true q z = omega (arith, z)
    some_number false q z = eqb-false (fault_in c) 0 q z

-- no call changes the length of the pool
pub pool_kept : (f : Form) (c : Call) (stack : List ℕ) (m : Memory) (n : ℕ) → length m.pool ≡ n → length (perform f c stack m).memory.pool ≡ n
pool_kept f c stack m n size =
    kept_by (λ (x : Memory). length x.pool ≡ n) f c stack m
    (λ z. ap (λ (r : Result). length r.memory.pool) (on_bytes.accepted_bytes f c stack m z).1 ∙ (step_keeps c stack (heap_in f m)).bytes ∙ size) size
