-- One call on two heaps with the same entries, whose pools match in every allocated block: they match again after it.
-- Assumes nothing.
use mathlib.Core.Path.{◌≡◌, subst}
use mathlib.Core.List.{List}
use Prim.Native.Nat.{ℕ}
use Rattle.rules.specs.Outcomes.{Heap}
use Rattle.rules.specs.Runs.{Call, Init, Allocate, Free, Reallocate, Collect, Survey, Load, Store, WriteImage, OpenImage, step}
use Rattle.laws.proofs.Matching.{Matching}
use Rattle.laws.proofs.Twice.{heap, twin_init, twin_allocate, twin_free, twin_reallocate, twin_survey, twin_load, twin_store, twin_image, twin_open}
use Rattle.unwinding.specs.Answers.{SameStacks}
use Rattle.unwinding.proofs.Same.{Same, same_twin}
use Rattle.unwinding.proofs.Collections.{same_collect}

-- one call on pools that match
same_step : (call : Call) (es p q stack stack' : List ℕ) → Matching es p q → SameStacks stack stack'
    → Same call stack stack' (step call stack (heap p es)) (step call stack' (heap q es))
unfolding step
same_step (Init base) es p q stack stack' m s = same_twin (Init base) stack stack' (twin_init base es p q m)
same_step (Allocate base bytes) es p q stack stack' m s = same_twin (Allocate base bytes) stack stack' (twin_allocate base es p q m bytes)
same_step (Free base k) es p q stack stack' m s = same_twin (Free base k) stack stack' (twin_free base es p q m k)
same_step (Reallocate base k bytes) es p q stack stack' m s = same_twin (Reallocate base k bytes) stack stack' (twin_reallocate base es p q m k bytes)
same_step (Collect base roots) es p q stack stack' m s = same_collect base roots es p q stack stack' m s
same_step (Survey base) es p q stack stack' m s = same_twin (Survey base) stack stack' (twin_survey base es p q m)
same_step (Load base k i) es p q stack stack' m s = same_twin (Load base k i) stack stack' (twin_load base es p q m k i)
same_step (Store base k i w) es p q stack stack' m s = same_twin (Store base k i w) stack stack' (twin_store base es p q m k i w)
same_step (WriteImage base roots room) es p q stack stack' m s = same_twin (WriteImage base roots room) stack stack' (twin_image base es p q m roots room)
same_step (OpenImage image room) es p q stack stack' m s = same_twin (OpenImage image room) stack stack' (twin_open es p q m image room)

-- the same, where the tables are equal
pub same_call : (call : Call) (h h'' : Heap) (stack stack' : List ℕ) → h.entries ≡ h''.entries → Matching h.entries h.pool h''.pool → SameStacks stack stack'
    → Same call stack stack' (step call stack h) (step call stack' h'')
same_call call h h'' stack stack' t m s =
    subst (λ (es : List ℕ). Same call stack stack' (step call stack h) (step call stack' (heap h''.pool es))) t
    (same_step call h.entries h.pool h''.pool stack stack' m s)
