-- Whatever a program calls, the mark stack that is lent to it stays as long as it was, and none but a collection looks at it.
-- Assumes nothing.
use mathlib.Core.Path.{◌≡◌, refl, sym, ap, ◌∙◌}
use mathlib.Core.Bool.{false}
use mathlib.Core.List.{List, []}
use Prim.Native.Nat.{ℕ}
use lib.ListN.{length, length-replicate}
use Rattle.rules.specs.Forms.{Form}
use Rattle.laws.specs.Faithful.{Faithful}
use Rattle.rules.specs.Outcomes.{Answer}
use Rattle.rules.specs.Runs.{Call, Init, Allocate, Free, Reallocate, Collect, Survey, Load, Store, WriteImage, OpenImage, step}
use Rattle.rules.specs.Memory.{Memory, Result, perform}
use Rattle.laws.proofs.Refusals.{true_not_false}
use Rattle.laws.proofs.Memory.{follows_accepted, Performed, acted, left, performed}
use Rattle.keeping.proofs.Collections.{keeps_exactly}
use Rattle.unwinding.specs.Answers.{SameStacks, equally_long, both_good}
use Rattle.programs.specs.Programs.{collects}
use Rattle.programs.specs.Programs.{stack_after}

module _ (f : Form) (faithful : Faithful f) where
  -- a collection leaves zeros, or every byte as it was
  collected_long : (base : ℕ) (roots stack : List ℕ) (m : Memory) → Performed m stack (perform f (Collect base roots) stack m)
      → length (perform f (Collect base roots) stack m).stack ≡ length stack
  unfolding step
  collected_long base roots stack m (left r e) = ap (λ (x : Result). length x.stack) e
  collected_long base roots stack m (acted z) =
      let x = follows_accepted f faithful (Collect base roots) stack m z in
      let k = keeps_exactly f faithful base m roots stack (sym (ap (λ (a : Answer). a.refusal) x.answer) ∙ z) in
      ap length (x.stack ∙ k.stack) ∙ length-replicate (length stack) 0

  -- every other call has none
  pub still_long : (c : Call) (stack : List ℕ) (m : Memory) → length (stack_after c (perform f c stack m) stack) ≡ length stack
  still_long (Init base) stack m = refl
  still_long (Allocate base bytes) stack m = refl
  still_long (Free base k) stack m = refl
  still_long (Reallocate base k bytes) stack m = refl
  still_long (Collect base roots) stack m = collected_long base roots stack m (performed f (Collect base roots) stack m)
  still_long (Survey base) stack m = refl
  still_long (Load base k i) stack m = refl
  still_long (Store base k i w) stack m = refl
  still_long (WriteImage base roots room) stack m = refl
  still_long (OpenImage image room) stack m = refl

-- whether two mark stacks are alike is decided by their lengths
stacks_by_length : {stack stack' left left' : List ℕ} → length left ≡ length stack → length left' ≡ length stack' → SameStacks stack stack' → SameStacks left left'
stacks_by_length e e' (equally_long l) = equally_long (e ∙ l ∙ sym e')
stacks_by_length e e' (both_good x y) = both_good (record { whole = rw e x.whole; short = rw e x.short }) (record { whole = rw e' y.whole; short = rw e' y.short })

-- so they still are after a call
pub still_alike : (f : Form) → Faithful f → (c : Call) (stack stack' : List ℕ) (m m' : Memory) → SameStacks stack stack'
    → SameStacks (stack_after c (perform f c stack m) stack) (stack_after c (perform f c stack' m') stack')
still_alike f faithful c stack stack' m m' s = stacks_by_length (still_long f faithful c stack m) (still_long f faithful c stack' m') s

-- a call that is no collection does not look at the mark stack
pub stack_unseen : (f : Form) (c : Call) (stack : List ℕ) (m : Memory) → collects c ≡ false → perform f c stack m ≡ perform f c [] m
unfolding perform step
stack_unseen f (Init base) stack m e = refl
stack_unseen f (Allocate base bytes) stack m e = refl
stack_unseen f (Free base k) stack m e = refl
stack_unseen f (Reallocate base k bytes) stack m e = refl
stack_unseen f (Collect base roots) stack m e = absurd (true_not_false refl e)
stack_unseen f (Survey base) stack m e = refl
stack_unseen f (Load base k i) stack m e = refl
stack_unseen f (Store base k i w) stack m e = refl
stack_unseen f (WriteImage base roots room) stack m e = refl
stack_unseen f (OpenImage image room) stack m e = refl
