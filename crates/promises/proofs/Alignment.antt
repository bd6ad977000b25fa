-- Where large objects start, over lists of calls.
-- Assumes nothing.
use mathlib.Core.Path.{◌≡◌, refl, ap, sym, subst}
use mathlib.Core.Logic.{inl, ⊎_elim}
use mathlib.Core.Bool.{true}
use mathlib.Core.List.{List, [], ◌∷◌}
use Prim.Native.Nat.{ℕ}
use native.Mathlib.Omega.{arith}
use Rattle.laws.specs.Meaning.{Accepted}
use Rattle.rules.specs.Outcomes.{Heap}
use Rattle.rules.specs.Forms.{Form}
use Rattle.laws.specs.Faithful.{Faithful, Small}
use Rattle.rules.specs.Runs.{Call, Init, Allocate, Free, Reallocate, Collect, Survey, Load, Store, WriteImage, OpenImage, Turn, step, FileIs, EveryFile, done, next, starts_anew}
use Rattle.rules.specs.Memory.{Memory, heap_in, AcceptedIn, perform, turn_in, after_in}
use Rattle.laws.proofs.Refusals.{true_not_false}
use Rattle.laws.proofs.Faults.{no_fault}
use Rattle.laws.proofs.Opening.{open_passed}
use Rattle.laws.proofs.Memory.{kept_by, passes_in, follows_accepted}
use Rattle.promises.specs.Promises.{blocks_of}
use Rattle.promises.specs.Alignment.{AllAligned, NewAligned, FileAligned, NewObjectsAligned, AlignedFromStart}
use Rattle.promises.proofs.Checked.{open_checked, acts, no_refusal}
use Rattle.promises.proofs.Promised.{promises}
use Rattle.promises.proofs.NewObjects.{fewer_aligned, new_allocated, new_collected, new_freed, new_reallocated, same_table, two_calls}

-- there is no object after init
init_aligned : (base : ℕ) (h : Heap) (stack : List ℕ) → Accepted (step (Init base) stack h) → AllAligned (step (Init base) stack h).heap
unfolding step
init_aligned base h stack accepted o head = absurd (omega (arith, (promises.initialised base h accepted).free o))

-- every object that a file brings is aligned
open_aligned : (h : Heap) (image : List ℕ) (room : ℕ) (stack : List ℕ) → FileAligned image → Accepted (step (OpenImage image room) stack h) → AllAligned (step (OpenImage image room) stack h).heap
unfolding step
open_aligned h image room stack file accepted =
    let o = open_passed h image room (no_refusal (open_checked h image room) accepted) in
    rw (acts (open_checked h image room) accepted) (file (no_fault image o.faultless) o.well)

new_accepted : (c : Call) (stack : List ℕ) (h : Heap) → FileIs FileAligned c → Small h.entries → Accepted (step c stack h) → NewAligned h (step c stack h).heap
unfolding step
new_accepted (Init base) stack h file small accepted = λ o head. inl (init_aligned base h stack accepted o head)
new_accepted (Allocate base bytes) stack h file small accepted = new_allocated base h bytes accepted
new_accepted (Free base k) stack h file small accepted = new_freed base h k accepted
new_accepted (Reallocate base k bytes) stack h file small accepted = new_reallocated base h k bytes accepted
new_accepted (Collect base roots) stack h file small accepted = new_collected base h roots stack small accepted
new_accepted (Survey base) stack h file small accepted = same_table h _ (ap (λ (g : Heap). g.entries) (promises.survey_leaves base h))
new_accepted (Load base k i) stack h file small accepted = same_table h _ (ap (λ (g : Heap). g.entries) (promises.load_leaves base h k i))
new_accepted (Store base k i w) stack h file small accepted = same_table h _ (promises.stored base h k i w accepted).table
new_accepted (WriteImage base roots room) stack h file small accepted = same_table h _ (ap (λ (g : Heap). g.entries) (promises.image_leaves base h roots room))
new_accepted (OpenImage image room) stack h file small accepted = λ o head. inl (open_aligned h image room stack (file image refl) accepted o head)

-- ---- lists of calls on lent memory

module _ (f : Form) (faithful : Faithful f) where
  new_performed : (c : Call) (stack : List ℕ) → FileIs FileAligned c → (m : Memory) → NewAligned (heap_in f m) (heap_in f (perform f c stack m).memory)
  new_performed c stack file m =
      kept_by (λ (n : Memory). NewAligned (heap_in f m) (heap_in f n)) f c stack m
      (λ z. subst (NewAligned (heap_in f m)) (sym (follows_accepted f faithful c stack m z).heap)
      (new_accepted c stack (heap_in f m) file (faithful.small m.table) (passes_in f c stack m z).own))
      (same_table (heap_in f m) (heap_in f m) refl)

  new_after : (ts : List Turn) → EveryFile FileAligned ts → (m : Memory) → NewAligned (heap_in f m) (heap_in f (after_in f ts m))
  unfolding after_in
  new_after [] done m = same_table (heap_in f m) (heap_in f m) refl
  new_after (t ∷ ts) (next file files) m = two_calls (heap_in f m) _ _ (new_performed t.call t.stack file m) (new_after ts files (turn_in f t m).memory)

  -- a heap in which every object is aligned stays one
  all_after : (ts : List Turn) → EveryFile FileAligned ts → (m : Memory) → AllAligned (heap_in f m) → AllAligned (heap_in f (after_in f ts m))
  all_after ts files m all o head =
      ⊎_elim (λ a. a) (λ p. fewer_aligned (blocks_of (heap_in f m) o) (blocks_of (heap_in f (after_in f ts m)) o) o p.blocks (all o p.head)) (new_after ts files m o head)

  -- after an accepted init there is none, and after an accepted opening those of the file
  all_from_start : (c : Call) (stack : List ℕ) → starts_anew c ≡ true → FileIs FileAligned c → (m : Memory) → AcceptedIn (perform f c stack m) → AllAligned (heap_in f (perform f c stack m).memory)
  all_from_start c stack anew file m z = subst AllAligned (sym (follows_accepted f faithful c stack m z).heap) (go c anew file (passes_in f c stack m z).own)
    where
      go : (c : Call) → starts_anew c ≡ true → FileIs FileAligned c → Accepted (step c stack (heap_in f m)) → AllAligned (step c stack (heap_in f m)).heap
      go (Init base) e file accepted = init_aligned base (heap_in f m) stack accepted
      go (Allocate base bytes) e file accepted = absurd (true_not_false e refl)
      go (Free base k) e file accepted = absurd (true_not_false e refl)
      go (Reallocate base k bytes) e file accepted = absurd (true_not_false e refl)
      go (Collect base roots) e file accepted = absurd (true_not_false e refl)
      go (Survey base) e file accepted = absurd (true_not_false e refl)
      go (Load base k i) e file accepted = absurd (true_not_false e refl)
      go (Store base k i w) e file accepted = absurd (true_not_false e refl)
      go (WriteImage base roots room) e file accepted = absurd (true_not_false e refl)
      go (OpenImage image room) e file accepted = open_aligned (heap_in f m) image room stack (file image refl) accepted

pub new_objects_aligned : NewObjectsAligned
new_objects_aligned f faithful ts files m = new_after f faithful ts files m

pub aligned_from_start : AlignedFromStart
unfolding after_in
aligned_from_start f faithful first ts anew (next file files) m z = all_after f faithful ts files (turn_in f first m).memory (all_from_start f faithful first.call first.stack anew file m z)
