-- Each call answers the change that it makes, a refused one none; and after one that starts the sum anew the blocks of its file are used, or none.
-- Assumes nothing.
use mathlib.Core.Path.{◌≡◌, refl, sym, ap, ◌∙◌}
use mathlib.Core.Bool.{Bool, true, false}
use mathlib.Core.List.{List, []}
use Prim.Native.Nat.{ℕ, zero, suc}
use lib.IntN.{ℤ, pos, ◌+ℤ◌, +ℤ_idr}
use lib.ListN.{length, replicate}
use Rattle.rules.specs.Tables.{used, is_used}
use Rattle.rules.specs.Entries.{FREE}
use Rattle.rules.specs.Forms.{Form}
use Rattle.laws.specs.Faithful.{Faithful}
use Rattle.rules.specs.Outcomes.{Heap, Outcome, change_from, unless_refused}
use Rattle.rules.specs.Calls.{Way, stay, shrink, grow, move, no_way, placing, allocate, free, along, reallocate, collecting, collect, survey, load, store, write_image, open_image}
use Rattle.rules.specs.Runs.{Call, Init, Allocate, Free, Reallocate, Collect, Survey, Load, Store, WriteImage, OpenImage, starts_anew, step}
use Rattle.rules.specs.Memory.{Memory, heap_in, AcceptedIn, stack_for, perform}
use Rattle.laws.proofs.Lists.{count_none}
use Rattle.laws.proofs.Calls.{sub_add}
use Rattle.laws.proofs.Refusals.{true_not_false, accepts}
use Rattle.laws.proofs.Opening.{open_passes}
use Rattle.laws.proofs.Memory.{Ended, accepted, refused, step_ended, Follows, passes_in, follows_accepted}
use Rattle.simulation.proofs.Inits.{init_accepted, Anew, inits, opened, anew}
use Rattle.services.specs.Services.{HeapCall}
use Rattle.refinement.specs.AsList.{used_first}
use Rattle.refinement.proofs.Counted.{counted, counted_refused, counted_change, counted_anew}

-- the sum d is the used blocks
abbrev pub Sums : Heap → ℤ → Type 0
Sums h d = d ≡ pos (used h.entries)

-- an outcome answers the change that it makes
record Accounted (h : Heap) (o : Outcome) : Type 0 where
  sums : (d : ℤ) → Sums h d → Sums o.heap (d +ℤ o.answer.change)

accounted_same : (h : Heap) (o : Outcome) → o.heap.entries ≡ h.entries → o.answer.change ≡ pos 0 → Accounted h o
accounted_same h o e c = record { sums = λ d s. rw (c, e) (+ℤ_idr d ∙ s) }

accounted_change : (h : Heap) (o : Outcome) → o.answer.change ≡ change_from h.entries o.heap.entries → Accounted h o
unfolding change_from
accounted_change h o c = record { sums = λ d s. rw (c, s) (sub_add (used o.heap.entries) (used h.entries)) }

accounted_refused : (r : ℕ) (h : Heap) (stack : List ℕ) (acted : Outcome) → Accounted h acted → Accounted h (unless_refused r h stack acted)
unfolding unless_refused
accounted_refused zero h stack acted p = p
accounted_refused (suc r) h stack acted p = accounted_same h (unless_refused (suc r) h stack acted) refl refl

accounted_along : (w : Way) (h : Heap) (k b c : ℕ) → Accounted h (along w h k b c)
unfolding along placing
accounted_along stay h k b c = accounted_change h (along stay h k b c) refl
accounted_along shrink h k b c = accounted_change h (along shrink h k b c) refl
accounted_along grow h k b c = accounted_change h (along grow h k b c) refl
accounted_along (move s) h k b c = accounted_change h (along (move s) h k b c) refl
accounted_along no_way h k b c = accounted_same h (along no_way h k b c) refl refl

none_used : (n : ℕ) → used (replicate n FREE) ≡ 0
unfolding used
none_used n = count_none is_used n FREE refl

-- a call that does not start the sum anew answers the change that it makes
step_accounted : (c : Call) (stack : List ℕ) (h : Heap) → starts_anew c ≡ false → Accounted h (step c stack h)
unfolding step allocate free reallocate collect survey load store write_image placing collecting
step_accounted (Init base) stack h e = absurd (true_not_false refl e)
step_accounted (Allocate base bytes) stack h e = accounted_refused _ h [] _ (accounted_change h _ refl)
step_accounted (Free base k) stack h e = accounted_refused _ h [] _ (accounted_change h _ refl)
step_accounted (Reallocate base k bytes) stack h e = accounted_refused _ h [] _ (accounted_along _ h k _ _)
step_accounted (Collect base roots) stack h e = accounted_refused _ h stack _ (accounted_change h _ refl)
step_accounted (Survey base) stack h e = accounted_refused _ h [] _ (accounted_same h _ refl refl)
step_accounted (Load base k i) stack h e = accounted_refused _ h [] _ (accounted_same h _ refl refl)
step_accounted (Store base k i w) stack h e = accounted_refused _ h [] _ (accounted_same h _ refl refl)
step_accounted (WriteImage base roots room) stack h e = accounted_refused _ h [] _ (accounted_same h _ refl refl)
step_accounted (OpenImage image room) stack h e = absurd (true_not_false refl e)

-- after an accepted call that starts it anew no block is used, or those of the file
step_anew : {c : Call} (stack : List ℕ) (h : Heap) → Anew h c → used_first (HeapCall c) ≡ used (step c stack h).heap.entries
unfolding step open_image
step_anew stack h (inits base good) = rw (init_accepted base h good) (sym (none_used (length h.entries)))
step_anew stack h (opened image room o) = rw (accepts h [] _ (open_passes h image room o))

-- each call
step_sums : (c : Call) (stack : List ℕ) (h : Heap) (d : ℤ) → Sums h d → Sums (step c stack h).heap (counted c (step c stack h).answer d)
step_sums c stack h d s = go (starts_anew c) refl (step_ended c stack h)
  where
    go : (b : Bool) → starts_anew c ≡ b → Ended h (stack_for c stack) (step c stack h) → Sums (step c stack h).heap (counted c (step c stack h).answer d)
    go false e x = counted_change c d (step c stack h).answer e ∙ (step_accounted c stack h e).sums d s
    go true e (accepted z) = counted_anew c d (step c stack h).answer e z ∙ ap pos (step_anew stack h (anew c stack h e z))
    go true e (refused r q) = rw q (counted_refused c d r ∙ s)

-- ---- on lent memory

module _ (f : Form) (faithful : Faithful f) where
  -- a call that does what the call on the heap does answers its change too
  pub follows_sums : (c : Call) (stack : List ℕ) (m : Memory) (d : ℤ) → Follows f (perform f c stack m) (step c stack (heap_in f m)) → Sums (heap_in f m) d
      → Sums (heap_in f (perform f c stack m).memory) (counted c (perform f c stack m).answer d)
  follows_sums c stack m d x s = rw (ap (λ (h : Heap). h.entries) x.heap, x.answer) (step_sums c stack (heap_in f m) d s)

  -- an accepted call that starts the sum anew, whatever was counted before
  pub anew_sums : (c : Call) (stack : List ℕ) (m : Memory) (d : ℤ) → starts_anew c ≡ true → AcceptedIn (perform f c stack m)
      → Sums (heap_in f (perform f c stack m).memory) (counted c (perform f c stack m).answer d)
  anew_sums c stack m d e z =
      let x = follows_accepted f faithful c stack m z in
      let own = (passes_in f c stack m z).own in
      rw (ap (λ (h : Heap). h.entries) x.heap, x.answer) (counted_anew c d (step c stack (heap_in f m)).answer e own ∙ ap pos (step_anew stack (heap_in f m) (anew c stack (heap_in f m) e own)))
