-- Each call of the heap does what the plain list does: heap and list answer alike and write the same, and the one still represents the other.
-- An accepted init makes the heap represent the empty list, an accepted opening the file's.
-- Assumes nothing.
use mathlib.Core.Path.{◌≡◌, refl, sym, ap, ◌∙◌}
use mathlib.Core.Bool.{true}
use mathlib.Core.List.{List, []}
use Prim.Native.Nat.{ℕ, ◌*◌}
use lib.ListN.{length, replicate, length-replicate}
use Rattle.rules.specs.Entries.{FREE}
use Rattle.rules.specs.Outcomes.{Heap}
use Rattle.rules.specs.Refusals.{good_shape}
use Rattle.rules.specs.Calls.{init}
use Rattle.rules.specs.Runs.{Call, Init, Allocate, Free, Reallocate, Collect, Survey, Load, Store, WriteImage, OpenImage, step}
use Rattle.laws.proofs.Refusals.{shape_true}
use Rattle.plain.specs.Objects.{Plain}
use Rattle.plain.specs.Replies.{reply}
use Rattle.simulation.proofs.Inits.{shape_base, init_accepted, Anew, inits, opened}
use Rattle.simulation.proofs.Agrees.{Represents, Agrees}
use Rattle.simulation.proofs.Acts.{empty_laid, init_agrees, survey_agrees, load_agrees, store_agrees}
use Rattle.simulation.proofs.Places.{free_agrees, allocate_agrees}
use Rattle.simulation.proofs.Resizes.{reallocate_agrees}
use Rattle.simulation.proofs.Sweeps.{collect_agrees}
use Rattle.simulation.proofs.Images.{image_agrees}
use Rattle.simulation.proofs.Opens.{open_agrees, first_open}

-- each call
pub step_agrees : (c : Call) (stack : List ℕ) {p : Plain} {h : Heap} → Represents p h → Agrees (reply c stack p) (step c stack h)
unfolding step
step_agrees (Init base) stack r = init_agrees r base stack
step_agrees (Allocate base bytes) stack r = allocate_agrees r base bytes stack
step_agrees (Free base k) stack r = free_agrees r base k stack
step_agrees (Reallocate base k bytes) stack r = reallocate_agrees r base k bytes stack
step_agrees (Collect base roots) stack r = collect_agrees r base roots stack
step_agrees (Survey base) stack r = survey_agrees r base stack
step_agrees (Load base k i) stack r = load_agrees r base k i stack
step_agrees (Store base k i w) stack r = store_agrees r base k i w stack
step_agrees (WriteImage base roots room) stack r = image_agrees r base roots room stack
step_agrees (OpenImage image room) stack r = open_agrees image room r stack

-- an init of a good shape, whatever was there before
first_init : (base : ℕ) (h : Heap) (p : Plain) → good_shape base h ≡ true → p.size ≡ length h.entries → Agrees (reply (Init base) [] p) (init base h)
unfolding reply
first_init base h p good same =
    let s = shape_true base h good in
    let l : length (replicate (length h.entries) FREE) ≡ length h.entries = length-replicate (length h.entries) FREE in
    rw (init_accepted base h good, shape_base s same)
    (record {
      answer = refl;
      heap = record { size = same ∙ sym l; some = rw l s.some; few = rw l s.few; pool = s.pool ∙ ap (λ (n : ℕ). 16 * n) (sym l); laid = empty_laid h.pool (length h.entries) };
      filled = λ _. refl;
    })

-- an accepted call that starts anew, whatever was there before
pub first_agrees : {c : Call} {h : Heap} (p : Plain) → Anew h c → p.size ≡ length h.entries → Agrees (reply c [] p) (step c [] h)
unfolding step
first_agrees {h = h} p (inits base good) same = first_init base h p good same
first_agrees {h = h} p (opened image room o) same = first_open image room h p o same
