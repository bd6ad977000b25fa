-- An init of lent memory: it is accepted exactly if the shape is good and the table's length is one of its form. And what an accepted call that starts anew has passed.
-- Assumes nothing.
use mathlib.Core.Path.{◌≡◌, refl}
use mathlib.Core.Logic.{◌↔◌}
use mathlib.Core.Bool.{true}
use mathlib.Core.List.{List, []}
use Prim.Native.Nat.{ℕ, ◌*◌, ◌≤◌}
use native.Mathlib.Omega.{arith}
use lib.ListN.{length, replicate}
use borrow.Author.Tests.{eqb-true, eq-eqb, le-leb}
use Rattle.rules.specs.Entries.{FREE}
use Rattle.rules.specs.Pointers.{address_of, good_base}
use Rattle.rules.specs.Forms.{Form}
use Rattle.rules.specs.Planes.{plane_bytes, planes}
use Rattle.rules.specs.Outcomes.{Heap, only_refusal, leaves}
use Rattle.rules.specs.Refusals.{good_shape, bad_shape}
use Rattle.rules.specs.Calls.{init, open_image}
use Rattle.rules.specs.Runs.{Call, Init, Allocate, Free, Reallocate, Collect, Survey, Load, Store, WriteImage, OpenImage, starts_anew, step}
use Rattle.rules.specs.Memory.{Memory, heap_in, lengths_fit, AcceptedIn, perform}
use Rattle.laws.specs.Meaning.{Shape, Accepted}
use Rattle.laws.proofs.Refusals.{true_not_false, shape_true, first_last, first_none, accepts, accepted_none, not-false}
use Rattle.laws.proofs.Opening.{Opens, open_passed}
use Rattle.laws.proofs.Memory.{perform_accepted, passes_in}

-- the base of a good shape suits as many blocks
pub shape_base : {base : ℕ} {h : Heap} {n : ℕ} → Shape base h → n ≡ length h.entries → good_base base n ≡ true
unfolding good_base address_of
shape_base s e = rw (e, eq-eqb _ _ s.aligned, le-leb _ _ s.above, le-leb _ _ s.below)

-- ---- the init of a heap

-- it is accepted if the shape is good
pub init_accepted : (base : ℕ) (h : Heap) → good_shape base h ≡ true
    → init base h ≡ leaves (only_refusal 0) (record { pool = h.pool; entries = replicate (length h.entries) FREE })
unfolding init
init_accepted base h good = accepts h [] _ (first_last (bad_shape (good_shape base h)) (rw good))

-- and else not
pub init_shape : (base : ℕ) (h : Heap) → Accepted (init base h) → good_shape base h ≡ true
unfolding init
init_shape base h z = not-false (good_shape base h) (first_none (bad_shape (good_shape base h)) [] (omega arith) (accepted_none _ h [] _ z)).0

-- ---- the init of lent memory

-- if it is accepted, the shape is good
shape_in : (f : Form) (base : ℕ) (m : Memory) → AcceptedIn (perform f (Init base) [] m) → good_shape base (heap_in f m) ≡ true
unfolding step
shape_in f base m z = init_shape base (heap_in f m) (passes_in f (Init base) [] m z).own

-- it is accepted exactly if the shape is good and the form has the table's length: an init does not test what the table held
pub init_exactly : (f : Form) (base : ℕ) (m : Memory) → AcceptedIn (perform f (Init base) [] m) ↔ ((good_shape base (heap_in f m) ≡ true) × (lengths_fit f m ≡ true))
unfolding step
init_exactly f base m = (
  λ z. (shape_in f base m z, (passes_in f (Init base) [] m z).fits),
  λ t. let e = init_accepted base (heap_in f m) t.0 in
      rw (perform_accepted f (Init base) [] m t.1 refl (rw e refl)) (rw e refl),
)

-- so of two planes exactly if the shape is good and the table has the bytes of both
pub init_planes : (base t : ℕ) (m : Memory)
    → AcceptedIn (perform (planes t) (Init base) [] m) ↔ ((good_shape base (heap_in (planes t) m) ≡ true) × (length m.table ≡ 2 * plane_bytes t))
init_planes base t m =
    let e = init_exactly (planes t) base m in (
      λ z. let g = e.0 z in (g.0, eqb-true (length m.table) (2 * plane_bytes t) g.1),
      λ g. e.1 (g.0, eq-eqb (length m.table) (2 * plane_bytes t) g.1),
    )

-- ---- a call that starts anew

-- what it has passed once it is accepted
pub data Anew (h : Heap) : Call → Type 0 where
  inits : (base : ℕ) → good_shape base h ≡ true → Anew h (Init base)
  opened : (image : List ℕ) (room : ℕ) → Opens h image room → Anew h (OpenImage image room)

pub anew : (c : Call) (stack : List ℕ) (h : Heap) → starts_anew c ≡ true → Accepted (step c stack h) → Anew h c
unfolding step open_image
anew (Init base) stack h e z = inits base (init_shape base h z)
anew (Allocate base bytes) stack h e z = absurd (true_not_false e refl)
anew (Free base k) stack h e z = absurd (true_not_false e refl)
anew (Reallocate base k bytes) stack h e z = absurd (true_not_false e refl)
anew (Collect base roots) stack h e z = absurd (true_not_false e refl)
anew (Survey base) stack h e z = absurd (true_not_false e refl)
anew (Load base k i) stack h e z = absurd (true_not_false e refl)
anew (Store base k i w) stack h e z = absurd (true_not_false e refl)
anew (WriteImage base roots room) stack h e z = absurd (true_not_false e refl)
anew (OpenImage image room) stack h e z = opened image room (open_passed h image room (accepted_none _ h [] _ z))

-- so from 1 to 4,096 blocks were lent to it
pub anew_few : {h : Heap} {c : Call} → Anew h c → (1 ≤ length h.entries) × (length h.entries ≤ 4096)
anew_few {h} (inits base good) = let s = shape_true base h good in (s.some, s.few)
anew_few (opened image room o) = (o.shape.some, o.shape.few)
