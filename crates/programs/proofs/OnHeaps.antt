-- A program on the heap in lent memory: it gives the same reply, and leaves that heap.
-- Assumes nothing.
use mathlib.Core.Path.{◌≡◌, refl, subst}
use mathlib.Core.List.{List}
use Prim.Native.Nat.{ℕ}
use Rattle.rules.specs.Tests.{pick}
use Rattle.rules.specs.Forms.{Form}
use Rattle.laws.specs.Faithful.{Faithful}
use Rattle.rules.specs.Outcomes.{Heap, Answer, Outcome}
use Rattle.rules.specs.Runs.{Call, step}
use Rattle.rules.specs.Memory.{Memory, Result, heap_in, Sound, perform}
use Rattle.laws.proofs.Memory.{Written, kept_by, follows_sound, sound_next}
use Rattle.keeping.specs.Keeping.{but_rescans}
use Rattle.programs.specs.Programs.{collects}
use Rattle.programs.specs.Programs.{Program, give, ask, Ran, stack_after, run}

-- the reply, and the heap and the mark stack that are left
pub record RanOn (A : Type 0) : Type 0 where
  pub reply : A
  pub heap : Heap
  pub stack : List ℕ

-- a program on a heap, with a mark stack that is lent to each of its collections
unfoldable pub run_on : {A : Type 0} → Program A → List ℕ → Heap → RanOn A
run_on (give a) stack h = record { reply = a; heap = h; stack = stack }
run_on (ask c go) stack h =
    let o : Outcome = step c stack h in
    run_on (go (but_rescans o.answer)) (pick (collects c) o.stack stack) o.heap

-- equal outcomes of a call lead to equal runs
on_equal : {A : Type 0} (go : Answer → Program A) (c : Call) (stack : List ℕ) {a b : Answer} {s t : List ℕ} {h g : Heap} → a ≡ b → s ≡ t → h ≡ g
    → run_on (go (but_rescans a)) (pick (collects c) s stack) h ≡ run_on (go (but_rescans b)) (pick (collects c) t stack) g
on_equal go c stack e d k = cc

-- the same of a run on lent memory and of one on a heap. The memory is then as the form asks
abbrev pub RunsAs : {A : Type 0} → Form → Ran A → RanOn A → Type 0
RunsAs f r o = (r.reply ≡ o.reply) × (heap_in f r.memory ≡ o.heap) × (r.stack ≡ o.stack) × Sound f r.memory

-- on memory that is as the form asks a program does what it does on the heap in it
pub run_on_heap : {A : Type 0} (f : Form) → Faithful f → (p : Program A) (stack : List ℕ) (m : Memory) → Sound f m
    → RunsAs f (run f p stack m) (run_on p stack (heap_in f m))
unfolding run run_on
run_on_heap f faithful (give a) stack m s = (refl, refl, refl, s)
run_on_heap f faithful (ask c go) stack m s =
    let r : Result = perform f c stack m in
    let x = follows_sound f faithful c stack m s in
    let rest = run_on_heap f faithful (go (but_rescans r.answer)) (stack_after c r stack) r.memory (sound_next f faithful c stack m s) in
    subst (RunsAs f (run f (ask c go) stack m)) (on_equal go c stack x.answer x.stack x.heap) rest

-- and if the table is what its entries are written as, it stays so
pub run_written : {A : Type 0} (f : Form) → Faithful f → (p : Program A) (stack : List ℕ) (m : Memory) → Sound f m → Written f m → Written f (run f p stack m).memory
unfolding run
run_written f faithful (give a) stack m s w = w
run_written f faithful (ask c go) stack m s w =
    run_written f faithful (go _) _ _ (sound_next f faithful c stack m s)
    (kept_by (Written f) f c stack m (follows_sound f faithful c stack m s).written w)
