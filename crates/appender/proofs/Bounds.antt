-- Numbers of a new entry fit where the code has them: its address is of 32 bits, and so is the sum of two changes.
-- Assumes nothing.
use mathlib.Core.Path.{◌≡◌, sym, ap, ◌∙◌}
use mathlib.Core.Bool.{Bool, true, false, cond}
use mathlib.Core.List.{List, []}
use Prim.Native.Nat.{ℕ, suc, ◌-◌, ◌^◌, ◌≤◌, ◌<◌}
use native.Mathlib.Omega.{arith}
use lib.Dec.{ltb}
use lib.IntN.{ℤ, pos, negsuc, sub_ℕ, ◌+ℤ◌, nat_abs}
use lib.ListN.{length}
use mir.Syntax.{w32}
use mir.Val.{SFits, to_z, of_z}
use mir.ValLaws.{to_z-of_z}
use Rattle.rules.specs.Pointers.{address_of}
use Rattle.rules.specs.Outcomes.{Heap}
use Rattle.laws.specs.Meaning.{Accepted}
use Rattle.rules.specs.Calls.{blocks_for, allocate}
use Rattle.rules.specs.Runs.{Call, Allocate, Collect, step}
use Rattle.rules.specs.Planes.{planes}
use Rattle.rules.specs.Forms.{Form}
use Rattle.rules.specs.Memory.{Memory, heap_in, done_in, Result, AcceptedIn, stack_for, perform}
use Rattle.laws.proofs.Planes.{planes_faithful}
use Rattle.laws.proofs.Tables.{entry_inside}
use Rattle.laws.proofs.Sizes.{step_keeps}
use Rattle.laws.proofs.Memory.{Performed, acted, left, performed}
use Rattle.promises.specs.Promises.{Allocated}
use Rattle.promises.proofs.Promised.{promises}
use Rattle.promises.proofs.Bytes.{on_bytes}

-- ---- changes

difference_fits : (a b : ℕ) → a ≤ 4096 → b ≤ 4097 → SFits w32 (sub_ℕ a b)
difference_fits a b ha hb = go (ltb a b)
  where
    go : (l : Bool) → SFits w32 (cond l (negsuc (b - suc a)) (pos (a - b)))
    go true = record { sfits = omega arith }
    go false = record { sfits = omega arith }

sum_fits : (a b : ℤ) → nat_abs a ≤ 4096 → nat_abs b ≤ 4096 → SFits w32 (a +ℤ b)
sum_fits (pos a) (pos b) ha hb = record { sfits = omega arith }
sum_fits (pos a) (negsuc b) ha hb = difference_fits a (suc b) ha (omega arith)
sum_fits (negsuc a) (pos b) ha hb = difference_fits b (suc a) hb (omega arith)
sum_fits (negsuc a) (negsuc b) ha hb = record { sfits = omega arith }

-- a small change as the code has it
pub read_back : (a : ℤ) → nat_abs a ≤ 4096 → to_z w32 (of_z w32 a) ≡ a
read_back (pos a) h = to_z-of_z w32 (pos a) (record { sfits = omega arith })
read_back (negsuc a) h = to_z-of_z w32 (negsuc a) (record { sfits = omega arith })

-- the sum of two fits, and is the sum
module _ (a b : ℤ) (ha : nat_abs a ≤ 4096) (hb : nat_abs b ≤ 4096) where
  pub changes_fit : SFits w32 (to_z w32 (of_z w32 a) +ℤ to_z w32 (of_z w32 b))
  changes_fit = rw (read_back a ha, read_back b hb) (sum_fits a b ha hb)

  pub changes_sum : to_z w32 (of_z w32 (to_z w32 (of_z w32 a) +ℤ to_z w32 (of_z w32 b))) ≡ a +ℤ b
  changes_sum = to_z-of_z w32 _ changes_fit ∙ rw (read_back a ha, read_back b hb)

-- the change that a call answers is small, if an accepted one's is
small_change : (f : Form) (c : Call) (stack : List ℕ) (m : Memory) → (AcceptedIn (perform f c stack m) → nat_abs (step c stack (heap_in f m)).answer.change ≤ 4096)
    → nat_abs (perform f c stack m).answer.change ≤ 4096
small_change f c stack m small = go (performed f c stack m)
  where
    go : Performed m (stack_for c stack) (perform f c stack m) → nat_abs (perform f c stack m).answer.change ≤ 4096
    go (acted z) = rw (on_bytes.accepted_bytes f c stack m z).1 (small z)
    go (left r e) = rw e (omega arith)

pub allocate_change : (t base bytes : ℕ) (m : Memory) {x : Result} → x ≡ perform (planes t) (Allocate base bytes) [] m → nat_abs x.answer.change ≤ 4096
unfolding step
allocate_change t base bytes m e =
    rw e
    (small_change (planes t) (Allocate base bytes) [] m (λ z. (promises.allocated base (heap_in (planes t) m) bytes (on_bytes.accepted_bytes (planes t) (Allocate base bytes) [] m z).0).counts.range))

pub collect_change : (t base : ℕ) (roots stack : List ℕ) (m : Memory) {x : Result} → x ≡ perform (planes t) (Collect base roots) stack m → {d : ℤ} → d ≡ x.answer.change → nat_abs d ≤ 4096
unfolding step
collect_change t base roots stack m e q =
    rw (q, e)
    (small_change (planes t) (Collect base roots) stack m
    (λ z. (promises.reclaimed (planes t) (planes_faithful t) base m roots stack (on_bytes.accepted_bytes (planes t) (Collect base roots) stack m z).0).counts.range))

-- ---- addresses

-- what an address of 32 bits says of base and block
pub below_address : (base k : ℕ) → address_of base k < 2 ^ 32 → (base ≤ 2 ^ 32) × (k < 2 ^ 32)
unfolding address_of
below_address base k l = (omega (arith, l), omega (arith, l))

-- that of a new object
allocate_address : (t base bytes : ℕ) (m : Memory) {x : Result} → x ≡ perform (planes t) (Allocate base bytes) [] m → x.answer.refusal ≡ 0 → 0 < blocks_for bytes
    → address_of base x.answer.block < 2 ^ 32
unfolding step address_of
allocate_address t base bytes m {x = x} e z more = rw block (omega (arith, inside, g.good.shape.below, long))
  where
    h : Heap
    h = heap_in (planes t) m

    a : Accepted (allocate base h bytes) × (perform (planes t) (Allocate base bytes) [] m ≡ done_in (planes t) (Allocate base bytes) [] m)
    a = on_bytes.accepted_bytes (planes t) (Allocate base bytes) [] m (sym (ap (λ (y : Result). y.answer.refusal) e) ∙ z)

    g : Allocated base h (blocks_for bytes) (allocate base h bytes)
    g = promises.allocated base h bytes a.0

    block : x.answer.block ≡ (allocate base h bytes).answer.block
    block = ap (λ (y : Result). y.answer.block) (e ∙ a.1)

    inside : (allocate base h bytes).answer.block < length (allocate base h bytes).heap.entries
    inside = entry_inside (allocate base h bytes).heap.entries _ (λ q. omega (arith, g.head, q))

    long : length (allocate base h bytes).heap.entries ≡ length h.entries
    long = (step_keeps (Allocate base bytes) [] h).entries.long

-- so that of a new entry
pub entry_address : (t base : ℕ) (m : Memory) {x : Result} → x ≡ perform (planes t) (Allocate base 32) [] m → x.answer.refusal ≡ 0 → address_of base x.answer.block < 2 ^ 32
unfolding blocks_for
entry_address t base m e z = allocate_address t base 32 m e z (omega arith)
