-- The change in used blocks, and a shape that stays good: what every call shares.
-- Assumes nothing.
use mathlib.Core.Path.{◌≡◌, sym}
use Prim.Native.Nat.{ℕ, ◌≤◌, ◌<◌}
use native.Mathlib.Decide.{dec_lt}
use native.Mathlib.Omega.{arith}
use lib.IntN.{sub_ℕ, nat_abs}
use lib.ListN.{length}
use borrow.Author.Tests.{lt-ltb, le-ltb}
use Rattle.rules.specs.Tables.{used}
use Rattle.rules.specs.Outcomes.{Heap, Outcome, change_from}
use Rattle.laws.specs.Meaning.{Shape}
use Rattle.laws.proofs.Tables.{used_le}
use Rattle.laws.proofs.Calls.{sub_add}
use Rattle.promises.specs.Promises.{Counts}

sub_range : (a b m : ℕ) → a ≤ m → b ≤ m → nat_abs (sub_ℕ a b) ≤ m
sub_range a b m p q = go (dec_lt a b)
  where
    go : Dec (a < b) → nat_abs (sub_ℕ a b) ≤ m
    go (yes l) = rw (lt-ltb a b l) (omega arith)
    go (no l) = rw (le-ltb a b (omega arith)) (omega arith)

-- an answer that gives the change between two tables of one shape
pub counts_of : (base : ℕ) (h : Heap) (r : Outcome) → Shape base h → length r.heap.entries ≡ length h.entries
    → r.answer.change ≡ change_from h.entries r.heap.entries → Counts h r
unfolding change_from
counts_of base h r s same e = record {
  sum = rw e (sym (sub_add (used r.heap.entries) (used h.entries)));
  range =
      rw e
      (sub_range (used r.heap.entries) (used h.entries) 4096
      (omega (arith, used_le r.heap.entries, s.few))
      (omega (arith, used_le h.entries, s.few)));
}

-- lengths that do not change leave the shape good
pub shape_kept : (base : ℕ) (h h' : Heap) → length h'.pool ≡ length h.pool → length h'.entries ≡ length h.entries → Shape base h → Shape base h'
shape_kept base h h' p e s = record {
  some = rw e s.some;
  few = rw e s.few;
  pool = rw (p, e) s.pool;
  aligned = s.aligned;
  above = s.above;
  below = rw e s.below;
}
