-- `set_run`: after each turn the blocks of the run in the bytes before i have the entry e, and all others are as before.
-- Assumes nothing.
use mathlib.Core.Path.{◌≡◌}
use mathlib.Core.List.{List}
use Prim.Native.Nat.{ℕ, ◌+◌, ◌-◌, ◌*◌, ◌≤◌, ◌<◌, min}
use lib.ListN.{length}
use Rattle.rules.specs.Planes.{plane_bytes, entry_in}
use Rattle.entries.specs.Numbers.{number_of}
use Rattle.entries.proofs.set_run.Given as goal

-- the entries of the blocks from `first` to before `to` are e, and all others those of the table at the start
pub record Filled (t : ℕ) (start : List ℕ) (e first to : ℕ) (table : List ℕ) : Type 0 where
  pub long : length table ≡ length start
  pub new : (k : ℕ) → first ≤ k → k < to → k < 8 * plane_bytes t → entry_in t table k ≡ e
  pub old : (k : ℕ) → (first ≤ k → k < to → ⊥) → k < 8 * plane_bytes t → entry_in t table k ≡ entry_in t start k

abbrev pub invariant-loop-i : goal.invariant-loop-i
invariant-loop-i l = record {
  begun : l.first < 8 * l.i + 8;
  not_past : 8 * l.i < l.end + 8;
  filled : Filled l.t l.initial.table (number_of l.e) l.first (min l.end (8 * l.i)) l.table;
}

abbrev pub decreases-loop-i : goal.decreases-loop-i
decreases-loop-i l = l.end - 8 * l.i
