-- `is_free`: every block passed is FREE, so a block that is not, or too few blocks, is no run, and the loop's end is one.
-- Assumes nothing.
use mathlib.Core.Path.{◌≡◌}
use Prim.Native.Nat.{ℕ, ◌+◌, ◌<◌}
use Rattle.rules.specs.Entries.{FREE}
use Rattle.rules.specs.Tables.{entry_at}
use Rattle.entries.specs.Lent.{entries_of}
use Rattle.table.proofs.is_free.Given as goal

abbrev pub invariant-loop-i : goal.invariant-loop-i
invariant-loop-i l = (j : ℕ) → j < l.i → entry_at (entries_of l.table) (l.from.0 + j) ≡ FREE
