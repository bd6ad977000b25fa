-- `block_count`: every block passed after the head is a TAIL, so the first that is none, or the table's end, ends the object.
-- Assumes nothing.
use mathlib.Core.Path.{◌≡◌}
use Prim.Native.Nat.{ℕ, ◌+◌, ◌<◌}
use Rattle.rules.specs.Entries.{TAIL}
use Rattle.rules.specs.Tables.{entry_at}
use Rattle.entries.specs.Lent.{entries_of}
use Rattle.table.proofs.block_count.Given as goal

abbrev pub invariant-loop-at : goal.invariant-loop-at
invariant-loop-at l = (j : ℕ) → l.first + j < l.at → 0 < j → entry_at (entries_of l.table) (l.first + j) ≡ TAIL
