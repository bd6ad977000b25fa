-- `longest`: the table is read a word at a time as far as its last whole word, and the blocks that are left end the last run.
-- Assumes nothing.
use Prim.Native.Nat.{◌*◌, ◌≤◌}
use Rattle.entries.specs.Lent.{entries_of}
use Rattle.freeruns.specs.Scans.{Scanned}
use Rattle.freeruns.proofs.longest.Given as goal

abbrev pub invariant-loop-i : goal.invariant-loop-i
invariant-loop-i l = (l.i ≤ 128) × Scanned (entries_of l.table) (32 * l.i) l.read.longest l.read.ending
