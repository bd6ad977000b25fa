-- `pack`: what is left of the packed table, stored from where the loop stands, gives what all of it would.
-- Assumes nothing.
use mathlib.Core.Path.{◌≡◌}
use Prim.Native.Nat.{◌+◌, ◌*◌}
use lib.ListN.{drop}
use lib.Seq.{sets}
use Rattle.rules.specs.Entries.{table_of}
use Rattle.entries.specs.Lent.{entries_of as lent_entries}
use Rattle.packing.proofs.pack.Given as goal

abbrev pub invariant-loop-i : goal.invariant-loop-i
invariant-loop-i l = let packed = table_of (lent_entries l.table) in sets l.buffer (l.at + 2 * l.i) (drop (2 * l.i) packed) ≡ sets l.initial.buffer l.at packed
