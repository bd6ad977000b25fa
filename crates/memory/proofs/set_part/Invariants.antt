-- `set_part`: what is left of the part, stored from where the loop stands, gives what all of it would.
-- Assumes nothing.
use mathlib.Core.Path.{◌≡◌}
use Prim.Native.Nat.{◌+◌}
use lib.ListN.{drop}
use lib.Seq.{sets}
use Rattle.memory.proofs.set_part.Given as goal

abbrev pub invariant-loop-i : goal.invariant-loop-i
invariant-loop-i l = sets l.bytes (l.at + l.i) (drop l.i l.part) ≡ sets l.initial.bytes l.at l.part
