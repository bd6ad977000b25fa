-- `set_bytes`: what is left of the bytes, stored from where the loop stands, gives what all of them would.
-- Assumes nothing.
use mathlib.Core.Path.{◌≡◌}
use lib.ListN.{drop}
use lib.Seq.{sets}
use Rattle.memory.proofs.set_bytes.Given as goal

abbrev pub invariant-loop-i : goal.invariant-loop-i
invariant-loop-i g l = sets l.part l.i (drop l.i l.these) ≡ sets l.initial.part 0 l.these
