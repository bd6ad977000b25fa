-- `well_formed`: what is found in a byte, by whether the entry before it is used, is a test over all bytes, which antt computes.
-- Assumes nothing.
use mathlib.Core.Path.{◌≡◌}
use mathlib.Core.List.{List}
use Prim.Native.Nat.{ℕ, ◌<◌}
use lib.Dec.{eqb}
use Rattle.rules.specs.Tests.{both}
use Rattle.rules.specs.Entries.{entries_of}
use Rattle.rules.specs.Tables.{well_after, well_formed}
use Rattle.packing.proofs.Fours.{left}
use Rattle.packing.proofs.well_formed.Given as goal

-- all entries are well-formed exactly if nothing is found before byte i, and those that are left may stand there
pub record Found (packed : List ℕ) (i bad before : ℕ) : Type 0 where
  pub all : both (eqb bad 0) (well_after before (left packed i)) ≡ well_formed (entries_of packed)
  pub small : before < 2

abbrev pub invariant-loop-b : goal.invariant-loop-b
invariant-loop-b l = Found l.packed l.b-index l.bad l.before
