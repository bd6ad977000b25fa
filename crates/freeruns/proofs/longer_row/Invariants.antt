-- `longer_row`: as long as a row of one bit more starts somewhere, the whole row there is the next length.
-- Assumes nothing.
use mathlib.Core.Path.{◌≡◌}
use mathlib.Core.Logic.{◌⊎◌}
use Prim.Native.Nat.{ℕ, ◌-◌, ◌≤◌}
use Rattle.freeruns.specs.Rows.{Row}
use Rattle.freeruns.proofs.longer_row.Given as goal

abbrev pub invariant-loop-best : goal.invariant-loop-best
invariant-loop-best l = (l.n ≤ l.best) × ((l.best ≡ l.n) ⊎ ((j : ℕ) × Row l.bits l.best j))

abbrev pub decreases-loop-best : goal.decreases-loop-best
decreases-loop-best l = 32 - l.best
