-- `row_starts`: the two numbers have the starts of rows of `length`, and a shifted copy of both makes the rows longer by the shift.
-- Assumes nothing.
use Prim.Native.Nat.{◌+◌, ◌-◌, ◌*◌, ◌^◌, ◌≤◌, ◌<◌}
use Rattle.freeruns.proofs.Rows.{Begins}
use Rattle.freeruns.proofs.row_starts.Given as goal

abbrev pub invariant-loop-length : goal.invariant-loop-length
invariant-loop-length l =
    (0 < l.length) × ((l.length ≤ l.count) × ((l.starts < 2 ^ 32) × Begins (l.bits + 2 ^ 32 * l.next) l.length (l.starts + 2 ^ 32 * l.after)))

abbrev pub decreases-loop-length : goal.decreases-loop-length
decreases-loop-length l = l.count - l.length
