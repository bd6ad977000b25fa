-- `clear_part`: the part that was lent comes back all zero, and is put in its place.
-- Assumes nothing.
use mathlib.Core.Path.{◌≡◌}
use mathlib.Core.List.{List}
use Prim.Native.Nat.{ℕ, ◌+◌, ◌-◌, ◌≤◌}
use native.Mathlib.Omega.{arith}
use lib.ListN.{length, replicate, length-replicate}
use lib.Seq.{sets}
use borrow.Rule.Slice.PartMut.{mid_of, put_mid}
use Rattle.memory.proofs.Parts.{part_length, part_back}
use Rattle.memory.proofs.clear_part.Goals as goal

-- the part from a on of n bytes, all zero
cleared : (pool part : List ℕ) (a n : ℕ) → a + n ≤ length pool → part ≡ replicate (length (mid_of a n pool)) 0 → put_mid a n pool part ≡ sets pool a (replicate n 0)
cleared pool part a n room zero =
    let filled : part ≡ replicate n 0 = rw (part_length pool a n room) at zero in
    rw filled (part_back pool a n room (replicate n 0) (length-replicate n 0))

pub returns : goal.returns
returns c =
    let from = c.index in
    let to = c.index-2 in
    rw (← from.ensures, ← to.ensures) (cleared _ _ from.result (to.result - from.result) (omega arith) c.clear.ensures)
