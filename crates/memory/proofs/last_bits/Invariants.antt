-- `last_bits`: each turn puts a byte below those that are read already.
-- Assumes nothing.
use mathlib.Core.List.{List}
use Prim.Native.Nat.{ℕ, ◌-◌, ◌*◌, ◌^◌, ◌≤◌, ◌<◌}
use Rattle.memory.specs.Bits.{BitsFrom}
use Rattle.memory.proofs.last_bits.Given as goal

-- the bytes from i on are read
pub record Read (bytes : List ℕ) (from to i bits : ℕ) : Type 0 where
  pub some : from ≤ i
  pub small : bits < 2 ^ (8 * (to - i))
  pub has : BitsFrom bytes i (to - i) bits

abbrev pub invariant-loop-i : goal.invariant-loop-i
invariant-loop-i g l = Read l.bytes l.from l.to l.i (g.W.FromBytes.value l.bits)
