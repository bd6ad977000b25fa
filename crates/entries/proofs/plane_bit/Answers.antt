-- `plane_bit`: a byte past the end of the plane is read as 0.
-- Assumes nothing.
use mathlib.Core.Path.{◌≡◌, sym}
use mathlib.Core.List.{List}
use Prim.Native.Nat.{ℕ, ◌/◌, ◌%◌, ◌≤◌}
use lib.ListN.{length, get_or-eq_default}
use Rattle.rules.specs.Bits.{bit_at}
use Rattle.laws.proofs.Bits.{bit_of_zero}
use Rattle.entries.proofs.plane_bit.Goals as goal

past : (bs : List ℕ) (i : ℕ) → length bs ≤ i / 8 → 0 ≡ bit_at bs i
unfolding bit_at
past bs i l = rw (get_or-eq_default bs 0 l) (sym (bit_of_zero (i % 8)))

pub returns-in-Some : goal.returns-in-Some
unfolding bit_at
returns-in-Some c = rw (c.in-Some.ensures.lookup.3.1 0) at c.bit.ensures

pub returns-in-None : goal.returns-in-None
returns-in-None c = past _ _ c.in-None.ensures.lookup.3
