-- `bits_from`: all bits of the byte, or those from a place in it on.
-- Assumes nothing.
use mathlib.Core.Path.{◌≡◌, refl}
use mathlib.Core.Bool.{Bool, true, false}
use Prim.Native.Nat.{ℕ, ◌+◌, ◌-◌, ◌*◌, ◌%◌, ◌^◌, ◌<◌}
use native.Mathlib.Omega.{arith}
use lib.Dec.{leb}
use borrow.Author.Rules.{rules}
use borrow.Author.Tests.{leb-true, leb-false, le-leb, lt-leb}
use Rattle.rules.specs.Tests.{pick}
use Rattle.rules.specs.Bits.{bit_of}
use Rattle.laws.proofs.Widths.{in_32_bits}
use Rattle.entries.proofs.Masks.{upper_bits}
use Rattle.entries.proofs.bits_from.Goals as goal

-- places of the byte at `first` are compared as blocks are
moved : (first from j : ℕ) → leb (from - first) j ≡ leb from (first + j)
moved first from j = go (leb from (first + j)) refl
  where
    go : (x : Bool) → leb from (first + j) ≡ x → leb (from - first) j ≡ x
    go true l = le-leb (from - first) j (omega (arith, leb-true from (first + j) l))
    go false l = lt-leb (from - first) j (omega (arith, leb-false from (first + j) l))

mask : (first from j : ℕ) → from - first < 8 → j < 8 → bit_of (255 * 2 ^ (from - first) % 256) j ≡ pick (leb from (first + j)) 1 0
mask first from j h hj = rw (← (moved first from j)) (upper_bits (from - first) j h hj)

pub overflow_mul-i : goal.overflow_mul-i
overflow_mul-i c = in_32_bits (search rules)

pub returns : goal.returns
returns c j h = rw c.saturating_sub.ensures (mask (8 * c.args.i) c.args.from j (omega arith) h)
