-- `bits_to`: all bits of the byte, or those before a place in it.
-- Assumes nothing.
use mathlib.Core.Path.{◌≡◌, refl}
use mathlib.Core.Bool.{Bool, true, false}
use Prim.Native.Nat.{ℕ, ◌+◌, ◌-◌, ◌*◌, ◌/◌, ◌^◌, ◌<◌}
use native.Mathlib.Omega.{arith}
use lib.Dec.{ltb}
use borrow.Author.Rules.{rules}
use borrow.Author.Tests.{ltb-true, ltb-false, lt-ltb, le-ltb}
use Rattle.rules.specs.Tests.{pick}
use Rattle.rules.specs.Bits.{bit_of}
use Rattle.laws.proofs.Widths.{in_32_bits}
use Rattle.entries.proofs.Masks.{lower_bits}
use Rattle.entries.proofs.bits_to.Goals as goal

-- places of the byte at `first` are compared as blocks are
moved : (first to j : ℕ) → first < to → j < 8 → ltb j (8 - (first + 8 - to)) ≡ ltb (first + j) to
moved first to j l h = go (ltb (first + j) to) refl
  where
    go : (x : Bool) → ltb (first + j) to ≡ x → ltb j (8 - (first + 8 - to)) ≡ x
    go true q = lt-ltb j (8 - (first + 8 - to)) (omega (arith, l, h, ltb-true (first + j) to q))
    go false q = le-ltb j (8 - (first + 8 - to)) (omega (arith, l, ltb-false (first + j) to q))

mask : (first to j : ℕ) → first < to → j < 8 → bit_of (255 / 2 ^ (first + 8 - to)) j ≡ pick (ltb (first + j) to) 1 0
mask first to j l h = rw (← (moved first to j l h)) (lower_bits (first + 8 - to) j (omega arith) h)

pub overflow_mul-i : goal.overflow_mul-i
overflow_mul-i c = in_32_bits (search rules)

pub overflow_add-i : goal.overflow_add-i
overflow_add-i c = in_32_bits (search rules)

pub returns : goal.returns
returns c j h = rw c.saturating_sub.ensures (mask (8 * c.args.i) c.args.to j (omega arith) h)
