-- `is`: an entry is its two bits.
-- Assumes nothing.
use mathlib.Core.Path.{◌≡◌, refl, sym}
use mathlib.Core.Bool.{Bool, true, false, not}
use Prim.Native.Nat.{ℕ, ◌+◌, ◌-◌, ◌*◌, ◌%◌, ◌<◌}
use native.Mathlib.Omega.{arith}
use lib.Dec.{eqb}
use borrow.Author.Tests.{eqb-true, eqb-false, eq-eqb, ne_eqb}
use Rattle.laws.proofs.Widths.{in_32_bits}
use Rattle.entries.proofs.Holding.{block_byte, high_byte, bit_small, low_read, both_read}
use Rattle.entries.proofs.Table.is.Goals as goal

-- another low bit, another entry
by_low : (a l x : ℕ) → (a ≡ l → ⊥) → l < 2 → x % 2 ≡ a → false ≡ eqb x (2 - l)
by_low a l x other small e = sym (ne_eqb x (2 - l) (λ q. other (omega (arith, small, e, q))))

-- else the high bit tells
by_high : (a b l x : ℕ) → a ≡ l → l < 2 → b < 2 → a + 2 * b ≡ x → not (eqb b l) ≡ eqb x (2 - l)
by_high a b l x low small h e = go (eqb b l) refl
  where
    go : (q : Bool) → eqb b l ≡ q → not q ≡ eqb x (2 - l)
    go true q = sym (ne_eqb x (2 - l) (λ o. omega (arith, low, small, e, o, eqb-true b l q)))
    go false q =
        let n = eqb-false b l q in
        sym (eq-eqb x (2 - l) (omega (arith, low, small, h, e, n)))

pub bounds-self-i : goal.bounds-self-i
bounds-self-i g c =
    omega (arith, c.index-i.ensures, c.args.self.now.is_table.sized.long, block_byte c.args.self.now.t c.args.self.now.bytes.now c.args.k.0 c.requires.1)

pub returns-then-bit : goal.returns-then-bit
returns-then-bit g c =
    let low = c.bit.ensures in
    by_low c.bit.result _ _ c.if-bit.true c.requires.0 (low_read c.args.self.now.t c.args.self.now.bytes.now c.args.k.0 _ _ c.index-i.ensures c.requires.1 low)

pub overflow_add-high : goal.overflow_add-high
overflow_add-high g c =
    in_32_bits (record { fits = omega (arith, c.index-i.ensures, c.plane_bytes.ensures, high_byte c.args.self.now.t c.args.self.now.bytes.now c.args.k.0 c.args.self.now.is_table.sized.few c.requires.1) })

pub bounds-self-high : goal.bounds-self-high
bounds-self-high g c =
    omega (arith, c.plane_bytes.ensures, c.index-i.ensures, c.args.self.now.is_table.sized.long, block_byte c.args.self.now.t c.args.self.now.bytes.now c.args.k.0 c.requires.1)

pub returns : goal.returns
returns g c =
    let low = c.bit.ensures in
    by_high c.bit.result c.bit-2.result _ _ c.if-bit.false c.requires.0 (bit_small _ _ _ c.bit-2.ensures)
    (both_read c.args.self.now.t c.args.self.now.bytes.now c.args.k.0 _ _ _ _ c.index-i.ensures c.plane_bytes.ensures c.requires.1 low c.bit-2.ensures)
