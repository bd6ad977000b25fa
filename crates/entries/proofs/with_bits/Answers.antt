-- `with_bits`: where the mask has a bit, the byte loses its own and gets the new one.
-- Assumes nothing.
use mathlib.Core.Path.{◌≡◌, refl, ◌∙◌}
use mathlib.Core.Bool.{Bool, true, false}
use Prim.Native.Nat.{ℕ, zero, suc, ◌-◌, ◌*◌, ◌^◌, ◌≤◌, ◌<◌, min, max}
use native.Mathlib.Decide.{dec_lt}
use native.Mathlib.Omega.{arith}
use lib.Bits.{bit_and, bit_or}
use lib.Dec.{eqb}
use lib.Pow.{pow_mono}
use Rattle.rules.specs.Tests.{pick}
use Rattle.rules.specs.Bits.{bit_of}
use Rattle.laws.proofs.Bits.{bit_of_lt, bit_of_zero, bit_of_above, bit_of_and, bit_of_or, bit_of_not}
use Rattle.laws.proofs.Widths.{as_u8}
use Rattle.entries.proofs.with_bits.Goals as goal

times_small : (bits to : ℕ) → bits < 256 → to < 2 → bits * to < 256
times_small bits zero h l = omega arith
times_small bits (suc zero) h l = omega arith
times_small bits (suc (suc to)) h l = absurd (omega arith)

-- a bit of the mask, times the new bit
times_bit : (bits to j : ℕ) → to < 2 → bit_of (bits * to) j ≡ pick (eqb (bit_of bits j) 1) to 0
times_bit bits zero j l =
    let e : bits * 0 ≡ 0 = omega arith in
    rw (e, bit_of_zero j) (nothing (eqb (bit_of bits j) 1))
  where
    nothing : (q : Bool) → ◌≡◌ {A = ℕ} 0 (pick q 0 0)
    nothing true = refl
    nothing false = refl
times_bit bits (suc zero) j l =
    let e : bits * 1 ≡ bits = omega arith in
    rw e (itself (bit_of bits j) (bit_of_lt bits j))
  where
    itself : (x : ℕ) → x < 2 → x ≡ pick (eqb x 1) 1 0
    itself zero h = refl
    itself (suc zero) h = refl
    itself (suc (suc x)) h = absurd (omega arith)
times_bit bits (suc (suc to)) j l = absurd (omega arith)

-- a bit of the byte stays where the mask has none
left : (b bits j : ℕ) → b < 256 → bits < 256 → min (bit_of b j) (bit_of (255 - bits) j) ≡ pick (eqb (bit_of bits j) 1) 0 (bit_of b j)
left b bits j hb h = go (dec_lt j 8)
  where
    out : (x y : ℕ) → x < 2 → y < 2 → min y (1 - x) ≡ pick (eqb x 1) 0 y
    out zero y hx hy = omega arith
    out (suc zero) y hx hy = omega arith
    out (suc (suc x)) y hx hy = absurd (omega arith)

    go : Dec (j < 8) → min (bit_of b j) (bit_of (255 - bits) j) ≡ pick (eqb (bit_of bits j) 1) 0 (bit_of b j)
    go (yes l) = rw (bit_of_not 8 bits j h l) (out (bit_of bits j) (bit_of b j) (bit_of_lt bits j) (bit_of_lt b j))
    go (no l) =
        let room : 256 ≤ 2 ^ j = pow_mono {i = 8} {j = j} (omega arith) in
        rw (bit_of_above b j (omega (arith, hb, room)), bit_of_above bits j (omega (arith, h, room))) (omega arith)

replaced : (b bits to : ℕ) → b < 256 → bits < 256 → to < 2 → (j : ℕ) → bit_of (bit_or (bit_and b (255 - bits)) (bits * to)) j ≡ pick (eqb (bit_of bits j) 1) to (bit_of b j)
replaced b bits to hb h l j =
    bit_of_or (bit_and b (255 - bits)) (bits * to) j
    ∙ rw (bit_of_and b (255 - bits) j, left b bits j hb h, times_bit bits to j l) (one_of (eqb (bit_of bits j) 1))
  where
    one_of : (q : Bool) → max (pick q 0 (bit_of b j)) (pick q to 0) ≡ pick q to (bit_of b j)
    one_of true = omega arith
    one_of false = omega arith

pub overflow_mul-result : goal.overflow_mul-result
overflow_mul-result c = as_u8 (record { fits = times_small c.args.bits c.args.to c.ranges.bits.fits c.requires })

pub returns : goal.returns
returns c = replaced c.args.b c.args.bits c.args.to c.ranges.b.fits c.ranges.bits.fits c.requires
