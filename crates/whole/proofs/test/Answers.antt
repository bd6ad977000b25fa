-- `test`: the last of the entries is used if the last bit of one of the numbers is set.
-- Assumes nothing.
use Rattle.std.proofs.Common.{◌≡◌, ℕ, ◌+◌, ◌-◌, ◌*◌, ◌/◌, ◌^◌, ◌<◌, ◌∙◌, arith}
use lib.Bits.{bit_or, or_lt}
use lib.Pow.{pow-add}
use native.Mathlib.Nat.{one-le-pow, div-lt_iff_lt-mul}
use Rattle.rules.specs.Bits.{bit_of}
use Rattle.whole.proofs.Testing.{tested_bits, last_used}
use Rattle.whole.proofs.test.Goals as goal

-- the last of n bits
last_bit : (a n : ℕ) → 0 < n → a < 2 ^ n → (a / 2 ^ (n - 1) < 2) × (a / 2 ^ (n - 1) ≡ bit_of a (n - 1))
unfolding bit_of
last_bit a n some h =
    let s : n - 1 + 1 ≡ n = omega arith in
    let p : 2 ^ n ≡ 2 ^ (n - 1) * 2 = rw s at (pow-add 2 (n - 1) 1) in
    let small : a / 2 ^ (n - 1) < 2 = (div-lt_iff_lt-mul (one-le-pow (n - 1) 2 (omega arith))).1 (omega (arith, h, p)) in
    (small, omega (arith, small))

pub returns : goal.returns
returns c =
    let a = c.args in
    let r = c.requires in
    let last = last_bit (bit_or a.low a.high) a.count r.1.0.0 (or_lt a.count a.low a.high r.1.1.0 r.1.1.1) in (
      last.0,
      λ es b lanes is.
          tested_bits es b a.count a.low a.high a.before c.bad_bits.result r.1.0.1 r.1.1.1 lanes is c.bad_bits.ensures _
          (last.1 ∙ last_used es b a.count a.low a.high r.1.0.0 lanes),
    )
