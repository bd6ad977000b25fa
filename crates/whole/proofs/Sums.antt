-- The bits of a sum, by the carry that comes to each.
-- Assumes nothing.
use Rattle.std.proofs.Common.{◌≡◌, ℕ, zero, suc, ◌+◌, ◌/◌, ◌%◌, ◌<◌, ap, ◌∙◌, arith}
use Rattle.rules.specs.Bits.{bit_of}
use Rattle.laws.proofs.Bits.{bit_of_first, bit_of_suc}

-- the carry that comes to bit j of a + b, where c comes to bit 0
unfoldable pub carry_at : ℕ → ℕ → ℕ → ℕ → ℕ
carry_at a b c zero = c
carry_at a b c (suc j) = (bit_of a j + bit_of b j + carry_at a b c j) / 2

-- the carry that comes to bit 1
abbrev first : ℕ → ℕ → ℕ → ℕ
first a b c = (a % 2 + b % 2 + c) / 2

carry_half : (a b c j : ℕ) → carry_at a b c (suc j) ≡ carry_at (a / 2) (b / 2) (first a b c) j
unfolding carry_at
carry_half a b c zero = rw (bit_of_first a, bit_of_first b)
carry_half a b c (suc j) =
    ap (λ (x : ℕ). (bit_of a (suc j) + bit_of b (suc j) + x) / 2) (carry_half a b c j)
    ∙ ap (λ (x : ℕ). (x + bit_of b (suc j) + carry_at (a / 2) (b / 2) (first a b c) j) / 2) (bit_of_suc a j)
    ∙ ap (λ (x : ℕ). (bit_of (a / 2) j + x + carry_at (a / 2) (b / 2) (first a b c) j) / 2) (bit_of_suc b j)

pub bit_of_sum : (a b c j : ℕ) → c < 2 → bit_of (a + b + c) j ≡ (bit_of a j + bit_of b j + carry_at a b c j) % 2
unfolding carry_at
bit_of_sum a b c zero h =
    let e : (a + b + c) % 2 ≡ (a % 2 + b % 2 + c) % 2 = omega arith in
    bit_of_first (a + b + c) ∙ e ∙ rw (bit_of_first a, bit_of_first b)
bit_of_sum a b c (suc j) h =
    let e : (a + b + c) / 2 ≡ a / 2 + b / 2 + first a b c = omega arith in
    let up = bit_of_sum (a / 2) (b / 2) (first a b c) j (omega arith) in
    bit_of_suc (a + b + c) j ∙ rw (e, bit_of_suc a j, bit_of_suc b j, carry_half a b c j) up
