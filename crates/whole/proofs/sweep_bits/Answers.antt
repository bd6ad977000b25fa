-- `sweep_bits`: whether TAILs are kept is the carry of a sum of two numbers. The first has a one at each block but the HEADs, the second at the MARKs.
-- Assumes nothing.
use Rattle.std.proofs.Common.{◌≡◌, ℕ, zero, suc, ◌+◌, ◌-◌, ◌*◌, ◌/◌, ◌%◌, ◌^◌, ◌<◌, ◌≤◌, min, max, Bool, true, false, eqb, refl, ap, ◌∙◌, arith, rules}
use lib.Bits.{bit_and, bit_or, and_le_l, or_lt}
use Rattle.rules.specs.Tests.{pick}
use Rattle.rules.specs.Bits.{bit_of}
use Rattle.rules.specs.Marking.{swept_entry, freeing_after, freeing_at}
use Rattle.laws.proofs.Bits.{one_bit, two_bits, bit_of_lt, bit_of_and, bit_of_or, bit_of_not, bit_of_mod}
use Rattle.entries.specs.Groups.{lane}
use Rattle.whole.specs.Sweeps.{SweptBits}
use Rattle.whole.proofs.Sums.{carry_at, bit_of_sum}
use Rattle.whole.proofs.sweep_bits.Goals as goal

-- ---- one block, by its two bits and whether TAILs are being freed there

-- a one unless it is a HEAD, a one if it is a MARK, and the carry
abbrev total : Bool → ℕ → ℕ → ℕ
total f l h = 1 - min l (1 - h) + min l h + pick f 0 1

-- the carry behind it, what it becomes, and whether TAILs are kept behind it
abbrev Right : Bool → ℕ → ℕ → Type 0
Right f l h =
    (total f l h / 2 ≡ pick (freeing_after f (l + 2 * h)) 0 1)
    × (min l h + 2 * min (min h (1 - l)) (1 - total f l h % 2) ≡ swept_entry f (l + 2 * h))
    × (max (min l h) (1 - max (min l (1 - h)) (total f l h % 2)) ≡ pick (freeing_after f (l + 2 * h)) 0 1)

right : (f : Bool) (l h : ℕ) → l < 2 → h < 2 → Right f l h
unfolding freeing_after swept_entry
right true = two_bits (Right true) (refl, refl, refl) (refl, refl, refl) (refl, refl, refl) (refl, refl, refl)
right false = two_bits (Right false) (refl, refl, refl) (refl, refl, refl) (refl, refl, refl) (refl, refl, refl)

-- ---- all blocks

module _ (low high keeping : ℕ) (hl : low < 2 ^ 32) (hh : high < 2 ^ 32) (hk : keeping < 2) where
  abbrev marks : ℕ
  marks = bit_and low high

  abbrev heads : ℕ
  heads = bit_and low (2 ^ 32 - 1 - high)

  abbrev others : ℕ
  others = 2 ^ 32 - 1 - heads

  abbrev freeing : ℕ → Bool
  freeing = freeing_at (eqb keeping 0) (lane low high)

  heads_lt : heads < 2 ^ 32
  heads_lt = omega (arith, and_le_l low (2 ^ 32 - 1 - high), hl)

  module _ (j : ℕ) (h : j < 32) where
    heads_bit : bit_of heads j ≡ min (bit_of low j) (1 - bit_of high j)
    heads_bit = bit_of_and low (2 ^ 32 - 1 - high) j ∙ ap (min (bit_of low j)) (bit_of_not 32 high j hh h)

    others_bit : bit_of others j ≡ 1 - min (bit_of low j) (1 - bit_of high j)
    others_bit = bit_of_not 32 heads j heads_lt h ∙ ap (λ (x : ℕ). 1 - x) heads_bit

    right_at : Right (freeing j) (bit_of low j) (bit_of high j)
    right_at = right (freeing j) (bit_of low j) (bit_of high j) (bit_of_lt low j) (bit_of_lt high j)

  carry_is : (j : ℕ) → j ≤ 32 → carry_at others marks keeping j ≡ pick (freeing j) 0 1
  unfolding carry_at freeing_at
  carry_is zero h = one_bit (λ (k : ℕ). k ≡ pick (eqb k 0) 0 1) refl refl keeping hk
  carry_is (suc j) h = rw (others_bit j (omega arith), bit_of_and low high j, carry_is j (omega arith)) (right_at j (omega arith)).0

  module _ (sum : ℕ) (is : sum ≡ (others + marks + keeping) % 2 ^ 32) where
    sum_bit : (j : ℕ) → j < 32 → bit_of sum j ≡ total (freeing j) (bit_of low j) (bit_of high j) % 2
    sum_bit j h =
        rw is (bit_of_mod (others + marks + keeping) 32 j h)
        ∙ bit_of_sum others marks keeping j hk
        ∙ rw (others_bit j h, bit_of_and low high j, carry_is j (omega arith))

    sum_lt : sum < 2 ^ 32
    sum_lt = omega (arith, is)

    swept_bits : SweptBits low high keeping marks (bit_and (bit_and high (2 ^ 32 - 1 - low)) (2 ^ 32 - 1 - sum)) (bit_or marks (2 ^ 32 - 1 - bit_or heads sum))
    unfolding freeing_at
    swept_bits = record {
      entry = λ j h.
          rw (bit_of_and low high j, bit_of_and (bit_and high (2 ^ 32 - 1 - low)) (2 ^ 32 - 1 - sum) j, bit_of_and high (2 ^ 32 - 1 - low) j, bit_of_not 32 low j hl h, bit_of_not 32 sum j sum_lt h, sum_bit j h)
          (right_at j h).1;
      after = λ j h.
          rw (bit_of_or marks (2 ^ 32 - 1 - bit_or heads sum) j, bit_of_and low high j, bit_of_not 32 (bit_or heads sum) j (or_lt 32 heads sum heads_lt sum_lt) h, bit_of_or heads sum j, heads_bit j h, sum_bit j h)
          (right_at j h).2;
      fits = (and_le_l low high, omega (arith, and_le_l (bit_and high (2 ^ 32 - 1 - low)) (2 ^ 32 - 1 - sum), and_le_l high (2 ^ 32 - 1 - low)));
    }

pub returns : goal.returns
returns c =
    let a = c.args in
    swept_bits a.low a.high a.keeping (search rules) (search rules) (search rules) c.wrapping_add_u32-sum.result
    (omega (arith, c.wrapping_add_u32-sum.ensures, c.wrapping_add_u32.ensures))
