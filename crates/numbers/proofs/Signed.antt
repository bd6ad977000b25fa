-- Differences of small numbers as signed numbers of 32 bits.
-- Assumes nothing.
use Rattle.std.proofs.Common.{◌≡◌, ℕ, zero, suc, ◌+◌, ◌-◌, ◌≤◌, Bool, true, false, cond, ltb, pos, negsuc, ◌-ℤ◌, neg_ℤ, sym, refl, ◌∙◌, arith, w32, SFits, to_z, of_z, le-ltb}
use lib.IntN.{sub_ℕ, +ℤ_idl}
use mir.ValLaws.{to_z_pos, to_z-of_z}

pub minus : (a b : ℕ) → pos a -ℤ pos b ≡ sub_ℕ a b
minus a zero =
    let e : a + 0 ≡ a = omega arith in
    let d : a - 0 ≡ a = omega arith in
    rw (le-ltb a 0 (omega arith), e, d)
minus a (suc b) = refl

-- the signed reading of a small number is the number
pub small : (a : ℕ) → a ≤ 4096 → to_z w32 a ≡ pos a
small a h = to_z_pos w32 a (omega arith)

pub sub_fits : (a b : ℕ) → a ≤ 4096 → b ≤ 4096 → SFits w32 (sub_ℕ a b)
sub_fits a b ha hb = go (ltb a b)
  where
    go : (t : Bool) → SFits w32 (cond t (negsuc (b - suc a)) (pos (a - b)))
    go true = record { sfits = omega arith }
    go false = record { sfits = omega arith }

-- a difference as the code computes it
pub difference_fits : (a b : ℕ) → a ≤ 4096 → b ≤ 4096 → SFits w32 (to_z w32 a -ℤ to_z w32 b)
difference_fits a b ha hb = rw (small a ha, small b hb, minus a b) (sub_fits a b ha hb)

pub difference_is : (a b : ℕ) → a ≤ 4096 → b ≤ 4096 → to_z w32 (of_z w32 (to_z w32 a -ℤ to_z w32 b)) ≡ sub_ℕ a b
difference_is a b ha hb = to_z-of_z w32 _ (difference_fits a b ha hb) ∙ rw (small a ha, small b hb) (minus a b)

-- a negation, as the code computes it
pub negated_is : (b : ℕ) → b ≤ 4096 → to_z w32 (of_z w32 (pos 0 -ℤ to_z w32 b)) ≡ neg_ℤ (pos b)
negated_is b h = difference_is 0 b (omega arith) h ∙ sym (minus 0 b) ∙ +ℤ_idl (neg_ℤ (pos b))
