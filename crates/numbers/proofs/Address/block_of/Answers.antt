-- `Address::block_of`: a word below the base is far behind the last block once it is wrapped, and one that is not aligned comes to 2 ^ 28 or more.
-- Assumes nothing.
use Rattle.std.proofs.Common.{◌≡◌, ℕ, ◌+◌, ◌-◌, ◌*◌, ◌/◌, ◌%◌, ◌^◌, ◌<◌, ◌≤◌, ltb, arith, rules, le-ltb, eq-eqb, ne_eqb, le-leb}
use mathlib.Core.Option.{some, none}
use native.Mathlib.Decide.{dec_lt, ℕ_discrete}
use borrow.Author.Tests.{lt-leb}
use Rattle.rules.specs.Tests.{pick}
use Rattle.rules.specs.Pointers.{address_of, target_of}
use Rattle.laws.proofs.Widths.{as_u32}
use Rattle.numbers.proofs.Address.block_of.Goals as goal

-- the wrapped difference, of a word from the base on and of one below it
module _ (base w d : ℕ) (hb : base ≤ 2 ^ 32) (hw : w < 2 ^ 32) (hd : d < 2 ^ 32) (e : (d + base) % 2 ^ 32 ≡ w) where
  difference : base ≤ w → w - base ≡ d
  difference l = omega (arith, hb, hw, hd, e, l)

  wrapped : w < base → 2 ^ 32 ≤ d + base
  wrapped l = omega (arith, hb, hw, hd, e, l)

-- it is rotated
rotated : (d : ℕ) → d % 16 ≡ 0 → d / 16 + d % 16 * 268435456 ≡ d / 16
rotated d z = omega (arith, z)

too_large : (base d n : ℕ) → base + 16 * n ≤ 2 ^ 32 → 2 ^ 32 ≤ d + base → n ≤ d / 16 + d % 16 * 268435456
too_large base d n ends l = omega (arith, ends, l)

not_aligned : (base d n : ℕ) → base + 16 * n ≤ 2 ^ 32 → (d % 16 ≡ 0 → ⊥) → n ≤ d / 16 + d % 16 * 268435456
not_aligned base d n ends z = omega (arith, ends, z)

module _ (base w d n : ℕ) (hw : w < 2 ^ 32) (hd : d < 2 ^ 32) (e : (d + base) % 2 ^ 32 ≡ w) (ends : base + 16 * n ≤ 2 ^ 32) where
  abbrev k : ℕ
  k = d / 16 + d % 16 * 268435456

  hb : base ≤ 2 ^ 32
  hb = omega (arith, ends)

  is_target : target_of base n w ≡ pick (ltb k n) (some k) none
  unfolding target_of
  is_target = go (dec_lt w base) (ℕ_discrete (d % 16) 0)
    where
      go : Dec (w < base) → Dec (d % 16 ≡ 0) → target_of base n w ≡ pick (ltb k n) (some k) none
      go (yes l) _ = simp (lt-leb base w l, le-ltb k n (too_large base d n ends (wrapped base w d hb hw hd e l)))
      go (no l) (yes z) =
          let h : base ≤ w = omega (arith, l) in
          simp (le-leb base w h, difference base w d hb hw hd e h, eq-eqb (d % 16) 0 z, rotated d z)
      go (no l) (no z) =
          let h : base ≤ w = omega (arith, l) in
          simp (le-leb base w h, difference base w d hb hw hd e h, ne_eqb (d % 16) 0 z, le-ltb k n (not_aligned base d n ends z))

pub overflow_mul-k : goal.overflow_mul-k
overflow_mul-k c = as_u32 (search rules)

pub overflow_add-k : goal.overflow_add-k
overflow_add-k c = as_u32 (search rules)

pub returns : goal.returns
unfolding address_of
returns c =
    record {
      small = search rules;
      target = λ n h. is_target _ _ _ n c.ranges.w.fits c.wrapping_sub_u32-d.type_inv (rw c.to_word.ensures at c.wrapping_sub_u32-d.ensures.value) h;
    }
