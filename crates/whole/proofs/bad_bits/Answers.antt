-- `bad_bits`: an entry with its high bit is bad if it has the low one too, or if the block before it is FREE.
-- Assumes nothing.
use Rattle.std.proofs.Common.{◌≡◌, ℕ, zero, suc, ◌+◌, ◌-◌, ◌*◌, ◌/◌, ◌%◌, ◌^◌, ◌<◌, min, max, Bool, true, false, not, eqb, refl, ap, ◌∙◌, arith, rules}
use lib.Bits.{bit_and, bit_or, or_lt, and_le_l}
use Rattle.rules.specs.Tests.{both}
use Rattle.rules.specs.Bits.{bit_of}
use Rattle.rules.specs.Entries.{TAIL, MARK}
use Rattle.rules.specs.Tables.{is_free, is_used, may_follow}
use Rattle.laws.proofs.Lists.{one}
use Rattle.laws.proofs.Bits.{one_bit, two_bits, bit_of_lt, bit_of_first, bit_of_suc, bit_of_zero, bit_of_and, bit_of_or, bit_of_not, bit_of_mod, bit_of_shl, bit_of_below}
use Rattle.entries.specs.Groups.{lane}
use Rattle.whole.specs.Shapes.{previous, BadBits}
use Rattle.whole.proofs.Lanes.{used_bit}
use Rattle.whole.proofs.bad_bits.Goals as goal

-- ---- one entry

-- it may stand after another if it is no MARK, and no TAIL where that is FREE
abbrev Fine : Bool → ℕ → ℕ → Type 0
Fine free l h = eqb (min h (max l (1 - one (not free)))) 0 ≡ both (not (eqb (l + 2 * h) MARK)) (not (both (eqb (l + 2 * h) TAIL) free))

fine : (free : Bool) (l h : ℕ) → l < 2 → h < 2 → Fine free l h
fine true = two_bits (Fine true) refl refl refl refl
fine false = two_bits (Fine false) refl refl refl refl

may_bits : (p l h : ℕ) → l < 2 → h < 2 → eqb (min h (max l (1 - one (is_used p)))) 0 ≡ may_follow p (l + 2 * h)
unfolding may_follow
may_bits p l h hl hh = fine (is_free p) l h hl hh

-- ---- 32 of them

module _ (low high before : ℕ) (hl : low < 2 ^ 32) (hh : high < 2 ^ 32) (hb : before < 2) where
  abbrev used : ℕ
  used = bit_or low high

  -- whether the entry before each is used
  abbrev behind : ℕ
  behind = bit_or (used * 2 % 2 ^ 32) before

  behind_lt : behind < 2 ^ 32
  behind_lt = or_lt 32 (used * 2 % 2 ^ 32) before (omega arith) (omega (arith, hb))

  behind_at : (j : ℕ) → j < 32 → bit_of behind j ≡ one (is_used (previous before (lane low high) j))
  behind_at zero h =
      let z : bit_of (used * 2 % 2 ^ 32) 0 ≡ 0 = bit_of_mod (used * 2) 32 0 h ∙ bit_of_below used 1 0 (omega arith) in
      let b : before ≡ one (is_used before) = one_bit (λ (x : ℕ). x ≡ one (is_used x)) refl refl before hb in
      omega (arith, bit_of_or (used * 2 % 2 ^ 32) before 0, z, bit_of_first before, hb, b)
  behind_at (suc j) h =
      let s : 1 + j ≡ suc j = omega arith in
      let half : before / 2 ≡ 0 = omega (arith, hb) in
      let b : bit_of before (suc j) ≡ 0 = bit_of_suc before j ∙ ap (λ (x : ℕ). bit_of x j) half ∙ bit_of_zero j in
      let u : bit_of (used * 2 % 2 ^ 32) (suc j) ≡ bit_of used j = bit_of_mod (used * 2) 32 (suc j) h ∙ rw s at (bit_of_shl used 1 j) in
      let o = used_bit (bit_of low j) (bit_of high j) (bit_of_lt low j) (bit_of_lt high j) in
      omega (arith, bit_of_or (used * 2 % 2 ^ 32) before (suc j), u, b, bit_of_or low high j, o)

  bad_bits : BadBits low high before (bit_and high (bit_or low (2 ^ 32 - 1 - behind)))
  bad_bits = record {
    entry = λ j h.
        rw (bit_of_and high (bit_or low (2 ^ 32 - 1 - behind)) j, bit_of_or low (2 ^ 32 - 1 - behind) j, bit_of_not 32 behind j behind_lt h, behind_at j h)
        (may_bits (previous before (lane low high) j) (bit_of low j) (bit_of high j) (bit_of_lt low j) (bit_of_lt high j));
    fits = and_le_l high (bit_or low (2 ^ 32 - 1 - behind));
  }

pub returns : goal.returns
returns c = bad_bits c.args.low c.args.high c.args.before (search rules) (search rules) (search rules)
