-- `sweep_four`: four bytes of each plane are read as one number and written as one.
-- Assumes nothing.
use Rattle.std.proofs.Common.{◌≡◌, ℕ, ◌+◌, ◌-◌, ◌*◌, ◌/◌, ◌^◌, ◌<◌, ◌≤◌, ltb, leb, List, length, sym, ◌∙◌, arith, rules, le-ltb, lt-ltb, le-leb}
use native.Mathlib.Decide.{dec_lt}
use lib.Seq.{sets}
use borrow.Author.Tests.{lt-leb}
use Rattle.memory.specs.Bits.{BitsFrom, WithBits}
use Rattle.memory.proofs.Writing.{word_stored}
use Rattle.rules.specs.Tests.{pick, both}
use Rattle.rules.specs.Bits.{bit_of, bit_at}
use Rattle.rules.specs.Words.{bytes_of}
use Rattle.rules.specs.Planes.{plane_bytes, entry_in}
use Rattle.laws.proofs.Widths.{in_slice}
use Rattle.whole.proofs.Steps.{Step, swept_on}
use Rattle.whole.proofs.sweep_four.Goals as goal

-- a bit of four bytes
from_in : (bytes : List ℕ) (at r j : ℕ) → BitsFrom bytes at 4 r → j < 32 → bit_at bytes (8 * at + j) ≡ bit_of r j
from_in bytes at r j from h = sym (from j ∙ rw (lt-ltb j 32 h))

-- a bit of the bytes that were written, and one of the others
module _ (before : List ℕ) (at w : ℕ) (after : List ℕ) (with : WithBits before at w after) where
  with_in : (j : ℕ) → j < 32 → bit_at after (8 * at + j) ≡ bit_of w j
  with_in j h =
      let e : 8 * at + j - 8 * at ≡ j = omega arith in
      with (8 * at + j) ∙ rw (le-leb (8 * at) (8 * at + j) (omega arith), lt-ltb (8 * at + j) (8 * at + 32) (omega arith), e)

  with_out : (k : ℕ) → (8 * at ≤ k → k < 8 * at + 32 → ⊥) → bit_at after k ≡ bit_at before k
  with_out k out = with k ∙ go (dec_lt k (8 * at)) (dec_lt k (8 * at + 32))
    where
      go : Dec (k < 8 * at) → Dec (k < 8 * at + 32) → pick (both (leb (8 * at) k) (ltb k (8 * at + 32))) (bit_of w (k - 8 * at)) (bit_at before k) ≡ bit_at before k
      go (yes l) _ = rw (lt-leb (8 * at) k l)
      go (no l) (no r) = rw (le-leb (8 * at) k (omega arith), le-ltb k (8 * at + 32) (omega arith))
      go (no l) (yes r) = absurd (out (omega arith) r)

-- a word that is stored
stored : (before : List ℕ) (at w : ℕ) (after : List ℕ) → at + 4 ≤ length before → after ≡ sets before at (bytes_of w) → WithBits before at w after
stored before at w after room e = rw e (word_stored before at w room)

-- four bytes of both planes
module _ (t : ℕ) (before mid after : List ℕ) (half at low high low' high' : ℕ) (is_half : half ≡ plane_bytes t) (room : at + 4 ≤ half)
    (low_from : BitsFrom before at 4 low) (high_from : BitsFrom before (half + at) 4 high) (low_with : WithBits before at low' mid) (high_with : WithBits mid (half + at) high' after) where
  high_place : (j : ℕ) → 8 * plane_bytes t + (8 * at + j) ≡ 8 * (half + at) + j
  high_place j = omega (arith, is_half)

  low_out : (k : ℕ) → (8 * at ≤ k → k < 8 * at + 32 → ⊥) → bit_at mid k ≡ bit_at before k
  low_out = with_out before at low' mid low_with

  high_out : (k : ℕ) → (8 * (half + at) ≤ k → k < 8 * (half + at) + 32 → ⊥) → bit_at after k ≡ bit_at mid k
  high_out = with_out mid (half + at) high' after high_with

  step : Step t before after at 4 low high low' high'
  unfolding entry_in
  step = record {
    some = omega arith;
    few = omega arith;
    room = omega (arith, is_half);
    was = λ j h. rw (high_place j, from_in before at low j low_from h, from_in before (half + at) high j high_from h);
    is = λ j h.
        rw (high_place j, with_in mid (half + at) high' after high_with j h, high_out (8 * at + j) (λ a b. omega arith), with_in before at low' mid low_with j h);
    rest = λ k h out.
        rw (high_out k (λ a b. omega (arith, is_half, h)), low_out k out, high_out (8 * plane_bytes t + k) (λ a b. out (omega (arith, is_half)) (omega (arith, is_half))), low_out (8 * plane_bytes t + k) (λ a b. omega (arith, is_half)));
  }

-- the last of 32 bits
last_bit : (a : ℕ) → a < 2 ^ 32 → a / 2147483648 ≡ bit_of a 31
unfolding bit_of
last_bit a h = omega arith

pub overflow_add-half : goal.overflow_add-half
overflow_add-half c = in_slice c.args.table.now (search rules) (search rules)

pub overflow_add-half-2 : goal.overflow_add-half-2
overflow_add-half-2 c = in_slice c.args.table.now (search rules) (search rules)

pub returns : goal.returns
returns c t es is_half s =
    let low = c.bits in
    let high = c.bits-2 in
    let swept = c.sweep_bits-s in
    let set_low = c.set_four_bytes in
    let set_high = c.set_four_bytes-2 in
    swept_on t es c.args.table.now set_high.new.bytes c.args.at 4 c.args.keeping low.result high.result swept.result.low swept.result.high swept.result.keeping
    (step t c.args.table.now set_low.new.bytes set_high.new.bytes c.args.half c.args.at low.result high.result swept.result.low swept.result.high is_half c.requires.1.0 low.ensures high.ensures (stored c.args.table.now c.args.at swept.result.low set_low.new.bytes (omega arith) set_low.ensures)
    (stored set_low.new.bytes (c.args.half + c.args.at) swept.result.high set_high.new.bytes (omega (arith, set_low.auto.bytes)) set_high.ensures))
    swept.ensures s (swept.result.keeping / 2147483648)
    (last_bit swept.result.keeping (search rules))
