-- `sweep_one`: a byte of each plane is swept as a number of 32 bits, of which eight have entries.
-- Assumes nothing.
use Rattle.std.proofs.Common.{◌≡◌, ℕ, ◌+◌, ◌*◌, ◌/◌, ◌%◌, ◌<◌, ◌≤◌, ◌≢◌, List, length, get_or, set, ◌∙◌, arith, length-set, get_or-set_other, get_or-set_same, rules}
use lib.Bits.{bit_and, and_mask}
use Rattle.rules.specs.Bits.{bit_of}
use Rattle.rules.specs.Planes.{plane_bytes, entry_in}
use Rattle.laws.proofs.Widths.{in_slice}
use Rattle.entries.proofs.Holding.{entry_in_is}
use Rattle.whole.proofs.Steps.{Step, swept_on}
use Rattle.whole.proofs.sweep_one.Goals as goal

module _ (t : ℕ) (before : List ℕ) (half at low' high' : ℕ) (is_half : half ≡ plane_bytes t) (room : at < half) (long : length before ≡ 2 * half) where
  abbrev mid : List ℕ
  mid = set before at low'

  abbrev after : List ℕ
  after = set mid (half + at) high'

  -- the two bytes, and the others
  low_is : get_or after at 0 ≡ low'
  low_is = get_or-set_other mid (half + at) at high' 0 (λ e. omega arith) ∙ get_or-set_same before at low' 0 (omega arith)

  high_is : get_or after (half + at) 0 ≡ high'
  high_is = get_or-set_same mid (half + at) high' 0 (omega (arith, length-set before at low'))

  other : (i : ℕ) → i ≢ at → i ≢ half + at → get_or after i 0 ≡ get_or before i 0
  other i a b = get_or-set_other mid (half + at) i high' 0 b ∙ get_or-set_other before at i low' 0 a

  rest : (k : ℕ) → k < 8 * plane_bytes t → (8 * at ≤ k → k < 8 * at + 8 → ⊥) → entry_in t after k ≡ entry_in t before k
  rest k h out =
      let e : 8 * (k / 8) + k % 8 ≡ k = omega arith in
      let low : get_or after (k / 8) 0 ≡ get_or before (k / 8) 0 = other (k / 8) (λ q. out (omega arith) (omega arith)) (λ q. omega (arith, is_half)) in
      let high : get_or after (half + k / 8) 0 ≡ get_or before (half + k / 8) 0 = other (half + k / 8) (λ q. omega arith) (λ q. out (omega arith) (omega arith)) in
      let same : entry_in t after (8 * (k / 8) + k % 8) ≡ entry_in t before (8 * (k / 8) + k % 8) =
      rw (entry_in_is t half is_half after (k / 8) (k % 8) (omega arith), low, high, entry_in_is t half is_half before (k / 8) (k % 8) (omega arith)) in
      rw e at same

  step : Step t before after at 1 (get_or before at 0) (get_or before (half + at) 0) low' high'
  step = record {
    some = omega arith;
    few = omega arith;
    room = omega (arith, is_half);
    was = λ j h. entry_in_is t half is_half before at j h;
    is = λ j h. entry_in_is t half is_half after at j h ∙ rw (low_is, high_is);
    rest = rest;
  }

-- the last of eight bits
last_bit : (a : ℕ) → bit_and (a / 128) 1 ≡ bit_of a 7
unfolding bit_of
last_bit a = and_mask (a / 128) 1

pub overflow_add-half : goal.overflow_add-half
overflow_add-half c = in_slice c.args.table.now (search rules) (search rules)

pub overflow_cast-table : goal.overflow_cast-table
overflow_cast-table c = record { fits = omega (arith, c.sweep_bits-s.ensures.fits.0, c.from.ensures, (c.slice_known-3-1.given c.args.at).fits) }

pub overflow_cast-table-2 : goal.overflow_cast-table-2
overflow_cast-table-2 c =
    let a = c.args in
    record { fits = omega (arith, c.sweep_bits-s.ensures.fits.1, c.from-2.ensures, (c.slice_known-3-1.given (a.half + a.at)).fits) }

pub overflow_add-table : goal.overflow_add-table
overflow_add-table c = in_slice c.args.table.now (search rules) (search rules)

pub bounds-table-half-2 : goal.bounds-table-half-2
bounds-table-half-2 c =
    rw (length-set c.args.table.now c.args.at c.sweep_bits-s.result.low) (omega (arith, c.requires.1.0, c.requires.1.1))

pub returns : goal.returns
returns c t es is_half s =
    let b = c.args.table.now in
    let r = c.sweep_bits-s in
    swept_on t es b (after t b c.args.half c.args.at r.result.low r.result.high is_half c.requires.1.0 c.requires.1.1) c.args.at 1 c.args.keeping (get_or b c.args.at 0) (get_or b (c.args.half + c.args.at) 0) r.result.low r.result.high r.result.keeping
    (step t b c.args.half c.args.at r.result.low r.result.high is_half c.requires.1.0 c.requires.1.1)
    (rw (c.from.ensures, c.from-2.ensures) at r.ensures) s (bit_and (r.result.keeping / 128) 1) (last_bit r.result.keeping)
