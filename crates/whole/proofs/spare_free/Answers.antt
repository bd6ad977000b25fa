-- `spare_free`: the upper half of the last byte of each plane has the four spare entries, where t is odd.
-- Assumes nothing.
use Rattle.std.proofs.Common.{◌≡◌, ℕ, ◌+◌, ◌-◌, ◌*◌, ◌/◌, ◌%◌, ◌<◌, ◌≤◌, true, eqb, ltb, List, get_or, sym, ◌∙◌, arith, rules}
use lib.Bits.{bit_or, or_lt}
use lib.Count.{ones}
use Rattle.rules.specs.Tests.{count, tabulate}
use Rattle.rules.specs.Bits.{bit_of}
use Rattle.rules.specs.Tables.{is_used, used}
use Rattle.laws.specs.Meaning.{AllBytes}
use Rattle.rules.specs.Planes.{plane_bytes, entry_in, spare, spare_free}
use Rattle.laws.proofs.Below.{alike_below}
use Rattle.laws.proofs.Lists.{one}
use Rattle.laws.proofs.Bits.{bit_of_lt, bit_of_or, bit_of_shr}
use Rattle.laws.proofs.Planes.{room_entries, entry_in_byte}
use Rattle.laws.proofs.Widths.{in_32_bits}
use Rattle.whole.proofs.Lanes.{used_bit}
use Rattle.whole.proofs.Ones.{count_ones}
use Rattle.whole.proofs.spare_free.Goals as goal

-- where t is even there are none
none_spare : (t : ℕ) (table : List ℕ) → t % 2 ≡ 0 → true ≡ spare_free t table
unfolding spare_free spare plane_bytes used tabulate count
none_spare t table even =
    let e : 8 * ((t + 1) / 2) - 4 * t ≡ 0 = omega arith in
    rw e

-- where t is odd there are four
four_spare : (t : ℕ) → t % 2 ≡ 1 → 8 * plane_bytes t - 4 * t ≡ 4
unfolding plane_bytes
four_spare t odd = omega arith

-- a byte below 16 has no one in its upper half
upper_free : (b : ℕ) → b < 256 → ltb b 16 ≡ eqb (ones (b / 16)) 0
unfolding ones
upper_free = alike_below 256 (λ (b : ℕ). ltb b 16) (λ (b : ℕ). eqb (ones (b / 16)) 0) tt

module _ (t : ℕ) (table : List ℕ) (bytes : AllBytes table) (odd : t % 2 ≡ 1) where
  abbrev low : ℕ
  low = get_or table (plane_bytes t - 1) 0

  abbrev high : ℕ
  high = get_or table (2 * plane_bytes t - 1) 0

  spare_bit : (j : ℕ) → j < 4 → one (is_used (entry_in t table (4 * t + j))) ≡ bit_of (bit_or low high / 16) j
  unfolding plane_bytes
  spare_bit j h =
      let e : 4 * t + j ≡ 8 * (plane_bytes t - 1) + (4 + j) = omega arith in
      let q : plane_bytes t + (plane_bytes t - 1) ≡ 2 * plane_bytes t - 1 = omega arith in
      let u = used_bit (bit_of low (4 + j)) (bit_of high (4 + j)) (bit_of_lt low (4 + j)) (bit_of_lt high (4 + j)) in
      rw (e, entry_in_byte t table (plane_bytes t - 1) (4 + j) (omega arith), q) u ∙ sym (bit_of_or low high (4 + j)) ∙ sym (bit_of_shr (bit_or low high) 4 j)

  some_spare : ltb (bit_or low high) 16 ≡ spare_free t table
  unfolding spare_free spare used
  some_spare =
      let byte : bit_or low high < 256 = or_lt 8 low high (bytes (plane_bytes t - 1)) (bytes (2 * plane_bytes t - 1)) in
      rw (four_spare t odd, count_ones is_used 4 (bit_or low high / 16) (λ (j : ℕ). entry_in t table (4 * t + j)) (omega (arith, byte)) spare_bit)
      (upper_free (bit_or low high) byte)

pub returns-then-t-eq0 : goal.returns-then-t-eq0
returns-then-t-eq0 c = none_spare c.args.t c.args.table.now (search rules)

pub overflow_sub-result : goal.overflow_sub-result
unfolding plane_bytes
overflow_sub-result c =
    let odd : c.args.t % 2 ≡ 1 = omega arith in
    let some_byte : 1 ≤ c.plane_bytes-half.result = omega (arith, c.plane_bytes-half.ensures, odd) in
    some_byte

pub bounds-table-half : goal.bounds-table-half
unfolding plane_bytes
bounds-table-half c =
    let odd : c.args.t % 2 ≡ 1 = omega arith in
    let some_byte : 1 ≤ c.plane_bytes-half.result = omega (arith, c.plane_bytes-half.ensures, odd) in
    omega (arith, some_byte, c.plane_bytes-half.ensures, c.requires.long)

pub overflow_mul-result : goal.overflow_mul-result
overflow_mul-result c =
    in_32_bits (record { fits = omega (arith, c.plane_bytes-half.ensures, c.requires.few, (room_entries c.args.t).1) })

pub overflow_sub-result-2 : goal.overflow_sub-result-2
unfolding plane_bytes
overflow_sub-result-2 c =
    let odd : c.args.t % 2 ≡ 1 = omega arith in
    let some_byte : 1 ≤ c.plane_bytes-half.result = omega (arith, c.plane_bytes-half.ensures, odd) in
    omega (arith, some_byte)

pub bounds-table-half-2 : goal.bounds-table-half-2
unfolding plane_bytes
bounds-table-half-2 c =
    let odd : c.args.t % 2 ≡ 1 = omega arith in
    let some_byte : 1 ≤ c.plane_bytes-half.result = omega (arith, c.plane_bytes-half.ensures, odd) in
    omega (arith, some_byte, c.plane_bytes-half.ensures, c.requires.long)

pub returns : goal.returns
returns c =
    let odd : c.args.t % 2 ≡ 1 = omega arith in
    let a = c.args in
    rw c.plane_bytes-half.ensures (some_spare a.t a.table.now (λ i. (c.shared_slice_known-3-1.given i).fits) odd)
