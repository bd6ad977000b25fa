-- `pack`: what is left of the packed table, stored from where the loop stands, gives what all of it would.
-- Assumes nothing.
use mathlib.Core.Path.{◌≡◌, sym, ap, ◌∙◌}
use mathlib.Core.List.{List, []}
use Prim.Native.Nat.{ℕ, suc, ◌+◌, ◌*◌, ◌/◌, ◌%◌, ◌<◌}
use native.Mathlib.Omega.{arith}
use lib.ListN.{length, get_or, set, drop}
use lib.Seq.{sets, drop-cons, drop-length}
use borrow.Author.Rules.{rules}
use Rattle.rules.specs.Words.{two_bytes_of}
use Rattle.rules.specs.Entries.{table_of}
use Rattle.rules.specs.Planes.{plane_bytes}
use Rattle.laws.proofs.Entries.{length_table_of, get_d_table_of}
use Rattle.laws.proofs.Bits.{bit_of_lt, bit_at_byte}
use Rattle.laws.proofs.Planes.{length_entries_in, few_entries, room_entries}
use Rattle.laws.proofs.Widths.{in_32_bits, in_slice}
use Rattle.entries.specs.Groups.{lane, InPlanes}
use Rattle.entries.specs.declared.Table.{Table}
use Rattle.entries.specs.Lent.{entries_of as lent_entries}
use Rattle.packing.specs.Packing.{Interleaved}
use Rattle.packing.proofs.Digits.{two_bytes}
use Rattle.packing.proofs.pack.Goals as goal

-- entries that two planes hold, t bytes of them when they are packed
module _ (es lows highs : List ℕ) (t : ℕ) (hold : InPlanes es lows highs) (many : length es ≡ 4 * t) where
  abbrev packed : List ℕ
  packed = table_of es

  -- a byte for every four blocks
  length_packed : length packed ≡ t
  length_packed = omega (arith, length_table_of es, many)

  -- past its end nothing is left
  none_left : (k : ℕ) → k ≡ t → drop k packed ≡ []
  none_left k e = rw (e ∙ sym length_packed) (drop-length packed)

  -- byte i of both planes, and the number of its eight entries
  module _ (i r : ℕ) (is : Interleaved (get_or lows i 0) (get_or highs i 0) r) where
    abbrev entry : ℕ → ℕ
    entry = lane (get_or lows i 0) (get_or highs i 0)

    -- two bits each
    entry_lt : (j : ℕ) → entry j < 4
    entry_lt j = omega (arith, bit_of_lt (get_or lows i 0) j, bit_of_lt (get_or highs i 0) j)

    -- entry j is that of block 8i + j
    entry_is : (k j : ℕ) → k ≡ 8 * i + j → j < 8 → get_or es k 0 ≡ entry j
    entry_is k j e l = hold k ∙ rw (e, bit_at_byte lows i j l, bit_at_byte highs i j l)

    -- packed byte 2i has the first four, and the next the others
    four_at : (k b : ℕ) → k ≡ 2 * i + b → b < 2 → k < t → get_or packed k 0 ≡ entry (4 * b) + 4 * entry (4 * b + 1) + 16 * entry (4 * b + 2) + 64 * entry (4 * b + 3)
    four_at k b e l h =
        get_d_table_of es k (omega (arith, many))
        ∙ rw (
          entry_is (4 * k) (4 * b) (omega arith) (omega arith),
          entry_is (4 * k + 1) (4 * b + 1) (omega arith) (omega arith),
          entry_is (4 * k + 2) (4 * b + 2) (omega arith) (omega arith),
          entry_is (4 * k + 3) (4 * b + 3) (omega arith) (omega arith),
        )

    -- these two are the bytes of the number
    first_byte : 2 * i < t → get_or packed (2 * i) 0 ≡ r % 256
    unfolding two_bytes_of
    first_byte h = four_at (2 * i) 0 (omega arith) (omega arith) h ∙ sym (ap (λ (bs : List ℕ). get_or bs 0 0) (ap two_bytes_of is ∙ two_bytes entry entry_lt))

    second_byte : suc (2 * i) < t → get_or packed (suc (2 * i)) 0 ≡ r / 256 % 256
    unfolding two_bytes_of
    second_byte h = four_at (suc (2 * i)) 1 (omega arith) (omega arith) h ∙ sym (ap (λ (bs : List ℕ). get_or bs 1 0) (ap two_bytes_of is ∙ two_bytes entry entry_lt))

    -- both are stored, and what is left lies behind them
    turn : (before after : List ℕ) (at : ℕ) → suc (2 * i) < t → after ≡ sets before (at + 2 * i) (two_bytes_of r)
        → sets after (at + 2 * (i + 1)) (drop (2 * (i + 1)) packed) ≡ sets before (at + 2 * i) (drop (2 * i) packed)
    unfolding two_bytes_of
    turn before after at h stored =
        let e : at + 2 * (i + 1) ≡ suc (suc (at + 2 * i)) = omega arith in
        let f : 2 * (i + 1) ≡ suc (suc (2 * i)) = omega arith in
        rw (
          e,
          f,
          stored,
          drop-cons packed (2 * i) 0 (omega (arith, length_packed)),
          drop-cons packed (suc (2 * i)) 0 (omega (arith, length_packed)),
          first_byte (omega arith),
          second_byte h,
        )

    -- where t is odd, the first is all that is left
    last : (before : List ℕ) (at : ℕ) → suc (2 * i) ≡ t → set before (at + 2 * i) (r % 256) ≡ sets before (at + 2 * i) (drop (2 * i) packed)
    last before at odd = rw (drop-cons packed (2 * i) 0 (omega (arith, length_packed)), none_left (suc (2 * i)) odd, first_byte (omega arith))

-- byte i lies in each plane
in_plane : (t i long : ℕ) → long ≡ plane_bytes t → 2 * i < t → i < long
in_plane t i long e l = omega (arith, e, (room_entries t).0)

-- behind the pairs there is a last half where a plane has a byte more
module _ {t n long : ℕ} (many : n ≡ 4 * t) (is_long : long ≡ plane_bytes t) where
  odd : n / 8 < long → suc (2 * (n / 8)) ≡ t
  odd l = omega (arith, many, is_long, (room_entries t).1)

  even : (n / 8 < long → ⊥) → 2 * (n / 8) ≡ t
  even l = omega (arith, many, is_long, (room_entries t).0)

-- the entries of a lent table are four to a byte
lent_long : (lent : Table) {n : ℕ} → n ≡ length (lent_entries lent) → n ≡ 4 * lent.t
lent_long lent e = e ∙ length_entries_in lent.t lent.bytes.now

pub bounds-planes-i : goal.bounds-planes-i
bounds-planes-i c =
    let many = lent_long c.args.table.now c.blocks-pairs.ensures in
    in_plane c.args.table.now.t _ _ c.planes-planes.ensures.lows (omega (arith, many))

pub bounds-planes-i-in-loop-i : goal.bounds-planes-i-in-loop-i
bounds-planes-i-in-loop-i c =
    let many = lent_long c.args.table.now c.blocks-pairs.ensures in
    in_plane c.args.table.now.t _ _ c.planes-planes.ensures.highs (omega (arith, many))

pub overflow_mul-i : goal.overflow_mul-i
overflow_mul-i c = in_32_bits (record { fits = omega (arith, c.blocks-pairs.ensures, few_entries _ _ c.args.table.now.is_table) })

pub overflow_add-at : goal.overflow_add-at
overflow_add-at c = in_slice c.args.buffer.now (omega (arith, c.blocks-pairs.ensures)) (search rules)

pub loop-i-preserved : goal.loop-i-preserved
loop-i-preserved c =
    let l = c.loop-i in
    let eight = c.interleave-eight in
    let many = lent_long c.args.table.now c.blocks-pairs.ensures in
    turn _ _ _ c.args.table.now.t c.planes-planes.ensures.hold (length_entries_in _ _) l.i eight.result eight.ensures l.buffer _ c.args.at (omega (arith, many)) (rw c.from.ensures at c.set_two_bytes.ensures)
    ∙ l.invariant

pub overflow_mul-buffer : goal.overflow_mul-buffer
overflow_mul-buffer c = in_32_bits (record { fits = omega (arith, c.blocks-pairs.ensures, few_entries _ _ c.args.table.now.is_table) })

pub overflow_add-buffer : goal.overflow_add-buffer
overflow_add-buffer c =
    let last = odd (lent_long c.args.table.now c.blocks-pairs.ensures) c.planes-planes.ensures.lows c.if-pairs-planes.true in
    in_slice c.args.buffer.now (omega (arith, last, lent_long c.args.table.now c.blocks-pairs.ensures)) (search rules)

pub bounds-buffer-at : goal.bounds-buffer-at
bounds-buffer-at c =
    let many = lent_long c.args.table.now c.blocks-pairs.ensures in
    let last = odd many c.planes-planes.ensures.lows c.if-pairs-planes.true in
    omega (arith, last, many, c.requires, c.loop-i.auto.buffer)

pub returns-then-pairs-planes : goal.returns-then-pairs-planes
returns-then-pairs-planes c =
    let l = c.loop-i in
    let four = c.interleave-four in
    let last_half = odd (lent_long c.args.table.now c.blocks-pairs.ensures) c.planes-planes.ensures.lows c.if-pairs-planes.true in
    let end : l.i ≡ c.blocks-pairs.result / 8 = omega arith in
    last _ _ _ c.args.table.now.t c.planes-planes.ensures.hold (length_entries_in _ _) (c.blocks-pairs.result / 8) four.result four.ensures l.buffer c.args.at last_half
    ∙ rw end at l.invariant

pub returns-else-pairs-planes : goal.returns-else-pairs-planes
returns-else-pairs-planes c =
    let l = c.loop-i in
    let none = even (lent_long c.args.table.now c.blocks-pairs.ensures) c.planes-planes.ensures.lows (λ r. omega (arith, r, c.if-pairs-planes.false)) in
    rw (none_left _ _ _ c.args.table.now.t c.planes-planes.ensures.hold (length_entries_in _ _) (2 * l.i) (omega (arith, none))) at l.invariant
