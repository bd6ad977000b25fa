-- `unpack`: the table is unpacked from its front on. Past the end of the packed table a byte reads as zero, which is four FREE entries.
-- Assumes nothing.
use mathlib.Core.Path.{◌≡◌, refl, sym, ap, ◌∙◌}
use mathlib.Core.List.{List}
use Prim.Native.Nat.{ℕ, ◌+◌, ◌-◌, ◌*◌, ◌/◌, ◌%◌, ◌<◌}
use native.Mathlib.Decide.{dec_lt}
use native.Mathlib.Omega.{arith}
use lib.ListN.{length, get_or, get_or-eq_default}
use borrow.Author.Rules.{rules}
use Rattle.rules.specs.Entries.{entry_of, entries_of}
use Rattle.rules.specs.Tables.{entry_at}
use Rattle.rules.specs.Planes.{plane_bytes, Sized, Holds}
use Rattle.laws.proofs.Entries.{four, length_entries_of, get_d_entries_of}
use Rattle.laws.proofs.Planes.{room_entries, holds_of}
use Rattle.laws.proofs.Widths.{in_32_bits}
use Rattle.packing.specs.Packing.{UnpackedTo}
use Rattle.packing.proofs.unpack.Goals as goal

-- ---- the eight entries of two bytes

low_four : (a b j : ℕ) → j < 4 → entry_of (b * 256 + a) j ≡ entry_of a j
unfolding entry_of
low_four a b = four (λ (j : ℕ). entry_of (b * 256 + a) j ≡ entry_of a j) (omega arith) (omega arith) (omega arith) (omega arith)

high_four : (a b j : ℕ) → a < 256 → j < 4 → entry_of (b * 256 + a) (4 + j) ≡ entry_of b j
unfolding entry_of
high_four a b j small = four (λ (j : ℕ). entry_of (b * 256 + a) (4 + j) ≡ entry_of b j) (omega arith) (omega arith) (omega arith) (omega arith) j

module _ (packed : List ℕ) (i b : ℕ) (small : get_or packed (2 * i) 0 < 256) (is : b ≡ get_or packed (2 * i + 1) 0) where
  -- they are those of the blocks from 8i on
  eight_at : (j : ℕ) → j < 8 → entry_of (b * 256 + get_or packed (2 * i) 0) j ≡ entry_at (entries_of packed) (8 * i + j)
  eight_at j h = go (dec_lt j 4)
    where
      go : Dec (j < 4) → entry_of (b * 256 + get_or packed (2 * i) 0) j ≡ entry_at (entries_of packed) (8 * i + j)
      go (yes l) =
          let byte : (8 * i + j) / 4 ≡ 2 * i = omega arith in
          let place : (8 * i + j) % 4 ≡ j = omega arith in
          low_four (get_or packed (2 * i) 0) b j l ∙ sym (rw (byte, place) at (get_d_entries_of packed (8 * i + j)))
      go (no l) =
          let byte : (8 * i + j) / 4 ≡ 2 * i + 1 = omega arith in
          let place : (8 * i + j) % 4 ≡ j - 4 = omega arith in
          let e : 4 + (j - 4) ≡ j = omega arith in
          rw e at (high_four (get_or packed (2 * i) 0) b (j - 4) small (omega arith)) ∙ ap (λ (x : ℕ). entry_of x (j - 4)) is
          ∙ sym (rw (byte, place) at (get_d_entries_of packed (8 * i + j)))

-- all of both planes is unpacked
unpacked_end : (t : ℕ) (packed table : List ℕ) (i : ℕ) → Sized t table → length packed ≡ t → i ≡ plane_bytes t → UnpackedTo t (entries_of packed) table i → Holds t (entries_of packed) table
unpacked_end t packed table i sized long e done =
    holds_of t (entries_of packed) table sized (length_entries_of packed ∙ ap (λ (n : ℕ). 4 * n) long) (λ k h. done k (rw e h))

pub overflow_mul-i : goal.overflow_mul-i
overflow_mul-i c = in_32_bits (search rules)

pub overflow_mul-i-in-loop-i : goal.overflow_mul-i-in-loop-i
overflow_mul-i-in-loop-i c = in_32_bits (search rules)

pub overflow_add-i : goal.overflow_add-i
overflow_add-i c = in_32_bits (search rules)

pub unpack_eight-requires : goal.unpack_eight-requires
unpack_eight-requires c =
    (omega (arith, c.plane_bytes-half.ensures, (room_entries c.args.t).0), omega arith)

pub loop-i-preserved : goal.loop-i-preserved
loop-i-preserved c =
    let a = c.args in
    let l = c.loop-i in
    c.unpack_eight.ensures a.t (entries_of a.packed.now) c.plane_bytes-half.ensures (eight_at a.packed.now l.i _ (c.type_inv.packed (2 * l.i)).fits refl) l.invariant

pub overflow_mul-pairs : goal.overflow_mul-pairs
overflow_mul-pairs c = in_32_bits (search rules)

pub bounds-packed-pairs : goal.bounds-packed-pairs
bounds-packed-pairs c =
    omega (arith, c.plane_bytes-half.ensures, (room_entries c.args.t).1, c.requires.1)

pub returns-then-pairs-half : goal.returns-then-pairs-half
returns-then-pairs-half c =
    let t = c.args.t in
    let packed = c.args.packed.now in
    let l = c.loop-i in
    let e = c.unpack_eight-then-pairs-half in
    let end : l.i ≡ t / 2 = omega arith in
    let none : 0 ≡ get_or packed (2 * (t / 2) + 1) 0 = sym (get_or-eq_default packed 0 (omega (arith, c.requires.1))) in
    unpacked_end t packed _ (t / 2 + 1) (record { few = c.requires.0.few; long = e.auto.table ∙ l.auto.table ∙ c.requires.0.long }) c.requires.1 (omega (arith, room_entries t))
    (e.ensures t (entries_of packed) c.plane_bytes-half.ensures (eight_at packed (t / 2) 0 (c.type_inv.packed (2 * (t / 2))).fits none) (rw end at l.invariant))

pub returns-else-pairs-half : goal.returns-else-pairs-half
returns-else-pairs-half c =
    let l = c.loop-i in
    unpacked_end c.args.t c.args.packed.now l.table l.i (record { few = c.requires.0.few; long = l.auto.table ∙ c.requires.0.long }) c.requires.1 (omega (arith, room_entries c.args.t)) l.invariant
