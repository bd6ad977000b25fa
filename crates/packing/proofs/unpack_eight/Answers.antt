-- `unpack_eight`: the bits at even places are the low bits of eight entries, those at the others their high bits.
-- Assumes nothing.
use mathlib.Core.Path.{◌≡◌, ap, ◌∙◌}
use mathlib.Core.List.{List}
use Prim.Native.Nat.{ℕ, ◌+◌, ◌*◌, ◌/◌, ◌%◌, ◌<◌}
use native.Mathlib.Decide.{ℕ_discrete}
use native.Mathlib.Omega.{arith}
use lib.ListN.{length, set}
use borrow.Author.Rules.{rules}
use Rattle.rules.specs.Bits.{bit_of}
use Rattle.rules.specs.Entries.{entry_of}
use Rattle.rules.specs.Tables.{entry_at}
use Rattle.rules.specs.Planes.{plane_bytes, entry_in}
use Rattle.laws.proofs.Bits.{eight}
use Rattle.laws.proofs.Widths.{in_slice}
use Rattle.entries.specs.Groups.{lane}
use Rattle.entries.proofs.Holding.{both_stored, both_kept}
use Rattle.packing.specs.Packing.{Gathered, UnpacksOn}
use Rattle.packing.proofs.unpack_eight.Goals as goal

-- an entry by its two bits
entry_bits : (x j : ℕ) → j < 8 → bit_of x (2 * j) + 2 * bit_of (x / 2) (2 * j) ≡ entry_of x j
unfolding bit_of entry_of
entry_bits x =
    eight (λ (j : ℕ). bit_of x (2 * j) + 2 * bit_of (x / 2) (2 * j) ≡ entry_of x j) (omega arith) (omega arith) (omega arith) (omega arith) (omega arith) (omega arith) (omega arith) (omega arith)

module _ (half i x low high : ℕ) (table : List ℕ) (inside : i < half) (long : length table ≡ 2 * half) (lows : Gathered x low) (highs : Gathered (x / 2) high) where
  lane_is : (j : ℕ) → j < 8 → lane low high j ≡ entry_of x j
  lane_is j h = rw (lows j h, highs j h) (entry_bits x j h)

  unpacked : UnpacksOn half i x table (set (set table i low) (half + i) high)
  unpacked t es is_half has done k h = rw is_half (go (ℕ_discrete (k / 8) i))
    where
      two : length table ≡ 2 * plane_bytes t
      two = omega (arith, long, is_half)

      in_plane : i < plane_bytes t
      in_plane = omega (arith, inside, is_half)

      go : Dec (k / 8 ≡ i) → entry_in t (set (set table i low) (plane_bytes t + i) high) k ≡ entry_at es k
      go (yes e) =
          let at : 8 * i + k % 8 ≡ k = omega arith in
          both_stored t table i low high two in_plane k e ∙ lane_is (k % 8) (omega arith) ∙ has (k % 8) (omega arith) ∙ ap (entry_at es) at
      go (no n) = both_kept t table i low high two in_plane k (omega (arith, h, in_plane)) n ∙ done k (omega (arith, h, n))

pub overflow_add-table : goal.overflow_add-table
overflow_add-table c = in_slice c.args.table.now (search rules) (search rules)

pub returns : goal.returns
returns c =
    let a = c.args in
    let both : c.from_le_bytes-eight.result ≡ a.b * 256 + a.a = omega (arith, c.from_le_bytes-eight.ensures) in
    unpacked a.half a.i (a.b * 256 + a.a) c.gather.result c.gather-2.result a.table.now c.requires.0 c.requires.1 (rw both at c.gather.ensures) (rw both at c.gather-2.ensures)
