-- `set_run`: after each turn the blocks of the run in the bytes before i have the entry e, and all others are as before.
-- Assumes nothing.
use mathlib.Core.Path.{◌≡◌, refl, sym, ◌∙◌}
use mathlib.Core.Bool.{Bool, true, false}
use mathlib.Core.List.{List}
use Prim.Native.Nat.{ℕ, ◌+◌, ◌-◌, ◌*◌, ◌/◌, ◌%◌, ◌≤◌, ◌<◌, min}
use native.Mathlib.Decide.{ℕ_discrete, dec_lt}
use native.Mathlib.Omega.{arith}
use lib.Dec.{eqb, leb, ltb}
use lib.ListN.{length, get_or, set, replicate, length-set, length-replicate, get_or-replicate}
use lib.Seq.{sets, length-sets, get_or-set_other}
use borrow.Author.Tests.{leb-true, ltb-true, le-leb, lt-ltb}
use Rattle.rules.specs.Tests.{pick, both}
use Rattle.rules.specs.Bits.{bit_of}
use Rattle.rules.specs.Entries.{FREE}
use Rattle.rules.specs.Tables.{entry_at}
use Rattle.rules.specs.Planes.{plane_bytes, entry_in, entries_in, IsTable, Holds}
use Rattle.laws.proofs.Lists.{sets_in, sets_out}
use Rattle.laws.proofs.Planes.{length_entries_in, room_entries, entry_clean, holds_of}
use Rattle.laws.proofs.Widths.{in_32_bits}
use Rattle.entries.specs.Groups.{Span}
use Rattle.entries.specs.Numbers.{number_of}
use Rattle.entries.proofs.Numbers.{tag_is}
use Rattle.entries.proofs.Holding.{entry_byte, both_stored, both_kept}
use Rattle.entries.proofs.set_run.Invariants.{Filled}
use Rattle.entries.proofs.set_run.Goals as goal

-- at the start there are none
none_filled : (t : ℕ) (start : List ℕ) (e first end : ℕ) → Filled t start e first (min end (8 * (first / 8))) start
none_filled t start e first end = record { long = refl; new = λ k l h held_in_planes. absurd (omega arith); old = λ k out h. refl }

-- ---- one turn

module _ (t : ℕ) (start table : List ℕ) (e first end i low high bits : ℕ) (is_long : length start ≡ 2 * plane_bytes t) (inside : end ≤ 8 * plane_bytes t) (l : 8 * i < end)
    (span : Span i first end bits) (lows : (j : ℕ) → bit_of low j ≡ pick (eqb (bit_of bits j) 1) (e % 2) (bit_of (get_or table i 0) j))
    (highs : (j : ℕ) → bit_of high j ≡ pick (eqb (bit_of bits j) 1) (e / 2) (bit_of (get_or (set table i low) (plane_bytes t + i) 0) j))
    (filled : Filled t start e first (min end (8 * i)) table)
  where
    abbrev after : List ℕ
    after = set (set table i low) (plane_bytes t + i) high

    two : length table ≡ 2 * plane_bytes t
    two = filled.long ∙ is_long

    in_plane : i < plane_bytes t
    in_plane = omega (arith, inside, l)

    -- a block of the run in this byte has its bit in the mask, and gets e
    in_run : (k : ℕ) → k / 8 ≡ i → first ≤ k → k < end → entry_in t after k ≡ e
    in_run k q g h =
        let p : 8 * i + k % 8 ≡ k = omega (arith, q) in
        let one : bit_of bits (k % 8) ≡ 1 = rw (p, le-leb first k g, lt-ltb k end h) at (span (k % 8) (omega arith)) in
        both_stored t table i low high two in_plane k q ∙ rw (lows (k % 8), highs (k % 8), one) (omega arith)

    -- any other block in this byte keeps its entry
    out_of_run : (k : ℕ) → k / 8 ≡ i → (first ≤ k → k < end → ⊥) → entry_in t after k ≡ entry_in t table k
    out_of_run k q out =
        let p : 8 * i + k % 8 ≡ k = omega (arith, q) in
        let zero : bit_of bits (k % 8) ≡ 0 = rw p at (span (k % 8) (omega arith)) ∙ no_bit (leb first k) refl (ltb k end) refl in
        let kept : get_or (set table i low) (plane_bytes t + i) 0 ≡ get_or table (plane_bytes t + i) 0 = get_or-set_other table i (plane_bytes t + i) low 0 (λ o. omega (arith, o, in_plane)) in
        let was : entry_in t table k ≡ bit_of (get_or table i 0) (k % 8) + 2 * bit_of (get_or table (plane_bytes t + i) 0) (k % 8) = rw q at (entry_byte t table k) in
        both_stored t table i low high two in_plane k q ∙ rw (lows (k % 8), highs (k % 8), zero, kept) (sym was)
      where
        no_bit : (x : Bool) → leb first k ≡ x → (y : Bool) → ltb k end ≡ y → pick {A = ℕ} (both x y) 1 0 ≡ 0
        no_bit true g true h = absurd (out (leb-true first k g) (ltb-true k end h))
        no_bit true g false h = refl
        no_bit false g y h = refl

    turn : Filled t start e first (min end (8 * (i + 1))) after
    turn = record {
      long = length-set (set table i low) (plane_bytes t + i) high ∙ length-set table i low ∙ filled.long;
      new = λ k g h held_in_planes. new k g h held_in_planes (ℕ_discrete (k / 8) i);
      old = λ k out held_in_planes. old k out held_in_planes (ℕ_discrete (k / 8) i);
    }
      where
        new : (k : ℕ) → first ≤ k → k < min end (8 * (i + 1)) → k < 8 * plane_bytes t → Dec (k / 8 ≡ i) → entry_in t after k ≡ e
        new k g h held_in_planes (yes q) = in_run k q g (omega arith)
        new k g h held_in_planes (no n) = both_kept t table i low high two in_plane k held_in_planes n ∙ filled.new k g (omega (arith, n, h)) held_in_planes

        old : (k : ℕ) → (first ≤ k → k < min end (8 * (i + 1)) → ⊥) → k < 8 * plane_bytes t → Dec (k / 8 ≡ i) → entry_in t after k ≡ entry_in t start k
        old k out held_in_planes (yes q) =
            out_of_run k q (λ g h. out g (omega (arith, q, h))) ∙ filled.old k (λ g h. omega (arith, q, h)) held_in_planes
        old k out held_in_planes (no n) =
            both_kept t table i low high two in_plane k held_in_planes n ∙ filled.old k (λ g h. out g (omega (arith, h))) held_in_planes

-- ---- the end

all_filled : (t : ℕ) (start : List ℕ) (first count e : ℕ) (table : List ℕ) → IsTable t start → first + count ≤ length (entries_in t start)
    → Filled t start e first (first + count) table → Holds t (sets (entries_in t start) first (replicate count e)) table
all_filled t start first count e table is room filled =
    holds_of t (sets es first run) table (record { few = is.sized.few; long = filled.long ∙ is.sized.long })
    (length-sets es first run ∙ length_entries_in t start) (λ k h. go k h (dec_lt k first) (dec_lt k (first + count)))
  where
    es : List ℕ
    es = entries_in t start

    run : List ℕ
    run = replicate count e

    stays : (k : ℕ) → k < 8 * plane_bytes t → (first ≤ k → k < first + count → ⊥) → entry_in t table k ≡ entry_at (sets es first run) k
    stays k h out =
        filled.old k out h
        ∙ sym (sets_out es first run k FREE (λ g l. out g (omega (arith, l, length-replicate count e))) ∙ entry_clean t start is.clean k h)

    go : (k : ℕ) → k < 8 * plane_bytes t → Dec (k < first) → Dec (k < first + count) → entry_in t table k ≡ entry_at (sets es first run) k
    go k h (yes l) _ = stays k h (λ g o. omega (arith, l, g))
    go k h (no n) (no o) = stays k h (λ g l. o l)
    go k h (no n) (yes l) =
        let p : first + (k - first) ≡ k = omega (arith, n) in
        let at : entry_at (sets es first run) (first + (k - first)) ≡ e =
        sets_in es first run (k - first) FREE (omega (arith, n, l, length-replicate count e)) (omega (arith, room, length-replicate count e))
        ∙ get_or-replicate count (k - first) e FREE (omega (arith, n, l)) in
        filled.new k (omega (arith, n)) l h ∙ sym (rw p at at)

-- ---- where the bytes of the run lie

-- in the planes, which are short
record Room (end half : ℕ) (table : List ℕ) : Type 0 where
  ends : end ≤ 8 * half
  short : half ≤ 512
  long : length table ≡ 2 * half

room : (t : ℕ) (start table : List ℕ) (from first count half : ℕ) → IsTable t start → from + count ≤ length (entries_in t start) → first ≡ from → half ≡ plane_bytes t
    → length table ≡ length start → Room (first + count) half table
room t start table from first count half is inside is_first is_half long = record {
  ends = omega (arith, inside, is_first, is_half, length_entries_in t start, (room_entries t).0);
  short = omega (arith, is_half, is.sized.few, (room_entries t).1);
  long = omega (arith, long, is.sized.long, is_half);
}

pub overflow_add-end : goal.overflow_add-end
overflow_add-end c =
    let r = room _ _ _ _ _ _ _ c.requires.0 c.requires.1 c.index-first.ensures refl refl in
    in_32_bits (record { fits = omega arith })

pub loop-i-init : goal.loop-i-init
loop-i-init c = record { begun = omega arith; not_past = omega arith; filled = none_filled _ _ _ _ _ }

pub bounds-table-i : goal.bounds-table-i
bounds-table-i c =
    let r = room _ _ _ _ _ _ _ c.requires.0 c.requires.1 c.index-first.ensures c.plane_bytes-half.ensures c.loop-i.invariant.filled.long in
    omega arith

pub overflow_add-half : goal.overflow_add-half
overflow_add-half c =
    let r = room _ _ _ _ _ _ _ c.requires.0 c.requires.1 c.index-first.ensures c.plane_bytes-half.ensures c.loop-i.invariant.filled.long in
    in_32_bits (record { fits = omega arith })

pub overflow_add-table : goal.overflow_add-table
overflow_add-table c =
    let r = room _ _ _ _ _ _ _ c.requires.0 c.requires.1 c.index-first.ensures c.plane_bytes-half.ensures c.loop-i.invariant.filled.long in
    in_32_bits (record { fits = omega arith })

pub span-bits-requires : goal.span-bits-requires
span-bits-requires c =
    let r = room _ _ _ _ _ _ _ c.requires.0 c.requires.1 c.index-first.ensures c.plane_bytes-half.ensures c.loop-i.invariant.filled.long in
    (omega arith, (c.loop-i.invariant.begun, omega arith))

pub bounds-table-i-in-loop-i : goal.bounds-table-i-in-loop-i
bounds-table-i-in-loop-i c =
    let r = room _ _ _ _ _ _ _ c.requires.0 c.requires.1 c.index-first.ensures c.plane_bytes-half.ensures c.loop-i.invariant.filled.long in
    omega arith

pub bounds-table-half : goal.bounds-table-half
bounds-table-half c =
    let r = room _ _ _ _ _ _ _ c.requires.0 c.requires.1 c.index-first.ensures c.plane_bytes-half.ensures c.loop-i.invariant.filled.long in
    simp length-set (omega arith)

pub bounds-table-half-in-loop-i : goal.bounds-table-half-in-loop-i
bounds-table-half-in-loop-i c =
    let r = room _ _ _ _ _ _ _ c.requires.0 c.requires.1 c.index-first.ensures c.plane_bytes-half.ensures c.loop-i.invariant.filled.long in
    simp length-set (omega arith)

pub overflow_mul-i : goal.overflow_mul-i
overflow_mul-i c =
    let r = room _ _ _ _ _ _ _ c.requires.0 c.requires.1 c.index-first.ensures c.plane_bytes-half.ensures c.loop-i.invariant.filled.long in
    in_32_bits (record { fits = omega arith })

pub overflow_add-i : goal.overflow_add-i
overflow_add-i c =
    let r = room _ _ _ _ _ _ _ c.requires.0 c.requires.1 c.index-first.ensures c.plane_bytes-half.ensures c.loop-i.invariant.filled.long in
    in_32_bits (record { fits = omega arith })

pub loop-i-smaller : goal.loop-i-smaller
loop-i-smaller c = omega arith

pub loop-i-preserved : goal.loop-i-preserved
loop-i-preserved c =
    let r = room _ _ _ _ _ _ _ c.requires.0 c.requires.1 c.index-first.ensures c.plane_bytes-half.ensures c.loop-i.invariant.filled.long in
    let half = c.plane_bytes-half.ensures in
    record {
      begun = omega arith;
      not_past = omega arith;
      filled = rw half
          (turn c.args.t c.args.table.now c.loop-i.table (number_of c.args.e) c.index-first.result _ c.loop-i.i _ _ c.span-bits.result
          c.requires.0.sized.long (omega (arith, half, r.ends)) (omega arith) c.span-bits.ensures (rw (tag_is c.args.e) at c.with_bits.ensures)
          (rw (half, tag_is c.args.e) at c.with_bits-in-loop-i.ensures) c.loop-i.invariant.filled);
    }

pub returns : goal.returns
returns c =
    let f = c.index-first in
    let to : min (f.result + c.args.count) (8 * c.loop-i.i) ≡ f.result + c.args.count = omega arith in
    all_filled c.args.t c.args.table.now c.args.from.0 c.args.count (number_of c.args.e) _ c.requires.0 c.requires.1 (rw (to, f.ensures) at c.loop-i.invariant.filled)
