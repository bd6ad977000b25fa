-- `is_pair`: with no MARK, the low bit of the block tells a HEAD, and the high bits of the next two tell where its object ends.
-- Assumes nothing.
use mathlib.Core.Path.{◌≡◌, refl, sym}
use mathlib.Core.Logic.{◌≢◌}
use mathlib.Core.Bool.{Bool, true, false}
use mathlib.Core.List.{List}
use Prim.Native.Nat.{ℕ, ◌+◌, ◌<◌}
use native.Mathlib.Omega.{arith}
use lib.Dec.{eqb}
use lib.ListN.{length}
use borrow.Author.Tests.{eqb-true, eqb-false, eq-eqb, ne_eqb}
use Rattle.rules.specs.Tests.{both}
use Rattle.rules.specs.Bits.{bit_at}
use Rattle.rules.specs.Entries.{HEAD, TAIL, MARK}
use Rattle.rules.specs.Tables.{entry_at, is_head, well_formed, block_count}
use Rattle.laws.specs.Meaning.{Extent}
use Rattle.laws.proofs.Bits.{bit_at_lt}
use Rattle.laws.proofs.Planes.{few_entries}
use Rattle.laws.proofs.Refusals.{both_false}
use Rattle.laws.proofs.Tables.{entry_inside, well_says, extent_of, count_is}
use Rattle.laws.proofs.Widths.{in_32_bits}
use Rattle.entries.specs.Groups.{InPlanes}
use Rattle.entries.proofs.Table.is_pair.Goals as goal

-- the entries es in two planes, with no MARK; i is the number of a block k
module _ (es lows highs : List ℕ) (planes : InPlanes es lows highs) (well : well_formed es ≡ true) (k : ℕ) (inside : k < length es) {i : ℕ} (is : i ≡ k) where
  no_mark : (j : ℕ) → entry_at es j ≢ MARK
  no_mark j m = (well_says es well).no_mark j (entry_inside es j (λ f. omega (arith, m, f))) m

  tail_of : (j h : ℕ) → h ≡ bit_at highs j → h ≢ 0 → entry_at es j ≡ TAIL
  tail_of j h e ne =
      let m = no_mark j in
      omega (arith, e, ne, planes j, bit_at_lt lows j, bit_at_lt highs j, m)

  no_tail : (j h : ℕ) → h ≡ bit_at highs j → h ≡ 0 → entry_at es j ≢ TAIL
  no_tail j h e z q = omega (arith, e, z, planes j, bit_at_lt lows j, q)

  -- it is no HEAD
  pub no_head : (a : ℕ) → a ≡ bit_at lows i → a ≡ 0 → false ≡ both (is_head (entry_at es k)) (eqb (block_count es k) 2)
  no_head a e z =
      let here = rw is at e in
      rw (ne_eqb (entry_at es k) HEAD (λ q. omega (arith, q, here, z, planes k)))

  -- its object has one block
  pub one_block : (h : ℕ) → h ≡ bit_at highs (i + 1) → h ≡ 0 → false ≡ both (is_head (entry_at es k)) (eqb (block_count es k) 2)
  one_block h e z =
      let x = extent_of es k inside in
      rw (ne_eqb (block_count es k) 2 (λ q. no_tail (k + 1) h (rw is at e) z (x.tail 1 (omega arith) (omega (arith, q))))) (sym (both_false (is_head (entry_at es k))))

  -- it has two, or more
  module _ (a : ℕ) (ea : a ≡ bit_at lows i) (na : a ≢ 0) (h : ℕ) (eh : h ≡ bit_at highs (i + 1)) (nh : h ≢ 0) where
    is_head_of : entry_at es k ≡ HEAD
    is_head_of =
        let here = rw is at ea in
        let m = no_mark k in
        omega (arith, here, na, planes k, bit_at_lt lows k, bit_at_lt highs k, m)

    second : entry_at es (k + 1) ≡ TAIL
    second = tail_of (k + 1) h (rw is at eh) nh

    pub two_blocks : (g : ℕ) → g ≡ bit_at highs (i + 2) → eqb g 0 ≡ both (is_head (entry_at es k)) (eqb (block_count es k) 2)
    two_blocks g e = rw (eq-eqb (entry_at es k) HEAD is_head_of) (go (eqb g 0) refl)
      where
        eg : g ≡ bit_at highs (k + 2)
        eg = rw is at e

        others : (j : ℕ) → 0 < j → j < 2 → entry_at es (k + j) ≡ TAIL
        others j l r = let one : j ≡ 1 = omega (arith, l, r) in rw one second

        go : (b : Bool) → eqb g 0 ≡ b → b ≡ eqb (block_count es k) 2
        go true q =
            let room = entry_inside es (k + 1) (λ f. omega (arith, f, second)) in
            let two : Extent es k 2 = record { some_block = omega arith; room = omega (arith, room); tail = others; next = no_tail (k + 2) g eg (eqb-true g 0 q) } in
            sym (eq-eqb (block_count es k) 2 (count_is es k 2 two))
        go false q = sym (ne_eqb (block_count es k) 2 (λ two. (extent_of es k inside).next (rw two (tail_of (k + 2) g eg (eqb-false g 0 q)))))

pub returns-then-plane_bit-eq0 : goal.returns-then-plane_bit-eq0
returns-then-plane_bit-eq0 c =
    no_head _ _ _ c.planes.ensures.hold c.requires.1 c.args.k.0 c.requires.0 c.index-i.ensures _ c.plane_bit.ensures c.if-plane_bit-eq0.true

pub overflow_add-i : goal.overflow_add-i
overflow_add-i c = in_32_bits (record { fits = omega (arith, c.index-i.ensures, c.requires.0, few_entries _ _ c.args.self.now.is_table) })

pub returns-then-plane_bit-eq0-2 : goal.returns-then-plane_bit-eq0-2
returns-then-plane_bit-eq0-2 c =
    one_block _ _ _ c.planes.ensures.hold c.requires.1 c.args.k.0 c.requires.0 c.index-i.ensures _ c.plane_bit-2.ensures c.if-plane_bit-eq0-2.true

pub overflow_add-i-2 : goal.overflow_add-i-2
overflow_add-i-2 c = in_32_bits (record { fits = omega (arith, c.index-i.ensures, c.requires.0, few_entries _ _ c.args.self.now.is_table) })

pub returns : goal.returns
returns c =
    two_blocks _ _ _ c.planes.ensures.hold c.requires.1 c.args.k.0 c.requires.0 c.index-i.ensures
    _ c.plane_bit.ensures c.if-plane_bit-eq0.false _ c.plane_bit-2.ensures c.if-plane_bit-eq0-2.false _ c.plane_bit-3.ensures
