-- The bytes of one block, of the used ones of 64, and of all, as the code copies them.
-- Assumes nothing.
use mathlib.Core.Path.{◌≡◌, refl, sym, ap, ◌∙◌}
use mathlib.Core.Logic.{◌≢◌}
use mathlib.Core.List.{List, [], ◌++◌}
use Prim.Native.Nat.{ℕ, ◌+◌, ◌-◌, ◌*◌, ◌^◌, ◌≤◌, ◌<◌, max}
use native.Mathlib.Decide.{ℕ_discrete, dec_lt}
use native.Mathlib.Omega.{arith}
use lib.ListN.{length, take, drop, set, length-append, length-take, length-set, drop_of_length-le, get_or-eq_default}
use lib.Seq.{sets, length-sets, ext_get_or, take-add, take_all, drop-drop, get_or-take, get_or-drop, get_or-set_same, get_or-set_other}
use lib.Bits.{bit_and, bit_or}
use borrow.Author.Tests.{eq-eqb, ne_eqb}
use borrow.Rule.Slice.PartMut.{mid_of, put_mid}
use Rattle.rules.specs.Words.{bytes_of, word_at}
use Rattle.laws.specs.Meaning.{AllBytes}
use Rattle.rules.specs.Tests.{tabulate}
use Rattle.rules.specs.Bits.{bit_of}
use Rattle.rules.specs.Entries.{FREE}
use Rattle.rules.specs.Tables.{entry_at, is_free}
use Rattle.rules.specs.Images.{block_bytes, used_from}
use Rattle.laws.proofs.Lists.{length_tabulate, get_d_tabulate, sets_append, sets_next}
use Rattle.laws.proofs.Words.{length_bytes_of, bytes_of_word_at}
use Rattle.std.specs.Int.{div_ceil}
use Rattle.rules.specs.Planes.{entries_in, IsTable}
use Rattle.laws.proofs.Planes.{few_entries}
use Rattle.laws.proofs.Bits.{bit_of_or, LowestBit, lowest_gone, lowest_others, lowest_less}
use Rattle.laws.proofs.Images.{length_block, used_split, used_first, used_alike}
use Rattle.memory.proofs.Parts.{part_length, part_back}
use Rattle.entries.specs.Groups.{InGroup}
use Rattle.freeruns.specs.Rows.{Zeros}
use Rattle.freeruns.proofs.Rows.{first_lt}
use Rattle.transfer.specs.Copying.{lanes, Inside, blocks_in, group_in}

-- ---- what is still to be stored

-- once `rest` is stored from `to` on, the image is as it was with `all` from `at` on
pub record Remains (image₀ : List ℕ) (at : ℕ) (all image : List ℕ) (to : ℕ) (rest : List ℕ) : Type 0 where
  pub long : length image ≡ length image₀
  pub end : to + length rest ≡ at + length all
  pub same : sets image to rest ≡ sets image₀ at all

-- `rest` has a first part, and others behind it
pub record Splits (rest part others : List ℕ) : Type 0 where
  pub is : rest ≡ part ++ others

-- at first it is all
pub remains_all : (image : List ℕ) (at : ℕ) (all : List ℕ) → Remains image at all image at all
remains_all image at all = record { long = refl; end = refl; same = refl }

module _ {image₀ : List ℕ} {at : ℕ} {all image : List ℕ} {to : ℕ} {rest : List ℕ} (r : Remains image₀ at all image to rest) where
  -- all is stored
  pub remains_none : rest ≡ [] → (image ≡ sets image₀ at all) × (to ≡ at + length all)
  remains_none e =
      let end : Remains image₀ at all image to [] = rw (← e) r in
      (end.same, omega (arith, end.end))

  module _ {part others : List ℕ} (split : Splits rest part others) where
    -- there is room for the first part
    pub remains_room : at + length all ≤ length image₀ → to + length part ≤ length image
    remains_room room = omega (arith, r.long, r.end, ap (length {A = ℕ}) split.is, length-append part others, room)

    -- and once it is stored, the others remain
    pub remains_next : {image' : List ℕ} {to' : ℕ} → image' ≡ sets image to part → to' ≡ to + length part → Remains image₀ at all image' to' others
    remains_next s e =
        rw (s, e) record {
          long = length-sets image to part ∙ r.long;
          end = omega (arith, r.end, ap (length {A = ℕ}) split.is, length-append part others);
          same = sym (sets_append image to part others) ∙ ap (sets image to) (sym split.is) ∙ r.same;
        }

-- ---- one block

-- of 16 bytes
module _ (block : List ℕ) (bytes : AllBytes block) (long : length block ≡ 16) where
  word_bytes : (w : ℕ) → w < 4 → bytes_of (word_at block w) ≡ take 4 (drop (4 * w) block)
  word_bytes w l = bytes_of_word_at block w bytes (omega arith)

  -- it is its four words
  block_words : bytes_of (word_at block 0) ++ bytes_of (word_at block 1) ++ bytes_of (word_at block 2) ++ bytes_of (word_at block 3) ≡ block
  block_words =
      rw (word_bytes 0 (omega arith), word_bytes 1 (omega arith), word_bytes 2 (omega arith), word_bytes 3 (omega arith))
      (sym (take-add 12 4 block ∙ rw (take-add 8 4 block, take-add 4 4 block)) ∙ take_all 16 block (omega arith))

  -- it is stored word by word
  pub four_words : (part : List ℕ)
      → sets (sets (sets (sets part 0 (bytes_of (word_at block 0))) 4 (bytes_of (word_at block 1))) 8 (bytes_of (word_at block 2))) 12 (bytes_of (word_at block 3)) ≡ sets part 0 block
  four_words part =
      let a = bytes_of (word_at block 0) in
      let b = bytes_of (word_at block 1) in
      let c = bytes_of (word_at block 2) in
      let d = bytes_of (word_at block 3) in
      rw (
        sets_next part 0 4 a b (simp length_bytes_of refl),
        sets_next part 0 8 (a ++ b) c (simp (length-append, length_bytes_of) refl),
        sets_next part 0 12 (a ++ b ++ c) d (simp (length-append, length_bytes_of) refl),
      )
      (ap (sets part 0) block_words)

-- a part of the source comes back as a part of the target
pub part_moved : (target source last : List ℕ) (to n from m : ℕ) → to + n ≤ length target → length (mid_of from m source) ≡ n → last ≡ mid_of from m source
    → put_mid to n target last ≡ sets target to (take m (drop from source))
part_moved target source last to n from m room long is = rw is (part_back target to n room (mid_of from m source) long)

-- of a block
pub moved : (target source last : List ℕ) (to from : ℕ) → from + 16 ≤ length source → to + 16 ≤ length target → last ≡ mid_of from (from + 16 - from) source
    → put_mid to (to + 16 - to) target last ≡ sets target to (take 16 (drop from source))
moved target source last to from inside room is =
    let n : from + 16 - from ≡ 16 = omega arith in
    part_moved target source last to (to + 16 - to) from (from + 16 - from) (omega arith) (part_length source from (from + 16 - from) (omega arith) ∙ omega arith) is ∙ rw n

-- ---- the used ones of 64 blocks

-- no bit, no block
pub blocks_none : (pool : List ℕ) (i : ℕ) → blocks_in pool i 0 ≡ []
unfolding used_from tabulate bit_of
blocks_none pool i = refl

-- past the 64 there is no block
past_lanes : (es : List ℕ) (m : ℕ) → length es ≤ 64 → (m < 64 → ⊥) → entry_at es m ≡ FREE
past_lanes es m few out = get_or-eq_default es FREE (omega (arith, few, out))

-- what a turn knows, where j is the first bit of `left`
pub record First (left j : ℕ) : Type 0 where
  pub few : j < 64
  pub before : (m : ℕ) → m < j → entry_at (lanes left) m ≡ FREE
  pub here : entry_at (lanes left) j ≢ FREE
  -- without it, the others are left
  pub others : set (lanes left) j FREE ≡ lanes (bit_and left (left - 1))
  pub less : bit_and left (left - 1) < left

pub first_bit : {left j : ℕ} → left < 2 ^ 64 → left ≢ 0 → Zeros left j → First left j
first_bit {left} {j} small some-bit zeros = record {
  few = j_lt;
  before = λ m l. lane left m (omega (arith, j_lt, l)) ∙ zeros.before m l;
  here = λ z. omega (arith, z, lane left j j_lt, zeros.next j_lt);
  others = ext_get_or FREE (set (lanes left) j FREE) (lanes (bit_and left (left - 1))) (simp (length-set, length_tabulate)) (λ m l. same m (rw (length-set, length_tabulate) at l) (ℕ_discrete m j));
  less = lowest_less left j lowest (omega (arith, some-bit));
}
  where
    j_lt : j < 64
    j_lt = first_lt left j small some-bit zeros

    lowest : LowestBit left j
    lowest = record { below = zeros.before; set = zeros.next j_lt }

    lane : (bits m : ℕ) → m < 64 → entry_at (lanes bits) m ≡ bit_of bits m
    lane bits m l = get_d_tabulate 64 (bit_of bits) m FREE l

    same : (m : ℕ) → m < 64 → Dec (m ≡ j) → entry_at (set (lanes left) j FREE) m ≡ entry_at (lanes (bit_and left (left - 1))) m
    same m l (yes e) = rw (e, lane (bit_and left (left - 1)) j j_lt, lowest_gone left j lowest) (get_or-set_same (lanes left) j FREE FREE (rw length_tabulate j_lt))
    same m l (no ne) = get_or-set_other (lanes left) j m FREE FREE ne ∙ lane left m l ∙ sym (lane (bit_and left (left - 1)) m l ∙ lowest_others left j lowest m ne)

module _ (pool : List ℕ) (i left j : ℕ) (f : First left j) where
  abbrev others : ℕ
  others = bit_and left (left - 1)

  -- its block comes first, and the blocks of the other bits follow
  first_split : Splits (blocks_in pool i left) (block_bytes pool (64 * i + j)) (blocks_in pool i others)
  first_split = record { is = rw (← f.others) (used_first pool (64 * i) (lanes left) j f.before f.here) }

  module _ (inside : Inside pool i left) where
    -- it lies in the pool
    pub first_inside : 16 * (64 * i + j) + 16 ≤ length pool
    first_inside = inside j f.few (λ z. f.here (get_d_tabulate 64 (bit_of left) j FREE f.few ∙ z))

    -- as do the others
    pub others_inside : Inside pool i others
    others_inside m l ne = go (ℕ_discrete m j)
      where
        go : Dec (m ≡ j) → 16 * (64 * i + m) + 16 ≤ length pool
        go (yes e) = rw e first_inside
        go (no o) = inside m l (λ z. ne (sym (get_d_tabulate 64 (bit_of others) m FREE l) ∙ rw (← f.others) (get_or-set_other (lanes left) j m FREE FREE o ∙ get_d_tabulate 64 (bit_of left) m FREE l ∙ z)))

-- the blocks of the bits that are left remain: then the image is as it was, with those of `bits` from `at` on
pub record Copies (image₀ pool : List ℕ) (i at bits : ℕ) (image : List ℕ) (to left : ℕ) : Type 0 where
  pub small : left < 2 ^ 64
  pub inside : Inside pool i left
  pub remains : Remains image₀ at (blocks_in pool i bits) image to (blocks_in pool i left)

-- what a turn knows of where it copies
pub record CopyTurn (pool : List ℕ) (i left j : ℕ) (image : List ℕ) (to : ℕ) : Type 0 where
  pub first : First left j
  pub inside : 16 * (64 * i + j) + 16 ≤ length pool
  pub room : to + 16 ≤ length image

module _ {image₀ pool : List ℕ} {i at bits : ℕ} {image : List ℕ} {to left : ℕ} (c : Copies image₀ pool i at bits image to left) where
  -- no bit is left
  pub copies_none : left ≡ 0 → (image ≡ sets image₀ at (blocks_in pool i bits)) × (to ≡ at + length (blocks_in pool i bits))
  copies_none e = remains_none c.remains (rw e (blocks_none pool i))

  pub copy_turn : {j : ℕ} → left ≢ 0 → Zeros left j → at + length (blocks_in pool i bits) ≤ length image₀ → CopyTurn pool i left j image to
  copy_turn {j} some-bit zeros room =
      let f : First left j = first_bit c.small some-bit zeros in
      let inside : 16 * (64 * i + j) + 16 ≤ length pool = first_inside pool i left j f c.inside in
      let long : length (block_bytes pool (64 * i + j)) ≡ 16 = length_block pool (64 * i + j) inside in
      record { first = f; inside = inside; room = rw (← long) (remains_room c.remains (first_split pool i left j f) room) }

  -- once the block is stored, the others remain
  pub copies_next : {j : ℕ} → CopyTurn pool i left j image to → (last : List ℕ) (from : ℕ) → from ≡ 16 * (64 * i + j) → last ≡ mid_of from (from + 16 - from) pool
      → Copies image₀ pool i at bits (put_mid to (to + 16 - to) image last) (to + 16) (bit_and left (left - 1))
  unfolding block_bytes
  copies_next {j} turn last from e is =
      let f = turn.first in
      let stored : put_mid to (to + 16 - to) image last ≡ sets image to (block_bytes pool (64 * i + j)) =
      rw (← e) (moved image pool last to from (omega (arith, e, turn.inside)) turn.room is) in
      record {
        small = omega (arith, f.less, c.small);
        inside = others_inside pool i left j f c.inside;
        remains = remains_next c.remains (first_split pool i left j f) stored (rw (length_block pool (64 * i + j) turn.inside));
      }

-- ---- all used blocks, 64 at a time

-- a block is FREE if neither of its bits is set
free_or : (a b : ℕ) → is_free (a + 2 * b) ≡ is_free (max a b)
free_or a b = go (ℕ_discrete (max a b) 0)
  where
    go : Dec (max a b ≡ 0) → is_free (a + 2 * b) ≡ is_free (max a b)
    go (yes e) = eq-eqb (a + 2 * b) 0 (omega (arith, e)) ∙ sym (eq-eqb (max a b) 0 e)
    go (no ne) = ne_eqb (a + 2 * b) 0 (λ e. ne (omega (arith, e))) ∙ sym (ne_eqb (max a b) 0 ne)

-- none is left at the end of the table
pub groups_end : (pool es : List ℕ) (i : ℕ) → length es ≤ 64 * i → used_from pool (64 * i) (drop (64 * i) es) ≡ []
unfolding used_from
groups_end pool es i h = rw (drop_of_length-le es h)

-- there are as many groups as begin before the end
pub in_groups : {n k i : ℕ} → i < k → k ≡ div_ceil n 64 → 64 * i < n
in_groups l e = omega arith

pub past_groups : {n k i : ℕ} → k ≤ i → k ≡ div_ceil n 64 → n ≤ 64 * i
past_groups l e = omega arith

-- which are at most 64
pub few_groups : {t i : ℕ} {table : List ℕ} → IsTable t table → 64 * i < length (entries_in t table) → i < 64
few_groups {t} {i} {table} is l = omega (arith, l, few_entries t table is)

-- a block is used where one of its two bits is set
module _ (pool es : List ℕ) (i low high : ℕ) (g : InGroup es i low high) where
  either : (j : ℕ) → bit_of (bit_or low high) j ≡ max (bit_of low j) (bit_of high j)
  either j = omega (arith, bit_of_or low high j)

  -- so no bit is where the entry is FREE, as past the end of the table
  pub group_alike : (j : ℕ) → is_free (entry_at (group_in es i) j) ≡ is_free (entry_at (lanes (bit_or low high)) j)
  group_alike j = go (dec_lt j 64)
    where
      go : Dec (j < 64) → is_free (entry_at (group_in es i) j) ≡ is_free (entry_at (lanes (bit_or low high)) j)
      go (no out) = ap is_free (past_lanes (group_in es i) j (rw length-take (omega arith)) out ∙ sym (past_lanes (lanes (bit_or low high)) j (simp length_tabulate (omega arith)) out))
      go (yes l) =
          rw (get_or-take 64 (drop (64 * i) es) j FREE l, get_or-drop (64 * i) es j FREE, g j l, get_d_tabulate 64 (bit_of (bit_or low high)) j FREE l, either j) (free_or (bit_of low j) (bit_of high j))

  -- those of the 64 come first, and those behind them follow
  pub group_next : Splits (used_from pool (64 * i) (drop (64 * i) es)) (blocks_in pool i (bit_or low high)) (used_from pool (64 * (i + 1)) (drop (64 * (i + 1)) es))
  group_next = record {
    is =
        let e : 64 * (i + 1) ≡ 64 * i + 64 = omega arith in
        rw (e, ← drop-drop 64 (64 * i) es, ← used_alike pool (64 * i) (group_in es i) (lanes (bit_or low high)) group_alike) (used_split pool (64 * i) 64 (drop (64 * i) es));
  }

  -- they lie in the pool
  pub group_inside : length pool ≡ 16 * length es → Inside pool i (bit_or low high)
  group_inside whole j l ne = go (dec_lt (64 * i + j) (length es))
    where
      go : Dec (64 * i + j < length es) → 16 * (64 * i + j) + 16 ≤ length pool
      go (yes h) = omega arith
      go (no h) =
          let free : entry_at es (64 * i + j) ≡ 0 = get_or-eq_default es FREE (omega arith) in
          absurd (ne (omega (arith, free, g j l, either j)))
