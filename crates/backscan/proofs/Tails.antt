-- Which of 64 blocks are no TAIL, by their bits, and where an object starts by that.
-- Assumes nothing.
use mathlib.Core.Path.{◌≡◌, refl, sym, ap, ◌∙◌}
use mathlib.Core.Logic.{◌≢◌}
use mathlib.Core.Bool.{Bool, true, false}
use mathlib.Core.List.{List}
use Prim.Native.Nat.{ℕ, suc, ◌+◌, ◌-◌, ◌*◌, ◌/◌, ◌%◌, ◌^◌, ◌≤◌, ◌<◌, min, max}
use native.Mathlib.Nat.{lt_of_lt_of_le, pow-succ'}
use native.Mathlib.Decide.{dec_lt}
use native.Mathlib.Omega.{arith}
use lib.Bits.{bit_and, bit_or}
use lib.Pow.{pow_mono}
use borrow.Author.Tests.{eqb-true, eqb-false}
use Rattle.rules.specs.Tests.{pick}
use Rattle.rules.specs.Bits.{bit_of}
use Rattle.rules.specs.Entries.{TAIL}
use Rattle.rules.specs.Tables.{entry_at, is_tail, start_of}
use Rattle.laws.proofs.Bits.{two_bits, bit_of_lt, bit_of_zero, bit_of_above, bit_of_and, bit_of_or, bit_of_shr, bit_of_not, bit_of_ones, bit_of_top}
use Rattle.laws.proofs.Tables.{start_says, start_one}
use Rattle.entries.specs.Groups.{InGroup}
use Rattle.backscan.specs.Tails.{NonTails, Back}

-- ---- 64 bits

abbrev pub ALL : ℕ
ALL = 0xFFFF_FFFF_FFFF_FFFF

-- an entry is TAIL if its low bit is clear and its high bit is set
tail_bits : (x y : ℕ) → x < 2 → y < 2 → max x (1 - y) ≡ pick (is_tail (x + 2 * y)) 0 1
tail_bits = two_bits (λ (x y : ℕ). max x (1 - y) ≡ pick (is_tail (x + 2 * y)) 0 1) refl refl refl refl

pub non_tails_are : (es : List ℕ) (i low high : ℕ) → high < 2 ^ 64 → InGroup es i low high → NonTails es i (bit_or low (ALL - high))
non_tails_are es i low high h g j l =
    bit_of_or low (ALL - high) j ∙ rw (bit_of_not 64 high j h l, g j l) (tail_bits (bit_of low j) (bit_of high j) (bit_of_lt low j) (bit_of_lt high j))

-- bit j is the last that is set
pub record Last (bits j : ℕ) : Type 0 where
  pub inside : j < 64
  pub set : bit_of bits j ≡ 1
  pub above : (m : ℕ) → j < m → bit_of bits m ≡ 0

-- by the power of two that it stands for
pub last_is : {a j : ℕ} → j < 64 → 2 ^ j ≤ a → a < 2 * 2 ^ j → Last a j
last_is {a} {j} h l u = record {
  inside = h;
  set = bit_of_top a j l below;
  above = λ m n. bit_of_above a m (lt_of_lt_of_le below (pow_mono n));
}
  where
    below : a < 2 ^ suc j
    below = rw (pow-succ' 2 j) u

-- a block whose bit is clear is TAIL, and one whose bit is set is none
clear_tail : (e : ℕ) → ◌≡◌ {A = ℕ} (pick (is_tail e) 0 1) 0 → e ≡ TAIL
clear_tail e = go (is_tail e) refl
  where
    go : (b : Bool) → is_tail e ≡ b → ◌≡◌ {A = ℕ} (pick b 0 1) 0 → e ≡ TAIL
    go true t z = eqb-true e TAIL t
    go false t z = absurd (omega arith)

set_other : (e : ℕ) → ◌≡◌ {A = ℕ} (pick (is_tail e) 0 1) 1 → e ≢ TAIL
set_other e = go (is_tail e) refl
  where
    go : (b : Bool) → is_tail e ≡ b → ◌≡◌ {A = ℕ} (pick b 0 1) 1 → e ≢ TAIL
    go true t z = absurd (omega arith)
    go false t z = eqb-false e TAIL t

-- ---- the bits up to bit j

-- `bits` has a bit for each block from 64 * i to 64 * i + j that is no TAIL, and no other
pub record UpTo (es : List ℕ) (i j bits : ℕ) : Type 0 where
  pub within : (m : ℕ) → m ≤ j → bit_of bits m ≡ pick (is_tail (entry_at es (64 * i + m))) 0 1
  pub above : (m : ℕ) → j < m → bit_of bits m ≡ 0

-- all of them
pub up_to_last : (es : List ℕ) (i bits : ℕ) → bits < 2 ^ 64 → NonTails es i bits → UpTo es i 63 bits
up_to_last es i bits h o = record {
  within = λ m l. o m (omega arith);
  above = λ m l. bit_of_above bits m (lt_of_lt_of_le h (pow_mono {i = 64} (omega arith)));
}

-- those that the mask leaves
pub up_to_mask : (es : List ℕ) (i j bits : ℕ) → j < 64 → NonTails es i bits → UpTo es i j (bit_and bits (ALL / 2 ^ (63 - j)))
up_to_mask es i j bits h o = record {
  within = λ m l.
      let one : bit_of ALL (63 - j + m) ≡ 1 = bit_of_ones 64 (63 - j + m) (omega arith) in
      let e : min (bit_of bits m) 1 ≡ bit_of bits m = omega (arith, bit_of_lt bits m) in
      at m ∙ rw one e ∙ o m (omega arith);
  above = λ m l.
      let z : bit_of ALL (63 - j + m) ≡ 0 = bit_of_above ALL (63 - j + m) (pow_mono {i = 64} (omega arith)) in
      at m ∙ rw z (omega arith);
}
  where
    at : (m : ℕ) → bit_of (bit_and bits (ALL / 2 ^ (63 - j))) m ≡ min (bit_of bits m) (bit_of ALL (63 - j + m))
    at m = bit_of_and bits (ALL / 2 ^ (63 - j)) m ∙ ap (min (bit_of bits m)) (bit_of_shr ALL (63 - j) m)

-- ---- a table

-- the blocks from a to before b are TAILs
abbrev pub Tails : List ℕ → ℕ → ℕ → Type 0
Tails es a b = (k : ℕ) → a ≤ k → k < b → entry_at es k ≡ TAIL

-- TAILs join
pub tails_join : (es : List ℕ) (a b c : ℕ) → Tails es a b → Tails es b c → Tails es a c
tails_join es a b c p q k l r = go (dec_lt k b)
  where
    go : Dec (k < b) → entry_at es k ≡ TAIL
    go (yes h) = p k l h
    go (no h) = q k (omega arith) r

module _ (es : List ℕ) (i j bits : ℕ) (o : UpTo es i j bits) where
  tail : (k : ℕ) → 64 * i ≤ k → k ≤ 64 * i + j → bit_of bits (k - 64 * i) ≡ 0 → entry_at es k ≡ TAIL
  tail k l r z =
      let e : 64 * i + (k - 64 * i) ≡ k = omega arith in
      rw e at (clear_tail (entry_at es (64 * i + (k - 64 * i))) (sym (o.within (k - 64 * i) (omega arith)) ∙ z))

  -- they are TAILs if no bit is set
  pub tails_here : bits ≡ 0 → Tails es (64 * i) (64 * i + j + 1)
  tails_here z k l r = tail k l (omega arith) (rw z (bit_of_zero (k - 64 * i)))

  -- a bit that is set is none above j
  last_le : (r : ℕ) → Last bits r → r ≤ j
  last_le r u = go (dec_lt j r)
    where
      go : Dec (j < r) → r ≤ j
      go (yes l) = absurd (omega (arith, o.above r l, u.set))
      go (no l) = omega arith

  -- else the scan back from block b ends at the last block with a bit, if there are TAILs between
  pub back_to : (b r : ℕ) → Last bits r → 64 * i + j < b → Tails es (64 * i + j + 1) b → Back es b (64 * i + r)
  back_to b r u l tails =
      let n = last_le r u in
      record {
        from = omega arith;
        tails = λ k a c. go k a c (dec_lt (64 * i + j) k);
        first = λ _. set_other (entry_at es (64 * i + r)) (sym (o.within r n) ∙ u.set);
      }
    where
      go : (k : ℕ) → 64 * i + r < k → k < b → Dec (64 * i + j < k) → entry_at es k ≡ TAIL
      go k a c (yes d) = tails k (omega arith) c
      go k a c (no d) = tail k (omega arith) (omega arith) (u.above (k - 64 * i) (omega arith))

-- or at block 0, if there are TAILs only
pub back_first : (es : List ℕ) (b : ℕ) → Tails es 0 b → Back es b 0
back_first es b tails = record { from = omega arith; tails = λ k a c. tails k (omega arith) c; first = λ l. absurd (omega arith) }

-- where TAILs follow up to block k, its object starts there
start_back : (es : List ℕ) (b k s : ℕ) → Back es b s → Tails es b (k + 1) → s ≤ k → start_of es k ≡ s
start_back es b k s u tails h =
    start_one es k (start_of es k) s (start_says es k)
    (record { from = h; tails = λ m a c. tails_join es (s + 1) b (k + 1) (λ j d e. u.tails j (omega arith) e) tails m (omega arith) (omega arith); first = u.first })

module _ (es : List ℕ) (k bits : ℕ) (o : UpTo es (k / 64) (k % 64) bits) where
  -- in the 64 blocks of block k
  pub start_here : (r : ℕ) → Last bits r → start_of es k ≡ 64 * (k / 64) + r
  start_here r u =
      let b = back_to es (k / 64) (k % 64) bits o (k + 1) r u (omega arith) (λ m a c. absurd (omega arith)) in
      start_back es (k + 1) k (64 * (k / 64) + r) b (λ m a c. absurd (omega arith)) (omega (arith, last_le es (k / 64) (k % 64) bits o r u))

  -- or before them
  pub start_before : (s : ℕ) → bits ≡ 0 → Back es (64 * (k / 64)) s → start_of es k ≡ s
  start_before s z b =
      start_back es (64 * (k / 64)) k s b (λ m a c. tails_here es (k / 64) (k % 64) bits o z m a (omega arith)) (omega (arith, b.from))
