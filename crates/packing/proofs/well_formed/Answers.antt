-- `well_formed`: what is found in a byte, by whether the entry before it is used, is a test over all bytes, which antt computes.
-- Assumes nothing.
use mathlib.Core.Path.{◌≡◌, refl, sym, ◌∙◌}
use mathlib.Core.Bool.{Bool, true, false, not}
use mathlib.Core.List.{List, [], ◌∷◌, ◌++◌}
use Prim.Native.Nat.{ℕ, zero, suc, ◌+◌, ◌-◌, ◌*◌, ◌/◌, ◌%◌, ◌<◌}
use native.Mathlib.Omega.{arith}
use lib.Bits.{bit_and, bit_or, or_zero_l}
use lib.Dec.{eqb, eqb-suc-zero}
use lib.ListN.{length, get_or}
use borrow.Author.Tests.{ne_eqb}
use Rattle.rules.specs.Tests.{both}
use Rattle.rules.specs.Entries.{entry_of, entries_of}
use Rattle.rules.specs.Tables.{is_free, is_used, may_follow, well_after, well_formed}
use Rattle.laws.proofs.Below.{equal_below, alike_below}
use Rattle.laws.proofs.Lists.{one, one_lt}
use Rattle.laws.proofs.Refusals.{both_true}
use Rattle.laws.proofs.Bits.{one_bit, or_none}
use Rattle.packing.proofs.Fours.{four_of, left, left_next, left_none}
use Rattle.packing.proofs.well_formed.Invariants.{Found}
use Rattle.packing.proofs.well_formed.Goals as goal

-- ---- one byte

-- the low bits of its entries, their high bits, and a bit for each that is used
abbrev low : ℕ → ℕ
low b = bit_and b 0x55

abbrev high : ℕ → ℕ
high b = bit_and (b / 2) 0x55

abbrev used : ℕ → ℕ
used b = bit_or (low b) (high b)

-- a bit for each MARK, and for each TAIL after FREE. `before` is 1 if the entry before the byte is used, else 0
abbrev marks : ℕ → ℕ
marks b = bit_and (low b) (high b)

abbrev strays : ℕ → ℕ → ℕ
strays before b = bit_and (high b) (255 - bit_or (used b * 4 % 256) before)

-- 1 if the last is used, else 0
abbrev after : ℕ → ℕ
after b = used b / 64

-- none is found exactly if each entry may stand after the one before it. Of that one only whether it is used counts, so `before` may stand for it
all_bytes : (before : ℕ) → before < 2 → (b : ℕ) → b < 256 → well_after before (four_of b) ≡ both (eqb (marks b) 0) (eqb (strays before b) 0)
unfolding entry_of may_follow well_after
all_bytes =
    one_bit (λ (before : ℕ). (b : ℕ) → b < 256 → well_after before (four_of b) ≡ both (eqb (marks b) 0) (eqb (strays before b) 0))
    (alike_below 256 (λ (b : ℕ). well_after 0 (four_of b)) (λ (b : ℕ). both (eqb (marks b) 0) (eqb (strays 0 b) 0)) tt)
    (alike_below 256 (λ (b : ℕ). well_after 1 (four_of b)) (λ (b : ℕ). both (eqb (marks b) 0) (eqb (strays 1 b) 0)) tt)

last_used : (b : ℕ) → b < 256 → after b ≡ one (is_used (entry_of b 3))
unfolding entry_of
last_used = equal_below 256 after (λ (b : ℕ). one (is_used (entry_of b 3))) tt

-- ---- a list of entries

after_alike : (p q : ℕ) (es : List ℕ) → is_free p ≡ is_free q → well_after p es ≡ well_after q es
unfolding may_follow well_after
after_alike p q [] e = refl
after_alike p q (x ∷ es) e = rw e

-- those of a byte, and the others
after_four : (p b : ℕ) (es : List ℕ) → well_after p (four_of b ++ es) ≡ both (well_after p (four_of b)) (well_after (entry_of b 3) es)
unfolding well_after
after_four p b es = go (may_follow p (entry_of b 0)) (may_follow (entry_of b 0) (entry_of b 1)) (may_follow (entry_of b 1) (entry_of b 2)) (may_follow (entry_of b 2) (entry_of b 3))
  where
    go : (x y z w : Bool) → both x (both y (both z (both w (well_after (entry_of b 3) es)))) ≡ both (both x (both y (both z (both w true)))) (well_after (entry_of b 3) es)
    go true true true true = refl
    go true true true false = refl
    go true true false w = refl
    go true false z w = refl
    go false y z w = refl

-- ---- what is found so far

-- nothing is found in two numbers exactly if nothing is in either
none_or : (a b : ℕ) → eqb (bit_or a b) 0 ≡ both (eqb a 0) (eqb b 0)
none_or zero b = rw (or_zero_l b)
none_or (suc a) b = rw (eqb-suc-zero a) (ne_eqb (bit_or (suc a) b) 0 (λ z. let some = (or_none (suc a) b z).0 in omega arith))

found_start : (packed : List ℕ) → Found packed 0 0 0
unfolding well_formed
found_start packed = record { all = refl; small = omega arith }

found_turn : (packed : List ℕ) (i bad before : ℕ) → i < length packed → get_or packed i 0 < 256 → Found packed i bad before
    → Found packed (i + 1) (bit_or (bit_or bad (marks (get_or packed i 0))) (strays before (get_or packed i 0))) (after (get_or packed i 0))
found_turn packed i bad before h byte f =
    let b : ℕ = get_or packed i 0 in
    let rest : List ℕ = left packed (i + 1) in
    record {
      all = rw (
        none_or (bit_or bad (marks b)) (strays before b),
        none_or bad (marks b),
        after_alike (after b) (entry_of b 3) rest (rw (last_used b byte) (free_again (is_free (entry_of b 3)))),
      )
          (regroup (eqb bad 0) (eqb (marks b) 0) (eqb (strays before b) 0) (well_after (entry_of b 3) rest)
          ∙ rw (← all_bytes before f.small b byte, ← after_four before b rest, ← left_next packed i h) f.all);
      small = rw (last_used b byte) (one_lt (is_used (entry_of b 3)));
    }
  where
    free_again : (x : Bool) → is_free (one (not x)) ≡ x
    free_again true = refl
    free_again false = refl

    regroup : (x y z w : Bool) → both (both (both x y) z) w ≡ both x (both (both y z) w)
    regroup true y z w = refl
    regroup false y z w = refl

found_end : (packed : List ℕ) (i bad before : ℕ) → i ≡ length packed → Found packed i bad before → eqb bad 0 ≡ well_formed (entries_of packed)
unfolding well_after
found_end packed i bad before e f = sym (both_true (eqb bad 0)) ∙ rw (left_none packed i e) at f.all

pub loop-b-init : goal.loop-b-init
loop-b-init c = found_start c.args.packed.now

pub loop-b-preserved : goal.loop-b-preserved
loop-b-preserved c =
    let l = c.loop-b in
    found_turn c.args.packed.now l.b-index l.bad l.before (omega arith) (c.type_inv.packed l.b-index).fits l.invariant

pub returns : goal.returns
returns c = let l = c.loop-b in found_end c.args.packed.now l.b-index l.bad l.before (omega arith) l.invariant
