-- The pool as the code fills it: the used ones of 64 blocks, the others among them, and all.
-- Assumes nothing.
use mathlib.Core.Path.{◌≡◌, refl, sym, ap, ◌∙◌}
use mathlib.Core.Logic.{◌≢◌}
use mathlib.Core.Bool.{Bool, true, false}
use mathlib.Core.List.{List, [], ◌∷◌, ◌++◌}
use Prim.Native.Nat.{ℕ, zero, suc, ◌+◌, ◌-◌, ◌*◌, ◌^◌, ◌≤◌, ◌<◌}
use native.Mathlib.Omega.{arith}
use lib.ListN.{length, set, take, drop, replicate, drop_of_length-le, take-append-drop, length-take, length-drop, get_or-replicate, replicate-append-replicate}
use lib.Seq.{sets, length-sets, length-take-le, drop-drop}
use lib.Bits.{bit_and, bit_or}
use borrow.Rule.Slice.PartMut.{mid_of, put_mid}
use borrow.Author.Tests.{eq-eqb, ne_eqb, eqb-false}
use Rattle.rules.specs.Tests.{count, tabulate}
use Rattle.rules.specs.Bits.{bit_of}
use Rattle.rules.specs.Entries.{FREE}
use Rattle.rules.specs.Tables.{entry_at, is_free, is_used, used}
use Rattle.rules.specs.Images.{block_bytes}
use Rattle.rules.specs.Files.{pool_of}
use Rattle.laws.proofs.Lists.{sets_append, sets_next, sets_over, sets_all, one, count_append, count_all, count_none, count_set}
use Rattle.laws.proofs.Tables.{entry_inside}
use Rattle.laws.proofs.Files.{length_pool, pool_split, pool_run}
use Rattle.entries.specs.Groups.{InGroup}
use Rattle.memory.proofs.Parts.{part_length}
use Rattle.freeruns.specs.Rows.{Zeros}
use Rattle.transfer.specs.Copying.{lanes, Inside, group_in, with_used}
use Rattle.transfer.proofs.Copying.{Remains, Splits, remains_none, remains_next, part_moved, moved, First, first_bit, first_inside, others_inside, group_alike}

-- ---- the used blocks get their bytes

-- n FREE blocks stay
with_gap : (pool : List ℕ) (k n : ℕ) (bs : List ℕ) → with_used pool k (replicate n FREE) bs ≡ pool
unfolding with_used
with_gap pool k zero bs = refl
with_gap pool k (suc n) bs = with_gap pool (suc k) n bs

-- no bit, no block
no_lanes : lanes 0 ≡ replicate 64 FREE
unfolding tabulate bit_of
no_lanes = refl

none_used : used (lanes 0) ≡ 0
unfolding used
none_used = rw no_lanes (count_none is_used 64 FREE refl)

-- which entries are FREE is all that matters
with_alike : (pool : List ℕ) (k : ℕ) (es fs bs : List ℕ) → ((i : ℕ) → is_free (entry_at es i) ≡ is_free (entry_at fs i)) → with_used pool k es bs ≡ with_used pool k fs bs
unfolding with_used
with_alike pool k [] [] bs same = refl
with_alike pool k [] (f ∷ fs) bs same = rw (← same 0) (with_alike pool (suc k) [] fs bs (λ i. same (suc i)))
with_alike pool k (e ∷ es) [] bs same = rw (same 0) (with_alike pool (suc k) es [] bs (λ i. same (suc i)))
with_alike pool k (e ∷ es) (f ∷ fs) bs same =
    rw (same 0, with_alike pool (suc k) es fs bs (λ i. same (suc i)), with_alike (sets pool (16 * k) (take 16 bs)) (suc k) es fs (drop 16 bs) (λ i. same (suc i)))

-- the first block that is not FREE gets the first bytes, and then the others get theirs
with_first : (pool : List ℕ) (k : ℕ) (es : List ℕ) (j : ℕ) (bs : List ℕ) → ((i : ℕ) → i < j → entry_at es i ≡ FREE) → entry_at es j ≢ FREE
    → with_used pool k es bs ≡ with_used (sets pool (16 * (k + j)) (take 16 bs)) k (set es j FREE) (drop 16 bs)
unfolding with_used
with_first pool k [] j bs before here = absurd (here refl)
with_first pool k (e ∷ es) zero bs before here = let at : k + 0 ≡ k = omega arith in rw (at, ne_eqb e FREE here)
with_first pool k (e ∷ es) (suc j) bs before here =
    let next : suc k + j ≡ k + suc j = omega arith in
    rw (eq-eqb e FREE (before 0 (omega arith))) (rw next at (with_first pool (suc k) es j bs (λ i l. before (suc i) (omega arith)) here))

-- in blocks that are all zero, it is the pool of these entries
with_zeros : (pool : List ℕ) (k : ℕ) (es bs : List ℕ) → 16 * used es ≤ length bs
    → with_used (sets pool (16 * k) (replicate (16 * length es) 0)) k es bs ≡ sets pool (16 * k) (pool_of es bs)
unfolding with_used pool_of used count
with_zeros pool k [] bs room = refl
with_zeros pool k (e ∷ es) bs room = go (λ pool cs. with_zeros pool (suc k) es cs) (is_free e) refl
  where
    Rest : Type 0
    Rest = (pool cs : List ℕ) → 16 * used es ≤ length cs → with_used (sets pool (16 * suc k) (replicate (16 * length es) 0)) (suc k) es cs ≡ sets pool (16 * suc k) (pool_of es cs)

    -- behind the 16 bytes of the first block
    behind : Rest → (a cs : List ℕ) → length a ≡ 16 → 16 * used es ≤ length cs → with_used (sets pool (16 * k) (a ++ replicate (16 * length es) 0)) (suc k) es cs ≡ sets pool (16 * k) (a ++ pool_of es cs)
    behind rest a cs long room =
        let at : 16 * suc k ≡ 16 * k + length a = omega arith in
        rw (sets_append pool (16 * k) a (replicate (16 * length es) 0), ← at) (rest (sets pool (16 * k) a) cs room ∙ sets_next pool (16 * k) (16 * suc k) a (pool_of es cs) at)

    zeros : replicate {A = ℕ} (16 * suc (length es)) 0 ≡ replicate 16 0 ++ replicate (16 * length es) 0
    zeros =
        let more : 16 * suc (length es) ≡ 16 + 16 * length es = omega arith in
        rw more (sym (replicate-append-replicate 16 (16 * length es) 0))

    go : Rest → (b : Bool) → is_free e ≡ b → with_used (sets pool (16 * k) (replicate (16 * suc (length es)) 0)) k (e ∷ es) bs ≡ sets pool (16 * k) (pool_of (e ∷ es) bs)
    go rest true f = rw (f, zeros) (behind rest (replicate 16 0) bs refl (rw f at room))
    go rest false f =
        let all : 16 * suc (used es) ≤ length bs = rw f at room in
        let sixteen = length-take-le 16 bs (omega arith) in
        rw (f, zeros, sets_over pool (16 * k) (replicate 16 0) (take 16 bs) (replicate (16 * length es) 0) (sym sixteen)) (behind rest (take 16 bs) (drop 16 bs) sixteen (omega (arith, length-drop 16 bs)))

-- ---- the used ones of 64 blocks, one by one

-- the blocks of the bits that are left get the bytes from block `next` on: then the pool is as it was, with those of `bits` from block `first` on
pub record Places (pool₀ bytes : List ℕ) (i first bits : ℕ) (pool : List ℕ) (next left : ℕ) : Type 0 where
  pub small : left < 2 ^ 64
  pub inside : Inside pool i left
  pub long : length pool ≡ length pool₀
  pub end : next + used (lanes left) ≡ first + used (lanes bits)
  pub same : with_used pool (64 * i) (lanes left) (drop (16 * next) bytes) ≡ with_used pool₀ (64 * i) (lanes bits) (drop (16 * first) bytes)

-- what a turn knows of where it stores
pub record PlaceTurn (bytes : List ℕ) (i left j : ℕ) (pool : List ℕ) (next : ℕ) : Type 0 where
  pub first : First left j
  pub inside : 16 * (64 * i + j) + 16 ≤ length pool
  pub few : next < 4096
  pub enough : 16 * next + 16 ≤ length bytes

module _ {pool₀ bytes : List ℕ} {i first bits : ℕ} {pool : List ℕ} {next left : ℕ} (p : Places pool₀ bytes i first bits pool next left) where
  -- no bit is left
  pub places_none : left ≡ 0 → (pool ≡ with_used pool₀ (64 * i) (lanes bits) (drop (16 * first) bytes)) × (next ≡ first + used (lanes bits))
  places_none e =
      let end : Places pool₀ bytes i first bits pool next 0 = rw (← e) p in
      (sym (rw no_lanes (with_gap pool (64 * i) 64 (drop (16 * next) bytes))) ∙ end.same, omega (arith, end.end, none_used))

  -- one is the first
  fewer : {j : ℕ} → First left j → used (lanes left) ≡ 1 + used (lanes (bit_and left (left - 1)))
  unfolding used
  fewer {j} f =
      let was : one (is_used (entry_at (lanes left) j)) ≡ 1 = rw (ne_eqb (entry_at (lanes left) j) FREE f.here) in
      rw (← f.others) (omega (arith, was, count_set is_used (lanes left) j FREE FREE (entry_inside (lanes left) j f.here)))

  pub place_turn : {j : ℕ} → left ≢ 0 → Zeros left j → first + used (lanes bits) ≤ 4096 → 16 * (first + used (lanes bits)) ≤ length bytes → PlaceTurn bytes i left j pool next
  place_turn {j} some-bit zeros few enough =
      let f : First left j = first_bit p.small some-bit zeros in
      record {
        first = f;
        inside = first_inside pool i left j f p.inside;
        few = omega (arith, few, p.end, fewer f);
        enough = omega (arith, enough, p.end, fewer f);
      }

  -- once the block is stored, the others are left
  pub places_next : {j : ℕ} → PlaceTurn bytes i left j pool next → (last : List ℕ) (to from : ℕ) → to ≡ 16 * (64 * i + j) → from ≡ 16 * next → last ≡ mid_of from (from + 16 - from) bytes
      → Places pool₀ bytes i first bits (put_mid to (to + 16 - to) pool last) (next + 1) (bit_and left (left - 1))
  unfolding block_bytes
  places_next {j} turn last to from t e is =
      let f = turn.first in
      let stored : put_mid to (to + 16 - to) pool last ≡ sets pool (16 * (64 * i + j)) (block_bytes bytes next) =
      rw (← t, ← e) (moved pool bytes last to from (omega (arith, e, turn.enough)) (omega (arith, t, turn.inside)) is) in
      let more : 16 * (next + 1) ≡ 16 * next + 16 = omega arith in
      rw stored record {
        small = omega (arith, f.less, p.small);
        inside = λ m l ne. rw length-sets (others_inside pool i left j f p.inside m l ne);
        long = length-sets pool (16 * (64 * i + j)) (block_bytes bytes next) ∙ p.long;
        end = omega (arith, p.end, fewer f);
        same = rw (more, ← f.others, ← drop-drop 16 (16 * next) bytes) (sym (with_first pool (64 * i) (lanes left) j (drop (16 * next) bytes) f.before f.here) ∙ p.same);
      }

-- ---- 64 blocks

-- which entries are FREE says how many are used
as_many : (es fs : List ℕ) → ((i : ℕ) → is_free (entry_at es i) ≡ is_free (entry_at fs i)) → used es ≡ used fs
unfolding used count
as_many [] [] same = refl
as_many [] (f ∷ fs) same = rw (← same 0) (as_many [] fs (λ i. same (suc i)))
as_many (e ∷ es) [] same = rw (same 0) (as_many es [] (λ i. same (suc i)))
as_many (e ∷ es) (f ∷ fs) same = rw (same 0, as_many es fs (λ i. same (suc i)))

-- every bit, every block
all_lanes : lanes 18446744073709551615 ≡ replicate 64 1
unfolding tabulate bit_of
all_lanes = refl

all_used : used (lanes 18446744073709551615) ≡ 64
unfolding used
all_used = rw all_lanes (count_all is_used 64 1 refl)

-- what is known of 64 blocks that are all used
pub record Full (es bytes pool : List ℕ) (i passed : ℕ) : Type 0 where
  pub sixty_four : used (group_in es i) ≡ 64
  pub enough : 16 * passed + 1024 ≤ length bytes
  pub inside : 1024 * i + 1024 ≤ length pool

module _ (es : List ℕ) (i low high : ℕ) (g : InGroup es i low high) where
  pub group_used : used (group_in es i) ≡ used (lanes (bit_or low high))
  group_used = as_many (group_in es i) (lanes (bit_or low high)) (group_alike [] es i low high g)

  -- all are used
  module _ (all : bit_or low high ≡ 18446744073709551615) where
    each_used : (j : ℕ) → j < 64 → entry_at (group_in es i) j ≢ FREE
    each_used j l = eqb-false (entry_at (group_in es i) j) FREE (group_alike [] es i low high g j ∙ rw (all, all_lanes) (ap is_free (get_or-replicate 64 j 1 FREE l)))

    group_full : length (group_in es i) ≡ 64
    group_full = omega (arith, length-take 64 (drop (64 * i) es), entry_inside (group_in es i) 63 (each_used 63 (omega arith)))

    full_used : used (group_in es i) ≡ 64
    full_used = group_used ∙ rw all all_used

    full_inside : 64 * i + 64 ≤ length es
    full_inside = omega (arith, group_full, length-take 64 (drop (64 * i) es), length-drop (64 * i) es)

    full_pool : (bs : List ℕ) → pool_of (group_in es i) bs ≡ take 1024 bs
    full_pool bs = rw group_full at (pool_run (group_in es i) bs (λ j l. each_used j (omega (arith, group_full))))

    module _ (bytes pool : List ℕ) (passed : ℕ) (room : 16 * (passed + used (group_in es i)) ≤ length bytes) (whole : length pool ≡ 16 * length es) where
      pub full_group : Full es bytes pool i passed
      full_group = record { sixty_four = full_used; enough = omega (arith, room, full_used); inside = omega (arith, whole, full_inside) }

      -- and they are stored as one part
      pub full_moved : (last : List ℕ) (at from to : ℕ) → at ≡ 1024 * i → from ≡ 16 * passed → to ≡ 16 * passed + 1024 → last ≡ mid_of from (to - from) bytes
          → put_mid at (at + 1024 - at) pool last ≡ sets pool (1024 * i) (pool_of (group_in es i) (drop (16 * passed) bytes))
      full_moved last at from to a f t is =
          let n : to - from ≡ 1024 = omega arith in
          let full = full_group in
          let long : length (mid_of from (to - from) bytes) ≡ at + 1024 - at = part_length bytes from (to - from) (omega (arith, full.enough, f, t)) ∙ omega arith in
          part_moved pool bytes last at (at + 1024 - at) from (to - from) (omega (arith, full.inside, a)) long is ∙ rw (a, n, f, full_pool (drop (16 * passed) bytes))

  -- the used ones are stored where all are zero
  pub group_pool : (pool bs : List ℕ) → 16 * used (group_in es i) ≤ length bs
      → with_used (sets pool (16 * (64 * i)) (replicate (16 * length (group_in es i)) 0)) (64 * i) (lanes (bit_or low high)) bs ≡ sets pool (1024 * i) (pool_of (group_in es i) bs)
  group_pool pool bs room =
      let at : 16 * (64 * i) ≡ 1024 * i = omega arith in
      sym (with_alike (sets pool (16 * (64 * i)) (replicate (16 * length (group_in es i)) 0)) (64 * i) (group_in es i) (lanes (bit_or low high)) bs (group_alike [] es i low high g)) ∙ with_zeros pool (64 * i) (group_in es i) bs room ∙ rw at

-- ---- all, 64 blocks at a time

-- the entries from the next 64 on make the rest of the pool, of the bytes from block `next` on
pub record Fills (es bytes pool₀ pool : List ℕ) (i next : ℕ) : Type 0 where
  pub end : 16 * (next + used (drop (64 * i) es)) ≡ length bytes
  pub remains : Remains pool₀ 0 (pool_of es bytes) pool (16 * length (take (64 * i) es)) (pool_of (drop (64 * i) es) (drop (16 * next) bytes))

module _ (es bytes pool₀ : List ℕ) (enough : length bytes ≡ 16 * used es) where
  module _ {pool : List ℕ} {i next : ℕ} (f : Fills es bytes pool₀ pool i next) where
    -- the used ones of the next 64, and those behind them
    group_more : used (drop (64 * i) es) ≡ used (group_in es i) + used (drop (64 * (i + 1)) es)
    unfolding used
    group_more =
        let e : 64 * (i + 1) ≡ 64 * i + 64 = omega arith in
        rw (e, ← drop-drop 64 (64 * i) es) (ap used (sym (take-append-drop 64 (drop (64 * i) es))) ∙ count_append is_used (group_in es i) (drop 64 (drop (64 * i) es)))

    -- there are bytes for the 64
    pub fills_room : 16 * (next + used (group_in es i)) ≤ length bytes
    fills_room = omega (arith, group_more, f.end)

    -- and once they are filled, those behind them remain
    pub fills_next : {pool' : List ℕ} {next' : ℕ} → 64 * i < length es → pool' ≡ sets pool (1024 * i) (pool_of (group_in es i) (drop (16 * next) bytes)) → next' ≡ next + used (group_in es i)
        → Fills es bytes pool₀ pool' (i + 1) next'
    fills_next inside s n =
        let bs = drop (16 * next) bytes in
        let behind : 64 * (i + 1) ≡ 64 * i + 64 = omega arith in
        let read : 16 * (next + used (group_in es i)) ≡ 16 * next + 16 * used (group_in es i) = omega arith in
        let split : Splits (pool_of (drop (64 * i) es) bs) (pool_of (group_in es i) bs) (pool_of (drop (64 * (i + 1)) es) (drop (16 * (next + used (group_in es i))) bytes)) = record {
          is = rw (behind, read, ← drop-drop 64 (64 * i) es, ← drop-drop (16 * used (group_in es i)) (16 * next) bytes) (pool_split 64 (drop (64 * i) es) bs);
        } in
        let long = length_pool (group_in es i) bs (omega (arith, fills_room, length-drop (16 * next) bytes)) in
        let here : 16 * length (take (64 * i) es) ≡ 1024 * i = omega (arith, length-take (64 * i) es) in
        let there : 16 * length (take (64 * (i + 1)) es) ≡ 16 * length (take (64 * i) es) + length (pool_of (group_in es i) bs) =
        omega (arith, long, length-take (64 * i) es, length-take (64 * (i + 1)) es, length-take 64 (drop (64 * i) es), length-drop (64 * i) es) in
        rw n record { end = omega (arith, group_more, f.end); remains = remains_next f.remains split (rw here s) there }

    -- all is stored
    pub fills_none : length es ≤ 64 * i → length pool₀ ≡ 16 * length es → pool ≡ pool_of es bytes
    unfolding pool_of
    fills_none end whole =
        (remains_none f.remains (rw (drop_of_length-le es end))).0 ∙ sets_all pool₀ (pool_of es bytes) (length_pool es bytes (omega (arith, enough)) ∙ sym whole)
