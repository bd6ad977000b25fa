-- Laws of files that are opened: the pool of their entries and bytes.
-- Assumes nothing.
use mathlib.Core.Path.{◌≡◌, refl, sym, ap, ◌∙◌}
use mathlib.Core.Logic.{◌≢◌}
use mathlib.Core.Bool.{Bool, true, false}
use mathlib.Core.List.{List, [], ◌∷◌, ◌++◌, append_assoc}
use Prim.Native.Nat.{ℕ, zero, suc, ◌+◌, ◌*◌, ◌≤◌, ◌<◌}
use native.Mathlib.Decide.{dec_lt}
use native.Mathlib.Omega.{arith}
use lib.ListN.{length, get_or, take, drop, replicate, length-append, length-drop, take-append-drop, get_or-replicate, get_or-eq_default}
use lib.Seq.{take_all, take-add, length-take-le, drop-drop, take_at, drop-append-add}
use borrow.Author.Tests.{eq-eqb, ne_eqb}
use Rattle.rules.specs.Tests.{pick, count}
use Rattle.laws.specs.Meaning.{AllBytes}
use Rattle.rules.specs.Entries.{FREE}
use Rattle.rules.specs.Tables.{entry_at, is_free, used}
use Rattle.rules.specs.Images.{block_bytes, used_from}
use Rattle.rules.specs.Files.{pool_of}
use Rattle.laws.proofs.Lists.{bounded_append, bounded_replicate, bounded_take, bounded_drop}
use Rattle.laws.proofs.Tables.{entry_inside}
use Rattle.laws.proofs.Images.{block_at, length_used, used_block}

-- ---- blocks

block_first : (bytes : List ℕ) → block_bytes bytes 0 ≡ take 16 bytes
unfolding block_bytes
block_first bytes = refl

-- those behind the first
block_on : (bytes : List ℕ) (k : ℕ) → block_bytes bytes (suc k) ≡ block_bytes (drop 16 bytes) k
unfolding block_bytes
block_on bytes k = let e : 16 * suc k ≡ 16 + 16 * k = omega arith in rw (e, drop-drop (16 * k) 16 bytes)

-- ---- a pool behind one block

-- that block
block_front : (front pool : List ℕ) → length front ≡ 16 → block_bytes (front ++ pool) 0 ≡ front
unfolding block_bytes
block_front front pool long = take_at front pool 16 long

-- each other block is one further on
block_behind : (front pool : List ℕ) (k : ℕ) → length front ≡ 16 → block_bytes (front ++ pool) (suc k) ≡ block_bytes pool k
unfolding block_bytes
block_behind front pool k long =
    let e : 16 * suc k ≡ length front + 16 * k = omega (arith, long) in
    rw (e, drop-append-add front pool (16 * k))

used_behind : (front pool : List ℕ) (k : ℕ) (es : List ℕ) → length front ≡ 16 → used_from (front ++ pool) (suc k) es ≡ used_from pool k es
unfolding used_from
used_behind front pool k [] long = refl
used_behind front pool k (e ∷ es) long = rw (block_behind front pool k long, used_behind front pool (suc k) es long)

-- ---- the pool of a file

-- 16 bytes for each entry, if there are as many for each used one
pub length_pool : (es bs : List ℕ) → 16 * used es ≤ length bs → length (pool_of es bs) ≡ 16 * length es
unfolding pool_of used count
length_pool [] bs room = refl
length_pool (e ∷ es) bs room = go (length_pool es) (is_free e) refl
  where
    go : ((cs : List ℕ) → 16 * used es ≤ length cs → length (pool_of es cs) ≡ 16 * length es) → (b : Bool) → is_free e ≡ b → length (pool_of (e ∷ es) bs) ≡ 16 * length (e ∷ es)
    go rest true f = rw f (length-append (replicate 16 0) (pool_of es bs) ∙ omega (arith, rest bs (rw f at room)))
    go rest false f =
        let all : 16 * suc (used es) ≤ length bs = rw f at room in
        let others = rest (drop 16 bs) (omega (arith, length-drop 16 bs)) in
        rw f (length-append (take 16 bs) (pool_of es (drop 16 bs)) ∙ omega (arith, length-take-le 16 bs (omega arith), others))

-- its block k: zeros if it is FREE, else the 16 bytes behind those of the used blocks before it
pub pool_block : (es bs : List ℕ) (k : ℕ) → 16 * used es ≤ length bs → k < length es
    → block_bytes (pool_of es bs) k ≡ pick (is_free (entry_at es k)) (replicate 16 0) (block_bytes bs (used (take k es)))
unfolding pool_of used count
pool_block [] bs k room l = absurd (omega arith)
pool_block (e ∷ es) bs k room l = go (pool_block es) (is_free e) refl k l
  where
    go : ((cs : List ℕ) (k : ℕ) → 16 * used es ≤ length cs → k < length es → block_bytes (pool_of es cs) k ≡ pick (is_free (entry_at es k)) (replicate 16 0) (block_bytes cs (used (take k es))))
        → (b : Bool) → is_free e ≡ b → (k : ℕ) → k < suc (length es)
        → block_bytes (pool_of (e ∷ es) bs) k ≡ pick (is_free (entry_at (e ∷ es) k)) (replicate 16 0) (block_bytes bs (used (take k (e ∷ es))))
    go rest true f zero l = rw f (block_front (replicate 16 0) (pool_of es bs) refl)
    go rest true f (suc k) l = rw f (block_behind (replicate 16 0) (pool_of es bs) k refl ∙ rest bs k (rw f at room) (omega arith))
    go rest false f zero l =
        let all : 16 * suc (used es) ≤ length bs = rw f at room in
        rw f (block_front (take 16 bs) (pool_of es (drop 16 bs)) (length-take-le 16 bs (omega arith)) ∙ sym (block_first bs))
    go rest false f (suc k) l =
        let all : 16 * suc (used es) ≤ length bs = rw f at room in
        rw (f, block_on bs (used (take k es)))
        (block_behind (take 16 bs) (pool_of es (drop 16 bs)) k (length-take-le 16 bs (omega arith)) ∙ rest (drop 16 bs) k (omega (arith, length-drop 16 bs)) (omega arith))

pub pool_free : (es bs : List ℕ) (k : ℕ) → 16 * used es ≤ length bs → k < length es → entry_at es k ≡ FREE → block_bytes (pool_of es bs) k ≡ replicate 16 0
pool_free es bs k room l free = rw (eq-eqb (entry_at es k) FREE free) at (pool_block es bs k room l)

-- so every byte of a FREE block is zero, and there is none past the last
pub pool_zero : (es bs : List ℕ) (k j : ℕ) → 16 * used es ≤ length bs → entry_at es k ≡ FREE → j < 16 → get_or (pool_of es bs) (16 * k + j) 0 ≡ 0
pool_zero es bs k j room free l = go (dec_lt k (length es))
  where
    go : Dec (k < length es) → get_or (pool_of es bs) (16 * k + j) 0 ≡ 0
    go (yes here) = sym (block_at (pool_of es bs) k j l) ∙ ap (λ (b : List ℕ). get_or b j 0) (pool_free es bs k room here free) ∙ get_or-replicate 16 j 0 0 l
    go (no past) = get_or-eq_default (pool_of es bs) 0 (omega (arith, length_pool es bs room, past))

-- of the bytes of a pool's used blocks, it has in each the bytes of that pool
pub pool_used : (es pool : List ℕ) (k : ℕ) → 16 * length es ≤ length pool → entry_at es k ≢ FREE → block_bytes (pool_of es (used_from pool 0 es)) k ≡ block_bytes pool k
pool_used es pool k room u =
    let here : 0 + k ≡ k = omega arith in
    let long = length_used pool 0 es (omega arith) in
    rw (ne_eqb (entry_at es k) FREE u) at (pool_block es (used_from pool 0 es) k (omega arith) (entry_inside es k u)) ∙ rw here at (used_block pool 0 es k (omega arith) u)

-- its used blocks have the bytes that it was made of
pub used_pool : (es bs : List ℕ) → length bs ≡ 16 * used es → used_from (pool_of es bs) 0 es ≡ bs
unfolding pool_of used_from used count
used_pool [] bs long = take_all 0 bs (omega arith)
used_pool (e ∷ es) bs long = go (used_pool es) (is_free e) refl
  where
    go : ((cs : List ℕ) → length cs ≡ 16 * used es → used_from (pool_of es cs) 0 es ≡ cs) → (b : Bool) → is_free e ≡ b → used_from (pool_of (e ∷ es) bs) 0 (e ∷ es) ≡ bs
    go rest true f =
        let front : pool_of (e ∷ es) bs ≡ replicate 16 0 ++ pool_of es bs = rw f refl in
        ap (λ (pool : List ℕ). used_from pool 0 (e ∷ es)) front ∙ rw f (used_behind (replicate 16 0) (pool_of es bs) 0 es refl ∙ rest bs (rw f at long))
    go rest false f =
        let all : length bs ≡ 16 * suc (used es) = rw f at long in
        let sixteen = length-take-le 16 bs (omega arith) in
        let front : pool_of (e ∷ es) bs ≡ take 16 bs ++ pool_of es (drop 16 bs) = rw f refl in
        ap (λ (pool : List ℕ). used_from pool 0 (e ∷ es)) front ∙ rw (
          f,
          block_front (take 16 bs) (pool_of es (drop 16 bs)) sixteen,
          used_behind (take 16 bs) (pool_of es (drop 16 bs)) 0 es sixteen,
          rest (drop 16 bs) (omega (arith, length-drop 16 bs)),
        )
        (take-append-drop 16 bs)

-- that of the first n entries, and that of the others, however many there are
pub pool_split : (n : ℕ) (es bs : List ℕ) → pool_of es bs ≡ pool_of (take n es) bs ++ pool_of (drop n es) (drop (16 * used (take n es)) bs)
unfolding pool_of used count
pool_split zero es bs = refl
pool_split (suc n) [] bs = refl
pool_split (suc n) (e ∷ es) bs = go (pool_split n es) (is_free e) refl
  where
    go : ((cs : List ℕ) → pool_of es cs ≡ pool_of (take n es) cs ++ pool_of (drop n es) (drop (16 * used (take n es)) cs)) → (b : Bool) → is_free e ≡ b
        → pool_of (e ∷ es) bs ≡ pool_of (e ∷ take n es) bs ++ pool_of (drop n es) (drop (16 * used (e ∷ take n es)) bs)
    go rest true f = rw (f, rest bs) (sym (append_assoc (replicate 16 0) (pool_of (take n es) bs) (pool_of (drop n es) (drop (16 * used (take n es)) bs))))
    go rest false f =
        let e : 16 * suc (used (take n es)) ≡ 16 + 16 * used (take n es) = omega arith in
        rw (f, rest (drop 16 bs), e, ← drop-drop (16 * used (take n es)) 16 bs)
        (sym (append_assoc (take 16 bs) (pool_of (take n es) (drop 16 bs)) (pool_of (drop n es) (drop (16 * used (take n es)) (drop 16 bs)))))

-- that of blocks of which none is FREE is bytes alone
pub pool_run : (es bs : List ℕ) → ((i : ℕ) → i < length es → entry_at es i ≢ FREE) → pool_of es bs ≡ take (16 * length es) bs
unfolding pool_of
pool_run [] bs all = refl
pool_run (e ∷ es) bs all =
    let more : 16 * suc (length es) ≡ 16 + 16 * length es = omega arith in
    rw (ne_eqb e FREE (all 0 (omega arith)), pool_run es (drop 16 bs) (λ i l. all (suc i) (omega arith)), more) (sym (take-add 16 (16 * length es) bs))

pub pool_bytes : (es bs : List ℕ) → AllBytes bs → AllBytes (pool_of es bs)
unfolding pool_of
pool_bytes [] bs all = λ i. omega arith
pool_bytes (e ∷ es) bs all = go (pool_bytes es bs all) (pool_bytes es (drop 16 bs) (bounded_drop 16 bs all)) (is_free e)
  where
    go : AllBytes (pool_of es bs) → AllBytes (pool_of es (drop 16 bs)) → (b : Bool) → AllBytes (pick b (replicate 16 0) (take 16 bs) ++ pool_of es (pick b bs (drop 16 bs)))
    go same later true = bounded_append (replicate 16 0) (pool_of es bs) (bounded_replicate 16 0 (omega arith)) same
    go same later false = bounded_append (take 16 bs) (pool_of es (drop 16 bs)) (bounded_take 16 bs all) later
