-- Laws of heap images: how long they are, and what they depend on.
-- Assumes nothing.
use mathlib.Core.Path.{◌≡◌, refl, sym, ap, ◌∙◌}
use mathlib.Core.Logic.{◌≢◌}
use mathlib.Core.Bool.{Bool, true, false, not}
use mathlib.Core.List.{List, [], ◌∷◌, ◌++◌, append_assoc}
use Prim.Native.Nat.{ℕ, zero, suc, ◌+◌, ◌*◌, ◌/◌, ◌%◌, ◌≤◌, ◌<◌}
use native.Mathlib.Omega.{arith}
use lib.ListN.{length, get_or, set, take, drop, replicate, length-append, length-take, length-drop, get_or-append}
use lib.Seq.{ext_get_or, get_or-take, get_or-drop, length-take-le, get_or-append-add, drop-drop, take-add, take-append_seam, drop-append_seam}
use borrow.Author.Tests.{eq-eqb, ne_eqb, eqb-false}
use Rattle.rules.specs.Tests.{pick, more_if, count}
use Rattle.rules.specs.Words.{bytes_of, two_bytes_of}
use Rattle.rules.specs.Entries.{FREE, table_of}
use Rattle.rules.specs.Tables.{entry_at, is_free, used}
use Rattle.rules.specs.Outcomes.{Heap}
use Rattle.rules.specs.Images.{section, sections, block_bytes, used_from, image_of}
use Rattle.laws.proofs.Words.{length_bytes_of}
use Rattle.laws.proofs.Entries.{length_table_of}
use Rattle.laws.proofs.Tables.{entry_inside}

-- ---- the bytes of the used blocks

pub length_block : (pool : List ℕ) (k : ℕ) → 16 * k + 16 ≤ length pool → length (block_bytes pool k) ≡ 16
unfolding block_bytes
length_block pool k room = length-take-le 16 (drop (16 * k) pool) (omega (arith, length-drop (16 * k) pool))

-- they are told by its bytes
pub block_same : (p q : List ℕ) (k : ℕ) → length p ≡ length q → ((j : ℕ) → j < 16 → get_or p (16 * k + j) 0 ≡ get_or q (16 * k + j) 0) → block_bytes p k ≡ block_bytes q k
unfolding block_bytes
block_same p q k long same =
    ext_get_or 0 (take 16 (drop (16 * k) p)) (take 16 (drop (16 * k) q)) (simp (length-take, length-drop, long))
    (λ j l. go j (omega (arith, length-take 16 (drop (16 * k) p))))
  where
    go : (j : ℕ) → j < 16 → get_or (take 16 (drop (16 * k) p)) j 0 ≡ get_or (take 16 (drop (16 * k) q)) j 0
    go j l = rw (get_or-take 16 (drop (16 * k) p), get_or-drop, get_or-take 16 (drop (16 * k) q), get_or-drop) (same j l)

-- byte j of block k
pub block_at : (pool : List ℕ) (k j : ℕ) → j < 16 → get_or (block_bytes pool k) j 0 ≡ get_or pool (16 * k + j) 0
unfolding block_bytes
block_at pool k j l = rw (get_or-take 16 (drop (16 * k) pool), get_or-drop)

pub length_used : (pool : List ℕ) (k : ℕ) (es : List ℕ) → 16 * (k + length es) ≤ length pool → length (used_from pool k es) ≡ 16 * used es
unfolding used_from used count
length_used pool k [] room = refl
length_used pool k (e ∷ es) room = go (length_used pool (suc k) es (omega arith)) (is_free e) refl
  where
    go : length (used_from pool (suc k) es) ≡ 16 * used es → (b : Bool) → is_free e ≡ b → length (pick (is_free e) [] (block_bytes pool k) ++ used_from pool (suc k) es) ≡ 16 * used (e ∷ es)
    go rest true f = rw f rest
    go rest false f = rw f (length-append (block_bytes pool k) (used_from pool (suc k) es) ∙ omega (arith, rest, length_block pool k (omega arith)))

-- they are told by the bytes of the blocks that are not FREE
pub used_same : (p q : List ℕ) (k : ℕ) (es : List ℕ) → ((i : ℕ) → entry_at es i ≢ FREE → block_bytes p (k + i) ≡ block_bytes q (k + i)) → used_from p k es ≡ used_from q k es
unfolding used_from
used_same p q k [] same = refl
used_same p q k (e ∷ es) same =
    let here : k + 0 ≡ k = omega arith in
    go (rw here at (same 0)) (used_same p q (suc k) es (λ i. let next : suc k + i ≡ k + suc i = omega arith in rw next (same (suc i)))) (is_free e) refl
  where
    go : (e ≢ FREE → block_bytes p k ≡ block_bytes q k) → used_from p (suc k) es ≡ used_from q (suc k) es → (b : Bool) → is_free e ≡ b → pick (is_free e) [] (block_bytes p k) ++ used_from p (suc k) es ≡ pick (is_free e) [] (block_bytes q k) ++ used_from q (suc k) es
    go first rest true f = rw f rest
    go first rest false f = rw (f, first (eqb-false e FREE f), rest)

-- byte j of the used block i lies behind the bytes of the used blocks before it
pub used_at : (pool : List ℕ) (k : ℕ) (es : List ℕ) (i j : ℕ) → 16 * (k + length es) ≤ length pool → entry_at es i ≢ FREE → j < 16
    → get_or (used_from pool k es) (16 * used (take i es) + j) 0 ≡ get_or pool (16 * (k + i) + j) 0
unfolding used_from used count
used_at pool k [] i j room u l = absurd (u refl)
used_at pool k (e ∷ es) zero j room u l =
    let here : k + 0 ≡ k = omega arith in
    let start : 16 * 0 + j ≡ j = omega arith in
    let long = length_block pool k (omega arith) in
    rw (ne_eqb e FREE u, here, start) (get_or-append (block_bytes pool k) (used_from pool (suc k) es) 0 j (omega arith) ∙ block_at pool k j l)
used_at pool k (e ∷ es) (suc i) j room u l = go (used_at pool (suc k) es i j (omega arith) u l) (is_free e) refl
  where
    next : suc k + i ≡ k + suc i
    next = omega arith

    go : get_or (used_from pool (suc k) es) (16 * used (take i es) + j) 0 ≡ get_or pool (16 * (suc k + i) + j) 0 → (b : Bool) → is_free e ≡ b
        → get_or (pick (is_free e) [] (block_bytes pool k) ++ used_from pool (suc k) es) (16 * used (e ∷ take i es) + j) 0 ≡ get_or pool (16 * (k + suc i) + j) 0
    go rest true f = rw (f, ← next) rest
    go rest false f =
        let long = length_block pool k (omega arith) in
        let past : 16 * suc (used (take i es)) + j ≡ length (block_bytes pool k) + (16 * used (take i es) + j) = omega arith in
        rw (f, ← next, past) (get_or-append-add (block_bytes pool k) (used_from pool (suc k) es) (16 * used (take i es) + j) 0 ∙ rest)

-- before a used block there are fewer than all
pub used_before : (es : List ℕ) (i : ℕ) → entry_at es i ≢ FREE → used (take i es) < used es
unfolding used count
used_before [] i u = absurd (u refl)
used_before (e ∷ es) zero u = rw (ne_eqb e FREE u) (omega arith)
used_before (e ∷ es) (suc i) u = go (used_before es i u) (is_free e)
  where
    go : used (take i es) < used es → (b : Bool) → more_if (not b) (used (take i es)) < more_if (not b) (used es)
    go rest true = rest
    go rest false = omega arith

-- the 16 bytes of the used block i
pub used_block : (pool : List ℕ) (k : ℕ) (es : List ℕ) (i : ℕ) → 16 * (k + length es) ≤ length pool → entry_at es i ≢ FREE
    → block_bytes (used_from pool k es) (used (take i es)) ≡ block_bytes pool (k + i)
used_block pool k es i room u =
    let inside = entry_inside es i u in
    let all = length_used pool k es room in
    let long = length_block (used_from pool k es) (used (take i es)) (omega (arith, used_before es i u)) in
    ext_get_or 0 (block_bytes (used_from pool k es) (used (take i es))) (block_bytes pool (k + i)) (long ∙ sym (length_block pool (k + i) (omega arith)))
    (λ j l. block_at (used_from pool k es) (used (take i es)) j (omega arith) ∙ used_at pool k es i j room u (omega arith) ∙ sym (block_at pool (k + i) j (omega arith)))

-- a used block with so many used blocks before it
abbrev pub Nth : List ℕ → ℕ → Type 0
Nth es q = (k : ℕ) × (entry_at es k ≢ FREE) × (used (take k es) ≡ q)

-- each number below theirs is that before one
pub used_nth : (es : List ℕ) (q : ℕ) → q < used es → Nth es q
unfolding used count
used_nth [] q l = absurd (omega arith)
used_nth (e ∷ es) q l = go (used_nth es) (is_free e) refl q l
  where
    skip : is_free e ≡ true → (q : ℕ) → Nth es q → Nth (e ∷ es) q
    skip f q (k, u, n) = (suc k, u, rw f n)

    next : is_free e ≡ false → (q : ℕ) → Nth es q → Nth (e ∷ es) (suc q)
    next f q (k, u, n) = (suc k, u, rw f (ap suc n))

    go : ((q : ℕ) → q < used es → Nth es q) → (b : Bool) → is_free e ≡ b → (q : ℕ) → q < used (e ∷ es) → Nth (e ∷ es) q
    go later true f q l = skip f q (later q (rw f at l))
    go later false f zero l = (0, eqb-false e FREE f, refl)
    go later false f (suc q) l = let m : suc q < suc (used es) = rw f at l in next f q (later q (omega arith))

-- those of the first n entries and of the others, however many there are
pub used_split : (pool : List ℕ) (k n : ℕ) (es : List ℕ) → used_from pool k es ≡ used_from pool k (take n es) ++ used_from pool (k + n) (drop n es)
unfolding used_from
used_split pool k zero es = let here : k + 0 ≡ k = omega arith in rw here
used_split pool k (suc n) [] = refl
used_split pool k (suc n) (e ∷ es) =
    let next : suc k + n ≡ k + suc n = omega arith in
    rw (used_split pool (suc k) n es, next) (sym (append_assoc (pick (is_free e) [] (block_bytes pool k)) (used_from pool (suc k) (take n es)) (used_from pool (k + suc n) (drop n es))))

-- those of two parts of the table, one after the other
pub used_append : (pool : List ℕ) (k : ℕ) (es fs : List ℕ) → used_from pool k (es ++ fs) ≡ used_from pool k es ++ used_from pool (k + length es) fs
used_append pool k es fs = rw (take-append_seam es fs, drop-append_seam es fs) at (used_split pool k (length es) (es ++ fs))

-- which entries are FREE is all that matters: there are none past the end of a list that are not
pub used_alike : (pool : List ℕ) (k : ℕ) (es fs : List ℕ) → ((i : ℕ) → is_free (entry_at es i) ≡ is_free (entry_at fs i)) → used_from pool k es ≡ used_from pool k fs
unfolding used_from
used_alike pool k [] [] same = refl
used_alike pool k [] (f ∷ fs) same = rw (← same 0) (used_alike pool (suc k) [] fs (λ i. same (suc i)))
used_alike pool k (e ∷ es) [] same = rw (same 0) (used_alike pool (suc k) es [] (λ i. same (suc i)))
used_alike pool k (e ∷ es) (f ∷ fs) same = rw (same 0, used_alike pool (suc k) es fs (λ i. same (suc i)))

-- the first block that is not FREE comes first, and then the others
pub used_first : (pool : List ℕ) (k : ℕ) (es : List ℕ) (j : ℕ) → ((i : ℕ) → i < j → entry_at es i ≡ FREE) → entry_at es j ≢ FREE
    → used_from pool k es ≡ block_bytes pool (k + j) ++ used_from pool k (set es j FREE)
unfolding used_from
used_first pool k [] j before here = absurd (here refl)
used_first pool k (e ∷ es) zero before here = let at : k + 0 ≡ k = omega arith in rw (at, ne_eqb e FREE here)
used_first pool k (e ∷ es) (suc j) before here =
    let next : suc k + j ≡ k + suc j = omega arith in
    rw (eq-eqb e FREE (before 0 (omega arith))) (rw next at (used_first pool (suc k) es j (λ i l. before (suc i) (omega arith)) here))

-- n FREE blocks have none
pub used_gap : (pool : List ℕ) (k n : ℕ) (es : List ℕ) → used_from pool k (replicate n FREE ++ es) ≡ used_from pool (k + n) es
unfolding used_from
used_gap pool k zero es = let here : k + 0 ≡ k = omega arith in rw here
used_gap pool k (suc n) es = let next : k + suc n ≡ suc k + n = omega arith in rw next (used_gap pool (suc k) n es)

-- those of blocks of which none is FREE are one part of the pool
pub used_run : (pool : List ℕ) (k : ℕ) (es : List ℕ) → ((i : ℕ) → i < length es → entry_at es i ≢ FREE) → used_from pool k es ≡ take (16 * length es) (drop (16 * k) pool)
unfolding used_from block_bytes
used_run pool k [] all = refl
used_run pool k (e ∷ es) all =
    let next : 16 * suc k ≡ 16 * k + 16 = omega arith in
    let more : 16 * suc (length es) ≡ 16 + 16 * length es = omega arith in
    rw (ne_eqb e FREE (all 0 (omega arith)), used_run pool (suc k) es (λ i h. all (suc i) (omega arith)), next, ← drop-drop 16 (16 * k) pool, more)
    (sym (take-add 16 (16 * length es) (drop (16 * k) pool)))

-- ---- the length of an image

pub length_section : (n : ℕ) (body : List ℕ) → length (section n body) ≡ 2 + length body
unfolding section two_bytes_of
length_section n body = omega arith

pub length_sections : (base : ℕ) (es blocks roots : List ℕ) → length (sections base es blocks roots) ≡ 12 + length es / 4 + length blocks + length roots
unfolding sections
length_sections base es blocks roots =
    let e : length es / 4 ≡ length (table_of es) = sym (length_table_of es) in
    simp (length-append, length_section) (omega (arith, length_bytes_of base, e))

pub length_image : (base : ℕ) (h : Heap) (roots : List ℕ) → length h.pool ≡ 16 * length h.entries
    → length (image_of base h roots) ≡ 12 + length h.entries / 4 + 16 * used h.entries + length roots
unfolding image_of
length_image base h roots long =
    length_sections base h.entries (used_from h.pool 0 h.entries) roots ∙ omega (arith, length_used h.pool 0 h.entries (omega arith))

-- ---- where its bytes lie

-- a count's two bytes, and then the body's
pub section_low : (n : ℕ) (body : List ℕ) → get_or (section n body) 0 0 ≡ n % 256
unfolding section two_bytes_of
section_low n body = refl

pub section_high : (n : ℕ) (body : List ℕ) → get_or (section n body) 1 0 ≡ n / 256 % 256
unfolding section two_bytes_of
section_high n body = refl

pub section_body : (n : ℕ) (body : List ℕ) (i : ℕ) → get_or (section n body) (2 + i) 0 ≡ get_or body i 0
unfolding section two_bytes_of
section_body n body i = let e : 2 + i ≡ length (two_bytes_of n) + i = refl in rw e (get_or-append-add (two_bytes_of n) body i 0)

module _ (base : ℕ) (h : Heap) (roots : List ℕ) (long : length h.pool ≡ 16 * length h.entries) where
  abbrev es : List ℕ
  es = h.entries

  abbrev t : ℕ
  t = length es / 4

  abbrev u : ℕ
  u = used es

  abbrev one_word : List ℕ
  one_word = section 1 (bytes_of base)

  abbrev table : List ℕ
  table = section t (table_of es)

  abbrev blocks : List ℕ
  blocks = section u (used_from h.pool 0 es)

  abbrev words : List ℕ
  words = section (length roots / 4) roots

  word_long : length one_word ≡ 6
  word_long = length_section 1 (bytes_of base) ∙ omega (arith, length_bytes_of base)

  table_long : length table ≡ 2 + t
  table_long = length_section t (table_of es) ∙ omega (arith, length_table_of es)

  blocks_long : length blocks ≡ 2 + 16 * u
  blocks_long = length_section u (used_from h.pool 0 es) ∙ omega (arith, length_used h.pool 0 es (omega arith))

  -- the sections, one before all that follows it
  one_by_one : image_of base h roots ≡ one_word ++ (table ++ (blocks ++ words))
  unfolding image_of sections
  one_by_one = append_assoc (one_word ++ table) blocks words ∙ append_assoc one_word table (blocks ++ words)

  pub in_base : (i : ℕ) → i < 6 → get_or (image_of base h roots) i 0 ≡ get_or one_word i 0
  in_base i l = rw one_by_one (get_or-append one_word (table ++ (blocks ++ words)) 0 i (omega (arith, word_long)))

  -- behind the base
  behind_base : (i : ℕ) → get_or (image_of base h roots) (6 + i) 0 ≡ get_or (table ++ (blocks ++ words)) i 0
  behind_base i =
      let e : 6 + i ≡ length one_word + i = omega (arith, word_long) in
      rw (one_by_one, e) (get_or-append-add one_word (table ++ (blocks ++ words)) i 0)

  pub in_table : (i : ℕ) → i < 2 + t → get_or (image_of base h roots) (6 + i) 0 ≡ get_or table i 0
  in_table i l = behind_base i ∙ get_or-append table (blocks ++ words) 0 i (omega (arith, table_long))

  -- behind the table
  behind_table : (i : ℕ) → get_or (image_of base h roots) (8 + t + i) 0 ≡ get_or (blocks ++ words) i 0
  behind_table i =
      let e : 8 + t + i ≡ 6 + (length table + i) = omega (arith, table_long) in
      rw e (behind_base (length table + i) ∙ get_or-append-add table (blocks ++ words) i 0)

  pub in_blocks : (i : ℕ) → i < 2 + 16 * u → get_or (image_of base h roots) (8 + t + i) 0 ≡ get_or blocks i 0
  in_blocks i l = behind_table i ∙ get_or-append blocks words 0 i (omega (arith, blocks_long))

  pub in_roots : (i : ℕ) → get_or (image_of base h roots) (10 + t + 16 * u + i) 0 ≡ get_or words i 0
  in_roots i =
      let e : 10 + t + 16 * u + i ≡ 8 + t + (length blocks + i) = omega (arith, blocks_long) in
      rw e (behind_table (length blocks + i) ∙ get_or-append-add blocks words i 0)
