-- The image of a plain list is that of a heap that represents it, if the pool's elements are bytes; it is as long in any case. So writing an image agrees with the list.
-- Assumes nothing.
use mathlib.Core.Path.{◌≡◌, refl, sym, ap, ◌∙◌}
use mathlib.Core.Logic.{◌≢◌}
use mathlib.Core.Bool.{Bool, not}
use mathlib.Core.List.{List, [], ◌∷◌, ◌++◌, append-nil, append_assoc}
use Prim.Native.Nat.{ℕ, zero, suc, ◌+◌, ◌-◌, ◌*◌, ◌≤◌, ◌<◌}
use native.Mathlib.Omega.{arith}
use lib.Dec.{ltb}
use lib.ListN.{length, get_or, take, drop, replicate, length-append, length-replicate, get_or-replicate}
use lib.Seq.{drop-drop, drop-length, take-add}
use Rattle.rules.specs.Tests.{both}
use Rattle.rules.specs.Words.{bytes_of, word_at}
use Rattle.rules.specs.Entries.{FREE, HEAD, TAIL}
use Rattle.rules.specs.Tables.{entry_at}
use Rattle.rules.specs.Images.{used_from, image_of}
use Rattle.laws.specs.Meaning.{AllBytes}
use Rattle.rules.specs.Outcomes.{Heap, written_to, unless_refused}
use Rattle.rules.specs.Refusals.{Test, first_of, whole_words, good_roots, bad_shape, ill_formed, many_roots, short_buffer}
use Rattle.rules.specs.Calls.{write_image}
use Rattle.rules.specs.Runs.{WriteImage}
use Rattle.laws.proofs.Lists.{drop_part}
use Rattle.laws.proofs.Words.{length_bytes_of, bytes_of_word_at}
use Rattle.laws.proofs.Images.{used_append, used_gap, used_run, length_used, length_sections}
use Rattle.plain.specs.Objects.{Object, Plain, end, total}
use Rattle.plain.specs.Images.{entries_from, bytes_of_all, contents, image_of_list}
use Rattle.plain.specs.Replies.{image_in, reply}
use Rattle.simulation.proofs.Laid.{Clear, Lies, Laid, done, next}
use Rattle.simulation.proofs.Gaps.{laid_used}
use Rattle.simulation.proofs.Agrees.{Represents, Agrees, agree_shape, agree_test, agree_well}

-- ---- the bytes of words

-- four for each
length_bytes_of_all : (ws : List ℕ) → length (bytes_of_all ws) ≡ 4 * length ws
unfolding bytes_of_all
length_bytes_of_all [] = refl
length_bytes_of_all (w ∷ ws) = length-append (bytes_of w) (bytes_of_all ws) ∙ omega (arith, length_bytes_of w, length_bytes_of_all ws)

-- those of words of a pool, from word a on, are a part of it
bytes_part : (pool : List ℕ) → AllBytes pool → (ws : List ℕ) (a : ℕ) → 4 * (a + length ws) ≤ length pool → ((i : ℕ) → i < length ws → get_or ws i 0 ≡ word_at pool (a + i))
    → bytes_of_all ws ≡ take (4 * length ws) (drop (4 * a) pool)
unfolding bytes_of_all
bytes_part pool bytes [] a room same = refl
bytes_part pool bytes (w ∷ ws) a room same =
    let here : a + 0 ≡ a = omega arith in
    let first : w ≡ word_at pool a = rw here at (same 0 (omega arith)) in
    let rest = bytes_part pool bytes ws (suc a) (omega arith) (λ i h. let g : suc a + i ≡ a + suc i = omega arith in rw g (same (suc i) (omega arith))) in
    let next : 4 * suc a ≡ 4 * a + 4 = omega arith in
    let more : 4 * suc (length ws) ≡ 4 + 4 * length ws = omega arith in
    rw (first, bytes_of_word_at pool a bytes (omega arith), rest, next, ← drop-drop 4 (4 * a) pool, more) (sym (take-add 4 (4 * length ws) (drop (4 * a) pool)))

-- ---- the entries of a laid list

-- the entries of an object of b blocks: a HEAD and its TAILs
abbrev entries_of_object : ℕ → List ℕ
entries_of_object b = HEAD ∷ replicate (b - 1) TAIL

-- one for each block
length_object : (b : ℕ) → 0 < b → length (entries_of_object b) ≡ b
length_object b h = omega (arith, length-replicate (b - 1) TAIL)

-- FREE blocks from a to b
gap_entries : (es : List ℕ) (a b : ℕ) → a ≤ b → b ≤ length es → Clear es a b → drop a es ≡ replicate (b - a) FREE ++ drop b es
gap_entries es a b l u c =
    let n : length (replicate (b - a) FREE) ≡ b - a = length-replicate (b - a) FREE in
    let e : a + length (replicate (b - a) FREE) ≡ b = omega arith in
    rw e at (drop_part es a (replicate (b - a) FREE) FREE (omega arith) (λ i h. c (a + i) (omega arith) (omega arith) ∙ sym (get_or-replicate (b - a) i FREE FREE (omega arith))))

module _ {pool es : List ℕ} where
  -- the blocks of an object
  object_entries : (o : Object) → Lies pool es o → end o ≤ length es → drop o.start es ≡ entries_of_object o.blocks ++ drop (end o) es
  object_entries o y u = rw n at (drop_part es o.start (entries_of_object o.blocks) FREE (omega (arith, n)) same)
    where
      n : length (entries_of_object o.blocks) ≡ o.blocks
      n = length_object o.blocks y.some_block

      same : (i : ℕ) → i < length (entries_of_object o.blocks) → entry_at es (o.start + i) ≡ entry_at (entries_of_object o.blocks) i
      same zero h = let e : o.start + 0 ≡ o.start = omega arith in rw e y.head
      same (suc i) h = y.tails (o.start + suc i) (omega arith) (omega (arith, n)) ∙ sym (get_or-replicate (o.blocks - 1) i TAIL FREE (omega (arith, n)))

  -- the entries from a block on are those of the list from there on
  laid_entries : {from : ℕ} {os : List Object} → Laid pool es from os → drop from es ≡ entries_from (length es) from os
  unfolding entries_from
  laid_entries {from} (done r g) = gap_entries es from (length es) r (omega arith) g ∙ rw (drop-length es) (append-nil (replicate (length es - from) FREE))
  laid_entries {from} (next {o = o} {os = os} l g y e r) =
      rw (gap_entries es from o.start l (omega arith) g, object_entries o y e, laid_entries r)
      (sym (append_assoc (replicate (o.start - from) FREE) (entries_of_object o.blocks) (entries_from (length es) (end o) os)))

  -- ---- the bytes of a laid list

  -- the blocks of an object hold the bytes of its words
  object_bytes : AllBytes pool → (o : Object) → Lies pool es o → 16 * end o ≤ length pool → used_from pool o.start (entries_of_object o.blocks) ≡ bytes_of_all o.words
  object_bytes bytes o y room =
      let n = length_object o.blocks y.some_block in
      let w : 4 * length o.words ≡ 16 * o.blocks = omega (arith, y.words.long) in
      let s : 4 * (4 * o.start) ≡ 16 * o.start = omega arith in
      let v = bytes_part pool bytes o.words (4 * o.start) (omega (arith, y.words.long)) (λ i h. y.words.at i (omega (arith, y.words.long))) in
      used_run pool o.start (entries_of_object o.blocks) used ∙ ap (λ (k : ℕ). take (16 * k) (drop (16 * o.start) pool)) n ∙ sym (rw (w, s) at v)
    where
      used : (i : ℕ) → i < length (entries_of_object o.blocks) → entry_at (entries_of_object o.blocks) i ≢ FREE
      used zero h = λ f. omega arith
      used (suc i) h = let e = get_or-replicate (o.blocks - 1) i TAIL FREE (omega (arith, length-replicate (o.blocks - 1) TAIL)) in λ f. omega arith

  -- the used blocks from a block on hold the bytes of the list from there on
  laid_contents : AllBytes pool → length pool ≡ 16 * length es → {from : ℕ} {os : List Object} → Laid pool es from os → used_from pool from (drop from es) ≡ contents os
  unfolding contents used_from
  laid_contents bytes long {from} (done r g) = rw (gap_entries es from (length es) r (omega arith) g, drop-length es, used_gap pool from (length es - from) [])
  laid_contents bytes long {from} (next {o = o} {os = os} l g y e r) =
      let s : from + (o.start - from) ≡ o.start = omega arith in
      rw (
        gap_entries es from o.start l (omega arith) g,
        used_gap pool from (o.start - from) (drop o.start es),
        s,
        object_entries o y e,
        used_append pool o.start (entries_of_object o.blocks) (drop (end o) es),
        object_bytes bytes o y (omega arith),
        length_object o.blocks y.some_block,
        laid_contents bytes long r,
      )

  -- 16 for each block, whatever the pool holds
  length_contents : {from : ℕ} {os : List Object} → Laid pool es from os → length (contents os) ≡ 16 * total os
  unfolding contents total
  length_contents (done r g) = refl
  length_contents (next {o = o} {os = os} l g y e r) = length-append (bytes_of_all o.words) (contents os) ∙ omega (arith, length_bytes_of_all o.words, y.words.long, length_contents r)

-- ---- the image

-- the entries of a heap are those of the list that it represents
entries_same : {p : Plain} {h : Heap} → Represents p h → h.entries ≡ entries_from p.size 0 p.objects
entries_same r = rw r.size (laid_entries r.laid)

module _ {p : Plain} {h : Heap} (r : Represents p h) (base : ℕ) (roots : List ℕ) where
  -- the image of a heap of bytes is that of the list
  image_same : AllBytes h.pool → image_of base h roots ≡ image_of_list base p roots
  unfolding image_of image_of_list
  image_same bytes = rw (← entries_same r, laid_contents bytes r.pool r.laid)

  -- and that of any heap is as long
  length_same : length (image_of base h roots) ≡ length (image_of_list base p roots)
  unfolding image_of image_of_list
  length_same =
      let es : List ℕ = h.entries in
      let blocks : List ℕ = used_from h.pool 0 es in
      let n : length blocks ≡ length (contents p.objects) = length_used h.pool 0 es (omega (arith, r.pool)) ∙ omega (arith, laid_used r.laid, length_contents r.laid) in
      rw (← entries_same r, length_sections base es blocks roots, length_sections base es (contents p.objects) roots, n)

  -- ---- the call

  -- the tests one by one, and then the image
  pub image_agrees : (room : ℕ) (stack : List ℕ) → Agrees (reply (WriteImage base roots room) stack p) (write_image base h roots room)
  unfolding reply image_in write_image unless_refused first_of
  image_agrees room stack =
      let short : Test = short_buffer room (image_of base h roots) in
      agree_test r (bad_shape (good_roots base h roots)) (ill_formed h ∷ many_roots roots ∷ short ∷ []) _ [] _ _ (omega arith)
      (ap (λ (t : Bool). not (both t (whole_words roots))) (agree_shape r base))
      (λ _. agree_well r (many_roots roots ∷ short ∷ []) [] _ _
      (agree_test r (many_roots roots) (short ∷ []) _ [] _ _ (omega arith) refl
      (λ _. agree_test r short [] _ [] _ _ (omega arith) (ap (ltb room) length_same)
      (λ _. record { answer = ap written_to length_same; heap = r; filled = image_same }))))
