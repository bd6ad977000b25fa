-- Each call but a collection, made on two pools that match under one table: the same answer, the same table, the same bytes in a buffer, and pools that match again.
-- Whether a call is refused is told by the table, the lengths and the arguments alone.
-- Assumes nothing.
use mathlib.Core.Path.{◌≡◌, refl, ap, ◌∙◌}
use mathlib.Core.List.{List, [], ◌∷◌, ◌++◌}
use Prim.Native.Nat.{ℕ, zero, suc, ◌+◌, ◌*◌, ◌-◌, ◌/◌, ◌<◌}
use native.Mathlib.Omega.{arith}
use native.Mathlib.Decide.{ℕ_discrete, dec_lt}
use lib.ListN.{length, get_or, set, take, drop, replicate, length-replicate, length-append, length-take, length-drop}
use lib.Seq.{sets, ext_get_or, get_or-take, get_or-drop, length-take-le, get_or-set_same, get_or-set_other, set_out}
use borrow.Author.Tests.{leb-false}
use Rattle.rules.specs.Words.{bytes_of, word_at, with_word}
use Rattle.rules.specs.Entries.{FREE}
use Rattle.rules.specs.Tables.{entry_at, block_count, placed, released}
use Rattle.rules.specs.Outcomes.{Heap, Outcome, only_refusal, loaded, leaves_with, unless_refused, cleared_blocks}
use Rattle.rules.specs.Refusals.{first_of, good_shape, no_word, word_tests}
use Rattle.rules.specs.Calls.{blocks_for, init, taken, placing, allocate, freed, free, Way, stay, shrink, grow, move, no_way, shrunk, grown, moved, way_to, along, reallocate, survey, load, store, write_image, good_target, open_image}
use Rattle.laws.proofs.Tables.{extent_of, extent_used}
use Rattle.laws.proofs.Changes.{placed_out, extended_out}
use Rattle.laws.specs.Meaning.{Passed, Named}
use Rattle.laws.proofs.Refusals.{first_none, passed, asked, named_object, named_resize, after_names}
use Rattle.laws.proofs.Calls.{blocks_some}
use Rattle.rules.specs.Images.{image_of}
use Rattle.rules.specs.Files.{file_of, base_of}
use Rattle.laws.proofs.Images.{block_same, used_same}
use Rattle.laws.proofs.Matching.{SameByte, Matching, match_run, match_cleared, match_fewer, match_same}

abbrev pub heap : List ℕ → List ℕ → Heap
heap pool es = record { pool = pool; entries = es }

-- two outcomes of a call that do not differ, but for bytes of FREE blocks
pub record Twin (x y : Outcome) : Type 0 where
  pub answer : x.answer ≡ y.answer
  pub table : x.heap.entries ≡ y.heap.entries
  pub filled : x.filled ≡ y.filled
  pub match : Matching x.heap.entries x.heap.pool y.heap.pool

-- the same refusal number: both calls are refused by it, or both act
pub unless_both : (R : Outcome → Outcome → Type 0) (n : ℕ) {h h'' : Heap} {lent lent' : List ℕ} {x y : Outcome}
    → ((r : ℕ) → R (leaves_with (only_refusal r) h lent) (leaves_with (only_refusal r) h'' lent'))
    → (n ≡ 0 → R x y) → R (unless_refused n h lent x) (unless_refused n h'' lent' y)
unfolding unless_refused
unless_both R zero refused acted = acted refl
unless_both R (suc r) refused acted = refused (suc r)

-- the shape is that of the lengths
pub shape_same : (base : ℕ) (es p q : List ℕ) → length p ≡ length q → good_shape base (heap p es) ≡ good_shape base (heap q es)
unfolding good_shape
shape_same base es p q l = rw l

-- ---- what changes of the table do to FREE blocks

free_stays : (es : List ℕ) (s b k : ℕ) → entry_at es k ≡ FREE → entry_at (sets es s (replicate b FREE)) k ≡ FREE
free_stays es s zero k e = e
free_stays es s (suc b) k e = free_stays (set es s FREE) (suc s) b k (go (ℕ_discrete k s) (dec_lt s (length es)))
  where
    go : Dec (k ≡ s) → Dec (s < length es) → entry_at (set es s FREE) k ≡ FREE
    go (yes q) (yes h) = rw q (get_or-set_same es s FREE FREE h)
    go (yes q) (no h) = rw (set_out es s FREE (omega arith)) e
    go (no q) _ = get_or-set_other es s k FREE FREE q ∙ e

released_free : (es : List ℕ) (s b k : ℕ) → entry_at es k ≡ FREE → entry_at (released es s b) k ≡ FREE
unfolding released
released_free es s b k e = free_stays es s b k e

all_free : (n k : ℕ) → entry_at (replicate n FREE) k ≡ FREE
all_free zero k = refl
all_free (suc n) zero = refl
all_free (suc n) (suc k) = all_free n k

-- ---- what a call that is not refused knows of its arguments

word_inside : (base : ℕ) (h : Heap) (k i : ℕ) → first_of (word_tests base h k i) ≡ 0 → i < 4 * block_count h.entries k
word_inside base h k i e = leb-false _ _ (first_none (no_word h k i) [] (omega arith) (after_names base h k (no_word h k i ∷ []) e)).0

module _ (base : ℕ) (es p q : List ℕ) (a : Matching es p q) where
  abbrev h : Heap
  h = heap p es

  abbrev h'' : Heap
  h'' = heap q es

  shape : good_shape base h ≡ good_shape base h''
  shape = shape_same base es p q a.long

  refused : (r : ℕ) → Twin (leaves_with (only_refusal r) h []) (leaves_with (only_refusal r) h'' [])
  refused r = record { answer = refl; table = refl; filled = refl; match = a }

  pub twin_init : Twin (init base h) (init base h'')
  unfolding init
  twin_init =
      rw shape
      (unless_both Twin _ refused
      (λ z. record { answer = refl; table = refl; filled = refl; match = match_fewer _ a (λ k e. all_free (length es) k) }))

  -- a new object: all its blocks are cleared in both pools
  twin_taken : (s b : ℕ) → 0 < b → Twin (placing h s (taken h s b)) (placing h'' s (taken h'' s b))
  unfolding placing taken
  twin_taken s b some_block =
      record { answer = refl; table = refl; filled = refl; match = match_cleared _ s _ a (λ k. placed_out es s b k some_block) }

  pub twin_allocate : (bytes : ℕ) → Twin (allocate base h bytes) (allocate base h'' bytes)
  unfolding allocate
  twin_allocate bytes =
      rw shape (unless_both Twin _ refused (λ z. twin_taken _ (blocks_for bytes) (blocks_some bytes (asked base h'' bytes _ z))))

  pub twin_free : (k : ℕ) → Twin (free base h k) (free base h'' k)
  unfolding free placing freed
  twin_free k =
      rw shape
      (unless_both Twin _ refused
      (λ z. record { answer = refl; table = refl; filled = refl; match = match_fewer _ a (released_free es k (block_count es k)) }))

  -- the bytes of an object are the same in both pools
  object_same : (k : ℕ) → Named h'' k → take (16 * block_count es k) (drop (16 * k) p) ≡ take (16 * block_count es k) (drop (16 * k) q)
  object_same k m =
      ext_get_or 0 (take (16 * b) (drop (16 * k) p)) (take (16 * b) (drop (16 * k) q)) (simp (length-take, length-drop, a.long))
      (λ i l. go i (omega (arith, length-take (16 * b) (drop (16 * k) p))))
    where
      b : ℕ
      b = block_count es k

      go : (i : ℕ) → i < 16 * b → get_or (take (16 * b) (drop (16 * k) p)) i 0 ≡ get_or (take (16 * b) (drop (16 * k) q)) i 0
      go i l =
          let e : (16 * k + i) / 16 ≡ k + i / 16 = omega arith in
          let u = extent_used es k b (extent_of es k m.inside) (λ f. omega (arith, m.head)) (i / 16) (omega arith) in
          rw (get_or-take (16 * b) (drop (16 * k) p), get_or-drop, get_or-take (16 * b) (drop (16 * k) q), get_or-drop) (a.bytes (16 * k + i) (rw e u))

  -- the ways to reallocate
  twin_along : (way : Way) (k c : ℕ) → 0 < c → Passed base h'' → Named h'' k
      → Twin (along way h k (block_count es k) c) (along way h'' k (block_count es k) c)
  unfolding along placing shrunk grown moved cleared_blocks
  twin_along stay k c some_block g m = record { answer = refl; table = refl; filled = refl; match = a }
  twin_along shrink k c some_block g m =
      record { answer = refl; table = refl; filled = refl; match = match_fewer _ a (released_free es (k + c) (block_count es k - c)) }
  twin_along grow k c some_block g m =
      let b = block_count es k in
      record {
        answer = refl;
        table = refl;
        filled = refl;
        match = match_cleared _ (k + b) (c - b) a (extended_out es (k + b) (c - b));
      }
  twin_along (move s) k c some_block g m =
      let b = block_count es k in
      let x = extent_of es k m.inside in
      let part = take (16 * b) (drop (16 * k) q) in
      let rest : List ℕ = replicate (16 * (c - b)) 0 in
      let l : length part ≡ 16 * b = length-take-le (16 * b) (drop (16 * k) q) (omega (arith, length-drop (16 * k) q, g.shape.pool, x.room)) in
      record {
        answer = refl;
        table = refl;
        filled = refl;
        match = rw (object_same k m)
            (match_fewer _ (match_run (placed es s c) s c (part ++ rest) a (omega (arith, length-append part rest, length-replicate {A = ℕ} (16 * (c - b)) 0)) (λ i. placed_out es s c i some_block))
            (released_free (placed es s c) k b));
      }
  twin_along no_way k c some_block g m = record { answer = refl; table = refl; filled = refl; match = a }

  pub twin_reallocate : (k bytes : ℕ) → Twin (reallocate base h k bytes) (reallocate base h'' k bytes)
  unfolding reallocate
  twin_reallocate k bytes =
      rw shape
      (unless_both Twin _ refused
      (λ z. let r = named_resize base h'' k bytes _ z in twin_along way k (blocks_for bytes) (blocks_some bytes r.0) (passed base h'' _ z) r.1))
    where
      way : Way
      way = way_to es k (block_count es k) (blocks_for bytes)

  pub twin_survey : Twin (survey base h) (survey base h'')
  unfolding survey
  twin_survey =
      rw shape
      (unless_both Twin _ refused (λ z. record { answer = refl; table = refl; filled = refl; match = a }))

  pub twin_store : (k i w : ℕ) → Twin (store base h k i w) (store base h'' k i w)
  unfolding store with_word
  twin_store k i w =
      rw shape
      (unless_both Twin _ refused
      (λ z. record { answer = refl; table = refl; filled = refl; match = match_same (4 * (4 * k + i)) (bytes_of w) a }))

  -- a word of an object lies in its blocks
  word_same : (k i : ℕ) → Named h'' k → i < 4 * block_count es k → word_at p (4 * k + i) ≡ word_at q (4 * k + i)
  unfolding word_at
  word_same k i m l =
      rw (at (4 * (4 * k + i)) (omega arith), at (4 * (4 * k + i) + 1) (omega arith), at (4 * (4 * k + i) + 2) (omega arith), at (4 * (4 * k + i) + 3) (omega arith))
    where
      at : (j : ℕ) → j / 16 ≡ k + i / 4 → SameByte p q j
      at j e =
          a.bytes j (rw e (extent_used es k (block_count es k) (extent_of es k m.inside) (λ f. omega (arith, m.head)) (i / 4) (omega arith)))

  pub twin_load : (k i : ℕ) → Twin (load base h k i) (load base h'' k i)
  unfolding load
  twin_load k i =
      rw shape
      (unless_both Twin _ refused
      (λ z. record { answer = ap loaded (word_same k i (named_object base h'' k _ z) (word_inside base h'' k i z)); table = refl; filled = refl; match = a }))

  pub image_same : (roots : List ℕ) → image_of base h roots ≡ image_of base h'' roots
  unfolding image_of
  image_same roots =
      rw (used_same p q 0 es (λ k u. block_same p q (0 + k) a.long (λ j l. let e : (16 * (0 + k) + j) / 16 ≡ k = omega arith in a.bytes (16 * (0 + k) + j) (rw e u))))

  pub twin_image : (roots : List ℕ) (room : ℕ) → Twin (write_image base h roots room) (write_image base h'' roots room)
  unfolding write_image
  twin_image roots room =
      rw (shape, image_same roots)
      (unless_both Twin _ refused (λ z. record { answer = refl; table = refl; filled = refl; match = a }))

-- what a file says does not depend on the pools, and it is then in both
pub twin_open : (es p q : List ℕ) → Matching es p q → (image : List ℕ) (room : ℕ) → Twin (open_image (heap p es) image room) (open_image (heap q es) image room)
unfolding open_image good_target
twin_open es p q a image room =
    rw (shape_same (base_of (file_of image)) es p q a.long)
    (unless_both Twin _ (λ r. record { answer = refl; table = refl; filled = refl; match = a })
    (λ z. record { answer = refl; table = refl; filled = refl; match = record { long = refl; bytes = λ i u. refl } }))
