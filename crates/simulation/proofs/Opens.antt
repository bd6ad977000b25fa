-- A file that is opened agrees with the plain list: the objects in its entries and bytes lie in the pool and the table that it says.
-- Assumes nothing.
use mathlib.Core.Path.{◌≡◌, refl, sym, ◌∙◌}
use mathlib.Core.Logic.{◌≢◌}
use mathlib.Core.Bool.{true, not}
use mathlib.Core.List.{List, [], ◌∷◌, ◌++◌, append_assoc}
use Prim.Native.Nat.{ℕ, zero, suc, ◌+◌, ◌-◌, ◌*◌, ◌/◌, ◌%◌, ◌≤◌, ◌<◌}
use native.Mathlib.Decide.{ℕ_discrete}
use native.Mathlib.Omega.{arith}
use lib.Dec.{eqb}
use lib.ListN.{length, take, drop, length-drop}
use lib.Seq.{drop-cons, drop-length, drop_at, take_at, get_or-drop, get_or-take, length-take-le}
use borrow.Author.Tests.{eqb-true, eq-eqb, ne_eqb, le-ltb}
use Rattle.rules.specs.Tests.{leading}
use Rattle.rules.specs.Words.{words_of}
use Rattle.rules.specs.Entries.{FREE, HEAD, TAIL}
use Rattle.rules.specs.Tables.{entry_at, is_tail, well_formed, block_count}
use Rattle.rules.specs.Pointers.{good_base}
use Rattle.laws.specs.Faithful.{Small}
use Rattle.rules.specs.Images.{block_bytes, used_from}
use Rattle.laws.specs.Meaning.{Well}
use Rattle.rules.specs.Outcomes.{Heap, fills, opened_at, unless_refused}
use Rattle.rules.specs.Refusals.{Test, first_of, bad_shape, ill_formed, first_tests, short_roots}
use Rattle.rules.specs.Files.{table_bytes, File, section_tests, file_of, file_tests, fault_of, entries_for, base_of, heap_of_file, roots_of}
use Rattle.rules.specs.Calls.{good_target, open_tests, open_image}
use Rattle.rules.specs.Runs.{OpenImage}
use Rattle.laws.proofs.Lists.{leading_is}
use Rattle.laws.proofs.Entries.{length_entries_of, entries_of_lt}
use Rattle.laws.proofs.Words.{length_words_of, get_d_words_of}
use Rattle.laws.proofs.Tables.{entry_inside, entry_outside, well_says, extent_of, extent_used}
use Rattle.laws.proofs.Refusals.{numbered, both_left, both_right, not-false, accepts}
use Rattle.laws.proofs.Images.{length_block, used_split, used_run}
use Rattle.laws.proofs.Files.{length_pool, used_pool}
use Rattle.laws.proofs.Faults.{length_body, Faultless, faultless, no_fault, length_blocks}
use Rattle.laws.proofs.Opening.{Opens, open_passes}
use Rattle.plain.specs.Objects.{Object, object, Plain}
use Rattle.plain.specs.Images.{objects_from}
use Rattle.plain.specs.Replies.{suited, opens, opened_in, reply}
use Rattle.simulation.proofs.Inits.{shape_base}
use Rattle.simulation.proofs.Laid.{Holds, Lies, Laid, done, next}
use Rattle.simulation.proofs.Words.{word_part}
use Rattle.simulation.proofs.Edits.{laid_lower}
use Rattle.simulation.proofs.Agrees.{Represents, Agrees, agree_shape, agree_test, agree_tests}

-- ---- the objects of a table, and of the bytes of its used blocks

module _ (pool es : List ℕ) (long : length pool ≡ 16 * length es) (small : Small es) (well : Well es) where
  -- the bytes from block k on
  abbrev bytes_at : ℕ → List ℕ
  bytes_at k = used_from pool k (drop k es)

  abbrev objects_at : ℕ → List Object
  objects_at k = objects_from k (drop k es) (bytes_at k)

  -- how many TAILs there are from block k on
  abbrev tails_at : ℕ → ℕ
  tails_at k = leading is_tail (drop k es)

  no_tails : (k : ℕ) → entry_at es k ≢ TAIL → tails_at k ≡ 0
  no_tails k t =
      let here : k + 0 ≡ k = omega arith in
      leading_is is_tail (drop k es) 0 FREE (omega arith) (λ i h. absurd (omega arith)) (λ _. rw (get_or-drop k es 0 FREE, here) (ne_eqb (entry_at es k) TAIL t))

  -- ---- block by block

  -- a FREE block has no bytes
  objects_free : (k : ℕ) → k < length es → entry_at es k ≡ FREE → objects_at k ≡ objects_at (suc k)
  unfolding objects_from used_from
  objects_free k l f = rw (drop-cons es k FREE l, f)

  -- a used one has those in front of the others
  bytes_behind : (k : ℕ) → k < length es → entry_at es k ≢ FREE → drop 16 (bytes_at k) ≡ bytes_at (suc k)
  unfolding used_from
  bytes_behind k l u = rw (drop-cons es k FREE l, ne_eqb (entry_at es k) FREE u) (drop_at (block_bytes pool k) (bytes_at (suc k)) 16 (length_block pool k (omega arith)))

  objects_tail : (k : ℕ) (bytes : List ℕ) → k < length es → entry_at es k ≡ TAIL → objects_from k (drop k es) bytes ≡ objects_from (suc k) (drop (suc k) es) (drop 16 bytes)
  unfolding objects_from
  objects_tail k bytes l t = rw (drop-cons es k FREE l, t)

  abbrev object_with : ℕ → List ℕ → Object
  object_with k bytes = object k (block_count es k) (words_of (take (16 * block_count es k) bytes))

  objects_head : (k : ℕ) (bytes : List ℕ) → k < length es → entry_at es k ≡ HEAD
      → objects_from k (drop k es) bytes ≡ object_with k bytes ∷ objects_from (suc k) (drop (suc k) es) (drop 16 bytes)
  unfolding objects_from block_count
  objects_head k bytes l h = rw (drop-cons es k FREE l, h)

  -- ---- an object

  module _ (k b : ℕ) (room : k + b ≤ length es) (filled : (j : ℕ) → j < b → entry_at es (k + j) ≢ FREE) where
    -- the bytes of b blocks, all used
    abbrev part : List ℕ
    part = take (16 * b) (drop (16 * k) pool)

    length_part : length part ≡ 16 * b
    length_part = length-take-le (16 * b) (drop (16 * k) pool) (omega (arith, length-drop (16 * k) pool))

    run_bytes : take (16 * b) (bytes_at k) ≡ part
    run_bytes =
        let front : List ℕ = take b (drop k es) in
        let n : length front ≡ b = length-take-le b (drop k es) (omega (arith, length-drop k es)) in
        let r : used_from pool k front ≡ part = rw n at (used_run pool k front (λ i h. rw (get_or-take b (drop k es) i FREE (omega arith), get_or-drop k es i FREE) (filled i (omega arith)))) in
        rw (used_split pool k b (drop k es), r) (take_at part (used_from pool (k + b) (drop b (drop k es))) (16 * b) length_part)

    run_holds : Holds pool k b (words_of (take (16 * b) (bytes_at k)))
    run_holds =
        let n = length_part in
        let s : 16 * b ≡ 4 * (4 * b) = omega arith in
        let t : 16 * k ≡ 4 * (4 * k) = omega arith in
        rw run_bytes
        (record {
          long = length_words_of part ∙ omega (arith, n);
          at = λ i u. get_d_words_of part i (omega (arith, n)) ∙ rw (s, t) (word_part pool (4 * k) (4 * b) i u);
        })

  object_lies : (k : ℕ) → k < length es → entry_at es k ≡ HEAD → Lies pool es (object_with k (bytes_at k))
  object_lies k l h =
      let x = extent_of es k l in
      record {
        some_block = x.some_block;
        head = h;
        tails = λ j u v. let e : k + (j - k) ≡ j = omega arith in rw e at (x.tail (j - k) (omega arith) (omega arith));
        words = run_holds k (block_count es k) x.room (extent_used es k (block_count es k) x (λ f. omega arith));
      }

  -- ---- all of them

  -- a block behind a FREE one is no TAIL
  free_tails : (k : ℕ) → entry_at es k ≡ FREE → tails_at (suc k) ≡ 0
  free_tails k f = no_tails (suc k) (λ t. well.after k (entry_inside es (suc k) (λ z. omega arith)) t f)

  more_tails : (k : ℕ) → k < length es → entry_at es k ≡ TAIL → tails_at k ≡ suc (tails_at (suc k))
  unfolding leading
  more_tails k l t = rw (drop-cons es k FREE l, t)

  -- from block k on, behind the TAILs of an object before it
  laid_from : (n k : ℕ) → k + n ≡ length es → Laid pool es (k + tails_at k) (objects_at k)
  unfolding objects_from block_count
  laid_from zero k e =
      let here : k ≡ length es = omega arith in
      let end = entry_outside es k (omega arith) in
      rw (no_tails k (λ t. omega arith), here, drop-length es) (done {from = length es + 0} (omega arith) (λ j l r. absurd (omega arith)))
  laid_from (suc n) k e = go (ℕ_discrete (entry_at es k) FREE) (ℕ_discrete (entry_at es k) HEAD) (laid_from n (suc k) (omega arith))
    where
      l : k < length es
      l = omega arith

      go : Dec (entry_at es k ≡ FREE) → Dec (entry_at es k ≡ HEAD) → Laid pool es (suc k + tails_at (suc k)) (objects_at (suc k)) → Laid pool es (k + tails_at k) (objects_at k)
      go (yes f) _ d =
          rw (no_tails k (λ t. omega arith), objects_free k l f)
          (laid_lower d (k + 0) (omega arith) (λ j a b. let n = free_tails k f in let i : j ≡ k = omega arith in rw i f))
      go (no u) (yes h) d =
          let end : suc k + tails_at (suc k) ≡ k + block_count es k = omega arith in
          rw (no_tails k (λ t. omega arith), objects_head k (bytes_at k) l h, bytes_behind k l u)
          (next {from = k + 0} {o = object_with k (bytes_at k)} (omega arith) (λ j a b. absurd (omega arith)) (object_lies k l h) (extent_of es k l).room (rw end at d))
      go (no u) (no h) d =
          let t : entry_at es k ≡ TAIL = omega (arith, u, h, small k, well.no_mark k l) in
          let end : suc k + tails_at (suc k) ≡ k + suc (tails_at (suc k)) = omega arith in
          rw (more_tails k l t, objects_tail k (bytes_at k) l t, bytes_behind k l u) (rw end at d)

  objects_laid : Laid pool es 0 (objects_from 0 es (used_from pool 0 es))
  objects_laid =
      let none : tails_at 0 ≡ 0 = no_tails 0 (λ t. well.first (entry_inside es 0 (λ z. omega arith)) t) in
      let here : 0 + tails_at 0 ≡ 0 = omega arith in
      rw here at (laid_from (length es) 0 (omega arith))

-- ---- the call

module _ (image : List ℕ) (room : ℕ) where
  abbrev f : File
  f = file_of image

  abbrev entries : List ℕ
  entries = entries_for f.table

  -- a file without a fault has from 1 to 4,096 blocks
  few : Faultless image → (1 ≤ length entries) × (length entries ≤ 4096)
  unfolding file_of
  few g =
      let w = g.table in
      let n = length_body table_bytes f.base.rest w in
      let m = length_entries_of f.table.body in
      (omega (arith, w.fewest, n, m), omega (arith, w.most, n, m))

  -- its heap represents its objects
  opened_agrees : (p : Plain) → Faultless image → p.size ≡ length entries → well_formed entries ≡ true
      → Agrees (opens f p) (fills (opened_at (base_of f) (length (roots_of f) / 4)) (heap_of_file f) (roots_of f))
  opened_agrees p g same well =
      let long = length_blocks image g in
      let pool = length_pool entries f.blocks.body (omega arith) in
      let laid = objects_laid (heap_of_file f).pool entries pool (entries_of_lt f.table.body) (well_says entries well) in
      record {
        answer = refl;
        heap = record { size = same; some = (few g).0; few = (few g).1; pool = pool; laid = rw (used_pool entries f.blocks.body long) at laid };
        filled = λ _. refl;
      }

  abbrev bad : Heap → Test
  bad h = bad_shape (good_target f h room)

  abbrev short : Test
  short = short_roots room (roots_of f)

  -- the tests behind those of the file
  abbrev others : Heap → List Test
  others h = bad h ∷ ill_formed (heap_of_file f) ∷ short ∷ []

  open_tests_are : (h : Heap) → open_tests h image room ≡ file_tests image ++ others h
  open_tests_are h = append_assoc (file_tests image) (first_tests (good_target f h room) (heap_of_file f)) (short ∷ [])

  file_numbered : numbered (file_tests image) ≡ true
  unfolding file_tests section_tests
  file_numbered = refl

  pub open_agrees : {p : Plain} {h : Heap} → Represents p h → (stack : List ℕ) → Agrees (reply (OpenImage image room) stack p) (open_image h image room)
  unfolding reply opened_in open_image good_target fault_of unless_refused first_of
  open_agrees {p} {h} r stack =
      rw (open_tests_are h)
      (agree_tests r (file_tests image) (others h) [] _ (opened_in f room p) file_numbered
      (λ fault. agree_test r (bad h) (ill_formed (heap_of_file f) ∷ short ∷ []) (not (suited f room p)) [] _ _ (omega arith) (rw (agree_shape r (base_of f), r.size))
      (λ suits. agree_test r (ill_formed (heap_of_file f)) (short ∷ []) _ [] _ _ (omega arith) refl
      (λ well. agree_test r short [] _ [] _ _ (omega arith) refl
      (λ _. let n = eqb-true _ _ (both_right (good_base (base_of f) p.size) _ (both_left _ (eqb (room % 4) 0) (not-false _ suits))) in
      opened_agrees p (faultless image fault) (sym n) (not-false _ well))))))

  -- into whatever is lent
  pub first_open : (h : Heap) (p : Plain) → Opens h image room → p.size ≡ length h.entries → Agrees (reply (OpenImage image room) [] p) (open_image h image room)
  unfolding reply opened_in open_image
  first_open h p o same =
      rw (
        accepts h [] _ (open_passes h image room o),
        no_fault image o.faultless,
        shape_base o.shape same,
        eq-eqb _ _ (o.long ∙ sym same),
        eq-eqb _ _ o.words,
        o.well,
        le-ltb room (length (roots_of f)) o.enough,
      )
      (opened_agrees p o.faultless (same ∙ sym o.long) o.well)
