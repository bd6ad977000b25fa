-- A file that is opened: by which number it is refused, place by place, and what each of its bytes becomes.
-- Assumes nothing.
use mathlib.Core.Path.{◌≡◌, refl, sym, ap, subst, ◌∙◌}
use mathlib.Core.Logic.{◌≢◌, ◌⊎◌, inl, inr, ⊎_elim}
use mathlib.Core.Bool.{Bool, true, false, not}
use mathlib.Core.List.{List, [], ◌∷◌}
use Prim.Native.Nat.{ℕ, suc, ◌+◌, ◌-◌, ◌*◌, ◌%◌, ◌≤◌, ◌<◌}
use native.Mathlib.Omega.{arith}
use lib.Dec.{leb}
use lib.ListN.{length, get_or, take, drop, length-drop}
use lib.Seq.{get_or-take, get_or-drop, drop-drop, length-take-le}
use borrow.Author.Tests.{eqb-true, eq-eqb, ne_eqb, leb-true, leb-false, ltb-true, ltb-false}
use Rattle.rules.specs.Tests.{both}
use Rattle.rules.specs.Words.{first_two, word_at}
use Rattle.rules.specs.Entries.{FREE, entries_of}
use Rattle.rules.specs.Tables.{entry_at, used}
use Rattle.laws.specs.Meaning.{Well, Shape, Accepted}
use Rattle.rules.specs.Outcomes.{Heap, Outcome}
use Rattle.rules.specs.Refusals.{Test, first_of, good_shape, bad_shape, ill_formed, short_roots}
use Rattle.rules.specs.Images.{block_bytes}
use Rattle.rules.specs.Files.{Kind, one_base, table_bytes, root_words, section_in, cut_short, wrong_count, left_over, section_tests, File, entries_for, used_in, file_of, file_tests, fault_of, pool_of, base_of, heap_of_file, roots_of}
use Rattle.rules.specs.Calls.{good_target, open_tests, open_image}
use Rattle.laws.proofs.Refusals.{true_not_false, both_left, both_right, not-true, not-false, first_yes, first_more, shape_true, shape_of, shape_lengths}
use Rattle.laws.proofs.Words.{word_at_same}
use Rattle.laws.proofs.Entries.{length_entries_of}
use Rattle.laws.proofs.Tables.{entry_inside}
use Rattle.laws.proofs.Images.{block_at, used_before}
use Rattle.laws.proofs.Files.{pool_block, pool_zero}
use Rattle.laws.proofs.Faults.{Faultless}
use Rattle.laws.proofs.Opening.{Opens, open_passed, opened_passed}
use Rattle.promises.specs.Conditions.{Condition, when, First, count_at, base_in, table_count, file_entries, used_count, block_place, root_place, root_count, file_end, Suits, of_open_image}
use Rattle.promises.specs.Promises.{byte_at, Opened}
use Rattle.promises.proofs.Checked.{number, acts, no_refusal, open_checked}
use Rattle.promises.proofs.Numbers.{first_step, first_end, well_step}

-- ---- the shape of what is lent

-- a file without a fault whose opening is not refused by 1: what is lent suits it
pub open_shape : (h : Heap) (image : List ℕ) (room : ℕ) → fault_of image ≡ 0 → (open_image h image room).answer.refusal ≢ 1 → Shape (base_of (file_of image)) h
unfolding fault_of file_tests section_tests good_target
open_shape h image room whole other =
    let f : File = file_of image in
    let later : List Test = ill_formed (heap_of_file f) ∷ short_roots room (roots_of f) ∷ [] in
    let e = number (open_checked h image room) ∙ first_more (file_tests image) (bad_shape (good_target f h room) ∷ later) refl whole in
    let good = first_past_1 (good_target f h room) later (λ q. other (e ∙ q)) in
    shape_true (base_of f) h (both_left (good_shape (base_of f) h) _ (both_left (both (good_shape (base_of f) h) _) _ good))
  where
    first_past_1 : (b : Bool) (ts : List Test) → first_of (bad_shape b ∷ ts) ≢ 1 → b ≡ true
    first_past_1 true ts n = refl
    first_past_1 false ts n = absurd (n (first_yes (bad_shape false) ts refl))

-- ---- tests at places

-- a count that is none of those allowed
count_wrong : (a b n : ℕ) → not (both (leb a n) (leb n b)) ≡ true → (n < a) ⊎ (b < n)
count_wrong a b n e = go (leb a n) (leb n b) refl refl e
  where
    go : (x y : Bool) → leb a n ≡ x → leb n b ≡ y → not (both x y) ≡ true → (n < a) ⊎ (b < n)
    go false y p q e = inl (leb-false a n p)
    go true false p q e = inr (leb-false n b q)
    go true true p q e = absurd (true_not_false e refl)

count_right : (a b n : ℕ) → not (both (leb a n) (leb n b)) ≡ false → (a ≤ n) × (n ≤ b)
count_right a b n e = let t = not-false _ e in (leb-true a n (both_left (leb a n) _ t), leb-true n b (both_right (leb a n) _ t))

module _ (image : List ℕ) where
  abbrev f : File
  f = file_of image

  count_here : (k : ℕ) → first_two (drop k image) ≡ count_at image k
  unfolding first_two
  count_here k =
      let low : k + 0 ≡ k = omega arith in
      let high : k + 1 ≡ suc k = omega arith in
      rw (get_or-drop k image 0 0, get_or-drop k image 1 0, low, high)

  -- the bytes end before n of them have come from place k on, so before place a
  short_step : (bs : List ℕ) (n k a : ℕ) (ts : List Test) (cs : List Condition) → bs ≡ drop k image → k ≤ length image → a ≡ k + n → (a ≤ length image → First cs (first_of ts))
      → First (when 14 (length image < a) ∷ cs) (first_of (cut_short bs n ∷ ts))
  short_step bs n k a ts cs here inside place rest =
      let long : length bs ≡ length image - k = ap length here ∙ length-drop k image in
      first_step (cut_short bs n) ts (when 14 (length image < a)) cs refl
      (λ e. omega (arith, ltb-true (length bs) n e, long))
      (λ e less. omega (arith, ltb-false (length bs) n e, long))
      (λ e. rest (omega (arith, ltb-false (length bs) n e, long)))

  -- the count n is wrong
  wrong_step : (k : Kind) (n : ℕ) (C : Type 0) (ts : List Test) (cs : List Condition) → ((n < k.fewest) ⊎ (k.most < n) → C) → (k.fewest ≤ n → n ≤ k.most → ¬ C)
      → (k.fewest ≤ n → n ≤ k.most → First cs (first_of ts)) → First (when k.wrong C ∷ cs) (first_of (wrong_count k n ∷ ts))
  wrong_step k n C ts cs says fails rest =
      first_step (wrong_count k n) ts (when k.wrong C) cs refl
      (λ e. says (count_wrong k.fewest k.most n e))
      (λ e. let r = count_right k.fewest k.most n e in fails r.0 r.1)
      (λ e. let r = count_right k.fewest k.most n e in rest r.0 r.1)

  -- a count that is to be m and no other
  exact_step : (k : Kind) (n c m : ℕ) (ts : List Test) (cs : List Condition) → n ≡ c → k.fewest ≡ m → k.most ≡ m → (c ≡ m → First cs (first_of ts))
      → First (when k.wrong (c ≢ m) ∷ cs) (first_of (wrong_count k n ∷ ts))
  exact_step k n c m ts cs same least most rest =
      wrong_step k n (c ≢ m) ts cs (λ bad e. ⊎_elim (λ l. omega (arith, same, least, most, e, l)) (λ l. omega (arith, same, least, most, e, l)) bad)
      (λ a b other. other (omega (arith, same, least, most, a, b))) (λ a b. rest (omega (arith, same, least, most, a, b)))

  -- ---- where the sections lie, once the counts before them are right

  module _ (one : first_two image ≡ 1) where
    behind_base : f.base.rest ≡ drop 6 image
    unfolding file_of section_in
    behind_base = rw one (drop-drop 4 2 image)

    table_count_is : first_two f.base.rest ≡ table_count image
    table_count_is = ap first_two behind_base ∙ count_here 6

    behind_count : drop 2 f.base.rest ≡ drop 8 image
    behind_count = ap (drop 2) behind_base ∙ drop-drop 2 6 image

    table_body : f.table.body ≡ take (table_count image) (drop 8 image)
    unfolding file_of section_in
    table_body = let e : 1 * first_two f.base.rest ≡ table_count image = omega (arith, table_count_is) in rw (e, behind_count)

    behind_table : f.table.rest ≡ drop (block_place image) image
    unfolding file_of section_in
    behind_table = let e : 1 * first_two f.base.rest ≡ table_count image = omega (arith, table_count_is) in rw (e, behind_count) (drop-drop (table_count image) 8 image)

    block_count_is : first_two f.table.rest ≡ count_at image (block_place image)
    block_count_is = ap first_two behind_table ∙ count_here (block_place image)

    entries_are : entries_for f.table ≡ file_entries image
    entries_are = ap entries_of table_body

    used_are : used (entries_for f.table) ≡ used_count image
    used_are = ap used entries_are

    behind_block_count : drop 2 f.table.rest ≡ drop (block_place image + 2) image
    behind_block_count = ap (drop 2) behind_table ∙ drop-drop 2 (block_place image) image

    base_is : base_of f ≡ base_in image
    unfolding file_of section_in word_at
    base_is =
        let four : word_at (take 4 (drop 2 image)) 0 ≡ word_at (drop 2 image) 0 = word_at_same (take 4 (drop 2 image)) (drop 2 image) 0 0 (λ k l. get_or-take 4 (drop 2 image) (4 * 0 + k) 0 (omega (arith, l))) in
        let there : word_at (drop 2 image) 0 ≡ base_in image = rw (get_or-drop 2 image 0 0, get_or-drop 2 image 1 0, get_or-drop 2 image 2 0, get_or-drop 2 image 3 0) in
        rw one (four ∙ there)

    -- the table is there
    module _ (inside : block_place image ≤ length image) where
      entries_long : length (entries_for f.table) ≡ 4 * table_count image
      entries_long =
          length_entries_of f.table.body ∙ omega (arith, ap length table_body, length-take-le (table_count image) (drop 8 image) (omega (arith, length-drop 8 image)))

      suits_say : (h : Heap) (room : ℕ) → good_target f h room ≡ true → Suits h image room
      unfolding good_target
      suits_say h room e =
          let sizes = both_left (both (good_shape (base_of f) h) _) _ e in
          let same : length (entries_for f.table) ≡ length h.entries = eqb-true _ _ (both_right (good_shape (base_of f) h) _ sizes) in (
            subst (λ (b : ℕ). Shape b h) base_is (shape_true (base_of f) h (both_left (good_shape (base_of f) h) _ sizes)),
            omega (arith, same, entries_long),
            eqb-true _ _ (both_right (both (good_shape (base_of f) h) _) _ e),
          )

      suits_of : (h : Heap) (room : ℕ) → Suits h image room → good_target f h room ≡ true
      unfolding good_target
      suits_of h room s =
          let same : length (entries_for f.table) ≡ length h.entries = omega (arith, s.1, entries_long) in
          rw (shape_of (base_of f) h (subst (λ (b : ℕ). Shape b h) (sym base_is) s.0), eq-eqb _ _ same, eq-eqb (room % 4) 0 s.2)

    module _ (right : count_at image (block_place image) ≡ used_count image) where
      blocks_size : 16 * first_two f.table.rest ≡ 16 * used_count image
      blocks_size = omega (arith, block_count_is, right)

      block_body : f.blocks.body ≡ take (16 * used_count image) (drop (block_place image + 2) image)
      unfolding file_of section_in
      block_body = rw (blocks_size, behind_block_count)

      behind_blocks : f.blocks.rest ≡ drop (root_place image) image
      unfolding file_of section_in
      behind_blocks =
          let e : block_place image + 2 + 16 * used_count image ≡ root_place image = omega arith in
          rw (blocks_size, behind_block_count, drop-drop (16 * used_count image) (block_place image + 2) image, e)

      root_count_is : first_two f.blocks.rest ≡ root_count image
      root_count_is = ap first_two behind_blocks ∙ count_here (root_place image)

      behind_root_count : drop 2 f.blocks.rest ≡ drop (root_place image + 2) image
      behind_root_count = ap (drop 2) behind_blocks ∙ drop-drop 2 (root_place image) image

      root_body : roots_of f ≡ take (4 * root_count image) (drop (root_place image + 2) image)
      unfolding file_of section_in
      root_body = rw (root_count_is, behind_root_count)

      behind_roots : f.roots.rest ≡ drop (file_end image) image
      unfolding file_of section_in
      behind_roots = rw (root_count_is, behind_root_count) (drop-drop (4 * root_count image) (root_place image + 2) image)

  -- ---- the first fault

  -- behind the file's own faults: 1, 2 and 17
  module _ (h : Heap) (room : ℕ) (one : first_two image ≡ 1) (right : count_at image (block_place image) ≡ used_count image) (end : length image ≡ file_end image) where
    inside : block_place image ≤ length image
    inside = omega (arith, end)

    roots_step : First (when 17 (room < 4 * root_count image) ∷ []) (first_of (short_roots room (roots_of f) ∷ []))
    roots_step =
        let long : length (roots_of f) ≡ 4 * root_count image =
        ap length (root_body one right) ∙ length-take-le (4 * root_count image) (drop (root_place image + 2) image) (omega (arith, end, length-drop (root_place image + 2) image)) in
        first_step (short_roots room (roots_of f)) [] (when 17 (room < 4 * root_count image)) [] refl (λ e. omega (arith, ltb-true room (length (roots_of f)) e, long))
        (λ e l. omega (arith, ltb-false room (length (roots_of f)) e, long)) (λ _. first_end)

    lent_steps : First (when 1 (¬ Suits h image room) ∷ when 2 (¬ Well (file_entries image)) ∷ when 17 (room < 4 * root_count image) ∷ [])
        (first_of (bad_shape (good_target f h room) ∷ ill_formed (heap_of_file f) ∷ short_roots room (roots_of f) ∷ []))
    lent_steps =
        first_step (bad_shape (good_target f h room)) _ (when 1 (¬ Suits h image room)) _ refl
        (λ e s. true_not_false (suits_of one inside h room s) (not-true (good_target f h room) e))
        (λ e bad. bad (suits_say one inside h room (not-false (good_target f h room) e)))
        (λ e. subst (λ (es : List ℕ). First (when 2 (¬ Well es) ∷ when 17 (room < 4 * root_count image) ∷ []) (first_of (ill_formed (heap_of_file f) ∷ short_roots room (roots_of f) ∷ [])))
        (entries_are one) (well_step 0 (heap_of_file f) (short_roots room (roots_of f) ∷ []) (when 17 (room < 4 * root_count image) ∷ []) roots_step))

  pub first_fault : (h : Heap) (room : ℕ) → First (of_open_image h image room) (first_of (open_tests h image room))
  unfolding of_open_image file_tests section_tests
  first_fault h room =
      short_step image 2 0 2 _ _ refl (omega arith) refl
      (λ two. exact_step one_base (first_two image) (count_at image 0) 1 _ _ (count_here 0) refl refl
      (λ c.
      let one : first_two image ≡ 1 = count_here 0 ∙ c in
      short_step (drop 2 image) (4 * first_two image) 2 6 _ _ refl two (omega (arith, one))
      (λ six. short_step f.base.rest 2 6 8 _ _ (behind_base one) six refl
      (λ eight. wrong_step table_bytes (first_two f.base.rest) (¬ ((1 ≤ table_count image) × (table_count image ≤ 1024))) _ _
      (λ bad r. ⊎_elim (λ l. omega (arith, l, r.0, table_count_is one)) (λ l. omega (arith, l, r.1, table_count_is one)) bad)
      (λ a b bad. bad (omega (arith, a, table_count_is one), omega (arith, b, table_count_is one)))
      (λ a b. short_step (drop 2 f.base.rest) (1 * first_two f.base.rest) 8 (block_place image) _ _ (behind_count one) eight (omega (arith, table_count_is one))
      (λ nine. short_step f.table.rest 2 (block_place image) (block_place image + 2) _ _ (behind_table one) nine refl
      (λ ten. exact_step (used_in f.table) (first_two f.table.rest) (count_at image (block_place image)) (used_count image) _ _ (block_count_is one) (used_are one) (used_are one)
      (λ right. short_step (drop 2 f.table.rest) (16 * first_two f.table.rest) (block_place image + 2) (root_place image) _ _ (behind_block_count one) ten (omega (arith, block_count_is one, right))
      (λ more. short_step f.blocks.rest 2 (root_place image) (root_place image + 2) _ _ (behind_blocks one right) more refl
      (λ two_more. wrong_step root_words (first_two f.blocks.rest) (4096 < root_count image) _ _
      (λ bad. ⊎_elim (λ l. absurd (omega (arith, l))) (λ l. omega (arith, l, root_count_is one right)) bad)
      (λ _ b many. omega (arith, b, many, root_count_is one right))
      (λ _ _. short_step (drop 2 f.blocks.rest) (4 * first_two f.blocks.rest) (root_place image + 2) (file_end image) _ _ (behind_root_count one right) two_more (omega (arith, root_count_is one right))
      (λ all.
      let left : length f.roots.rest ≡ length image - file_end image = ap length (behind_roots one right) ∙ length-drop (file_end image) image in
      first_step (left_over f.roots.rest) _ (when 16 (file_end image < length image)) _ refl (λ e. omega (arith, ltb-true 0 (length f.roots.rest) e, left))
      (λ e l. omega (arith, ltb-false 0 (length f.roots.rest) e, left))
      (λ e. lent_steps h room one right (omega (arith, all, ltb-false 0 (length f.roots.rest) e, left)))))))))))))))

-- ---- what a file becomes

module _ (h : Heap) (image : List ℕ) (room : ℕ) (accepted : Accepted (open_image h image room)) where
  passed : Opens h image room
  passed = open_passed h image room (no_refusal (open_checked h image room) accepted)

  g : Faultless image
  g = passed.faultless

  abbrev f' : File
  f' = file_of image

  one : first_two image ≡ 1
  one = omega (arith, g.base.fewest, g.base.most)

  right : count_at image (block_place image) ≡ used_count image
  right = omega (arith, g.blocks.fewest, g.blocks.most, block_count_is image one, used_are image one)

  end : length image ≡ file_end image
  end =
      let left = ap length (behind_roots image one right) ∙ length-drop (file_end image) image in
      let before = ap length (behind_blocks image one right) ∙ length-drop (root_place image) image in
      omega (arith, left, before, g.end, g.roots.long, root_count_is image one right)

  roots_long : length (roots_of f') ≡ 4 * root_count image
  roots_long = ap length (root_body image one right) ∙ length-take-le (4 * root_count image) (drop (root_place image + 2) image) (omega (arith, end, length-drop (root_place image + 2) image))

  abbrev bytes : List ℕ
  bytes = take (16 * used_count image) (drop (block_place image + 2) image)

  bytes_long : length bytes ≡ 16 * used_count image
  bytes_long = length-take-le (16 * used_count image) (drop (block_place image + 2) image) (omega (arith, end, length-drop (block_place image + 2) image))

  pool_is : (heap_of_file f').pool ≡ pool_of (file_entries image) bytes
  pool_is = rw (entries_are image one, block_body image one right)

  used_bytes : (k : ℕ) → entry_at (file_entries image) k ≢ FREE → (j : ℕ) → j < 16
      → byte_at (heap_of_file f') (16 * k + j) ≡ get_or image (10 + table_count image + 16 * used (take k (file_entries image)) + j) 0
  used_bytes k some j l =
      let n : ℕ = used (take k (file_entries image)) in
      let place : block_place image + 2 + (16 * n + j) ≡ 10 + table_count image + 16 * n + j = omega arith in
      let block : block_bytes (pool_of (file_entries image) bytes) k ≡ block_bytes bytes n =
      rw (ne_eqb (entry_at (file_entries image) k) FREE some) at (pool_block (file_entries image) bytes k (omega (arith, bytes_long)) (entry_inside (file_entries image) k some)) in
      ap (λ (p : List ℕ). get_or p (16 * k + j) 0) pool_is ∙ sym (block_at (pool_of (file_entries image) bytes) k j l) ∙ ap (λ (b : List ℕ). get_or b j 0) block ∙ block_at bytes n j l
      ∙ get_or-take (16 * used_count image) (drop (block_place image + 2) image) (16 * n + j) 0 (omega (arith, l, used_before (file_entries image) k some))
      ∙ get_or-drop (block_place image + 2) image (16 * n + j) 0 ∙ ap (λ (i : ℕ). get_or image i 0) place

  free_bytes : (k : ℕ) → entry_at (file_entries image) k ≡ FREE → (j : ℕ) → j < 16 → byte_at (heap_of_file f') (16 * k + j) ≡ 0
  free_bytes k e j l = ap (λ (p : List ℕ). get_or p (16 * k + j) 0) pool_is ∙ pool_zero (file_entries image) bytes k j (omega (arith, bytes_long)) e l

  pub opened : Opened image h (open_image h image room)
  opened =
      rw (acts (open_checked h image room) accepted)
      (record {
        base = base_is image one;
        roots = omega (arith, roots_long);
        entries = entries_are image one;
        used_bytes = used_bytes;
        free_bytes = free_bytes;
        long = roots_long;
        root_bytes = λ i l. rw (root_body image one right, get_or-take (4 * root_count image) (drop (root_place image + 2) image) i 0 l, get_or-drop (root_place image + 2) image i 0);
        blocks = passed.long;
        good = opened_passed h image room passed;
      })

  -- it answers how many roots it wrote, for which there was room
  pub open_fits : (4 * (open_image h image room).answer.roots ≡ length (open_image h image room).filled) × (length (open_image h image room).filled ≤ room)
  open_fits = rw (acts (open_checked h image room) accepted) (omega (arith, roots_long), passed.enough)

  pub roots_are : (open_image h image room).filled ≡ roots_of f'
  roots_are = ap (λ (r : Outcome). r.filled) (acts (open_checked h image room) accepted)

-- ---- it does not matter what the heap held

pub opens_elsewhere : (h h'' : Heap) (image : List ℕ) (room : ℕ) → length h.pool ≡ length h''.pool → length h.entries ≡ length h''.entries → Opens h image room → Opens h'' image room
opens_elsewhere h h'' image room pools entries o = record {
  faultless = o.faultless;
  shape = shape_lengths (base_of (file_of image)) h h'' pools entries o.shape;
  long = o.long ∙ entries;
  words = o.words;
  well = o.well;
  enough = o.enough;
}
