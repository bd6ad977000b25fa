-- Laws of the sections of a file, read from the front: the faults of one, where one without a fault lies, and what is then left of the file's tests.
-- Assumes nothing.
use mathlib.Core.Path.{◌≡◌, refl, sym, ap, ◌∙◌}
use mathlib.Core.Bool.{Bool, true, false, not}
use mathlib.Core.List.{List, [], ◌∷◌, ◌++◌, append_assoc}
use Prim.Native.Nat.{ℕ, ◌+◌, ◌-◌, ◌*◌, ◌≤◌, ◌<◌}
use native.Mathlib.Omega.{arith}
use lib.Dec.{leb}
use lib.ListN.{length, take, drop, length-drop}
use lib.Seq.{drop-drop}
use borrow.Author.Tests.{lt-ltb, le-ltb}
use Rattle.rules.specs.Tests.{both}
use Rattle.rules.specs.Words.{first_two}
use Rattle.rules.specs.Refusals.{Test, first_of}
use Rattle.rules.specs.Files.{Kind, one_base, table_bytes, root_words, Section, section_in, left_over, section_tests, File, used_in, file_of, file_tests, fault_of}
use Rattle.laws.proofs.Refusals.{first_yes, first_no, first_last, first_more, refused_first}
use Rattle.laws.proofs.Faults.{section_whole}

-- ---- the faults of a section

module _ (k : Kind) (bs : List ℕ) where
  -- there may be as many as it counts
  abbrev pub right_count : Bool
  right_count = both (leb k.fewest (first_two bs)) (leb (first_two bs) k.most)

  pub count_cut : length bs < 2 → 14 ≡ first_of (section_tests k bs)
  unfolding section_tests
  count_cut l = sym (first_yes _ _ (lt-ltb _ _ l))

  module _ (counts : 2 ≤ length bs) where
    pub count_wrong : right_count ≡ false → k.wrong ≡ first_of (section_tests k bs)
    unfolding section_tests
    count_wrong e = sym (first_no _ _ (le-ltb _ _ counts) ∙ first_yes _ _ (ap not e))

    pub body_cut : right_count ≡ true → length bs - 2 < k.size * first_two bs → 14 ≡ first_of (section_tests k bs)
    unfolding section_tests
    body_cut right l =
        sym (first_no _ _ (le-ltb _ _ counts) ∙ first_no _ _ (ap not right) ∙ first_yes _ _ (lt-ltb (length (drop 2 bs)) (k.size * first_two bs) (rw (length-drop 2 bs) l)))

-- ---- where a section without a fault lies

-- from `at` on; there may be as many as it counts
pub record LiesAt (k : Kind) (image : List ℕ) (at : ℕ) (s : Section) : Type 0 where
  pub fewest : k.fewest ≤ s.count
  pub most : s.count ≤ k.most
  pub room : at + 2 + k.size * s.count ≤ length image
  pub body : s.body ≡ take (k.size * s.count) (drop (at + 2) image)
  pub rest : s.rest ≡ drop (at + 2 + k.size * s.count) image

lies_at : (k : Kind) (image : List ℕ) (at : ℕ) → 0 < k.wrong → first_of (section_tests k (drop at image)) ≡ 0 → LiesAt k image at (section_in k (drop at image))
unfolding section_in
lies_at k image at numbered e =
    let n : ℕ = first_two (drop at image) in
    let w = section_whole k (drop at image) numbered e in
    record {
      fewest = w.fewest;
      most = w.most;
      room = omega (arith, w.long, length-drop at image);
      body = rw (drop-drop 2 at image);
      rest = rw (drop-drop 2 at image, drop-drop (k.size * n) (at + 2) image);
    }

-- ---- the tests of a file

-- these are left, of the bytes from `at` on
pub record Left (image : List ℕ) (tests : List Test) (bs : List ℕ) (at : ℕ) : Type 0 where
  pub fault : fault_of image ≡ first_of tests
  pub here : bs ≡ drop at image

-- those of a section and of what is behind it
module _ (image : List ℕ) where
  abbrev f : File
  f = file_of image

  abbrev pub from_end : List Test
  from_end = left_over f.roots.rest ∷ []

  abbrev pub from_roots : List Test
  from_roots = section_tests root_words f.blocks.rest ++ from_end

  abbrev pub from_blocks : List Test
  from_blocks = section_tests (used_in f.table) f.table.rest ++ from_roots

  abbrev pub from_table : List Test
  from_table = section_tests table_bytes f.base.rest ++ from_blocks

  -- at first all are left, of the whole file
  pub left_all : Left image (section_tests one_base image ++ from_table) image 0
  unfolding fault_of file_tests
  left_all = record { fault = simp append_assoc; here = refl }

module _ {image bs : List ℕ} {at : ℕ} (k : Kind) (us : List Test) (l : Left image (section_tests k bs ++ us) bs at) {r : ℕ} (e : r ≡ first_of (section_tests k (drop at image))) where
  -- the next section has a fault
  pub left_fault : (r ≡ 0 → ⊥) → r ≡ fault_of image
  left_fault ne = refused_first (section_tests k bs) us (rw l.here e) ne ∙ sym l.fault

  -- it has none: it lies here, and the others are left
  module _ (numbered : 0 < k.wrong) (z : r ≡ 0) where
    pub left_lies : LiesAt k image at (section_in k bs)
    left_lies = rw l.here (lies_at k image at numbered (sym e ∙ z))

    pub left_next : Left image us (section_in k bs).rest (at + 2 + k.size * (section_in k bs).count)
    unfolding section_tests
    left_next = record {
      fault = l.fault ∙ first_more (section_tests k bs) us (rw (lt-ltb 0 k.wrong numbered) refl) (rw l.here (sym e ∙ z));
      here = left_lies.rest;
    }

-- behind the last section there is nothing, or that is a fault
module _ {image bs : List ℕ} {at : ℕ} (l : Left image (left_over bs ∷ []) bs at) where
  rest_length : length bs ≡ length image - at
  rest_length = ap (length {A = ℕ}) l.here ∙ length-drop at image

  pub left_over_is : at < length image → 16 ≡ fault_of image
  left_over_is h = sym (l.fault ∙ first_yes _ _ (lt-ltb 0 (length bs) (omega (arith, rest_length))))

  pub left_none : length image ≤ at → 0 ≡ fault_of image
  left_none h = sym (l.fault ∙ first_last _ (le-ltb 0 (length bs) (omega (arith, rest_length))))
