-- Laws of files: what a file without a fault has in its sections.
-- Assumes nothing.
use mathlib.Core.Path.{◌≡◌, refl, ◌∙◌}
use mathlib.Core.List.{List, [], ◌∷◌, ◌++◌}
use Prim.Native.Nat.{ℕ, ◌+◌, ◌*◌, ◌≤◌, ◌<◌}
use native.Mathlib.Omega.{arith}
use lib.Dec.{leb}
use lib.ListN.{length, drop, length-drop}
use lib.Seq.{length-take-le}
use borrow.Author.Tests.{leb-true, ltb-false, le-leb, le-ltb}
use Rattle.rules.specs.Words.{first_two}
use Rattle.rules.specs.Tables.{used}
use Rattle.laws.specs.Meaning.{AllBytes}
use Rattle.rules.specs.Refusals.{Test, first_of}
use Rattle.rules.specs.Files.{Kind, one_base, table_bytes, root_words, section_in, cut_short, wrong_count, left_over, section_tests, File, entries_for, used_in, file_of, file_tests, fault_of}
use Rattle.laws.proofs.Lists.{bounded_take, bounded_drop}
use Rattle.laws.proofs.Refusals.{both_left, both_right, not-false, first_none, first_no, first_more, first_last, first_neither}

-- ---- a section

-- it is there to its end, and counts no other number than it may
pub record Whole (k : Kind) (bs : List ℕ) : Type 0 where
  pub fewest : k.fewest ≤ first_two bs
  pub most : first_two bs ≤ k.most
  pub long : 2 + k.size * first_two bs ≤ length bs

pub section_whole : (k : Kind) (bs : List ℕ) → 0 < k.wrong → first_of (section_tests k bs) ≡ 0 → Whole k bs
unfolding section_tests
section_whole k bs p e =
    let n = first_two bs in
    let body = cut_short (drop 2 bs) (k.size * n) in
    let a = first_none (cut_short bs 2) (wrong_count k n ∷ body ∷ []) (omega arith) e in
    let b = first_none (wrong_count k n) (body ∷ []) p a.1 in
    let c = first_none body [] (omega arith) b.1 in
    let right = not-false _ b.0 in
    let two = ltb-false (length bs) 2 a.0 in
    let rest = ltb-false (length (drop 2 bs)) (k.size * n) c.0 in
    record {
      fewest = leb-true k.fewest n (both_left (leb k.fewest n) _ right);
      most = leb-true n k.most (both_right (leb k.fewest n) _ right);
      long = omega (arith, two, rest, length-drop 2 bs);
    }

pub whole_section : (k : Kind) (bs : List ℕ) → Whole k bs → first_of (section_tests k bs) ≡ 0
unfolding section_tests
whole_section k bs w =
    let n = first_two bs in
    let body = cut_short (drop 2 bs) (k.size * n) in
    first_no (cut_short bs 2) (wrong_count k n ∷ body ∷ []) (le-ltb (length bs) 2 (omega (arith, w.long)))
    ∙ first_no (wrong_count k n) (body ∷ []) (rw (le-leb _ _ w.fewest, le-leb _ _ w.most))
    ∙ first_last body (le-ltb (length (drop 2 bs)) (k.size * n) (omega (arith, w.long, length-drop 2 bs)))

pub length_body : (k : Kind) (bs : List ℕ) → Whole k bs → length (section_in k bs).body ≡ k.size * first_two bs
unfolding section_in
length_body k bs w = length-take-le (k.size * first_two bs) (drop 2 bs) (omega (arith, w.long, length-drop 2 bs))

pub bytes_body : (k : Kind) (bs : List ℕ) → AllBytes bs → AllBytes (section_in k bs).body
unfolding section_in
bytes_body k bs y = bounded_take (k.size * first_two bs) (drop 2 bs) (bounded_drop 2 bs y)

pub bytes_rest : (k : Kind) (bs : List ℕ) → AllBytes bs → AllBytes (section_in k bs).rest
unfolding section_in
bytes_rest k bs y = bounded_drop (k.size * first_two bs) (drop 2 bs) (bounded_drop 2 bs y)

-- ---- a file

-- every section is whole, and nothing is left over
pub record Faultless (image : List ℕ) : Type 0 where
  pub base : Whole one_base image
  pub table : Whole table_bytes (file_of image).base.rest
  pub blocks : Whole (used_in (file_of image).table) (file_of image).table.rest
  pub roots : Whole root_words (file_of image).blocks.rest
  pub end : length (file_of image).roots.rest ≡ 0

module _ (image : List ℕ) where
  abbrev f : File
  f = file_of image

  abbrev first : List Test
  first = section_tests one_base image

  abbrev second : List Test
  second = section_tests table_bytes f.base.rest

  abbrev third : List Test
  third = section_tests (used_in f.table) f.table.rest

  abbrev fourth : List Test
  fourth = section_tests root_words f.blocks.rest

  pub faultless : fault_of image ≡ 0 → Faultless image
  unfolding fault_of file_tests section_tests
  faultless e =
      let a = first_neither (first ++ second ++ third ++ fourth) (left_over f.roots.rest ∷ []) refl e in
      let b = first_neither (first ++ second ++ third) fourth refl a.0 in
      let c = first_neither (first ++ second) third refl b.0 in
      let d = first_neither first second refl c.0 in
      let z = first_none (left_over f.roots.rest) [] (omega arith) a.1 in
      record {
        base = section_whole one_base image (omega arith) d.0;
        table = section_whole table_bytes f.base.rest (omega arith) d.1;
        blocks = section_whole (used_in f.table) f.table.rest (omega arith) c.1;
        roots = section_whole root_words f.blocks.rest (omega arith) b.1;
        end = omega (arith, ltb-false 0 (length f.roots.rest) z.0);
      }

  pub no_fault : Faultless image → fault_of image ≡ 0
  unfolding fault_of file_tests section_tests
  no_fault g =
      let a = first_more first second refl (whole_section one_base image g.base) ∙ whole_section table_bytes f.base.rest g.table in
      let b = first_more (first ++ second) third refl a ∙ whole_section (used_in f.table) f.table.rest g.blocks in
      let c = first_more (first ++ second ++ third) fourth refl b ∙ whole_section root_words f.blocks.rest g.roots in
      first_more (first ++ second ++ third ++ fourth) (left_over f.roots.rest ∷ []) refl c ∙ first_last (left_over f.roots.rest) (le-ltb 0 (length f.roots.rest) (omega (arith, g.end)))

  -- its blocks have 16 bytes for each used entry
  pub length_blocks : Faultless image → length f.blocks.body ≡ 16 * used (entries_for f.table)
  unfolding file_of
  length_blocks g = let w = g.blocks in length_body (used_in f.table) f.table.rest w ∙ omega (arith, w.fewest, w.most)

  pub bytes_blocks : AllBytes image → AllBytes f.blocks.body
  unfolding file_of
  bytes_blocks y = bytes_body _ _ (bytes_rest _ _ (bytes_rest _ _ y))
