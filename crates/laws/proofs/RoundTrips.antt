-- Sections that are written and read again: an image is a file without a fault that says what was written, and a file without a fault is the image of what it says.
-- Assumes nothing.
use mathlib.Core.Path.{◌≡◌, refl, sym, ap, ◌∙◌}
use mathlib.Core.List.{List, [], ◌∷◌, ◌++◌, append_assoc, append-nil}
use Prim.Native.Nat.{ℕ, ◌*◌, ◌/◌, ◌%◌, ◌≤◌, ◌<◌}
use native.Mathlib.Omega.{arith}
use lib.ListN.{length, length-append, take-append-drop}
use lib.Seq.{take_at, drop_at, take_all}
use Rattle.rules.specs.Words.{bytes_of, two_bytes_of, first_two}
use Rattle.rules.specs.Entries.{table_of}
use Rattle.rules.specs.Tables.{used}
use Rattle.laws.specs.Faithful.{Small}
use Rattle.rules.specs.Outcomes.{Heap}
use Rattle.laws.specs.Meaning.{AllBytes, Shape}
use Rattle.rules.specs.Images.{section, sections, used_from, image_of}
use Rattle.rules.specs.Files.{Kind, one_base, table_bytes, root_words, Section, section_in, File, entries_for, used_in, file_of, base_of, heap_of_file, roots_of}
use Rattle.laws.proofs.Words.{length_two_bytes_of, first_two_back, two_bytes_of_back, drop_two, word_at_bytes_of, length_bytes_of, bytes_of_word_at}
use Rattle.laws.proofs.Entries.{length_table_of, entries_of_table_of, table_of_entries_of, length_entries_of}
use Rattle.laws.proofs.Tables.{used_le}
use Rattle.laws.proofs.Images.{length_used}
use Rattle.laws.proofs.Files.{used_pool}
use Rattle.laws.proofs.Faults.{Whole, length_body, bytes_body, bytes_rest, Faultless, length_blocks}

-- ---- one section

-- what was written is read: the count, the body and what is behind it
read_section : (k : Kind) (n : ℕ) (body rest : List ℕ) → n < 65536 → length body ≡ k.size * n
    → section_in k (section n body ++ rest) ≡ record { count = n; body = body; rest = rest }
unfolding section_in section
read_section k n body rest few long =
    rw (append_assoc (two_bytes_of n) body rest, first_two_back n (body ++ rest) few, drop_two n (body ++ rest), take_at body rest (k.size * n) long, drop_at body rest (k.size * n) long)

-- and it is whole
whole_read : (k : Kind) (n : ℕ) (body rest : List ℕ) → n < 65536 → length body ≡ k.size * n → k.fewest ≤ n → n ≤ k.most → Whole k (section n body ++ rest)
unfolding section
whole_read k n body rest few long least most =
    let c = first_two_back n (body ++ rest) few in
    rw (append_assoc (two_bytes_of n) body rest)
    (record { fewest = rw c least; most = rw c most; long = rw (c, length-append (two_bytes_of n) (body ++ rest), length-append body rest) (omega (arith, long, length_two_bytes_of n)) })

-- the same of a section with nothing behind it
read_last : (k : Kind) (n : ℕ) (body : List ℕ) → n < 65536 → length body ≡ k.size * n → section_in k (section n body) ≡ record { count = n; body = body; rest = [] }
read_last k n body few long = rw (append-nil (section n body)) at (read_section k n body [] few long)

whole_last : (k : Kind) (n : ℕ) (body : List ℕ) → n < 65536 → length body ≡ k.size * n → k.fewest ≤ n → n ≤ k.most → Whole k (section n body)
whole_last k n body few long least most = rw (append-nil (section n body)) at (whole_read k n body [] few long least most)

-- what is read was written: the section with that count and body, and what is behind it
split_section : (k : Kind) (bs : List ℕ) → AllBytes bs → Whole k bs → bs ≡ section (section_in k bs).count (section_in k bs).body ++ (section_in k bs).rest
unfolding section_in section
split_section k [] bytes w = absurd (omega (arith, w.long))
split_section k (a ∷ []) bytes w = absurd (omega (arith, w.long))
split_section k (a ∷ b ∷ cs) bytes w = rw (two_bytes_of_back a b cs (bytes 0) (bytes 1), take-append-drop (k.size * first_two (a ∷ b ∷ cs)) cs)

-- ---- a file without a fault is the image of what it says

-- a section as it was written
abbrev again : Section → List ℕ
again s = section s.count s.body

-- four of them, each in front of the next, and nothing behind the last
joined : (a b c d : Section) {image : List ℕ} → image ≡ again a ++ a.rest → a.rest ≡ again b ++ b.rest → b.rest ≡ again c ++ c.rest → c.rest ≡ again d ++ d.rest
    → length d.rest ≡ 0 → image ≡ again a ++ again b ++ again c ++ again d
joined a b c d p q r s z =
    p ∙ rw (q, r, s, length_zero d.rest z, append-nil (again d), ← append_assoc (again b) (again c) (again d), ← append_assoc (again a) (again b ++ again c) (again d), ← append_assoc (again a) (again b) (again c))
  where
    length_zero : (xs : List ℕ) → length xs ≡ 0 → xs ≡ []
    length_zero [] e = refl
    length_zero (x ∷ xs) e = absurd (omega arith)

module _ (image : List ℕ) (bytes : AllBytes image) (g : Faultless image) where
  abbrev f : File
  f = file_of image

  abbrev es : List ℕ
  es = entries_for f.table

  -- the file's sections, each with what it counts
  counted : image ≡ again f.base ++ again f.table ++ again f.blocks ++ again f.roots
  unfolding file_of
  counted =
      let behind_base = bytes_rest one_base image bytes in
      let behind_table = bytes_rest table_bytes _ behind_base in
      joined f.base f.table f.blocks f.roots (split_section one_base image bytes g.base) (split_section table_bytes _ behind_base g.table) (split_section (used_in f.table) _ behind_table g.blocks)
      (split_section root_words _ (bytes_rest (used_in f.table) _ behind_table) g.roots) g.end

  base_count : f.base.count ≡ 1
  unfolding file_of section_in
  base_count = omega (arith, g.base.fewest, g.base.most)

  base_bytes : bytes_of (base_of f) ≡ f.base.body
  unfolding file_of
  base_bytes =
      let long : length f.base.body ≡ 4 = omega (arith, length_body one_base image g.base, g.base.fewest, g.base.most) in
      bytes_of_word_at f.base.body 0 (bytes_body one_base image bytes) (omega (arith, long)) ∙ take_all 4 f.base.body (omega (arith, long))

  table_count_is : f.table.count ≡ length es / 4
  unfolding file_of section_in
  table_count_is = omega (arith, length_entries_of f.table.body, length_body table_bytes f.base.rest g.table)

  table_bytes_are : table_of es ≡ f.table.body
  unfolding file_of
  table_bytes_are = table_of_entries_of f.table.body (bytes_body table_bytes f.base.rest (bytes_rest one_base image bytes))

  block_count_is : f.blocks.count ≡ used es
  unfolding file_of section_in
  block_count_is = omega (arith, g.blocks.fewest, g.blocks.most)

  root_count_is : f.roots.count ≡ length (roots_of f) / 4
  unfolding file_of section_in
  root_count_is = omega (arith, length_body root_words f.blocks.rest g.roots)

  file_sections : image ≡ sections (base_of f) es f.blocks.body (roots_of f)
  unfolding sections
  file_sections = counted ∙ rw (base_count, base_bytes, table_count_is, table_bytes_are, block_count_is, root_count_is)

  pub file_image : image_of (base_of f) (heap_of_file f) (roots_of f) ≡ image
  unfolding image_of
  file_image = rw (used_pool es f.blocks.body (length_blocks image g)) (sym file_sections)

-- ---- an image is a file without a fault, which says what was written

module _ (base : ℕ) (h : Heap) (roots : List ℕ) (s : Shape base h) (small : Small h.entries) (fours : length h.entries % 4 ≡ 0) (words : length roots % 4 ≡ 0)
    (few : length roots / 4 ≤ 4096) where
  abbrev t : ℕ
  t = length h.entries / 4

  abbrev u : ℕ
  u = used h.entries

  abbrev blocks : List ℕ
  blocks = used_from h.pool 0 h.entries

  -- what is behind the base, the table and the blocks
  abbrev behind_blocks : List ℕ
  behind_blocks = section (length roots / 4) roots

  abbrev behind_table : List ℕ
  behind_table = section u blocks ++ behind_blocks

  abbrev behind_base : List ℕ
  behind_base = section t (table_of h.entries) ++ behind_table

  in_order : image_of base h roots ≡ section 1 (bytes_of base) ++ behind_base
  unfolding image_of sections
  in_order =
      append_assoc (section 1 (bytes_of base) ++ section t (table_of h.entries)) (section u blocks) behind_blocks ∙ append_assoc (section 1 (bytes_of base)) (section t (table_of h.entries)) behind_table

  abbrev pub written : File
  written = record {
    base = record { count = 1; body = bytes_of base; rest = behind_base };
    table = record { count = t; body = table_of h.entries; rest = behind_table };
    blocks = record { count = u; body = blocks; rest = behind_blocks };
    roots = record { count = length roots / 4; body = roots; rest = [] };
  }

  base_long : length (bytes_of base) ≡ 4 * 1
  base_long = length_bytes_of base

  table_long : length (table_of h.entries) ≡ 1 * t
  table_long = omega (arith, length_table_of h.entries)

  few_used : u ≤ 4096
  few_used = omega (arith, used_le h.entries, s.few)

  blocks_long : length blocks ≡ 16 * u
  blocks_long = length_used h.pool 0 h.entries (omega (arith, s.pool))

  roots_long : length roots ≡ 4 * (length roots / 4)
  roots_long = omega arith

  pub image_file : file_of (image_of base h roots) ≡ written
  unfolding file_of
  image_file =
      rw (
        in_order,
        read_section one_base 1 (bytes_of base) behind_base (omega arith) base_long,
        read_section table_bytes t (table_of h.entries) behind_table (omega (arith, s.few)) table_long,
        read_section (used_in written.table) u blocks behind_blocks (omega (arith, few_used)) blocks_long,
        read_last root_words (length roots / 4) roots (omega (arith, few)) roots_long,
      )

  pub image_entries : entries_for written.table ≡ h.entries
  image_entries = entries_of_table_of h.entries fours small

  pub image_faultless : Faultless (image_of base h roots)
  image_faultless =
      let same : used (entries_for written.table) ≡ u = ap used image_entries in
      record {
        base = rw in_order (whole_read one_base 1 (bytes_of base) behind_base (omega arith) base_long (omega arith) (omega arith));
        table = rw image_file (whole_read table_bytes t (table_of h.entries) behind_table (omega (arith, s.few)) table_long (omega (arith, s.some, fours)) (omega (arith, s.few)));
        blocks = rw image_file (whole_read (used_in written.table) u blocks behind_blocks (omega (arith, few_used)) blocks_long (omega (arith, same)) (omega (arith, same)));
        roots = rw image_file (whole_last root_words (length roots / 4) roots (omega (arith, few)) roots_long (omega arith) few);
        end = rw image_file refl;
      }

  -- the base
  pub image_base : base_of written ≡ base
  image_base = word_at_bytes_of base (omega (arith, s.below, s.some))
