-- What is known behind each section that was read without a fault, and of the whole file at its end.
-- Assumes nothing.
use mathlib.Core.Path.{◌≡◌, refl, sym, ap, ◌∙◌}
use mathlib.Core.List.{List, ◌++◌}
use Prim.Native.Nat.{ℕ, ◌+◌, ◌-◌, ◌*◌, ◌≤◌}
use native.Mathlib.Omega.{arith}
use lib.ListN.{length, take, drop, length-take}
use borrow.Author.Rules.{rules}
use Rattle.std.specs.Prelude.{Result, Ok, Err, IfOk}
use Rattle.std.specs.Result.{IsErrAnd}
use Rattle.std.proofs.lemmas.Result.{err_from_is_err_and}
use Rattle.rules.specs.Words.{word_at}
use Rattle.rules.specs.Tables.{used}
use Rattle.rules.specs.Refusals.{Test}
use Rattle.rules.specs.Files.{Kind, one_base, table_bytes, root_words, Section as SectionOf, section_in, section_tests, File as FileOf, entries_for, used_in, file_of, fault_of}
use Rattle.laws.proofs.Entries.{length_entries_of}
use Rattle.laws.proofs.Tables.{used_le}
use Rattle.laws.proofs.Sections.{LiesAt, Left, left_all, left_fault, left_lies, left_next, from_table, from_blocks, from_roots, from_end}
use Rattle.refusals.specs.declared.Refusal.{Refusal}
use Rattle.refusals.specs.Codes.{refused_by}
use Rattle.refusals.proofs.Codes.{not_accepted}
use Rattle.parser.specs.declared.Section.{Section}
use Rattle.parser.specs.declared.File.{File}
use Rattle.parser.specs.Reading.{Small, Reads, Says}

-- a section with a fault: it is passed on, in place of a file
pub faulty : {image bs : List ℕ} {at : ℕ} {fault : Refusal} (k : Kind) (us : List Test) (answer : Result File Refusal) → Left image (section_tests k bs ++ us) bs at
    → Reads image at k (Err fault) → IsErrAnd answer (λ r. r ≡ fault) → (refused_by answer ≡ fault_of image) × IfOk answer (λ file. Says image file)
faulty {fault = fault} k us answer l reads passed =
    let p = err_from_is_err_and answer passed in rw (p.1, p.2) (left_fault k us l reads.fault (not_accepted fault), tt)

-- a section s that was read from `at` on: where it lies, its count, the place behind it, and the tests that are left there
record Behind (image : List ℕ) (k : Kind) (s : SectionOf) (at : ℕ) (us : List Test) (r : Section) : Type 0 where
  pub lies : LiesAt k image at s
  pub count : r.count ≡ s.count
  pub end : r.end ≡ at + 2 + k.size * s.count
  pub left : Left image us s.rest r.end

behind : {image bs : List ℕ} {at : ℕ} {r : Section} (k : Kind) (us : List Test) → Left image (section_tests k bs ++ us) bs at → Small k → Reads image at k (Ok r)
    → Behind image k (section_in k bs) at us r
unfolding section_in
behind {image} {bs} {at} {r} k us l small reads =
    let count : r.count ≡ (section_in k bs).count = rw l.here reads.count in
    let end : r.end ≡ at + 2 + k.size * (section_in k bs).count = rw (← count) reads.end in
    record { lies = left_lies k us l reads.fault small.wrong refl; count = count; end = end; left = rw end (left_next k us l reads.fault small.wrong refl) }

-- ---- section by section

module _ (image : List ℕ) where
  abbrev f : FileOf
  f = file_of image

  abbrev n : ℕ
  n = used (entries_for f.table)

  -- the base is one word
  pub record Base (b : Section) : Type 0 where
    pub end : b.end ≡ 6
    pub room : 6 ≤ length image
    pub body : f.base.body ≡ take 4 (drop 2 image)
    pub left : Left image (from_table image) f.base.rest b.end

  pub base_known : {b : Section} → Reads image 0 one_base (Ok b) → Base b
  unfolding file_of
  base_known reads =
      let b = behind one_base (from_table image) (left_all image) (search rules) reads in
      let one : f.base.count ≡ 1 = omega (arith, b.lies.fewest, b.lies.most) in
      record {
        end = omega (arith, b.end, one);
        room = omega (arith, b.lies.room, one);
        body = rw one at b.lies.body;
        left = b.left;
      }

  -- the table is behind it
  pub record Table (t : Section) : Type 0 where
    pub count : t.count ≡ f.table.count
    pub most : t.count ≤ 1024
    pub end : t.end ≡ 8 + t.count
    pub room : t.end ≤ length image
    pub body : f.table.body ≡ take (t.end - 8) (drop 8 image)
    pub left : Left image (from_blocks image) f.table.rest t.end

  pub table_known : {b t : Section} → Base b → Reads image b.end table_bytes (Ok t) → Table t
  unfolding file_of
  table_known {b} {t} base reads =
      let s = behind table_bytes (from_blocks image) base.left (search rules) reads in
      let end : t.end ≡ 8 + t.count = omega (arith, s.end, s.count, base.end) in
      let long : 1 * f.table.count ≡ t.end - 8 = omega (arith, end, s.count) in
      let place : b.end + 2 ≡ 8 = omega (arith, base.end) in
      record {
        count = s.count;
        most = omega (arith, s.lies.most, s.count);
        end = end;
        room = omega (arith, s.lies.room, s.end);
        body = rw (long, place) at s.lies.body;
        left = s.left;
      }

  -- it has few used blocks
  pub small_blocks : {t : Section} → Table t → Small (used_in f.table)
  small_blocks {t} table = record {
    size = omega arith;
    most =
        omega
        (arith, used_le (entries_for f.table), length_entries_of f.table.body, ap (length {A = ℕ}) table.body, length-take (t.end - 8) (drop 8 image), table.end, table.most);
    wrong = omega arith;
  }

  -- the blocks are behind that
  pub record Blocks (t u : Section) : Type 0 where
    pub end : u.end ≡ 10 + t.count + 16 * n
    pub room : u.end ≤ length image
    pub body : f.blocks.body ≡ take (16 * n) (drop (10 + t.count) image)
    pub left : Left image (from_roots image) f.blocks.rest u.end

  pub blocks_known : {t u : Section} → Table t → Reads image t.end (used_in f.table) (Ok u) → Blocks t u
  unfolding file_of
  blocks_known {t} table reads =
      let s = behind (used_in f.table) (from_roots image) table.left (small_blocks table) reads in
      let all : f.blocks.count ≡ n = omega (arith, s.lies.fewest, s.lies.most) in
      let place : t.end + 2 ≡ 10 + t.count = omega (arith, table.end) in
      record {
        end = omega (arith, s.end, all, table.end);
        room = omega (arith, s.lies.room, s.end);
        body = rw (all, place) at s.lies.body;
        left = s.left;
      }

  -- the roots are last
  pub record Roots (t w : Section) : Type 0 where
    pub count : w.count ≡ f.roots.count
    pub most : w.count ≤ 4096
    pub end : w.end ≡ 12 + t.count + 16 * n + 4 * w.count
    pub room : w.end ≤ length image
    pub body : f.roots.body ≡ take (4 * w.count) (drop (12 + t.count + 16 * n) image)
    pub left : Left image (from_end image) f.roots.rest w.end

  pub roots_known : {t u w : Section} → Blocks t u → Reads image u.end root_words (Ok w) → Roots t w
  unfolding file_of
  roots_known {t} {u} blocks reads =
      let s = behind root_words (from_end image) blocks.left (search rules) reads in
      let place : u.end + 2 ≡ 12 + t.count + 16 * n = omega (arith, blocks.end) in
      record {
        count = s.count;
        most = omega (arith, s.lies.most, s.count);
        end = omega (arith, s.end, s.count, blocks.end);
        room = omega (arith, s.lies.room, s.end);
        body = rw (← s.count, place) at s.lies.body;
        left = s.left;
      }

  -- and nothing is left over
  pub file_says : {b t u w : Section} {word m : ℕ} → Base b → Table t → Blocks t u → Roots t w → length image ≤ w.end → word ≡ word_at (take 4 (drop 2 image)) 0 → m ≡ n
      → Says image (record { base = word; t = t.count; used = m; roots = w.count })
  file_says {t = t} base table blocks roots whole is_IsWord is-n =
      let long : t.end - 8 ≡ t.count = omega (arith, table.end) in
      record {
        base = is_IsWord ∙ sym (ap (λ (bs : List ℕ). word_at bs 0) base.body);
        t = table.count;
        table = rw long at table.body;
        used = is-n;
        blocks = rw is-n blocks.body;
        roots = roots.count;
        few_roots = roots.most;
        words = rw is-n roots.body;
        long = omega (arith, roots.end, roots.room, whole, is-n);
      }
