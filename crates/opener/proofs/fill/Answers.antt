-- `fill`: each part of the file that is lent on is the body of a section.
-- Assumes nothing.
use mathlib.Core.Path.{◌≡◌, sym, ap, ◌∙◌}
use mathlib.Core.List.{List}
use Prim.Native.Nat.{ℕ, ◌+◌, ◌-◌, ◌*◌, ◌≤◌}
use native.Mathlib.Omega.{arith}
use lib.ListN.{length, take, drop}
use borrow.Author.Rules.{rules}
use Rattle.rules.specs.Entries.{entries_of}
use Rattle.rules.specs.Tables.{used}
use Rattle.rules.specs.Planes.{entries_in, Holds}
use Rattle.rules.specs.Files.{pool_of, File as FileOf, file_of, entries_for, roots_of}
use Rattle.laws.proofs.Entries.{length_entries_of}
use Rattle.laws.proofs.Tables.{used_le}
use Rattle.laws.proofs.Planes.{length_entries_in}
use Rattle.laws.proofs.Widths.{in_32_bits, in_slice}
use Rattle.parser.specs.declared.File.{File}
use Rattle.opener.specs.Filling.{Suits}
use Rattle.opener.proofs.Ends.{table_long, blocks_long}
use Rattle.opener.proofs.fill.Goals as goal
use Rattle.opener.proofs.fill.Goals.{After-index}

-- at most 4,096 blocks are used
few : {image : List ℕ} {file : File} {t : ℕ} {pool table roots : List ℕ} → Suits image file t pool table roots → file.used ≤ 4096
few {image} s = omega (arith, s.says.used, used_le (entries_for (file_of image).table), length_entries_of (file_of image).table.body, table_long s.says, s.bytes, s.sized.few)

-- n is the bytes of the used blocks
module _ {image : List ℕ} {file : File} {t : ℕ} {pool table roots : List ℕ} (s : Suits image file t pool table roots) {n : ℕ} (size : n ≡ 16 * file.used) where
  abbrev f : FileOf
  f = file_of image

  -- where the blocks and the roots begin
  abbrev from_blocks : ℕ
  from_blocks = 8 + t + 2

  abbrev from_words : ℕ
  from_words = from_blocks + n + 2

  -- the parts
  table_part : take (8 + t - 8) (drop 8 image) ≡ f.table.body
  table_part = let long : 8 + t - 8 ≡ file.t = omega (arith, s.bytes) in rw long (sym s.says.table)

  blocks_part : take (from_blocks + n - from_blocks) (drop from_blocks image) ≡ f.blocks.body
  blocks_part =
      let long : from_blocks + n - from_blocks ≡ 16 * file.used = omega (arith, size) in
      let place : from_blocks ≡ 10 + file.t = omega (arith, s.bytes) in
      rw (long, place) (sym s.says.blocks)

  words_part : take (length image - from_words) (drop from_words image) ≡ roots_of f
  words_part =
      let long : length image - from_words ≡ 4 * file.roots = omega (arith, s.says.long, s.bytes, size) in
      let place : from_words ≡ 12 + file.t + 16 * file.used = omega (arith, s.bytes, size) in
      rw (long, place) (sym s.says.words)

  module _ {table' : List ℕ} (unpacked : Holds t (entries_of (take (8 + t - 8) (drop 8 image))) table') where
    holds : Holds t (entries_for f.table) table'
    holds = rw table_part at unpacked

    scattered : (length pool ≡ 16 * length (entries_in t table')) × (length (take (from_blocks + n - from_blocks) (drop from_blocks image)) ≡ 16 * used (entries_in t table'))
    scattered = (omega (arith, s.whole, length_entries_in t table'), ap (length {A = ℕ}) blocks_part ∙ blocks_long s.says ∙ rw (holds.entries, s.says.used))

    pool_is : {pool' : List ℕ} → pool' ≡ pool_of (entries_in t table') (take (from_blocks + n - from_blocks) (drop from_blocks image)) → pool' ≡ pool_of (entries_for f.table) f.blocks.body
    pool_is e = rw (holds.entries, blocks_part) at e

-- the bytes of the used blocks
size : (c : After-index) → c.index.result ≡ 16 * c.args.file.used
size c = omega (arith, c.index.ensures, c.of_blocks.ensures)

pub overflow_add-table_end : goal.overflow_add-table_end
overflow_add-table_end c = in_32_bits (search rules)

pub overflow_add-blocks : goal.overflow_add-blocks
overflow_add-blocks c = in_32_bits (search rules)

pub of_blocks-requires : goal.of_blocks-requires
of_blocks-requires c = omega (arith, few c.requires)

pub overflow_add-blocks_end : goal.overflow_add-blocks_end
overflow_add-blocks_end c =
    in_slice c.args.image.now (omega (arith, size (goal.at.overflow_add-blocks_end c).After-index, c.requires.says.long, c.requires.bytes)) (search rules)

pub new-requires : goal.new-requires
new-requires c = c.unpack.ensures.is_table

pub scatter-requires : goal.scatter-requires
scatter-requires c = rw c.new.ensures (scattered c.requires (size (goal.at.scatter-requires c).After-index) c.unpack.ensures)

pub overflow_add-words : goal.overflow_add-words
overflow_add-words c = in_slice c.args.image.now (search rules) (search rules)

pub returns : goal.returns
returns c =
    let size_is = size (goal.at.returns c).After-index in
    let suits = c.requires in
    record {
      entries = holds suits size_is c.unpack.ensures;
      blocks = pool_is suits size_is c.unpack.ensures (rw c.new.ensures at c.scatter.ensures);
      words = rw (words_part suits size_is) at c.set_part.ensures;
    }
