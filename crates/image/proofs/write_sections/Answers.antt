-- `write_sections`: each section goes behind the one before it.
-- Assumes nothing.
use mathlib.Core.Path.{◌≡◌, ◌∙◌}
use mathlib.Core.List.{List}
use Prim.Native.Nat.{ℕ, ◌+◌, ◌*◌, ◌/◌, ◌≤◌}
use native.Mathlib.Omega.{arith}
use lib.ListN.{length}
use lib.Seq.{sets}
use borrow.Author.Rules.{rules}
use Rattle.rules.specs.Words.{bytes_of}
use Rattle.rules.specs.Entries.{table_of}
use Rattle.rules.specs.Tables.{used as used_of}
use Rattle.rules.specs.Planes.{entries_in, IsTable, heap_at}
use Rattle.rules.specs.Images.{used_from}
use Rattle.laws.proofs.Words.{length_bytes_of}
use Rattle.laws.proofs.Entries.{length_table_of}
use Rattle.laws.proofs.Planes.{length_entries_in, few_entries}
use Rattle.laws.proofs.Tables.{used_le}
use Rattle.laws.proofs.Images.{length_used}
use Rattle.laws.proofs.Widths.{in_32_bits}
use Rattle.image.proofs.Sections.{begins_empty, section_next, all_sections}
use Rattle.image.proofs.write_sections.Goals as goal
use Rattle.image.proofs.write_sections.Goals.{After-index}

-- the base is stored as the word that it is
word_at : (image : List ℕ) (at : ℕ) {v w : ℕ} → v ≡ w → sets image at (bytes_of v) ≡ sets image at (bytes_of w)
word_at image at e = rw e

-- the table and the used blocks are few bytes
small : {t used : ℕ} {table : List ℕ} → IsTable t table → used ≡ used_of (entries_in t table) → t + 16 * used ≤ 1024 + 16 * 4096
small {t} {table = table} is count = omega (arith, is.sized.few, used_le (entries_in t table), few_entries t table is)

-- the bytes of the used blocks
size : (c : After-index) → c.index.result ≡ 16 * c.args.used
size c = omega (arith, c.index.ensures, c.of_blocks.ensures)

pub pack-requires : goal.pack-requires
pack-requires c =
    let h = c.args.heap.now in
    rw c.new-table.ensures (omega (arith, length_entries_in h.t h.table.now, c.requires.used_value.1))

pub overflow_add-blocks : goal.overflow_add-blocks
overflow_add-blocks c = in_32_bits (search rules)

pub overflow_add-blocks-2 : goal.overflow_add-blocks-2
overflow_add-blocks-2 c = in_32_bits (search rules)

pub overflow_add-list : goal.overflow_add-list
overflow_add-list c = in_32_bits (record { fits = omega (arith, small c.requires.table.0 c.requires.used_value.0) })

pub of_blocks-requires : goal.of_blocks-requires
of_blocks-requires c = omega (arith, small c.requires.table.0 c.requires.used_value.0)

pub overflow_add-list-2 : goal.overflow_add-list-2
overflow_add-list-2 c =
    in_32_bits (record { fits = omega (arith, size (goal.at.overflow_add-list-2 c).After-index, small c.requires.table.0 c.requires.used_value.0) })

pub overflow_add-list-3 : goal.overflow_add-list-3
overflow_add-list-3 c =
    in_32_bits (record { fits = omega (arith, size (goal.at.overflow_add-list-3 c).After-index, small c.requires.table.0 c.requires.used_value.0) })

pub returns : goal.returns
returns c =
    let size_is = size (goal.at.returns c).After-index in
    let a = c.args in
    let h = a.heap.now in
    let es = entries_in h.t h.table.now in
    let entries = length_entries_in h.t h.table.now in
    let count = c.requires.used_value.0 in
    let first =
    section_next 1 (bytes_of h.base.0) {m = 6} (begins_empty a.image.now) c.set_two_bytes.ensures (c.set_four_bytes.ensures ∙ word_at _ 2 c.to_word.ensures)
    (omega arith) (omega arith) (omega arith) (omega (arith, length_bytes_of h.base.0)) in
    let second =
    section_next (length es / 4) (table_of es) {m = 8 + h.t} first c.set_two_bytes-2.ensures (rw c.new-table.ensures at c.pack.ensures)
    (omega arith) (omega arith) (omega (arith, entries)) (omega (arith, entries, length_table_of es)) in
    let third =
    section_next (used_of es) (used_from h.pool.now 0 es) {m = 10 + h.t + 16 * a.used} second c.set_two_bytes-3.ensures (rw c.new-table.ensures at c.gather.ensures)
    (omega arith) (omega arith) (omega (arith, count)) (omega (arith, count, length_used h.pool.now 0 es (omega (arith, c.requires.table.1.0)))) in
    let fourth =
    section_next (length a.roots.now / 4) a.roots.now {m = 12 + h.t + 16 * a.used + length a.roots.now} third c.set_two_bytes-4.ensures c.set_part.ensures
    (omega (arith, size_is)) (omega (arith, size_is)) (omega arith) (omega arith) in
    all_sections h.base.0 (heap_at h.t h.pool.now h.table.now) a.roots.now _ _ _ fourth
