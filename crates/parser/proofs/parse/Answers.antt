-- `parse`: a fault of a section is the file's, since those before it have none; behind each section it is known where the next one lies.
-- Assumes nothing.
use mathlib.Core.Path.{◌≡◌, sym, ap, ◌∙◌}
use mathlib.Core.List.{List}
use Prim.Native.Nat.{ℕ, ◌-◌}
use native.Mathlib.Omega.{arith}
use lib.ListN.{drop, length-take}
use borrow.Author.Rules.{rules}
use Rattle.rules.specs.Entries.{entries_of}
use Rattle.rules.specs.Tables.{used}
use Rattle.rules.specs.Files.{one_base, table_bytes, blocks_of, root_words, entries_for, used_in, file_of}
use Rattle.laws.proofs.Sections.{left_all, left_over_is, left_none, from_table, from_blocks, from_roots, from_end}
use Rattle.parser.specs.Reading.{kind_by}
use Rattle.parser.proofs.Parsing.{faulty, small_blocks, Base, base_known, Table, table_known, Blocks, blocks_known, Roots, roots_known, file_says}
use Rattle.parser.proofs.parse.Goals as goal
use Rattle.parser.proofs.parse.Goals.{After-table_bytes, In_ok-table, After-blocks-2, After-root_words, In_ok-roots}

-- ---- what is known behind each section

base : (c : After-table_bytes) → Base c.args.image.now c.in_ok-base.base
base c = base_known _ (rw c.one_base.ensures at c.in_ok-base.ensures)

table : (c : In_ok-table) → Table c.args.image.now c.in_ok-table.table
table c = table_known _ (base (goal.at.In_ok-table c).After-table_bytes) (rw c.table_bytes.ensures at c.in_ok-table.ensures)

used_is : (c : After-blocks-2) → c.used-used.result ≡ used (entries_for (file_of c.args.image.now).table)
used_is c = c.used-used.ensures ∙ ap (λ (bs : List ℕ). used (entries_of bs)) (sym (table (goal.at.After-blocks-2 c).In_ok-table).body)

kind_is : (c : After-blocks-2) → kind_by c.blocks-2.result ≡ used_in (file_of c.args.image.now).table
kind_is c = c.blocks-2.ensures ∙ ap blocks_of (used_is c)

blocks : (c : After-root_words) → Blocks c.args.image.now c.in_ok-table.table c.in_ok-blocks.blocks
blocks c =
    let at = goal.at.After-root_words c in
    blocks_known _ (table at.In_ok-table) (rw (kind_is at.After-blocks-2) at c.in_ok-blocks.ensures)

roots : (c : In_ok-roots) → Roots c.args.image.now c.in_ok-table.table c.in_ok-roots.roots
roots c = roots_known _ (blocks (goal.at.In_ok-roots c).After-root_words) (rw c.root_words.ensures at c.in_ok-roots.ensures)

-- ---- the base

pub returns-in_err-base : goal.returns-in_err-base
returns-in_err-base c = faulty one_base (from_table _) _ (left_all _) (rw c.one_base.ensures at c.in_err-base.ensures) c.from_residual.ensures.1

-- ---- the table

pub section_at-requires-2 : goal.section_at-requires-2
section_at-requires-2 c =
    let b = base (goal.at.section_at-requires-2 c).After-table_bytes in (omega (arith, b.end, b.room), search rules)

pub returns-in_err-table : goal.returns-in_err-table
returns-in_err-table c =
    let b = base (goal.at.returns-in_err-table c).After-table_bytes in
    faulty table_bytes (from_blocks _) _ b.left (rw c.table_bytes.ensures at c.in_err-table.ensures) c.from_residual-in_err-table.ensures.1

-- ---- its used blocks

pub slice_bounds-used-count : goal.slice_bounds-used-count
slice_bounds-used-count c = omega (arith, (table (goal.at.slice_bounds-used-count c).In_ok-table).end)

pub slice_bounds-used-start : goal.slice_bounds-used-start
slice_bounds-used-start c = omega (arith, (table (goal.at.slice_bounds-used-start c).In_ok-table).end)

pub slice_bounds-used-end : goal.slice_bounds-used-end
slice_bounds-used-end c = (table (goal.at.slice_bounds-used-end c).In_ok-table).room

pub used-used-requires : goal.used-used-requires
used-used-requires c =
    let t = table (goal.at.used-used-requires c).In_ok-table in
    omega (arith, t.end, t.most, length-take (c.in_ok-table.table.end - 8) (drop 8 c.args.image.now))

pub section_at-requires-3 : goal.section_at-requires-3
section_at-requires-3 c =
    let at = goal.at.section_at-requires-3 c in
    let t = table at.In_ok-table in
    (t.room, rw (kind_is at.After-blocks-2) (small_blocks _ t))

pub returns-in_err-blocks : goal.returns-in_err-blocks
returns-in_err-blocks c =
    let at = goal.at.returns-in_err-blocks c in
    let t = table at.In_ok-table in
    faulty (used_in (file_of c.args.image.now).table) (from_roots _) _ t.left (rw (kind_is at.After-blocks-2) at c.in_err-blocks.ensures) c.from_residual-in_err-blocks.ensures.1

-- ---- the roots

pub section_at-requires-4 : goal.section_at-requires-4
section_at-requires-4 c = ((blocks (goal.at.section_at-requires-4 c).After-root_words).room, search rules)

pub returns-in_err-roots : goal.returns-in_err-roots
returns-in_err-roots c =
    let b = blocks (goal.at.returns-in_err-roots c).After-root_words in
    faulty root_words (from_end _) _ b.left (rw c.root_words.ensures at c.in_err-roots.ensures) c.from_residual-in_err-roots.ensures.1

-- ---- the end

pub returns-then-roots-image : goal.returns-then-roots-image
returns-then-roots-image c =
    (left_over_is (roots (goal.at.returns-then-roots-image c).In_ok-roots).left c.if-roots-image.true, tt)

pub slice_bounds-word-end : goal.slice_bounds-word-end
slice_bounds-word-end c = (base (goal.at.slice_bounds-word-end c).After-table_bytes).room

pub returns : goal.returns
returns c =
    let at = goal.at.returns c in
    let r = roots at.In_ok-roots in (
      left_none r.left c.if-roots-image.false,
      file_says _ (base at.After-table_bytes) (table at.In_ok-table) (blocks at.After-root_words) r c.if-roots-image.false c.word.ensures (used_is at.After-blocks-2),
    )
