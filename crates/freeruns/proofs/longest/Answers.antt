-- `longest`: the table is read a word at a time as far as its last whole word, and the blocks that are left end the last run.
-- Assumes nothing.
use mathlib.Core.Path.{◌≡◌}
use mathlib.Core.List.{List}
use Prim.Native.Nat.{ℕ, ◌<◌, suc, ◌+◌, ◌*◌, ◌/◌, ◌≤◌}
use native.Mathlib.Omega.{arith}
use lib.ListN.{length}
use Rattle.rules.specs.Planes.{entries_in, plane_bytes}
use Rattle.entries.specs.Lent.{entries_of}
use Rattle.rules.specs.Tables.{longest}
use Rattle.laws.proofs.Planes.{length_entries_in, few_entries, room_entries}
use Rattle.laws.proofs.Tables.{longest_says, longest_one}
use Rattle.laws.proofs.Widths.{in_32_bits}
use Rattle.entries.proofs.Cut.{in_words}
use Rattle.freeruns.proofs.Frees.{free_whole}
use Rattle.freeruns.proofs.Rows.{zeros_at}
use Rattle.freeruns.proofs.Scans.{scan_rest}
use Rattle.freeruns.proofs.longest.Goals as goal

-- a word of the planes that is whole
in_plane : (t i blocks long : ℕ) (table : List ℕ) → i < blocks / 32 → blocks ≡ length (entries_in t table) → long ≡ plane_bytes t → 4 * i + 4 ≤ long
in_plane t i blocks long table inside all e = omega (arith, inside, all, e, length_entries_in t table, (room_entries t).0)

pub word_at-requires : goal.word_at-requires
word_at-requires c = in_plane _ _ _ _ _ c.loop-i-test.true c.blocks-whole.ensures c.planes-planes.ensures.lows

pub word_at-requires-in-loop-i : goal.word_at-requires-in-loop-i
word_at-requires-in-loop-i c = in_plane _ _ _ _ _ c.loop-i-test.true c.blocks-whole.ensures c.planes-planes.ensures.highs

pub loop-i-preserved : goal.loop-i-preserved
loop-i-preserved c =
    let more : 32 * c.loop-i.i + 32 ≤ length (entries_of c.args.table.now) =
    omega (arith, c.loop-i-test.true, c.blocks-whole.ensures) in
    let low = c.word_at in
    let high = c.word_at-in-loop-i in
    let es = entries_of c.args.table.now in
    let planes = c.planes-planes in
    let here = in_words planes.result.lows.now planes.result.highs.now c.loop-i.i low.result high.result low.ensures high.ensures es planes.ensures.hold in
    let free = free_whole es c.loop-i.i low.result high.result (omega arith) (omega arith) here more in
    let e : 32 * suc c.loop-i.i ≡ 32 * (c.loop-i.i + 1) = omega arith in
    (omega (arith, more, few_entries _ _ c.args.table.now.is_table), rw e at (c.read_on-read.ensures es c.loop-i.i free c.loop-i.invariant.1))

pub overflow_add-last : goal.overflow_add-last
overflow_add-last c =
    let front = zeros_at c.trailing_ones.ensures in
    in_32_bits (record { fits = omega (arith, c.loop-i.invariant.1.room, c.loop-i.invariant.0, front.few) })

pub returns : goal.returns
returns c =
    let rest = c.free_or_end-rest in
    let es = entries_of c.args.table.now in
    let e : c.loop-i.i ≡ c.blocks-whole.result / 32 = omega arith in
    longest_one es c.longest_row.result (longest es)
    (scan_rest es (c.blocks-whole.result / 32) rest.result (omega arith) rest.ensures (omega (arith, c.blocks-whole.ensures)) c.loop-i.read.longest c.loop-i.read.ending
    c.trailing_ones.result c.max.result c.longest_row.result (rw e at c.loop-i.invariant.1) (zeros_at c.trailing_ones.ensures) c.longest_row.ensures c.max.ensures)
    (longest_says es)
