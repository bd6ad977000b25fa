-- `test_eight`: eight bytes of each plane are two words of 32 entries, one behind the other.
-- Assumes nothing.
use Rattle.std.proofs.Common.{◌≡◌, ℕ, ◌+◌, ◌-◌, ◌*◌, ◌<◌, ◌≤◌, List, length, sym, ◌∙◌, arith, rules}
use borrow.Rule.Slice.PartMut.{mid_of}
use Rattle.rules.specs.Tables.{entry_at}
use Rattle.laws.proofs.Widths.{in_slice}
use Rattle.entries.specs.Groups.{lane, InPlanes, InWords}
use Rattle.entries.proofs.Cut.{entries_of, entry_of, part_planes}
use Rattle.whole.proofs.Testing.{tested_more}
use Rattle.whole.proofs.test_eight.Goals as goal

-- word i of the part has the entries from block 8 * at + 32 * i on
word_lanes : (es lows highs : List ℕ) (at : ℕ) → at + 8 ≤ length lows → at + 8 ≤ length highs → InPlanes es lows highs
    → (i b low high : ℕ) → 8 * at + 32 * i ≡ b → i < 2 → InWords (mid_of at (at + 8 - at) lows) (mid_of at (at + 8 - at) highs) i low high
    → (j : ℕ) → j < 32 → entry_at es (b + j) ≡ lane low high j
word_lanes es lows highs at room room' planes i b low high place few words j h =
    let n : ℕ = at + 8 - at in
    let e : 8 * at + (32 * i + j) ≡ b + j = omega arith in
    rw e at (sym (entry_of es lows highs at n (32 * i + j) (omega arith))
    ∙ words (entries_of es lows highs at n) (part_planes es lows highs at n (omega arith) (omega arith) planes) j h)

pub overflow_add-end : goal.overflow_add-end
overflow_add-end c = in_slice c.args.planes.now.lows.now (search rules) (search rules)

pub returns : goal.returns
returns c es planes is =
    let x = c.args in
    let a = c.words_at-a in
    let b = c.words_at-b in
    let here : 8 * x.at + 32 * 0 ≡ 8 * x.at = omega arith in
    let there : 8 * x.at + 32 * 1 ≡ 8 * x.at + 32 = omega arith in
    let lanes = word_lanes es x.planes.now.lows.now x.planes.now.highs.now x.at c.requires.1.0 c.requires.1.1 planes in
    let first = c.test-first.ensures.1 es (8 * x.at) (lanes 0 (8 * x.at) a.result.low a.result.high here (omega arith) a.ensures) is in
    tested_more es (8 * x.at) 32 32 _ _ _ _ first
    (c.test-second.ensures.1 es (8 * x.at + 32) (lanes 1 (8 * x.at + 32) b.result.low b.result.high there (omega arith) b.ensures) first.last)
