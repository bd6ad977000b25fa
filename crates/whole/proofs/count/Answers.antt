-- `count`: a word of both planes has a one for each used entry in its or, and for each HEAD in the low bits without the high ones.
-- Assumes nothing.
use Rattle.std.proofs.Common.{◌≡◌, ℕ, ◌+◌, ◌-◌, ◌*◌, ◌/◌, ◌^◌, ◌<◌, ◌≤◌, List, length, ◌∙◌, arith, rules}
use lib.Bits.{bit_and, bit_or}
use lib.Count.{ones}
use Rattle.rules.specs.Tables.{is_used, is_head}
use Rattle.laws.proofs.Widths.{as_u32}
use Rattle.entries.specs.Groups.{InPlanes, InWords}
use Rattle.entries.specs.Lent.{entries_of}
use Rattle.entries.proofs.Cut.{in_words}
use Rattle.whole.proofs.Planes.{short, all_entries}
use Rattle.whole.proofs.Ones.{up_to, few, used_turn, heads_turn, used_end, heads_end}
use Rattle.whole.proofs.count.Goals as goal

-- the entries of a word more are counted, and both counts are small
record Counted (es : List ℕ) (i low high used heads : ℕ) : Type 0 where
  used_is : used + ones (bit_or low high) ≡ up_to is_used es (i + 1)
  heads_is : heads + ones (bit_and low (4294967295 - high)) ≡ up_to is_head es (i + 1)
  used_small : used + ones (bit_or low high) ≤ 4200
  heads_small : heads + ones (bit_and low (4294967295 - high)) ≤ 4200

counted : {es : List ℕ} (lows highs : List ℕ) {i low high used heads : ℕ} → InPlanes es lows highs → length lows ≤ 512 → i ≤ length lows / 4 → low < 2 ^ 32 → high < 2 ^ 32
    → InWords lows highs i low high → used ≡ up_to is_used es i → heads ≡ up_to is_head es i → Counted es i low high used heads
counted {es = es} lows highs {i = i} {low = low} {high = high} {used = used} {heads = heads} hold few_bytes inside hl hh words u h =
    let lanes = words es hold in
    let used_is = used_turn es i used low high hl hh lanes u in
    let heads_is = heads_turn es i heads low high hl hh lanes h in
    record {
      used_is = used_is;
      heads_is = heads_is;
      used_small = omega (arith, used_is, few is_used es (i + 1));
      heads_small = omega (arith, heads_is, few is_head es (i + 1));
    }

pub loop-i-init : goal.loop-i-init
loop-i-init c =
    let es = entries_of c.args.table.now in
    (omega (arith, few is_used es 0), omega (arith, few is_head es 0))

pub overflow_add-used : goal.overflow_add-used
overflow_add-used c =
    let p = c.planes-planes.ensures in
    let k = counted _ _ p.hold (short c.args.table.now.is_table p.lows) (omega arith) (search rules) (search rules) (in_words _ _ _ _ _ c.word_at-low.ensures c.word_at-high.ensures) c.loop-i.invariant.0 c.loop-i.invariant.1 in
    as_u32 (record { fits = omega arith })

pub overflow_add-heads : goal.overflow_add-heads
overflow_add-heads c =
    let p = c.planes-planes.ensures in
    let k = counted _ _ p.hold (short c.args.table.now.is_table p.lows) (omega arith) (search rules) (search rules) (in_words _ _ _ _ _ c.word_at-low.ensures c.word_at-high.ensures) c.loop-i.invariant.0 c.loop-i.invariant.1 in
    as_u32 (record { fits = omega arith })

pub loop-i-preserved : goal.loop-i-preserved
loop-i-preserved c =
    let p = c.planes-planes.ensures in
    let k = counted _ _ p.hold (short c.args.table.now.is_table p.lows) (omega arith) (search rules) (search rules) (in_words _ _ _ _ _ c.word_at-low.ensures c.word_at-high.ensures) c.loop-i.invariant.0 c.loop-i.invariant.1 in
    (k.used_is, k.heads_is)

pub overflow_add-used-2 : goal.overflow_add-used-2
overflow_add-used-2 c =
    let p = c.planes-planes.ensures in
    let all : length c.planes-planes.result.lows.now / 4 ≡ c.loop-i.i = omega arith in
    let k = counted _ _ p.hold (short c.args.table.now.is_table p.lows) (omega arith) (search rules) (search rules) (rw all at c.last_words-w.ensures) c.loop-i.invariant.0 c.loop-i.invariant.1 in
    as_u32 (record { fits = omega arith })

pub overflow_add-heads-2 : goal.overflow_add-heads-2
overflow_add-heads-2 c =
    let p = c.planes-planes.ensures in
    let all : length c.planes-planes.result.lows.now / 4 ≡ c.loop-i.i = omega arith in
    let k = counted _ _ p.hold (short c.args.table.now.is_table p.lows) (omega arith) (search rules) (search rules) (rw all at c.last_words-w.ensures) c.loop-i.invariant.0 c.loop-i.invariant.1 in
    as_u32 (record { fits = omega arith })

pub returns : goal.returns
returns c =
    let p = c.planes-planes.ensures in
    let all : length c.planes-planes.result.lows.now / 4 ≡ c.loop-i.i = omega arith in
    let k = counted _ _ p.hold (short c.args.table.now.is_table p.lows) (omega arith) (search rules) (search rules) (rw all at c.last_words-w.ensures) c.loop-i.invariant.0 c.loop-i.invariant.1 in
    let es = entries_of c.args.table.now in
    let read : length es ≤ 32 * (c.loop-i.i + 1) = omega (arith, all_entries c.args.table.now.is_table p.lows) in
    (k.used_is ∙ used_end es (c.loop-i.i + 1) read, k.heads_is ∙ heads_end es (c.loop-i.i + 1) read)
