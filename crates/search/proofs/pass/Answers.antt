-- `pass`: what is known where the search begins is known at every word, with that word's bits in hand.
-- Assumes nothing.
use native.Mathlib.Omega.{arith}
use Rattle.entries.specs.Lent.{entries_of}
use Rattle.laws.proofs.Planes.{room_entries}
use Rattle.entries.proofs.Cut.{in_words}
use Rattle.freeruns.proofs.Frees.{word_free}
use Rattle.search.proofs.Searches.{passed_first, passed_on, passed_to}
use Rattle.search.proofs.pass.Goals as goal

pub loop-at-init : goal.loop-at-init
loop-at-init c = (c.requires.0, passed_first (entries_of c.args.table.now) c.args.count c.args.i)

pub returns-then-may_start : goal.returns-then-may_start
returns-then-may_start c =
    let r = c.word_before in
    (omega arith, (omega (arith, c.loop-at.invariant.0, c.requires.0), passed_to _ _ c.args.i c.loop-at.at c.loop-at.free r.result c.loop-at.invariant.1 (omega arith)))

pub loop-at-preserved : goal.loop-at-preserved
loop-at-preserved c =
    let low = c.word_at in
    let high = c.word_at-in-loop-at in
    let es = entries_of c.args.table.now in
    let planes = c.planes-planes in
    let here = in_words planes.result.lows.now planes.result.highs.now c.loop-at.at low.result high.result low.ensures high.ensures es planes.ensures.hold in (
      omega (arith, c.loop-at-test.true, planes.ensures.lows, c.args.table.now.is_table.sized.few, (room_entries c.args.table.now.t).1),
      passed_on es c.args.count c.args.i c.loop-at.at c.loop-at.free _ c.loop-at.invariant.1 (omega arith) (word_free es c.loop-at.at low.result high.result (omega arith) (omega arith) here)
          (c.may_start.ensures c.if-may_start.false),
    )

pub returns : goal.returns
returns c =
    let r = c.word_before-2 in
    (omega arith, (omega (arith, c.loop-at.invariant.0, c.requires.0), passed_to _ _ c.args.i c.loop-at.at c.loop-at.free r.result c.loop-at.invariant.1 (omega arith)))
