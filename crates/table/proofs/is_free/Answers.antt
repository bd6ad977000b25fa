-- `is_free`: every block passed is FREE, so a block that is not, or too few blocks, is no run, and the loop's end is one.
-- Assumes nothing.
use mathlib.Core.Path.{◌≡◌, sym, ◌∙◌}
use Prim.Native.Nat.{◌+◌}
use native.Mathlib.Omega.{arith}
use borrow.Author.Rules.{rules}
use borrow.Author.Count.{below_more}
use borrow.Author.Tests.{le-leb, lt-leb}
use Rattle.rules.specs.Tables.{entry_at, free_from}
use Rattle.entries.specs.Lent.{entries_of}
use Rattle.laws.proofs.Planes.{few_entries}
use Rattle.laws.proofs.Tables.{free_room, no_run_lt, run_le}
use Rattle.entries.specs.declared.Entry.TheVariants.{Free}
use Rattle.entries.specs.Numbers.{number_of}
use Rattle.entries.proofs.Numbers.{same, differ}
use Rattle.table.proofs.is_free.Goals as goal

pub returns-then-until-count : goal.returns-then-until-count
returns-then-until-count c =
    let a = c.args in
    let es = entries_of a.table.now in
    sym (lt-leb a.count (free_from es a.from.0) (omega (arith, free_room es a.from.0, c.blocks-2.ensures)))

pub plus-requires : goal.plus-requires
plus-requires c = omega (arith, few_entries _ _ c.args.table.now.is_table, c.blocks-2.ensures)

pub entry_at-requires : goal.entry_at-requires
entry_at-requires c = omega (arith, c.blocks-2.ensures)

pub returns-then-ne : goal.returns-then-ne
returns-then-ne c =
    let l = c.loop-i in
    let entry_is : let a = c.args in number_of c.entry_at.result ≡ entry_at (entries_of a.table.now) (a.from.0 + l.i) = rw (← c.plus.ensures) c.entry_at.ensures in
    sym (lt-leb _ _ (no_run_lt _ _ _ (search rules) (λ r. differ c.entry_at.result Free c.if-ne.ensures (entry_is ∙ r.free l.i (search rules)))))

pub loop-i-preserved : goal.loop-i-preserved
loop-i-preserved c =
    let l = c.loop-i in
    let entry_is : let a = c.args in number_of c.entry_at.result ≡ entry_at (entries_of a.table.now) (a.from.0 + l.i) = rw (← c.plus.ensures) c.entry_at.ensures in
    below_more _ _ l.invariant (sym entry_is ∙ same c.entry_at.result Free c.if-ne.ensures)

pub returns : goal.returns
returns c =
    let l = c.loop-i in
    sym (le-leb _ _ (run_le _ _ _ (record { room = omega (arith, c.blocks-2.ensures, c.requires); free = λ j h. l.invariant j (omega arith) })))
