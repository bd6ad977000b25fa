-- A block of the scan that is remembered has the same start.
-- Assumes nothing.
use mathlib.Core.Path.{sym, ◌∙◌}
use Rattle.std.proofs.lemmas.Map.Keys.{le_from_is_le}
use Rattle.entries.specs.Lent.{entries_of}
use Rattle.laws.proofs.Tables.{start_between}
use Rattle.visitor.proofs.start_of.Goals as goal

pub returns-then-le-2 : goal.returns-then-le-2
returns-then-le-2 c =
    let a = c.args in
    sym (start_between (entries_of a.table.now) a.k.0 a.m.last.0 a.m.first.0 c.requires.1
    (le_from_is_le _ _ (sym c.le.ensures ∙ c.if-le.true)) (le_from_is_le _ _ (sym c.le-then-le.ensures ∙ c.if-le-2.true)))
