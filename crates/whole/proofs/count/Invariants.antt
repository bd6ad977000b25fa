-- `count`: a word of both planes has a one for each used entry in its or, and for each HEAD in the low bits without the high ones.
-- Assumes nothing.
use Rattle.std.proofs.Common.{◌≡◌}
use Rattle.rules.specs.Tables.{is_used, is_head}
use Rattle.entries.specs.Lent.{entries_of}
use Rattle.whole.proofs.Ones.{up_to}
use Rattle.whole.proofs.count.Given as goal

abbrev pub invariant-loop-i : goal.invariant-loop-i
invariant-loop-i l =
    (l.used ≡ up_to is_used (entries_of l.table) l.i) × (l.heads ≡ up_to is_head (entries_of l.table) l.i)
