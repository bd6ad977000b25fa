-- What is not MARK is passed over, what is MARK is traced.
-- Assumes nothing.
use mathlib.Core.Path.{◌≡◌, refl, sym, ◌∙◌}
use native.Mathlib.Omega.{arith}
use Rattle.rules.specs.Entries.{MARK}
use Rattle.entries.specs.declared.Entry.{Entry}
use Rattle.entries.specs.declared.Entry.TheVariants.{Free, Head, Tail, Mark}
use Rattle.entries.specs.Numbers.{number_of}
use Rattle.laws.proofs.Marking.{pass_skips}
use Rattle.visitor.specs.Variables.{context_of, idle}
use Rattle.marker.proofs.Turning.{block_end}
use Rattle.marker.proofs.rescan_block.Goals as goal

-- no other entry has the number of MARK
mark_only : (e : Entry) → number_of e ≡ MARK → e ≡ Mark
mark_only Free q = absurd (omega arith)
mark_only Head q = absurd (omega arith)
mark_only Tail q = absurd (omega arith)
mark_only Mark q = refl

pub returns-in_default : goal.returns-in_default
returns-in_default c =
    let a = c.args in (
      c.requires.shape.is_table,
      sym (pass_skips (context_of a.base.0 a.pool.now a.stack.now) a.k.0 (idle a.t a.table.now a.overflow)
          (λ q. c.in_default.not-Mark (mark_only c.entry_at.result ((rw c.new.ensures at c.entry_at.ensures) ∙ q)))),
    )

pub returns-in-Mark : goal.returns-in-Mark
returns-in-Mark c =
    let a = c.args in (
      c.trace.ensures.0,
      block_end (context_of a.base.0 a.pool.now a.stack.now) a.k.0 (idle a.t a.table.now a.overflow) (sym (rw c.new.ensures at c.in-Mark.ensures)) c.trace.ensures.1,
    )
