-- The counts are at most the number of blocks; the outcome is put together from what the three steps ensure.
-- Assumes nothing.
use mathlib.Core.Path.{ap, ◌∙◌}
use native.Mathlib.Omega.{arith}
use mir.Syntax.{w32}
use mir.ValLaws.{to_z-of_z}
use lib.ListN.{replicate}
use mathlib.Core.List.{◌∷◌}
use Prim.Native.Nat.{ℕ}
use Rattle.rules.specs.Words.{words_of}
use Rattle.rules.specs.Planes.{entries_in}
use Rattle.laws.proofs.Planes.{few_entries}
use Rattle.laws.proofs.Tables.{used_le, objects_le}
use Rattle.visitor.specs.Variables.{context_of}
use Rattle.collector.proofs.Collecting.{ran}
use Rattle.collector.proofs.run.Goals as goal

pub overflow_cast-kept : goal.overflow_cast-kept
overflow_cast-kept c =
    let t = c.args.t in
    let s = c.sweep-swept in
    record { fits = omega (arith, few_entries t s.new.table s.ensures.0, s.ensures.1.kept, objects_le (entries_in t s.new.table)) }

pub negated-requires : goal.negated-requires
negated-requires c =
    let t = c.args.t in
    let s = c.sweep-swept in
    let m = c.mark-rescans in
    omega (arith, few_entries t m.new.table m.ensures.0, s.ensures.1.freed, used_le (entries_in t m.new.table))

pub returns : goal.returns
returns c =
    let a = c.args in
    let m = c.mark-rescans in
    let s = c.sweep-swept in
    let n = c.negated in (
      s.ensures.0,
      ran a.t (context_of a.base.0 a.pool.now a.stack.now) a.pool.now a.table.now m.new.table s.new.table a.stack.now c.clear.new.part
          (a.first ∷ words_of a.roots.now) m.result s.result _ m.ensures.1 s.ensures.1
          (c.clear.ensures ∙ ap (λ (k : ℕ). replicate k 0) m.auto.stack) (to_z-of_z w32 n.result (record { sfits = n.type_inv }) ∙ n.ensures),
    )
