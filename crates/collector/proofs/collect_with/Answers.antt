-- As `collect`, of a list that begins with the bytes of the first root: its words are that root and the others.
-- Assumes nothing.
use mathlib.Core.Path.{◌≡◌, refl, ap, sym}
use mathlib.Core.List.{List, ◌++◌}
use Prim.Native.Nat.{ℕ}
use borrow.Author.Rules.{rules}
use Rattle.rules.specs.Words.{bytes_of}
use Rattle.rules.specs.Planes.{entries_in}
use Rattle.rules.specs.Marking.{mark_all}
use Rattle.visitor.specs.Variables.{context_of}
use Rattle.laws.proofs.Words.{words_first}
use Rattle.laws.proofs.Widths.{in_32_bits}
use Rattle.collector.proofs.Collecting.{bytes_first, collect_refused, collect_accepted, collect_shape}
use Rattle.rules.specs.Outcomes.{Heap}
use Rattle.rules.specs.Refusals.{collection_tests}
use Rattle.checks.specs.Refusal.{refusal_by}
use Rattle.collector.proofs.collect_with.Goals as goal
use Rattle.collector.proofs.collect_with.Goals.{In_ok-collection}

-- none of the tests of the heap that is lent holds
tested : (c : In_ok-collection) → 0 ≡ refusal_by c.args.t c.args.pool.now c.args.table.now (λ (h : Heap). collection_tests c.args.base.0 h (bytes_of c.args.first ++ c.args.roots.now) c.args.stack.now)
tested c = let e = c.new.ensures in rw (e.base, e.t, e.pool, e.table) at (c.in_ok-collection.ensures _ (bytes_first c.args.first c.args.roots.now))

pub overflow_add-roots : goal.overflow_add-roots
overflow_add-roots c = in_32_bits (search rules)

pub returns-in_err-collection : goal.returns-in_err-collection
returns-in_err-collection c = collect_refused _ _ _ _ _ _ _ (let e = c.new.ensures in rw (e.base, e.t, e.pool, e.table) at (c.in_err-collection.ensures _ (bytes_first c.args.first c.args.roots.now))) _ _ c.from_residual.ensures.1 refl

pub run-requires-clause-shape : goal.run-requires-clause-shape
run-requires-clause-shape c = collect_shape _ _ _ _ _ _ _ (tested (goal.at.run-requires-clause-shape c).In_ok-collection) refl

pub returns : goal.returns
returns c =
    let a = c.args in
    collect_accepted _ _ _ _ (bytes_of a.first ++ a.roots.now) _ _ (tested (goal.at.returns c).In_ok-collection) refl _ _ _ _
    (ap (λ (ws : List ℕ). mark_all (context_of a.base.0 a.pool.now a.stack.now) ws (entries_in a.t a.table.now)) (sym (words_first a.first c.ranges.first.fits a.roots.now)))
    (search rules) c.run.ensures
