-- A refused call returns before anything is written; an accepted one has a heap of good shape, and acts.
-- Assumes nothing.
use mathlib.Core.Path.{◌≡◌, refl}
use borrow.Author.Rules.{rules}
use Rattle.collector.proofs.Collecting.{root_nowhere, collect_refused, collect_accepted, collect_shape, collect_few, base_above}
use Rattle.rules.specs.Outcomes.{Heap}
use Rattle.rules.specs.Refusals.{collection_tests}
use Rattle.checks.specs.Refusal.{refusal_by}
use Rattle.collector.proofs.collect.Goals as goal
use Rattle.collector.proofs.collect.Goals.{In_ok-collection}

-- none of the tests of the heap that is lent holds
tested : (c : In_ok-collection) → 0 ≡ refusal_by c.args.t c.args.pool.now c.args.table.now (λ (h : Heap). collection_tests c.args.base.0 h c.args.roots.now c.args.stack.now)
tested c = let e = c.new.ensures in rw (e.base, e.t, e.pool, e.table) at (c.in_ok-collection.ensures _ refl)

pub returns-in_err-collection : goal.returns-in_err-collection
returns-in_err-collection c = collect_refused _ _ _ _ _ _ _ (let e = c.new.ensures in rw (e.base, e.t, e.pool, e.table) at (c.in_err-collection.ensures _ refl)) _ _ c.from_residual.ensures.1 refl

pub run-requires : goal.run-requires
run-requires c =
    let first = tested (goal.at.run-requires c).In_ok-collection in
    record { shape = collect_shape _ _ _ _ _ _ _ first refl; roots_len_bound = collect_few _ _ _ _ _ _ _ first refl }

pub returns : goal.returns
returns c =
    let first = tested (goal.at.returns c).In_ok-collection in
    let zero_first = root_nowhere _ _ _ (base_above _ _ _ _ _ _ _ first refl) in
    collect_accepted _ _ _ _ _ _ _ first refl _ _ _ _ zero_first (search rules) c.run.ensures
