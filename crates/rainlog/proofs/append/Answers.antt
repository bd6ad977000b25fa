-- `rainlog::append` meets its contract. Assumes nothing.
use borrow.Author.Rules.{rules}
use mathlib.Core.Path.{◌≡◌, refl, sym, ap, ◌∙◌}
use mathlib.Core.Bool.{Bool, true, false}
use mathlib.Core.List.{List}
use Prim.Native.Nat.{ℕ, ◌/◌, ◌<◌}
use native.Mathlib.Omega.{arith}
use lib.Dec.{leb}
use lib.ListN.{length}
use borrow.Author.Tests.{leb-false}
use Rattle.std.proofs.lemmas.Result.{err_from_is_err_and}
use Rattle.rules.specs.Forms.{Form}
use Rattle.rules.specs.Planes.{planes}
use Rattle.rules.specs.Memory.{Memory, memory}
use Rattle.programs.specs.Programs.{Ran, run}
use Rattle.logs.specs.Log.{Reply, decline}
use Rattle.logs.specs.Heads.{heads_from}
use Rattle.chain.specs.Walks.{loads_in, Walked}
use Rattle.rainlog.specs.Answers.{tested, Tests}
use Rattle.rainlog.proofs.Replies.{append_refused, append_no_log, append_word, append_done}
use Rattle.rainlog.proofs.append.Goals as goal
use Rattle.rainlog.proofs.append.Goals.{In_ok-heap, After-follow}

-- an append that has passed has few roots: with more, what is behind the tests would not matter
few_roots : (f : Form) (base : ℕ) (roots stack : List ℕ) (m : Memory) → Tests f base roots stack m 0 → length roots / 4 < 4096
unfolding run
few_roots f base roots stack m tests = go (leb 4096 (length roots / 4)) refl
  where
    go : (many : Bool) → leb 4096 (length roots / 4) ≡ many → length roots / 4 < 4096
    go false e = leb-false 4096 (length roots / 4) e
    go true e =
        let same : run f (tested base roots stack (decline 0)) stack m ≡ run f (tested base roots stack (decline 1)) stack m = rw e refl in
        absurd (omega (arith, ap (λ (x : Ran Reply). x.reply.refusal) (tests.passes refl (decline 0) ∙ same ∙ sym (tests.passes refl (decline 1)))))

-- the checked heap is the one that was lent: so are the tests of it
tests : (c : In_ok-heap) → Tests (planes c.args.t) c.args.base.0 c.args.roots.now c.args.stack.now (memory c.args.pool.now c.args.table.now) 0
tests c = let v = c.view.ensures in rw (v.base, v.t, v.pool, v.table) at c.in_ok-heap.ensures.tests

-- and the walk
walked : (c : After-follow) → let a = c.args in Walked 0 c.follow.result (heads_from (loads_in a.base.0 a.t a.pool.now a.table.now) a.base.0 4096 a.first.0)
walked c = let v = c.view.ensures in rw (c.in_ok-heap.ensures.heap, v.base, v.t, v.pool, v.table) at c.follow.ensures

pub returns-in_err-heap : goal.returns-in_err-heap
returns-in_err-heap c =
    let v = c.view.ensures in
    let p = err_from_is_err_and c.from_residual.result c.from_residual.ensures.1 in
    rw (p.1, p.2) (append_refused _ _ _ _ (search rules) _ _ _ _ _ _ (rw (v.base, v.t, v.pool, v.table) at c.in_err-heap.ensures.tests))

pub returns-in_err-w : goal.returns-in_err-w
returns-in_err-w c =
    let at = goal.at.returns-in_err-w c in
    let p = err_from_is_err_and c.from_residual-in_err-w.result c.from_residual-in_err-w.ensures.1 in
    rw (p.1, p.2) (append_no_log _ _ _ _ (search rules) _ _ _ _ _ (tests at.In_ok-heap) (walked at.After-follow) _ c.in_err-w.ensures.ok_part c.in_err-w.ensures.value)

pub to_word-requires : goal.to_word-requires
to_word-requires c =
    let at = goal.at.to_word-requires c in
    append_word _ _ _ _ (search rules) _ _ _ 0 0 (tests at.In_ok-heap) (walked at.After-follow) c.in_ok-w.ensures.ok_part

pub add-requires : goal.add-requires
add-requires c = let passed = tests (goal.at.add-requires c).In_ok-heap in (few_roots _ _ _ _ _ passed, passed.accepts refl)

pub returns : goal.returns
returns c =
    let at = goal.at.returns c in
    append_done _ _ _ _ (search rules) _ _ _ _ _ (tests at.In_ok-heap) (walked at.After-follow) c.in_ok-w.ensures.ok_part c.to_word.ensures c.add.ensures
