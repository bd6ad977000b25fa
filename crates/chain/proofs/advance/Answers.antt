-- The three ends: an address of no block, an object that has not two blocks, and an entry that is passed.
-- Assumes nothing.
use mathlib.Core.Path.{◌≡◌, refl}
use mathlib.Core.Option.{some}
use Prim.Native.Nat.{suc, ◌+◌}
use native.Mathlib.Omega.{arith}
use Rattle.laws.proofs.Widths.{in_32_bits}
use Rattle.numbers.specs.Places.{found}
use Rattle.chain.specs.Walks.{passed_by, pass}
use Rattle.chain.proofs.Walking.{steps_nowhere, steps_other, steps_on}
use Rattle.chain.proofs.advance.Goals as goal

pub returns-in_err-k : goal.returns-in_err-k
returns-in_err-k c = rw c.from_residual.ensures (steps_nowhere _ _ _ c.args.w c.in_err-k.ensures)

pub returns-in_err-next : goal.returns-in_err-next
returns-in_err-next c = rw c.from_residual-in_err-next.ensures (steps_other _ _ _ c.args.w _ c.in_ok-k.ensures c.in_err-next.ensures)

pub overflow_add-result : goal.overflow_add-result
overflow_add-result c = in_32_bits (record { fits = omega (arith, c.requires) })

pub returns : goal.returns
returns c =
    let w = c.args.w in
    let k = c.in_ok-k.k.0 in
    let n : w.count + 1 ≡ suc w.count = omega arith in
    let by : record { count = w.count + 1; last = some k; wanted = found c.wanted.result } ≡ pass c.args.index (passed_by w) k = rw (n, c.wanted.ensures) refl in
    steps_on _ _ _ w k c.in_ok-k.ensures _ c.in_ok-next.ensures c.from.ensures by
