-- `read_on`: the two cases of the law, blocks that are all FREE and blocks that are not.
-- Assumes nothing.
use native.Mathlib.Omega.{arith}
use borrow.Author.Rules.{rules}
use Rattle.laws.proofs.Widths.{in_32_bits}
use Rattle.freeruns.proofs.Rows.{zeros_at, above_at}
use Rattle.freeruns.proofs.Scans.{all_free, some_used}
use Rattle.freeruns.proofs.read_on.Goals as goal

pub overflow_add-result : goal.overflow_add-result
overflow_add-result c = in_32_bits (search rules)

pub returns-then-free-eq4294967295 : goal.returns-then-free-eq4294967295
returns-then-free-eq4294967295 c =
    let a = c.args in
    λ es i holds known. all_free es i a.free (omega arith) holds a.before.longest a.before.ending known (omega arith)

pub overflow_add-closed : goal.overflow_add-closed
overflow_add-closed c =
    let front = zeros_at c.trailing_ones.ensures in
    in_32_bits (record { fits = omega (arith, front.few) })

pub returns : goal.returns
returns c =
    let a = c.args in
    let best = c.max in
    λ es i holds known. some_used es i a.free (omega arith) holds a.before.longest a.before.ending known (λ z. omega arith)
    c.trailing_ones.result c.leading_ones.result best.result (zeros_at c.trailing_ones.ensures) (above_at (omega arith) c.leading_ones.ensures)
    c.longest_row.result c.longest_row.ensures best.ensures
