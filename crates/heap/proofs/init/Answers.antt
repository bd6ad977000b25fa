-- `heap::init` meets its contract. Assumes nothing.
use Rattle.heap.proofs.Ends.{init_refused, init_done}
use Rattle.heap.proofs.init.Goals as goal

pub returns-then-not-good_shape : goal.returns-then-not-good_shape
returns-then-not-good_shape c =
    let v = c.new.ensures in
    init_refused _ _ _ _ (rw (v.base, v.t, v.pool, v.table) at c.good_shape.ensures) c.if-not-good_shape.true

pub returns : goal.returns
returns c =
    let v = c.new.ensures in
    init_done _ _ _ _ (rw (v.base, v.t, v.pool, v.table) at c.good_shape.ensures) _ c.if-not-good_shape.false
    (λ i. (c.type_inv.table i).fits) c.clear.ensures
