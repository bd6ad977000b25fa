-- `checks::heap` meets its contract. Assumes nothing.
use Rattle.rules.specs.Planes.{heap_at}
use Rattle.rules.specs.Refusals.{good_shape}
use Rattle.checks.proofs.FirstTests.{ill_shaped, ill_formed, neither, sized_by}
use Rattle.checks.proofs.heap.Goals as goal

pub good_shape-requires : goal.good_shape-requires
good_shape-requires c = tt

pub returns-then-not-good_shape : goal.returns-then-not-good_shape
returns-then-not-good_shape c =
    let a = c.args.heap.now in
    ill_shaped a.t a.table.now (good_shape a.base.0 (heap_at a.t a.pool.now a.table.now)) c.good_shape.ensures c.if-not-good_shape.true

pub is_sound-requires : goal.is_sound-requires
is_sound-requires c = sized_by _ _ _ _ c.good_shape.ensures (c.if-not-good_shape.false)

pub returns-then-not-is_sound : goal.returns-then-not-is_sound
returns-then-not-is_sound c =
    let a = c.args.heap.now in
    ill_formed a.t a.table.now (good_shape a.base.0 (heap_at a.t a.pool.now a.table.now)) c.good_shape.ensures c.if-not-good_shape.false c.is_sound.ensures c.if-not-is_sound.true

pub returns : goal.returns
returns c =
    let a = c.args.heap.now in
    neither a.t a.table.now (good_shape a.base.0 (heap_at a.t a.pool.now a.table.now)) c.good_shape.ensures c.if-not-good_shape.false c.is_sound.ensures c.if-not-is_sound.false
