-- What is left of the heads leads to what all of them come to. The measure is how many entries may still be passed.
-- Assumes nothing.
use Prim.Native.Nat.{◌-◌}
use Rattle.logs.specs.Heads.{heads_from}
use Rattle.chain.specs.Walks.{loads_in}
use Rattle.chain.proofs.Walking.{Walks}
use Rattle.chain.proofs.follow.Given as goal

abbrev pub invariant-loop-w : goal.invariant-loop-w
invariant-loop-w l = let heap = l.fn.heap.view in let loads = loads_in heap.base.0 heap.t heap.pool.now heap.table.now in Walks loads heap.base.0 l.index (heads_from loads heap.base.0 4096 l.fn.first.0) l.w

abbrev pub decreases-loop-w : goal.decreases-loop-w
decreases-loop-w l = 4096 - l.w.count
