-- `objects::clear_blocks` meets its contract: the part from the first block's offset to the end's is 16 bytes for each block. Assumes nothing.
use mathlib.Core.Path.{◌≡◌}
use Prim.Native.Nat.{◌-◌, ◌*◌}
use native.Mathlib.Omega.{arith}
use Rattle.rules.specs.Outcomes.{cleared_blocks}
use Rattle.objects.proofs.clear_blocks.Goals as goal

pub returns : goal.returns
unfolding cleared_blocks
returns c =
    let start = c.offset.ensures in
    let args = c.args in
    let count : c.offset-2.result.0 - c.offset.result.0 ≡ 16 * args.count = omega arith in
    rw (count, start) at c.clear_part.ensures
