-- `objects::free_object` meets its contract: the released blocks are all of the object's. Assumes nothing.
use native.Mathlib.Omega.{arith}
use Rattle.laws.proofs.Planes.{few_entries}
use Rattle.objects.proofs.free_object.Goals as goal

pub negated-requires : goal.negated-requires
negated-requires c =
    let end = (rw c.new.ensures at c.block_count-count.ensures).1 in
    omega (arith, few_entries c.args.t c.args.table.now c.requires.0)
