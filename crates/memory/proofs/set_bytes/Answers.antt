-- `set_bytes`: the part that was lent comes back as these bytes.
-- Assumes nothing.
use mathlib.Core.Path.{◌≡◌}
use Prim.Native.Nat.{ℕ, ◌+◌, ◌-◌, ◌≤◌}
use native.Mathlib.Omega.{arith}
use lib.ListN.{length}
use lib.Seq.{sets}
use borrow.Rule.Slice.PartMut.{mid_of}
use Rattle.std.proofs.lemmas.List.{drop_all}
use borrow.Author.Rules.{rules}
use Rattle.laws.proofs.Widths.{in_slice}
use Rattle.memory.proofs.Parts.{part_filled}
use Rattle.memory.proofs.set_bytes.Goals as goal

pub overflow_add-part : goal.overflow_add-part
overflow_add-part g c = in_slice c.args.bytes.now (search rules) (search rules)

pub returns : goal.returns
returns g c =
    let a = c.args in
    let n : ℕ = a.at + g.row.N - a.at in
    let room : a.at + n ≤ length a.bytes.now = omega arith in
    let long : length a.these ≡ g.row.N = omega arith in
    let stored : c.loop-i.part ≡ sets (mid_of a.at n a.bytes.now) 0 a.these = rw (drop_all c.loop-i.i a.these (omega (arith, long, c.loop-i-test.false))) at c.loop-i.invariant in
    rw stored (part_filled a.bytes.now a.at n room a.these (omega (arith, long)))
