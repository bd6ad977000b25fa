-- `free_from`: as far as the row of bits of FREE blocks goes, from the block's bit on.
-- Assumes nothing.
use mathlib.Core.Path.{subst}
use Prim.Native.Nat.{ℕ, ◌+◌, ◌%◌}
use native.Mathlib.Omega.{arith}
use lib.Dec.{ltb}
use Rattle.entries.specs.Lent.{entries_of}
use Rattle.laws.proofs.Planes.{few_entries}
use Rattle.laws.proofs.Widths.{in_32_bits}
use Rattle.freeruns.proofs.Rows.{row_inside}
use Rattle.search.specs.Starts.{FreeFor}
use Rattle.search.proofs.Searches.{free_ahead}
use Rattle.search.proofs.free_from.Goals as goal

pub free_or_end-requires : goal.free_or_end-requires
free_or_end-requires c =
    omega (arith, c.index-at.ensures, c.requires, few_entries _ _ c.args.table.now.is_table)

pub overflow_add-result : goal.overflow_add-result
overflow_add-result c =
    let inside = row_inside c.free_or_end.result _ _ (omega arith) (omega arith) c.row_from-free.ensures in
    in_32_bits (record { fits = omega (arith, inside) })

pub returns : goal.returns
returns c =
    let es = entries_of c.args.table.now in
    let k = c.index-at in
    let bits = c.free_or_end in
    let n = c.row_from-free in
    subst (λ (x : ℕ). FreeFor es x n.result (ltb (k.result % 32 + n.result) 32)) k.ensures
    (free_ahead es k.result bits.result n.result (omega arith) bits.ensures (omega (arith, k.ensures, c.requires)) n.ensures)
