-- `objects::take` meets its contract. Assumes nothing.
use mathlib.Core.Path.{◌≡◌}
use mathlib.Core.List.{List}
use Prim.Native.Nat.{ℕ}
use native.Mathlib.Omega.{arith}
use Rattle.rules.specs.Tables.{placed}
use Rattle.rules.specs.Outcomes.{cleared_blocks}
use Rattle.rules.specs.Planes.{entries_in, IsTable, Holds, heap_at}
use Rattle.rules.specs.Calls.{taken}
use Rattle.laws.proofs.Planes.{few_entries}
use Rattle.objects.proofs.take.Goals as goal

both : (t : ℕ) (pool table pool' table' : List ℕ) (k b : ℕ) → pool' ≡ cleared_blocks pool k b → Holds t (placed (entries_in t table) k b) table'
    → IsTable t table' × (heap_at t pool' table' ≡ taken (heap_at t pool table) k b)
unfolding taken
both t pool table pool' table' k b p q = (q.is_table, rw (p, q.entries))

pub clear_blocks-requires : goal.clear_blocks-requires
clear_blocks-requires c =
    let few = few_entries c.args.t c.args.table.now c.requires.table.0 in
    (omega arith, omega arith)

pub returns : goal.returns
returns c = both _ _ _ _ _ _ _ c.clear_blocks.ensures c.place.ensures
