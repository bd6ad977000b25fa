-- `objects::grow` meets its contract: the blocks after the object are a run, which is extended and cleared.
-- Assumes nothing.
use mathlib.Core.Path.{◌≡◌}
use mathlib.Core.List.{List}
use Prim.Native.Nat.{ℕ, ◌+◌, ◌-◌, ◌<◌}
use native.Mathlib.Omega.{arith}
use lib.IntN.{ℤ, sub_ℕ}
use mir.Syntax.{w32}
use mir.Val.{to_z, of_z}
use Rattle.rules.specs.Tables.{extended}
use Rattle.laws.specs.Meaning.{GrowsInPlace}
use Rattle.rules.specs.Outcomes.{placed_at, leaves, cleared_blocks}
use Rattle.rules.specs.Planes.{entries_in, IsTable, Holds, heap_at}
use Rattle.rules.specs.Calls.{placing, grown}
use Rattle.laws.proofs.Calls.{grow_change}
use Rattle.objects.specs.Held.{Held}
use Rattle.objects.proofs.Held.{held_few, held_room, change_is}
use Rattle.objects.proofs.grow.Goals as goal

grows : (t : ℕ) (pool table pool' table' : List ℕ) (k old new end : ℕ) (d : ℤ) → Held t pool table k old → (old < new) × GrowsInPlace (entries_in t table) k old new
    → end ≡ k + old → pool' ≡ cleared_blocks pool end (new - old) → Holds t (extended (entries_in t table) end (new - old)) table' → d ≡ sub_ℕ new old
    → IsTable t table' × (leaves (placed_at k (to_z w32 (of_z w32 d))) (heap_at t pool' table') ≡ placing (heap_at t pool table) k (grown (heap_at t pool table) k old new))
unfolding placing grown
grows t pool table pool' table' k old new end d held (more, g) e p q r =
    let few = held_few held in
    let run = g.run in
    let room = run.room in
    (q.is_table, rw (change_is new old d (omega arith) (omega arith) r, p, q.entries, e, grow_change (entries_in t table) k old new (omega arith) run))

pub plus-end-requires : goal.plus-end-requires
plus-end-requires c =
    let held = c.requires.held in
    omega (arith, held_room held, held_few held)

pub clear_blocks-requires : goal.clear_blocks-requires
clear_blocks-requires c =
    let room = c.requires.lt.1.run.room in
    let few = held_few c.requires.held in
    (omega arith, omega arith)

pub difference-requires : goal.difference-requires
difference-requires c =
    let room = c.requires.lt.1.run.room in
    let few = held_few c.requires.held in
    (omega arith, omega arith)

pub returns : goal.returns
returns c =
    grows _ _ _ _ _ _ _ _ _ _ c.requires.held c.requires.lt c.plus-end.ensures c.clear_blocks.ensures c.extend.ensures c.difference.ensures
