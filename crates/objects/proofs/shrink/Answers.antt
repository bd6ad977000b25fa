-- `objects::shrink` meets its contract: the released blocks are the object's last, and the change is the difference of the counts.
-- Assumes nothing.
use mathlib.Core.Path.{◌≡◌, sym}
use mathlib.Core.List.{List}
use Prim.Native.Nat.{ℕ, ◌+◌, ◌-◌, ◌≤◌, ◌<◌}
use native.Mathlib.Omega.{arith}
use lib.IntN.{ℤ, sub_ℕ}
use mir.Syntax.{w32}
use mir.Val.{to_z, of_z}
use Rattle.rules.specs.Tables.{released}
use Rattle.rules.specs.Outcomes.{placed_at, leaves}
use Rattle.rules.specs.Planes.{entries_in, IsTable, Holds, heap_at}
use Rattle.rules.specs.Calls.{placing, shrunk}
use Rattle.laws.proofs.Calls.{shrink_change}
use Rattle.objects.specs.Held.{Held}
use Rattle.objects.proofs.Held.{held_few, held_room, change_is}
use Rattle.objects.proofs.shrink.Goals as goal

shrinks : (t : ℕ) (pool table after : List ℕ) (k old new end : ℕ) (d : ℤ) → Held t pool table k old → (0 < new) × (new ≤ old) → end ≡ k + new
    → Holds t (released (entries_in t table) end (old - new)) after → d ≡ sub_ℕ new old
    → IsTable t after × (leaves (placed_at k (to_z w32 (of_z w32 d))) (heap_at t pool after) ≡ placing (heap_at t pool table) k (shrunk (heap_at t pool table) k old new))
unfolding placing shrunk
shrinks t pool table after k old new end d held (some, fewer) e q p =
    let room = held_room held in
    let few = held_few held in
    let change = shrink_change (entries_in t table) k new held.head some (rw held.count at fewer) in
    (q.is_table, rw (change_is new old d (omega arith) (omega arith) p, q.entries, e, rw (sym held.count) at change))

pub plus-requires : goal.plus-requires
plus-requires c =
    let held = c.requires.held in
    omega (arith, held_room held, held_few held)

pub release-requires : goal.release-requires
release-requires c = let held = c.requires.held in (held.is_table, omega (arith, held_room held))

pub difference-requires : goal.difference-requires
difference-requires c =
    let held = c.requires.held in
    let room = held_room held in
    let few = held_few held in
    (omega arith, omega arith)

pub returns : goal.returns
returns c =
    shrinks _ _ _ _ _ _ _ _ _ c.requires.held c.requires.nonzero c.plus.ensures c.release.ensures c.difference.ensures
