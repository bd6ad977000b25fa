-- What follows of an object that is held: its blocks lie in a table of at most 4,096. And the change in used blocks as the answer holds it.
-- Assumes nothing.
use mathlib.Core.Path.{◌≡◌, ap, ◌∙◌}
use mathlib.Core.List.{List}
use Prim.Native.Nat.{ℕ, ◌+◌, ◌^◌, ◌≤◌, ◌<◌}
use lib.IntN.{ℤ, sub_ℕ}
use lib.ListN.{length}
use lib.Signed.{mag}
use mir.Syntax.{w32}
use mir.Val.{to_z, of_z}
use mir.ValLaws.{to_z-of_z}
use Rattle.rules.specs.Planes.{entries_in}
use Rattle.laws.specs.Meaning.{Extent}
use Rattle.laws.proofs.Planes.{few_entries}
use Rattle.laws.proofs.Tables.{extent_of}
use Rattle.numbers.proofs.Signed.{sub_fits}
use Rattle.objects.specs.Held.{Held}

module _ {t : ℕ} {pool table : List ℕ} {k b : ℕ} (held : Held t pool table k b) where
  extent : Extent (entries_in t table) k b
  extent = rw held.count (extent_of (entries_in t table) k held.inside)

  pub held_few : length (entries_in t table) ≤ 4096
  held_few = few_entries t table held.is_table

  pub held_room : k + b ≤ length (entries_in t table)
  held_room = extent.room

-- a signed number is what its 32 bits say
pub signed : (z : ℤ) → mag z < 2 ^ 31 → to_z w32 (of_z w32 z) ≡ z
signed z h = to_z-of_z w32 z (record { sfits = h })

-- a difference of small numbers, as the answer holds it in 32 bits
pub change_is : (after before : ℕ) (d : ℤ) → after ≤ 4096 → before ≤ 4096 → d ≡ sub_ℕ after before → to_z w32 (of_z w32 d) ≡ sub_ℕ after before
change_is after before d ha hb e = ap (λ (z : ℤ). to_z w32 (of_z w32 z)) e ∙ to_z-of_z w32 (sub_ℕ after before) (sub_fits after before ha hb)
