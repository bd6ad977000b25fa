-- What the sweep leaves and counts.
-- Assumes nothing.
use Rattle.std.specs.Prelude.{◌≡◌, List, ℕ, ◌+◌}
use Rattle.rules.specs.Tables.{used, objects}
use Rattle.rules.specs.Marking.{sweep}
use Rattle.sweeper.specs.declared.Swept.{Swept}

-- the entries es become es': the kept objects are those that are left, and what is no longer used is freed
pub record TableSwept (es es' : List ℕ) (r : Swept) : Type 0 where
  pub entries : es' ≡ sweep es
  pub kept : r.kept ≡ objects es'
  pub freed : r.freed + used es' ≡ used es
