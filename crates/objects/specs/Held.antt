-- What the acts behind a check rely on.
-- Assumes nothing.
use Rattle.std.specs.Prelude.{◌≡◌, List, ℕ, ◌*◌, ◌<◌, length}
use Rattle.rules.specs.Entries.{HEAD}
use Rattle.rules.specs.Tables.{entry_at, block_count}
use Rattle.rules.specs.Planes.{entries_in, IsTable}

-- the object at k of b blocks is held in a table over a pool of the right length
pub record Held (t : ℕ) (pool table : List ℕ) (k b : ℕ) : Type 0 where
  pub is_table : IsTable t table
  pub long : length pool ≡ 16 * length (entries_in t table)
  pub inside : k < length (entries_in t table)
  pub head : entry_at (entries_in t table) k ≡ HEAD
  pub count : b ≡ block_count (entries_in t table) k
