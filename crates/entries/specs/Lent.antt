-- The entries of a table that is lent to be read.
-- Assumes nothing.
use Rattle.std.specs.Prelude.{List, ℕ}
use Rattle.rules.specs.Planes.{entries_in}
use Rattle.entries.specs.declared.Table.{Table}

abbrev pub entries_of : Table → List ℕ
entries_of s = entries_in s.t s.bytes.now
