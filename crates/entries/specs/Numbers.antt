-- The entries of the code as numbers.
-- Assumes nothing.
use Rattle.std.specs.Prelude.{ℕ}
use Rattle.rules.specs.Entries.{FREE, HEAD, TAIL, MARK}
use Rattle.entries.specs.declared.Entry.{Entry}
use Rattle.entries.specs.declared.Entry.TheVariants.{Free, Head, Tail, Mark}

-- the number of an entry in the rules
abbrev pub number_of : Entry → ℕ
number_of Free = FREE
number_of Head = HEAD
number_of Tail = TAIL
number_of Mark = MARK
