-- The form of a table: how its bytes hold entries. The calls are stated over any form, so that another way to lay entries in bytes changes no rule.
-- Assumes nothing.
use Rattle.std.specs.Prelude.{Bool, true, List, ℕ}
use Rattle.rules.specs.Entries.{entries_of, table_of}

pub record Form : Type 0 where
  -- whether the table's length is one that the form has; another is refusal 1
  pub fits : List ℕ → Bool
  -- whether its bytes are as the form asks beside its entries: a form may have bits of no entry. Else it is refusal 2
  pub clean : List ℕ → Bool
  -- the entries in the bytes, and the bytes that entries are written as
  pub read : List ℕ → List ℕ
  pub write : List ℕ → List ℕ

-- The packed form: two bits for each block, four blocks to a byte. It is that of heap images, and of no lent table (Planes). Every length is one of it, and every bit is one
-- of an entry
abbrev pub packed : Form
packed = record { fits = λ table. true; clean = λ table. true; read = entries_of; write = table_of }
