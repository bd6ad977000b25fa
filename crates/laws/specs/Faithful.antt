-- What a form of the table has to satisfy, so that the calls on bytes are those on entries.
-- Assumes nothing.
use Rattle.std.specs.Prelude.{◌≡◌, true, List, ℕ, ◌<◌, length}
use Rattle.rules.specs.Tables.{entry_at}
use Rattle.rules.specs.Forms.{Form}
use Rattle.laws.specs.Meaning.{AllBytes}

-- the entries are numbers that two bits hold
abbrev pub Small : List ℕ → Type 0
Small es = (k : ℕ) → entry_at es k < 4

-- what a form has to satisfy: bytes and entries say the same
pub record Faithful (f : Form) : Type 0 where
  -- entries have two bits
  pub small : (table : List ℕ) → Small (f.read table)
  -- bytes that are as the form asks are those that their entries are written as
  pub write_read : (table : List ℕ) → AllBytes table → f.fits table ≡ true → f.clean table ≡ true → f.write (f.read table) ≡ table
  -- as many entries as a table has that fits are written as bytes that fit and are clean, and are read from them again
  pub read_write : (table es : List ℕ) → f.fits table ≡ true → length es ≡ length (f.read table) → Small es → f.read (f.write es) ≡ es
  pub write_fits : (table es : List ℕ) → f.fits table ≡ true → length es ≡ length (f.read table) → f.fits (f.write es) ≡ true
  pub write_long : (table es : List ℕ) → f.fits table ≡ true → length es ≡ length (f.read table) → length (f.write es) ≡ length table
  pub write_clean : (table es : List ℕ) → f.fits table ≡ true → length es ≡ length (f.read table) → f.clean (f.write es) ≡ true
