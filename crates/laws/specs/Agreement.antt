-- Two forms of the table, side by side: what is held in one is held in the other, entry by entry, and every call on the one is that on the other.
-- Assumes nothing.
use Rattle.std.specs.Prelude.{◌≡◌, List, ℕ, ◌<◌, length, set}
use Rattle.rules.specs.Tables.{entry_at}
use Rattle.rules.specs.Entries.{entries_of}
use Rattle.rules.specs.Forms.{Form}
use Rattle.rules.specs.Planes.{planes_of}
use Rattle.rules.specs.Runs.{Call}
use Rattle.rules.specs.Memory.{Memory, memory, Sound, Result, perform}

-- the memory with e written as the entry of block k
abbrev pub with_entry : Form → Memory → ℕ → ℕ → Memory
with_entry f m k e = memory m.pool (f.write (set (f.read m.table) k e))

-- two memories, the table of each in its own form, hold the same
pub record HoldSame (f g : Form) (m m' : Memory) : Type 0 where
  -- both are as their form asks
  pub sound : Sound f m
  pub sound' : Sound g m'
  pub pool : m.pool ≡ m'.pool
  -- as many blocks, and the same entry for each
  pub blocks : length (f.read m.table) ≡ length (g.read m'.table)
  pub reading : (k : ℕ) → entry_at (f.read m.table) k ≡ entry_at (g.read m'.table) k

-- what is read after an entry is written: that entry, and the others as before
abbrev pub ReadsBack : Form → Memory → ℕ → ℕ → Type 0
ReadsBack f m k e = f.read (with_entry f m k e).table ≡ set (f.read m.table) k e

-- an entry that is written in both is read from both, and nothing else is changed: they hold the same again
abbrev pub WritingAgrees : Form → Form → Type 0
WritingAgrees f g =
    (m m' : Memory) (k e : ℕ) → HoldSame f g m m' → k < length (f.read m.table) → e < 4
    → ReadsBack f m k e × ReadsBack g m' k e × HoldSame f g (with_entry f m k e) (with_entry g m' k e)

-- two results are alike: the same answer, mark stack and filled bytes, and memories that hold the same
pub record Alike (f g : Form) (r r' : Result) : Type 0 where
  pub answer : r.answer ≡ r'.answer
  pub stack : r.stack ≡ r'.stack
  pub filled : r.filled ≡ r'.filled
  pub memory : HoldSame f g r.memory r'.memory

-- every call, refused or not, on memories that hold the same
abbrev pub CallsAlike : Form → Form → Type 0
CallsAlike f g = (c : Call) (stack : List ℕ) (m m' : Memory) → HoldSame f g m m' → Alike f g (perform f c stack m) (perform g c stack m')

-- Reading and writing an entry agree in the two forms, and so does every call.
pub record FormsAgree (f g : Form) : Type 0 where
  pub writing : WritingAgrees f g
  pub calls : CallsAlike f g

-- ---- a packed table of t bytes, in planes

-- the memory with the same entries in planes
abbrev pub in_planes : ℕ → Memory → Memory
in_planes t m = memory m.pool (planes_of t (entries_of m.table))
