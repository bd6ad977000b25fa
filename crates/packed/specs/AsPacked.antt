-- As on the packed table: two planes say what a packed table says. An entry is read and written alike in both, and every list of services that are given its t is answered alike, and leaves the same entries and mark stacks.
-- Assumes nothing.
use Rattle.std.specs.Prelude.{◌≡◌, List, [], ◌∷◌, ℕ, length}
use Rattle.rules.specs.Entries.{table_of}
use Rattle.rules.specs.Forms.{packed}
use Rattle.rules.specs.Planes.{entries_in, planes}
use Rattle.rules.specs.Memory.{Memory, memory, Sound}
use Rattle.rules.specs.Lent.{Lent, Served}
use Rattle.laws.specs.Agreement.{HoldSame, WritingAgrees, in_planes}
use Rattle.services.specs.Services.{Service, Response, serve_in, serve, Asked, responses, buffers, lent_after, responses_by, buffers_by, lent_after_by}

-- all are given this t
pub data AllGiven (t : ℕ) : List Asked → Type 0 where
  done : AllGiven t []
  next : {x : Asked} {xs : List Asked} → x.t ≡ t → AllGiven t xs → AllGiven t (x ∷ xs)

-- a service on a packed table, whose length is its t
abbrev pub served_packed : Asked → Lent → Served Response
served_packed x l = serve_in packed x.service x.stack l

pub record AsPacked : Type 0 where
  -- an entry that is written in both forms is read from both, and nothing else is changed
  pub entries : (t : ℕ) → WritingAgrees packed (planes t)
  -- each table has its counterpart in the other form: a packed table of t bytes, and two planes that are as their form asks
  pub held_in_planes : (t : ℕ) (m : Memory) → length m.table ≡ t → HoldSame packed (planes t) m (in_planes t m)
  pub in_packed : (t : ℕ) (m : Memory) → Sound (planes t) m → HoldSame packed (planes t) (memory m.pool (table_of (entries_in t m.table))) m
  -- every list of services that are given this t, on memories that hold the same: the same is told and written into buffers, and the memories hold the same again
  pub services : (t : ℕ) (xs : List Asked) (l l' : Lent) → HoldSame packed (planes t) l.memory l'.memory → l.beside ≡ l'.beside → AllGiven t xs
      → (responses xs l' ≡ responses_by served_packed xs l) × (buffers xs l' ≡ buffers_by served_packed xs l)
      × HoldSame packed (planes t) (lent_after_by served_packed xs l).memory (lent_after xs l').memory × ((lent_after_by served_packed xs l).beside ≡ (lent_after xs l').beside)
  -- each leaves the mark stack the same
  pub stacks : (t : ℕ) (s : Service) (stack : List ℕ) (l l' : Lent) → HoldSame packed (planes t) l.memory l'.memory → l.beside ≡ l'.beside
      → (serve t s stack l').stack ≡ (serve_in packed s stack l).stack
