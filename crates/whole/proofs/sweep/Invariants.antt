-- `sweep`: the table is swept from its front on, a word of each plane at a time and then single bytes.
-- Assumes nothing.
use Rattle.std.proofs.Common.{◌≡◌, ℕ, ◌*◌, List, length}
use Rattle.rules.specs.Planes.{entries_in}
use Rattle.whole.specs.Sweeps.{SweptTo}
use Rattle.whole.proofs.sweep.Given as goal

-- the table is swept so far, and is as long as two planes
pub record Sweeping (t half : ℕ) (es table : List ℕ) (at keeping : ℕ) : Type 0 where
  pub long : length table ≡ 2 * half
  pub swept : SweptTo t es table at keeping

abbrev pub invariant-loop-i : goal.invariant-loop-i
invariant-loop-i l = Sweeping l.t l.half (entries_in l.t l.initial.table) l.table (4 * l.i) l.keeping

abbrev pub invariant-loop-j : goal.invariant-loop-j
invariant-loop-j l = Sweeping l.t l.half (entries_in l.t l.fn.table) l.table l.j l.keeping
