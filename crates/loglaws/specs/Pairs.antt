-- A plain list of pairs, each a time and a tip count, the oldest first: what the log is to its user.
-- Assumes nothing.
use Rattle.std.specs.Prelude.{List, [], ◌∷◌, map, ℕ, zero, suc}
use Rattle.logs.specs.Log.{Reply, readout, declined}
use Rattle.loglaws.specs.Chains.{Entry}

pub record Pair : Type 0 where
  pub time : ℕ
  pub tips : ℕ

-- the pairs of some entries
abbrev pub pairs : List Entry → List Pair
pairs es = map (λ (e : Entry). record { time = e.time; tips = e.tips }) es

-- what a read of the list answers: the pair at an index, or 19
unfoldable pub read_pairs : List Pair → ℕ → Reply
read_pairs [] i = declined 19
read_pairs (p ∷ ps) zero = readout 0 p.time p.tips
read_pairs (p ∷ ps) (suc i) = read_pairs ps i
