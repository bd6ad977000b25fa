-- `copy`: after i turns the first i bytes are stored at the target. The byte read next is still the one at the start, because the parts do not overlap.
-- Assumes nothing.
use mathlib.Core.Path.{◌≡◌}
use mathlib.Core.List.{List}
use Prim.Native.Nat.{ℕ}
use lib.ListN.{take, drop}
use lib.Seq.{sets}
use Rattle.memory.proofs.copy.Given as goal

-- the pool p with the first i bytes from `from` on stored at `to`
abbrev pub copied : List ℕ → ℕ → ℕ → ℕ → List ℕ
copied p from to i = sets p to (take i (drop from p))

abbrev pub invariant-loop-i : goal.invariant-loop-i
invariant-loop-i l = l.pool ≡ copied l.initial.pool l.source l.target l.i
