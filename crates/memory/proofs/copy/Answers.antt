-- `copy`: after i turns the first i bytes are stored at the target. The byte read next is still the one at the start, because the parts do not overlap.
-- Assumes nothing.
use mathlib.Core.Path.{◌≡◌}
use mathlib.Core.Logic.{◌⊎◌, ⊎_elim}
use mathlib.Core.List.{List}
use Prim.Native.Nat.{ℕ, ◌+◌, ◌≤◌, ◌<◌}
use native.Mathlib.Numerals.{add-one}
use native.Mathlib.Omega.{arith}
use lib.ListN.{length, get_or, set, take, drop, length-drop}
use lib.Seq.{take-suc, get_or-drop, length-take-le}
use borrow.Author.Rules.{rules}
use Rattle.laws.proofs.Lists.{sets_before, sets_after, sets_snoc}
use Rattle.laws.proofs.Widths.{in_slice}
use Rattle.memory.proofs.copy.Invariants.{copied}
use Rattle.memory.proofs.copy.Goals as goal

module _ (p : List ℕ) (from to n i : ℕ) (h : i < n) (in_from : from + n ≤ length p) (apart : (from + n ≤ to) ⊎ (to + n ≤ from)) where
  long : length (take i (drop from p)) ≡ i
  long = length-take-le i (drop from p) (simp length-drop (omega arith))

  -- a byte of the source is as it was
  source_stays : get_or (copied p from to i) (from + i) 0 ≡ get_or p (from + i) 0
  source_stays =
      ⊎_elim
      (λ (l : from + n ≤ to). sets_before p to (take i (drop from p)) (from + i) 0 (omega arith))
      (λ (l : to + n ≤ from). sets_after p to (take i (drop from p)) (from + i) 0 (rw long (omega arith)))
      apart

  turn : set (copied p from to i) (to + i) (get_or (copied p from to i) (from + i) 0) ≡ copied p from to (i + 1)
  turn =
      let l : i < length (drop from p) = simp length-drop (omega arith) in
      rw (source_stays, add-one i, take-suc (drop from p) i 0 l, sets_snoc p to (take i (drop from p)) (get_or (drop from p) i 0), long, get_or-drop from p i 0)

pub overflow_add-pool : goal.overflow_add-pool
overflow_add-pool c = in_slice c.args.pool.now (search rules) (search rules)

pub overflow_add-pool-in-loop-i : goal.overflow_add-pool-in-loop-i
overflow_add-pool-in-loop-i c = in_slice c.args.pool.now (search rules) (search rules)

pub loop-i-preserved : goal.loop-i-preserved
loop-i-preserved c =
    let count = c.index-i-end in
    let to = c.index-target in
    let from = c.index-source in
    let apart = rw (← from.ensures, ← to.ensures, ← count.ensures) at c.requires.apart in
    rw c.loop-i.invariant (turn c.args.pool.now from.result to.result count.result c.loop-i.i (omega arith) (omega arith) apart)
