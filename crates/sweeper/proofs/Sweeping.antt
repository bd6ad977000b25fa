-- No block is used after the sweep that was not before.
-- Assumes nothing.
use mathlib.Core.Path.{◌≡◌, refl}
use mathlib.Core.Bool.{Bool, true, false, not}
use mathlib.Core.List.{List, [], ◌∷◌}
use Prim.Native.Nat.{ℕ, ◌≤◌}
use native.Mathlib.Omega.{arith}
use lib.Dec.{eqb}
use borrow.Author.Tests.{eqb-true}
use Rattle.rules.specs.Tests.{count}
use Rattle.rules.specs.Entries.{FREE}
use Rattle.rules.specs.Tables.{is_free, used}
use Rattle.rules.specs.Marking.{swept_entry, freeing_after, sweep_from, sweep}
use Rattle.laws.proofs.Lists.{one, count_cons}

-- a FREE entry stays FREE
entry_swept : (f : Bool) (e : ℕ) → one (not (is_free (swept_entry f e))) ≤ one (not (is_free e))
unfolding swept_entry
entry_swept f e = go (eqb e FREE) refl
  where
    at_most : (t : Bool) → one t ≤ 1
    at_most true = omega arith
    at_most false = omega arith

    go : (t : Bool) → eqb e FREE ≡ t → one (not (is_free (swept_entry f e))) ≤ one (not t)
    go true p = rw (eqb-true e FREE p) (omega arith)
    go false p = at_most (not (is_free (swept_entry f e)))

used_from : (f : Bool) (es : List ℕ) → used (sweep_from f es) ≤ used es
unfolding used sweep_from count
used_from f [] = omega arith
used_from f (e ∷ es) =
    omega (
      arith,
      entry_swept f e,
      used_from (freeing_after f e) es,
      count_cons (λ (x : ℕ). not (is_free x)) (swept_entry f e) (sweep_from (freeing_after f e) es),
      count_cons (λ (x : ℕ). not (is_free x)) e es,
    )

pub used_swept : (es : List ℕ) → used (sweep es) ≤ used es
unfolding sweep
used_swept es = used_from false es
