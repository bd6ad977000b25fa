-- A word leads to the same object in a table that has each of its blocks.
-- Assumes nothing.
use mathlib.Core.Path.{◌≡◌, ◌∙◌}
use mathlib.Core.List.{List}
use mathlib.Core.Option.{some}
use Prim.Native.Nat.{ℕ, ◌+◌, ◌-◌, ◌≤◌, ◌<◌}
use native.Mathlib.Omega.{arith}
use lib.ListN.{length}
use Rattle.rules.specs.Tables.{entry_at, block_count}
use Rattle.rules.specs.Pointers.{leads_to}
use Rattle.laws.specs.Meaning.{Heads, PointsInto, Leads}
use Rattle.laws.proofs.Tables.{count_covers}
use Rattle.laws.proofs.Pointers.{heads_inside, into_start, leads_says, leads_one}

-- a word leads to the same object in another table of that length which has each of its blocks
pub leads_stays : (base : ℕ) (es es' : List ℕ) (w k : ℕ) → length es' ≡ length es → ((i : ℕ) → i < block_count es k → entry_at es' (k + i) ≡ entry_at es (k + i))
    → leads_to base es w ≡ some k → leads_to base es' w ≡ some k
unfolding Leads
leads_stays base es es' w k long same q = leads_one base es' w (leads_to base es' w) (some k) (leads_says base es' w) again
  where
    p : PointsInto base es w k
    p = rw q at (leads_says base es w)

    -- each of the object's blocks
    at : (j : ℕ) → k ≤ j → j ≤ p.block → entry_at es' j ≡ entry_at es j
    at j l r = let e : k + (j - k) ≡ j = omega arith in rw e at (same (j - k) (omega (arith, p.to)))

    head : Heads es' k
    head = rw (at k (omega arith) p.from) p.head

    again : PointsInto base es' w k
    again = record {
      head = head;
      block = p.block;
      from = p.from;
      to = count_covers es' k p.block (heads_inside es' k head) (λ j l r. at j (omega arith) r ∙ (into_start base es w k p).tails j l r);
      address = p.address;
    }
