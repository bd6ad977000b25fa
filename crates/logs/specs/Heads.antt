-- The heads of a log's entries, by what loads of the heap answer: what the programs of the log come to while no byte changes.
-- Assumes nothing.
use Rattle.std.specs.Prelude.{List, [], ℕ, zero, suc, eqb}
use Rattle.std.proofs.Math.Option.{Option, some, none}
use Rattle.rules.specs.Tests.{pick}
use Rattle.rules.specs.Pointers.{target_of}
use Rattle.rules.specs.Outcomes.{Answer}
use Rattle.logs.specs.Log.{Link, link_in, prepended}

-- what a load of word i of the object at block k answers
abbrev pub Loads : Type 0
Loads = ℕ → ℕ → Answer

-- the link at a block, if there is a block and its object has two
unfoldable pub link_from : Loads → Option ℕ → Option Link
link_from load none = none
link_from load (some k) = link_in k (load k 7) (load k 8) (load k 0)

-- the heads of the chain from the address w on, if it ends after at most n entries
unfoldable pub heads_from : Loads → ℕ → ℕ → ℕ → Option (List ℕ)
heads_from load base zero w = pick (eqb w 0) (some []) none
heads_from load base (suc n) w =
    pick (eqb w 0) (some [])
    (elim (link_from load (target_of base 4096 w)) [ none ↦ none | some l ↦ prepended l.head (heads_from load base n l.next) ])
