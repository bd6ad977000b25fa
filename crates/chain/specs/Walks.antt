-- A walk along the heads of a log's entries: what it has to find.
-- Assumes nothing.
use Rattle.std.specs.Prelude.{◌≡◌, List, [], ℕ, suc, eqb, length, Option as Maybe, IsNone, IsSomeAnd}
use Rattle.std.proofs.Math.Option.{Option, some, none}
use Rattle.rules.specs.Tests.{pick}
use Rattle.rules.specs.Runs.{Load}
use Rattle.rules.specs.Planes.{planes}
use Rattle.rules.specs.Memory.{memory, perform}
use Rattle.numbers.specs.Places.{found}
use Rattle.logs.specs.Log.{Link, last_of, at_index}
use Rattle.logs.specs.Heads.{Loads}
use Rattle.chain.specs.declared.Walk.{Walk}

-- what the loads of lent memory answer
abbrev pub loads_in : ℕ → ℕ → List ℕ → List ℕ → Loads
loads_in base t pool table k i = (perform (planes t) (Load base k i) [] (memory pool table)).answer

-- what it knows of the entries that it has passed: how many, the last one's block, and the block of the one with the wanted index
pub record Passed : Type 0 where
  pub count : ℕ
  pub last : Option ℕ
  pub wanted : Option ℕ

abbrev pub passed_by : Walk → Passed
passed_by w = record { count = w.count; last = found w.last; wanted = found w.wanted }

-- it passes the entry at block k
abbrev pub pass : ℕ → Passed → ℕ → Passed
pass index p k = record { count = suc p.count; last = some k; wanted = pick (eqb p.count index) (some k) p.wanted }

-- one step: the entry at the link that was found is passed, and the walk stands at its next word; or there is no such entry
abbrev pub Steps : ℕ → Walk → Option Link → Maybe Walk → Type 0
Steps index w none r = IsNone r
Steps index w (some l) r = IsSomeAnd r (λ x. (x.at.0 ≡ l.next) × (passed_by x ≡ pass index (passed_by w) l.head))

-- the last entry that it has passed
abbrev pub last_by : Walk → Option ℕ
last_by w = found w.last

-- what a walk that came to the end has found of the heads: how many there are, the last one, and the one with the wanted index
pub record Found (index : ℕ) (w : Walk) (ks : List ℕ) : Type 0 where
  pub count : w.count ≡ length ks
  pub last : last_of ks ≡ last_by w
  pub wanted : at_index ks index ≡ found w.wanted

-- the walk along the heads, if there are such
abbrev pub Walked : ℕ → Maybe Walk → Option (List ℕ) → Type 0
Walked index r none = IsNone r
Walked index r (some ks) = IsSomeAnd r (λ w. Found index w ks)
