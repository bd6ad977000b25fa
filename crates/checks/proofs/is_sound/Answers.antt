-- `checks::is_sound` meets its contract: once no spare bit is set, the entries decide. Assumes nothing.
use mathlib.Core.Path.{◌≡◌, sym, ◌∙◌}
use mathlib.Core.Bool.{Bool, true, false}
use Rattle.rules.specs.Tests.{both}
use Rattle.checks.proofs.is_sound.Goals as goal

-- the first of two tests, where it fails and where it holds
first_fails : (a b : Bool) → a ≡ false → false ≡ both a b
first_fails a b e = rw e

first_holds : (a b : Bool) {r : Bool} → a ≡ true → r ≡ b → r ≡ both a b
first_holds a b e q = rw e q

pub spare_free-requires : goal.spare_free-requires
spare_free-requires c = c.requires

pub returns-then-not-spare_free : goal.returns-then-not-spare_free
returns-then-not-spare_free c = first_fails _ _ (sym c.spare_free.ensures ∙ c.if-not-spare_free.true)

pub new-requires : goal.new-requires
new-requires c = record { sized = c.requires; clean = sym c.spare_free.ensures ∙ c.if-not-spare_free.false }

pub returns : goal.returns
returns c = first_holds _ _ (sym c.spare_free.ensures ∙ c.if-not-spare_free.false) (rw c.new.ensures at c.well_formed-2.ensures)
