-- The number that the code has for an entry is that of the rules.
-- Assumes nothing.
use mathlib.Core.Path.{◌≡◌, refl}
use mathlib.Core.Bool.{Bool, true, false, not}
use mathlib.Core.Logic.{◌≢◌}
use Prim.Native.Nat.{◌<◌}
use native.Mathlib.Omega.{arith}
use lib.Dec.{eqb}
use borrow.Author.Tests.{eqb-true, eqb-false}
use denote.Enum.Bare.{sameb}
use denote.Enum.Declared.{tag_of}
use Rattle.entries.specs.contracts.Entry.{the_type}
use Rattle.entries.specs.declared.Entry.{Entry}
use Rattle.entries.specs.declared.Entry.TheVariants.{Free, Head, Tail, Mark}
use Rattle.entries.specs.Numbers.{number_of}

pub tag_is : (e : Entry) → tag_of the_type e ≡ number_of e
tag_is Free = refl
tag_is Head = refl
tag_is Tail = refl
tag_is Mark = refl

pub number_small : (e : Entry) → number_of e < 4
number_small Free = omega arith
number_small Head = omega arith
number_small Tail = omega arith
number_small Mark = omega arith

-- two are the same if their numbers are
same_is : (a b : Entry) → sameb the_type a b ≡ eqb (number_of a) (number_of b)
same_is Free = elim [ Free ↦ refl | Head ↦ refl | Tail ↦ refl | Mark ↦ refl ]
same_is Head = elim [ Free ↦ refl | Head ↦ refl | Tail ↦ refl | Mark ↦ refl ]
same_is Tail = elim [ Free ↦ refl | Head ↦ refl | Tail ↦ refl | Mark ↦ refl ]
same_is Mark = elim [ Free ↦ refl | Head ↦ refl | Tail ↦ refl | Mark ↦ refl ]

-- what `!=` says
pub same : (a b : Entry) → false ≡ not (sameb the_type a b) → number_of a ≡ number_of b
same a b e = eqb-true (number_of a) (number_of b) (go (eqb (number_of a) (number_of b)) (rw (same_is a b) at e))
  where
    go : (x : Bool) → false ≡ not x → x ≡ true
    go true q = refl
    go false q = q

pub differ : (a b : Entry) → true ≡ not (sameb the_type a b) → number_of a ≢ number_of b
differ a b e = eqb-false (number_of a) (number_of b) (go (eqb (number_of a) (number_of b)) (rw (same_is a b) at e))
  where
    go : (x : Bool) → true ≡ not x → x ≡ false
    go true q = q
    go false q = refl
