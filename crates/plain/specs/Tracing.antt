-- The marking of a plain list: which objects are kept, in which order they are marked, and how many rescans that takes.
-- Two loops count down a number so that they are definitions: each is given enough.
-- Assumes nothing.
use Rattle.std.specs.Prelude.{Bool, true, false, List, [], ◌∷◌, ℕ, zero, suc, ◌+◌, ◌*◌, eqb, ltb, length}
use Rattle.std.proofs.Math.Option.{Option, some, none}
use Rattle.rules.specs.Tests.{pick, either, tabulate}
use Rattle.plain.specs.Objects.{Object}

-- what the marking reads: the base, the objects, and how many entries the mark stack has room for
pub record View : Type 0 where
  pub base : ℕ
  pub objects : List Object
  pub room : ℕ

-- the starts of the marked objects, the mark stack with the last pushed first, and the overflow flag
pub record Progress : Type 0 where
  pub marked : List ℕ
  pub stack : List Object
  pub overflow : Bool

abbrev pub progress : List ℕ → List Object → Bool → Progress
progress m st o = record { marked = m; stack = st; overflow = o }

unfoldable pub is_in : ℕ → List ℕ → Bool
is_in k [] = false
is_in k (j ∷ js) = either (eqb k j) (is_in k js)

abbrev pub is_marked : Object → Progress → Bool
is_marked o s = is_in o.start s.marked

-- the addresses of an object's blocks
abbrev pub addresses : ℕ → Object → List ℕ
addresses base o = tabulate o.blocks (λ (i : ℕ). base + 16 * (o.start + i))

-- a word leads to the object of which a block has that address
unfoldable pub led_to : ℕ → ℕ → List Object → Option Object
led_to base w [] = none
led_to base w (o ∷ os) = pick (is_in w (addresses base o)) (some o) (led_to base w os)

abbrev pub mark : Object → Progress → Progress
mark o s = progress (o.start ∷ s.marked) s.stack s.overflow

-- an object is pushed; if the stack is full, the flag is set instead
unfoldable pub push : View → Object → Progress → Progress
push c o s = pick (ltb (length s.stack) c.room) (progress s.marked (o ∷ s.stack) s.overflow) (progress s.marked s.stack true)

-- a word of a walked object: if it leads to an object that is not marked, that is marked and pushed
unfoldable pub follow_to : View → Progress → Option Object → Progress
follow_to c s none = s
follow_to c s (some o) = pick (is_marked o s) s (push c o (mark o s))

unfoldable pub follow : View → ℕ → Progress → Progress
follow c w s = follow_to c s (led_to c.base w c.objects)

-- the words of an object, the last first
unfoldable pub follow_all : View → List ℕ → Progress → Progress
follow_all c [] s = s
follow_all c (w ∷ ws) s = follow c w (follow_all c ws s)

-- the last pushed object is walked, until the stack is empty
unfoldable pub empty_for : ℕ → View → Progress → Progress
empty_for zero c s = s
empty_for (suc n) c s = elim s.stack [ [] ↦ s | o ∷ st ↦ empty_for n c (follow_all c o.words (progress s.marked st s.overflow)) ]

-- each object is pushed once at most
unfoldable pub empty : View → Progress → Progress
empty c s = empty_for (length c.objects + length s.stack) c s

-- an object is walked, and then what that pushed
unfoldable pub subtree : View → Object → Progress → Progress
subtree c o s = empty c (follow_all c o.words s)

-- a root: if it leads to an object that is not marked, that is marked and its subtree is walked at once
unfoldable pub from_root_to : View → Progress → Option Object → Progress
from_root_to c s none = s
from_root_to c s (some o) = pick (is_marked o s) s (subtree c o (mark o s))

-- the roots in list order
unfoldable pub from_roots : View → List ℕ → Progress → Progress
from_roots c [] s = s
from_roots c (w ∷ ws) s = from_roots c ws (from_root_to c s (led_to c.base w c.objects))

-- the objects in rising order: each that is marked when reached is walked
unfoldable pub go_through : View → List Object → Progress → Progress
go_through c [] s = s
go_through c (o ∷ os) s = go_through c os (pick (is_marked o s) (subtree c o s) s)

-- one rescan: the flag is cleared, and then all objects are gone through
unfoldable pub again : View → Progress → Progress
again c s = go_through c c.objects (progress s.marked s.stack false)

-- the marked objects' starts after the marking, and the number of rescans
pub record Traced : Type 0 where
  pub reached : List ℕ
  pub rescans : ℕ

abbrev pub traced : List ℕ → ℕ → Traced
traced m r = record { reached = m; rescans = r }

-- rescans while the flag is set; r counts them
unfoldable pub again_for : ℕ → View → Progress → ℕ → Traced
again_for zero c s r = traced s.marked r
again_for (suc n) c s r = elim s.overflow [ true ↦ again_for n c (again c s) (suc r) | false ↦ traced s.marked r ]

-- the roots, then the rescans: all but the last mark an object
unfoldable pub trace : View → List ℕ → Traced
trace c roots = again_for (suc (length c.objects)) c (from_roots c roots (progress [] [] false)) 0

-- the objects whose starts are among those given
unfoldable pub among : List ℕ → List Object → List Object
among m [] = []
among m (o ∷ os) = pick (is_in o.start m) (o ∷ among m os) (among m os)
