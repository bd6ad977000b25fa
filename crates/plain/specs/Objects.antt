-- A heap as a plain list: the objects in rising order of their starts, each a start, a block count and its words. No table, no bits.
-- Assumes nothing.
use Rattle.std.specs.Prelude.{List, [], ◌∷◌, ◌++◌, ℕ, ◌+◌, ◌-◌, ◌*◌, ◌/◌, ◌≤◌, ◌<◌, max, eqb, leb, ltb, replicate}
use Rattle.std.proofs.Math.Option.{Option, some, none}
use Rattle.rules.specs.Tests.{pick}

-- an object of b blocks has 4b words
pub record Object : Type 0 where
  pub start : ℕ
  pub blocks : ℕ
  pub words : List ℕ

abbrev pub object : ℕ → ℕ → List ℕ → Object
object s b ws = record { start = s; blocks = b; words = ws }

-- how many blocks there are, and the objects in them. What is lent beside pool and table would be one more field
pub record Plain : Type 0 where
  pub size : ℕ
  pub objects : List Object

-- the block directly after an object
abbrev pub end : Object → ℕ
end o = o.start + o.blocks

-- an object's words with zeros after them, up to c blocks
abbrev pub padded : Object → ℕ → List ℕ
padded o c = o.words ++ replicate (4 * (c - o.blocks)) 0

-- used blocks: the blocks of all objects
unfoldable pub total : List Object → ℕ
total [] = 0
total (o ∷ os) = o.blocks + total os

-- the object that starts at block k
unfoldable pub find : ℕ → List Object → Option Object
find k [] = none
find k (o ∷ os) = pick (eqb o.start k) (some o) (find k os)

-- the first place from block `from` on for b blocks: that block itself for fewer than four, else the first from it on that is a multiple of four
unfoldable pub place_from : ℕ → ℕ → ℕ
place_from b from = pick (ltb b 4) from (4 * ((from + 3) / 4))

-- a gap lies before an object, or after the last: here from block `from` up to the start of the first object, or up to n blocks.
-- the lowest gap with room for b blocks from the first place in it on gives that place
unfoldable pub lowest_gap : ℕ → ℕ → ℕ → List Object → Option ℕ
lowest_gap n b from [] = pick (leb (place_from b from + b) n) (some (place_from b from)) none
lowest_gap n b from (o ∷ os) = pick (leb (place_from b from + b) o.start) (some (place_from b from)) (lowest_gap n b (end o) os)

-- the length of the longest gap
unfoldable pub longest_gap : ℕ → ℕ → List Object → ℕ
longest_gap n from [] = n - from
longest_gap n from (o ∷ os) = max (o.start - from) (longest_gap n (end o) os)

-- the start of the first object after block k, or n
unfoldable pub next_start : ℕ → ℕ → List Object → ℕ
next_start n k [] = n
next_start n k (o ∷ os) = pick (ltb k o.start) o.start (next_start n k os)

-- the list with a new object, in rising order
unfoldable pub insert : Object → List Object → List Object
insert x [] = x ∷ []
insert x (o ∷ os) = pick (ltb x.start o.start) (x ∷ o ∷ os) (o ∷ insert x os)

-- the list without the object that starts at block k
unfoldable pub remove : ℕ → List Object → List Object
remove k [] = []
remove k (o ∷ os) = pick (eqb o.start k) os (o ∷ remove k os)

-- the list with x for the object that starts where x starts
unfoldable pub replace : Object → List Object → List Object
replace x [] = []
replace x (o ∷ os) = pick (eqb o.start x.start) (x ∷ os) (o ∷ replace x os)

-- rising order: each object has blocks of its own, from block `from` on and after the end of the one before it. So no object stands twice
pub data Rising : ℕ → List Object → Type 0 where
  done : {from : ℕ} → Rising from []
  next : {from : ℕ} {o : Object} {os : List Object} → from ≤ o.start → 0 < o.blocks → Rising (end o) os → Rising from (o ∷ os)
