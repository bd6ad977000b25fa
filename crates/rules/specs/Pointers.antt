-- Addresses, and what a word leads to.
-- Assumes nothing.
use Rattle.std.specs.Prelude.{Bool, List, ℕ, ◌+◌, ◌-◌, ◌*◌, ◌/◌, ◌%◌, ◌^◌, eqb, leb, ltb, length}
use Rattle.std.proofs.Math.Option.{Option, some, none}
use Rattle.rules.specs.Tests.{pick, both, either}
use Rattle.rules.specs.Entries.{HEAD, MARK}
use Rattle.rules.specs.Tables.{entry_at, start_of}

-- the address of block k
unfoldable pub address_of : ℕ → ℕ → ℕ
address_of base k = base + 16 * k

-- a base for n blocks: a multiple of 16, at least 16, with the end of the last block within 32 bits
unfoldable pub good_base : ℕ → ℕ → Bool
good_base base n = both (eqb (base % 16) 0) (both (leb 16 base) (leb (address_of base n) (2 ^ 32)))

-- the target of w: the block of n blocks whose address it is, if there is one (Meaning: Points)
unfoldable pub target_of : ℕ → ℕ → ℕ → Option ℕ
target_of base n w =
    pick (both (leb base w) (both (eqb ((w - base) % 16) 0) (ltb ((w - base) / 16) n)))
    (some ((w - base) / 16))
    none

-- the head of an object, marked or not: what a word leads to does not change while objects are marked
unfoldable pub heads_object : ℕ → Bool
heads_object e = either (eqb e HEAD) (eqb e MARK)

-- the head of the object that has a target as one of its blocks, if there is such an object: no FREE block is in one
unfoldable pub head_at : List ℕ → Option ℕ → Option ℕ
head_at es none = none
head_at es (some k) = pick (heads_object (entry_at es (start_of es k))) (some (start_of es k)) none

-- the head of the object that the word w leads to, if it leads to one: that of which w is the address of a block, HEAD or TAIL (Meaning: Leads)
unfoldable pub leads_to : ℕ → List ℕ → ℕ → Option ℕ
leads_to base es w = head_at es (target_of base (length es) w)
