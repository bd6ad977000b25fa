-- What a list of entries says: well-formed, objects, runs of free blocks, counts.
-- Assumes nothing.
use Rattle.std.specs.Prelude.{Bool, true, false, not, List, [], ◌∷◌, ℕ, zero, suc, ◌+◌, ◌-◌, ◌%◌, max, eqb, leb, ltb}
use Rattle.std.proofs.Math.Option.{Option, some, none}
use lib.ListN.{get_or, drop, replicate}
use Rattle.std.proofs.lemmas.List.Edits.{sets}
use Rattle.rules.specs.Tests.{pick, both, either, count, leading}
use Rattle.rules.specs.Entries.{FREE, HEAD, TAIL, MARK}

-- the entry of block k; outside the table, FREE
abbrev pub entry_at : List ℕ → ℕ → ℕ
entry_at es k = get_or es k FREE

abbrev pub is_free : ℕ → Bool
is_free e = eqb e FREE

abbrev pub is_used : ℕ → Bool
is_used e = not (is_free e)

abbrev pub is_head : ℕ → Bool
is_head e = eqb e HEAD

abbrev pub is_tail : ℕ → Bool
is_tail e = eqb e TAIL

-- the entry e may stand directly after the entry p: it is no MARK, and no TAIL after FREE
unfoldable pub may_follow : ℕ → ℕ → Bool
may_follow p e = both (not (eqb e MARK)) (not (both (is_tail e) (is_free p)))

-- each entry may stand after the one before it, the first after p
unfoldable pub well_after : ℕ → List ℕ → Bool
well_after p [] = true
well_after p (e ∷ es) = both (may_follow p e) (well_after e es)

-- well-formed: no MARK, block 0 is no TAIL, no TAIL follows a FREE. What stands before block 0 counts as FREE
unfoldable pub well_formed : List ℕ → Bool
well_formed es = well_after FREE es

-- how many blocks the object with head k has: the head and all the TAILs directly after it
unfoldable pub block_count : List ℕ → ℕ → ℕ
block_count es k = suc (leading is_tail (drop (suc k) es))

-- where the object of block k starts: at block k if that is no TAIL, else where the object of the block before it does
unfoldable pub start_of : List ℕ → ℕ → ℕ
start_of es zero = zero
start_of es (suc k) = pick (is_tail (entry_at es (suc k))) (start_of es k) (suc k)

-- how many consecutive blocks are FREE from block s on
unfoldable pub free_from : List ℕ → ℕ → ℕ
free_from es s = leading is_free (drop s es)

-- b blocks are aligned at block s: fewer than four are at every block, four or more at a block number divisible by four
unfoldable pub aligned : ℕ → ℕ → Bool
aligned b s = either (ltb b 4) (eqb (s % 4) 0)

-- b blocks may start at block s: they are aligned there, and they are blocks of the table, and FREE
unfoldable pub fits : List ℕ → ℕ → ℕ → Bool
fits es b s = both (aligned b s) (leb b (free_from es s))

-- the first of m starts from s on at which b blocks fit
unfoldable pub first_from : List ℕ → ℕ → ℕ → ℕ → Option ℕ
first_from es b zero s = none
first_from es b (suc m) s = elim (fits es b s) [ true ↦ some s | false ↦ first_from es b m (suc s) ]

-- the lowest start at which b blocks fit
unfoldable pub first_fit : List ℕ → ℕ → Option ℕ
first_fit es b = first_from es b (lib.ListN.length es) 0

-- the object of b blocks at k may get more, c in all, where it is: c blocks are aligned there, and those that join it, directly after it, are
-- blocks of the table, and FREE
unfoldable pub grows_in_place : List ℕ → ℕ → ℕ → ℕ → Bool
grows_in_place es k b c = both (aligned c k) (leb (c - b) (free_from es (k + b)))

-- the entries with a new object of b blocks at s: a HEAD and b - 1 TAILs
unfoldable pub placed : List ℕ → ℕ → ℕ → List ℕ
placed es s b = sets es s (HEAD ∷ replicate (b - 1) TAIL)

-- the entries with the b blocks from s on FREE
unfoldable pub released : List ℕ → ℕ → ℕ → List ℕ
released es s b = sets es s (replicate b FREE)

-- the entries with the b blocks from s on TAIL
unfoldable pub extended : List ℕ → ℕ → ℕ → List ℕ
extended es s b = sets es s (replicate b TAIL)

-- used blocks: those that are not FREE
unfoldable pub used : List ℕ → ℕ
used es = count is_used es

-- the number of objects: each has one HEAD
unfoldable pub objects : List ℕ → ℕ
objects es = count is_head es

-- the longest run of FREE blocks
unfoldable pub longest : List ℕ → ℕ
longest [] = 0
longest (e ∷ es) = max (leading is_free (e ∷ es)) (longest es)
