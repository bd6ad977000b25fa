-- `candidates`: where the bits of the blocks are set, so is the first, and of two blocks the second.
-- Assumes nothing.
use native.Mathlib.Omega.{arith}
use Rattle.search.proofs.Searches.{one_free, pair_free}
use Rattle.search.proofs.candidates.Goals as goal

pub returns-then-count-lt2 : goal.returns-then-count-lt2
returns-then-count-lt2 c = one_free c.args.free c.args.next c.args.count (omega arith) c.requires

pub returns : goal.returns
returns c = pair_free c.args.free c.args.next c.args.count (omega arith) c.if-count-lt2.false
