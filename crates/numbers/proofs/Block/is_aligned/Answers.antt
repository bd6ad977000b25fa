-- `is_aligned`: the two tests of the definition, one after the other.
-- Assumes nothing.
use Rattle.std.proofs.Common.{◌%◌, Bool, eqb, sym, ap, le-ltb, lt-ltb}
use Rattle.rules.specs.Tests.{either}
use Rattle.rules.specs.Tables.{aligned}
use Rattle.numbers.proofs.Block.is_aligned.Goals as goal

pub returns-then-count-lt4 : goal.returns-then-count-lt4
unfolding aligned
returns-then-count-lt4 c = sym (ap (λ (t : Bool). either t (eqb (c.args.self.0 % 4) 0)) (lt-ltb _ _ c.if-count-lt4.true))

pub returns : goal.returns
unfolding aligned
returns c = sym (ap (λ (t : Bool). either t (eqb (c.args.self.0 % 4) 0)) (le-ltb _ _ c.if-count-lt4.false))
