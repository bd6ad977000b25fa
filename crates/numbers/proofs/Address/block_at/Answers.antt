-- `Address::block_at` takes the rule's three tests in order: each way out rewrites the rule with the tests that led there.
-- Assumes nothing.
use Rattle.std.proofs.Common.{le-ltb, lt-ltb, eq-eqb, ne_eqb, le-leb}
use borrow.Author.Tests.{lt-leb}
use Rattle.rules.specs.Pointers.{target_of}
use Rattle.numbers.proofs.Address.block_at.Goals as goal

pub returns-then-at-self : goal.returns-then-at-self
unfolding target_of
returns-then-at-self c = simp (lt-leb _ _ c.if-at-self.true)

pub returns-then-distance-ne0 : goal.returns-then-distance-ne0
unfolding target_of
returns-then-distance-ne0 c = simp (le-leb _ _ c.if-at-self.false, ne_eqb _ _ c.if-distance-ne0.true)

pub returns-then-k-n : goal.returns-then-k-n
unfolding target_of
returns-then-k-n c = simp (le-leb _ _ c.if-at-self.false, eq-eqb _ _ c.if-distance-ne0.false, lt-ltb _ _ c.if-k-n.true)

pub returns-else-k-n : goal.returns-else-k-n
unfolding target_of
returns-else-k-n c = simp (le-leb _ _ c.if-at-self.false, eq-eqb _ _ c.if-distance-ne0.false, le-ltb _ _ c.if-k-n.false)
