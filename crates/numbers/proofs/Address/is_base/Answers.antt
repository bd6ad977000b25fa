-- `Address::is_base` takes the rule's three tests in order; a base above the address space ends there too.
-- Assumes nothing.
use Rattle.std.proofs.Common.{◌≡◌, ◌+◌, ◌*◌, ◌%◌, ◌<◌, ◌≢◌, arith, eq-eqb, ne_eqb, le-leb}
use borrow.Author.Tests.{lt-leb}
use Rattle.rules.specs.Pointers.{address_of, good_base}
use Rattle.numbers.proofs.Address.is_base.Goals as goal

pub returns-then-at-ne0 : goal.returns-then-at-ne0
unfolding good_base
returns-then-at-ne0 c =
    let off : c.args.self.0 % 16 ≢ 0 = λ e. c.if-at-ne0.true (omega arith) in
    simp (ne_eqb _ _ off)

pub returns-then-at-lt16 : goal.returns-then-at-lt16
unfolding good_base
returns-then-at-lt16 c =
    let on : c.args.self.0 % 16 ≡ 0 = omega (arith, c.if-at-ne0.false) in
    simp (eq-eqb _ _ on, lt-leb _ _ c.if-at-lt16.true)

pub returns-then-at-gt-END : goal.returns-then-at-gt-END
unfolding good_base address_of
returns-then-at-gt-END c =
    let a = c.args in
    let far : 4294967296 < a.self.0 + 16 * a.n = omega arith in
    simp (eq-eqb _ _ c.if-at-ne0.false, le-leb _ _ c.if-at-lt16.false, lt-leb _ _ far)

pub returns : goal.returns
unfolding good_base
returns c =
    simp (eq-eqb _ _ c.if-at-ne0.false, le-leb _ _ c.if-at-lt16.false, c.of_block.ensures)
