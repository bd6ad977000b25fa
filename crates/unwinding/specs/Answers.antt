-- Calls that are made alike on two heaps: the same call with the same arguments. Only the mark stacks are each heap's own, and where their lengths differ so may the rescans.
-- Assumes nothing.
use Rattle.std.specs.Prelude.{◌≡◌, ◌≢◌, List, ℕ, length}
use Rattle.rules.specs.Outcomes.{Answer}
use Rattle.rules.specs.Runs.{Call, Collect}
use Rattle.keeping.specs.Keeping.{but_rescans, GoodStack}

-- the two mark stacks of a call, whatever they hold
pub data SameStacks (stack stack' : List ℕ) : Type 0 where
  -- they are equally long, of any length at all
  equally_long : length stack ≡ length stack' → SameStacks stack stack'
  -- or both have 0 to 64 whole entries
  both_good : GoodStack stack → GoodStack stack' → SameStacks stack stack'

-- the two answers to a call with these mark stacks
pub data SameAnswer (stack stack' : List ℕ) (a b : Answer) : Call → Type 0 where
  -- every part is the same
  equal : {call : Call} → a ≡ b → SameAnswer stack stack' a b call
  -- or the call is a collection, it is accepted, the stacks are not equally long, and every part but the number of rescans is the same
  alike_but_rescans : {base : ℕ} {roots : List ℕ} → a.refusal ≡ 0 → length stack ≢ length stack' → but_rescans a ≡ but_rescans b
      → SameAnswer stack stack' a b (Collect base roots)
