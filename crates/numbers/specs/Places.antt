-- The block that a search found or that an address is of, as the rules have it.
-- Assumes nothing.
use Rattle.std.specs.Prelude.{◌≡◌, ℕ, ◌^◌, ◌<◌, ◌≤◌, nat_lt}
use Rattle.std.proofs.Math.Option.{Option, some, none}
use Rattle.rules.specs.Tests.{pick}
use Rattle.rules.specs.Pointers.{address_of, target_of}
use Rattle.std.specs.Prelude.{Option as Maybe, Some, None}
use Rattle.numbers.specs.declared.Block.{Block}

-- the block that was found, if one was
abbrev pub found : Maybe Block → Option ℕ
found (Some k) = some k.0
found None = none

-- k is the block whose address w is, if it is one of n blocks that lie in the address space; if it is none of them, w is the address of none
pub record BlockOf (base w k : ℕ) : Type 0 where
  pub small : k < 2 ^ 32
  pub target : (n : ℕ) → address_of base n ≤ 2 ^ 32 → target_of base n w ≡ pick (nat_lt k n) (some k) none
