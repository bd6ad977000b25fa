-- `checks::named` meets its contract. Assumes nothing.
use mathlib.Core.Path.{◌≡◌, sym, ap, ◌∙◌}
use mathlib.Core.Bool.{Bool, true, false, not}
use mathlib.Core.List.{List, []}
use Prim.Native.Nat.{ℕ, ◌≤◌, ◌<◌}
use borrow.Author.Tests.{le-leb, lt-leb, ltb-true, ltb-false}
use lib.ListN.{length}
use Rattle.std.specs.Prelude.{nat_lt}
use Rattle.rules.specs.Tables.{entry_at, is_head}
use Rattle.rules.specs.Planes.{entries_in, heap_at}
use Rattle.rules.specs.Refusals.{first_of, name_tests}
use Rattle.laws.proofs.Refusals.{first_yes, first_no, first_last}
use Rattle.checks.proofs.named.Goals as goal

module _ (t : ℕ) (table : List ℕ) (k : ℕ) where
  far : length (entries_in t table) ≤ k → 6 ≡ first_of (name_tests (heap_at t [] table) k)
  far h = sym (first_yes _ _ (le-leb _ _ h))

  other : k < length (entries_in t table) → not (is_head (entry_at (entries_in t table) k)) ≡ true → 7 ≡ first_of (name_tests (heap_at t [] table) k)
  other h e = sym (first_no _ _ (lt-leb _ _ h) ∙ first_yes _ _ e)

  head : k < length (entries_in t table) → not (is_head (entry_at (entries_in t table) k)) ≡ false → 0 ≡ first_of (name_tests (heap_at t [] table) k)
  head h e = sym (first_no _ _ (lt-leb _ _ h) ∙ first_last _ e)

-- a block that is below the number of blocks has an entry
entry_of : (t : ℕ) (table : List ℕ) (k : ℕ) {n : ℕ} {b : Bool} → n ≡ length (entries_in t table) → b ≡ nat_lt k n → b ≡ true → k < length (entries_in t table)
entry_of t table k e is below = rw (← e) (ltb-true _ _ (sym is ∙ below))

pub returns-then-not-is_below : goal.returns-then-not-is_below
returns-then-not-is_below c = far _ _ _ (rw (← c.blocks-2.ensures) (ltb-false _ _ (sym c.is_below.ensures ∙ c.if-not-is_below.true)))

pub is_head-requires : goal.is_head-requires
is_head-requires c = entry_of _ _ _ (c.blocks-2.ensures) c.is_below.ensures c.if-not-is_below.false

pub returns-then-not-is_head : goal.returns-then-not-is_head
returns-then-not-is_head c =
    other _ _ _ (entry_of _ _ _ (c.blocks-2.ensures) c.is_below.ensures c.if-not-is_below.false) (ap not (sym c.is_head.ensures ∙ c.if-not-is_head.true))

pub returns : goal.returns
returns c =
    head _ _ _ (entry_of _ _ _ (c.blocks-2.ensures) c.is_below.ensures c.if-not-is_below.false) (ap not (sym c.is_head.ensures ∙ c.if-not-is_head.false))
