-- `grows_in_place`: the two tests of the definition, one after the other.
-- Assumes nothing.
use mathlib.Core.Path.{◌≡◌, ap, sym, ◌∙◌}
use mathlib.Core.Bool.{true, false}
use mathlib.Core.List.{List}
use Prim.Native.Nat.{ℕ, ◌+◌, ◌-◌}
use native.Mathlib.Omega.{arith}
use lib.Dec.{leb}
use Rattle.rules.specs.Tables.{free_from, aligned, grows_in_place}
use Rattle.entries.specs.Lent.{entries_of}
use Rattle.laws.proofs.Planes.{few_entries}
use Rattle.table.proofs.grows_in_place.Goals as goal

module _ (es : List ℕ) (k old new : ℕ) where
  not_aligned : aligned new k ≡ false → grows_in_place es k old new ≡ false
  unfolding grows_in_place
  not_aligned e = rw e

  where_aligned : aligned new k ≡ true → grows_in_place es k old new ≡ leb (new - old) (free_from es (k + old))
  unfolding grows_in_place
  where_aligned e = rw e

pub returns-then-not-is_aligned : goal.returns-then-not-is_aligned
returns-then-not-is_aligned c = sym (not_aligned _ _ _ _ (sym c.is_aligned.ensures ∙ c.if-not-is_aligned.true))

pub plus-requires : goal.plus-requires
plus-requires c =
    omega (arith, few_entries _ _ c.args.table.now.is_table)

pub returns : goal.returns
returns c =
    let a = c.args in
    let es = entries_of a.table.now in
    c.is_free.ensures ∙ ap (λ (end : ℕ). leb (a.new - a.old) (free_from es end)) c.plus.ensures
    ∙ sym (where_aligned es a.k.0 a.old a.new (sym c.is_aligned.ensures ∙ c.if-not-is_aligned.false))
