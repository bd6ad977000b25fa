-- `checks::object_word` meets its contract. Assumes nothing.
use mathlib.Core.Path.{◌≡◌, refl, sym, ◌∙◌}
use mathlib.Core.List.{[], ◌∷◌, ◌++◌}
use Prim.Native.Nat.{ℕ, ◌*◌, ◌≤◌, ◌<◌}
use native.Mathlib.Omega.{arith}
use borrow.Author.Tests.{le-leb, lt-leb}
use Rattle.rules.specs.Tables.{block_count}
use Rattle.rules.specs.Outcomes.{Heap}
use Rattle.rules.specs.Refusals.{first_of, no_word, name_tests}
use Rattle.rules.specs.Planes.{heap_at}
use Rattle.laws.proofs.Planes.{few_entries}
use Rattle.laws.proofs.Refusals.{first_yes, first_last, first_more, refused_first, named}
use Rattle.laws.proofs.Widths.{in_32_bits}
use Rattle.refusals.proofs.Codes.{not_accepted, passed_on}
use Rattle.checks.proofs.object_word.Goals as goal

-- what the last test says, of an object of b blocks
module _ (h : Heap) (k i : ℕ) {r b : ℕ} (test : r ≡ first_of (name_tests h k)) (ok : r ≡ 0) (count : b ≡ block_count h.entries k) where
  past : 4 * b ≤ i → 8 ≡ first_of (name_tests h k ++ no_word h k i ∷ [])
  past l = sym (first_more (name_tests h k) _ refl (sym test ∙ ok) ∙ first_yes _ _ (le-leb _ _ (rw count at l)))

  within : i < 4 * b → 0 ≡ first_of (name_tests h k ++ no_word h k i ∷ [])
  within l = sym (first_more (name_tests h k) _ refl (sym test ∙ ok) ∙ first_last _ (lt-leb _ _ (rw count at l)))

pub returns-in_err-named : goal.returns-in_err-named
returns-in_err-named c = passed_on _ _ c.from_residual.ensures.1 ∙ refused_first _ _ c.in_err-named.ensures (not_accepted _)

pub block_count-requires : goal.block_count-requires
block_count-requires c =
    let a = c.args in
    (named (heap_at a.table.now.t [] a.table.now.bytes.now) a.k.0 [] (sym c.in_ok-named.ensures ∙ refl)).inside

pub overflow_mul-block_count : goal.overflow_mul-block_count
overflow_mul-block_count c =
    let few = few_entries _ _ c.args.table.now.is_table in
    let end = c.block_count.ensures.1 in
    in_32_bits (omega arith)

pub returns-then-block_count-i : goal.returns-then-block_count-i
returns-then-block_count-i c = past (heap_at _ [] _) _ _ c.in_ok-named.ensures refl c.block_count.ensures.0 c.if-block_count-i.true

pub returns : goal.returns
returns c = within (heap_at _ [] _) _ _ c.in_ok-named.ensures refl c.block_count.ensures.0 c.if-block_count-i.false
