-- `block_count`: every block passed after the head is a TAIL, so the first that is none, or the table's end, ends the object.
-- Assumes nothing.
use mathlib.Core.Path.{◌≡◌, refl, sym}
use mathlib.Core.Logic.{◌≢◌}
use mathlib.Core.List.{List}
use Prim.Native.Nat.{ℕ, ◌+◌, ◌-◌, ◌≤◌, ◌<◌}
use native.Mathlib.Decide.{dec_lt}
use native.Mathlib.Omega.{arith}
use lib.ListN.{length}
use borrow.Author.Tests.{eqb-true, eqb-false}
use Rattle.rules.specs.Entries.{TAIL}
use Rattle.rules.specs.Tables.{entry_at, block_count}
use Rattle.entries.specs.Lent.{entries_of}
use Rattle.laws.proofs.Planes.{few_entries}
use Rattle.laws.proofs.Tables.{count_is, entry_outside}
use Rattle.laws.proofs.Widths.{in_32_bits}
use Rattle.table.proofs.block_count.Goals as goal

-- TAILs from the block after k to before block e, and none there
counted : (es : List ℕ) (k first e b : ℕ) → first ≡ k → k < e → e ≤ length es → ((j : ℕ) → first + j < e → 0 < j → entry_at es (first + j) ≡ TAIL) → entry_at es e ≢ TAIL → b ≡ e - first
    → (b ≡ block_count es k) × (k + b ≤ length es)
counted es k first e b same h r tails next is =
    let end : e ≡ k + b = omega (arith, same, is) in
    let tail = rw same at tails in
    (sym (count_is es k b (record { some_block = omega arith; room = omega arith; tail = λ j l m. tail j (omega arith) l; next = rw end at next })), omega arith)

pub overflow_add-second : goal.overflow_add-second
overflow_add-second c = in_32_bits (record { fits = omega (arith, c.index-first.ensures, c.requires, few_entries _ _ c.args.table.now.is_table) })

pub plus-requires : goal.plus-requires
plus-requires c = omega (arith, c.first.ensures, few_entries _ _ c.args.table.now.is_table, c.blocks-n.ensures)

pub returns-then-not-is_tail : goal.returns-then-not-is_tail
returns-then-not-is_tail c =
    let a = c.args in
    let here : c.plus.result.0 ≡ c.loop-at.at = omega (arith, c.first.ensures, c.plus.ensures) in
    let tail_is = rw here at c.if-not-is_tail.ensures in
    counted (entries_of a.table.now) a.k.0 _ c.loop-at.at _ c.index-first.ensures (omega (arith, c.index-first.ensures)) (omega (arith, c.blocks-n.ensures)) c.loop-at.invariant
    (eqb-false _ _ (sym tail_is)) refl

pub loop-at-preserved : goal.loop-at-preserved
loop-at-preserved c j l m =
    go (dec_lt (c.index-first.result + j) c.loop-at.at)
  where
    go : Dec (c.index-first.result + j < c.loop-at.at) → entry_at (entries_of c.args.table.now) (c.index-first.result + j) ≡ TAIL
    go (yes h) = c.loop-at.invariant j h m
    go (no n) =
        let here : c.plus.result.0 ≡ c.index-first.result + j = omega (arith, c.first.ensures, c.plus.ensures, l, n) in
        eqb-true _ _ (sym (rw here at c.if-not-is_tail.ensures))

pub returns : goal.returns
returns c =
    let a = c.args in
    let es = entries_of a.table.now in
    let n = c.blocks-n.ensures in
    let all : c.loop-at.at ≡ c.blocks-n.result = omega (arith, c.index-first.ensures, c.requires, n) in
    counted es a.k.0 _ c.blocks-n.result _ c.index-first.ensures (omega (arith, n, c.requires)) (omega (arith, n)) (rw all at c.loop-at.invariant)
    (λ t. omega (arith, t, entry_outside es c.blocks-n.result (omega (arith, n)))) refl
