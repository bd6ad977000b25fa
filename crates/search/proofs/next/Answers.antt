-- `next`: before the word in hand the blocks may start nowhere, so the first bit that is found in it is the next start.
-- Assumes nothing.
use mathlib.Core.Path.{◌≡◌, subst}
use mathlib.Core.List.{List}
use Prim.Native.Nat.{ℕ, ◌+◌, ◌*◌, ◌<◌}
use native.Mathlib.Omega.{arith}
use lib.Count.{count_trailing_zeros}
use lib.ListN.{length}
use borrow.Author.Rules.{rules}
use Rattle.entries.specs.Lent.{entries_of}
use Rattle.rules.specs.Planes.{entries_in, IsTable}
use Rattle.laws.proofs.Planes.{few_entries}
use Rattle.laws.proofs.Widths.{in_32_bits}
use Rattle.freeruns.proofs.Rows.{zeros_below, first_inside}
use Rattle.search.specs.Starts.{Next}
use Rattle.search.proofs.Searches.{no_start_join, found_next, none_here, end_next}
use Rattle.search.proofs.next.Goals as goal

-- a word that does not begin behind the table's end is one of 128
word_inside : (t : ℕ) (table : List ℕ) → IsTable t table → {n at : ℕ} → n ≡ length (entries_in t table) → 32 * at < n → at < 128
word_inside t table known e l = omega (arith, few_entries t table known)

pub pass-at-requires : goal.pass-at-requires
pass-at-requires c =
    (omega (arith, c.index-first.ensures, c.requires.0, few_entries _ _ c.args.table.now.is_table), c.requires.1)

pub loop-at-init : goal.loop-at-init
loop-at-init c = let p = c.pass-at.ensures in (p.1.0, (omega (arith, p.0), λ q l h f. p.1.1 q (omega arith) h f))

pub overflow_mul-at : goal.overflow_mul-at
overflow_mul-at c = in_32_bits (search rules)

pub free_or_end-requires : goal.free_or_end-requires
free_or_end-requires c =
    let more = word_inside _ _ c.args.table.now.is_table (c.blocks-n.ensures) c.loop-at-test.true in
    omega (arith, more)

pub overflow_add-at : goal.overflow_add-at
overflow_add-at c = in_32_bits (search rules)

pub free_or_end-requires-in-loop-at : goal.free_or_end-requires-in-loop-at
free_or_end-requires-in-loop-at c =
    let more = word_inside _ _ c.args.table.now.is_table (c.blocks-n.ensures) c.loop-at-test.true in
    omega (arith, more)

pub overflow_mul-at-then-found-ne0 : goal.overflow_mul-at-then-found-ne0
overflow_mul-at-then-found-ne0 c = in_32_bits (search rules)

pub overflow_add-at-then-found-ne0 : goal.overflow_add-at-then-found-ne0
overflow_add-at-then-found-ne0 c =
    let more = word_inside _ _ c.args.table.now.is_table (c.blocks-n.ensures) c.loop-at-test.true in
    let few = first_inside c.starts-found.result (omega arith) c.if-found-ne0.true in
    in_32_bits (record { fits = omega (arith, few, more) })

pub returns-then-found-ne0 : goal.returns-then-found-ne0
returns-then-found-ne0 c =
    let few = first_inside c.starts-found.result (omega arith) c.if-found-ne0.true in
    let es = entries_of c.args.table.now in
    let k = c.index-first in
    let bits = c.free_or_end in
    let mask = c.bits_from in
    let after = c.free_or_end-in-loop-at in
    let n = count_trailing_zeros 32 c.starts-found.result in
    let e : c.plus.result.0 ≡ 32 * c.loop-at.at + n = omega (arith, c.plus.ensures, c.first.ensures) in
    subst (λ (x : ℕ). Next es c.args.count x c.plus.result.0) k.ensures
    (rw e
    (found_next es c.args.count k.result c.loop-at.at bits.result mask.result after.result c.starts-found.result (omega arith) c.loop-at.invariant.1.1 bits.ensures mask.ensures after.ensures c.starts-found.ensures
    n few (zeros_below 32 c.starts-found.result)))

pub overflow_add-at-in-loop-at : goal.overflow_add-at-in-loop-at
overflow_add-at-in-loop-at c = in_32_bits (search rules)

pub pass-at-requires-in-loop-at : goal.pass-at-requires-in-loop-at
pass-at-requires-in-loop-at c =
    let more = word_inside _ _ c.args.table.now.is_table (c.blocks-n.ensures) c.loop-at-test.true in
    (omega (arith, more), c.requires.1)

pub loop-at-smaller : goal.loop-at-smaller
loop-at-smaller c =
    let more = word_inside _ _ c.args.table.now.is_table (c.blocks-n.ensures) c.loop-at-test.true in
    omega (arith, more, c.pass-at-in-loop-at.ensures.0)

pub loop-at-preserved : goal.loop-at-preserved
loop-at-preserved c =
    let es = entries_of c.args.table.now in
    let first = c.index-first.result in
    let bits = c.free_or_end in
    let mask = c.bits_from in
    let after = c.free_or_end-in-loop-at in
    let p = c.pass-at-in-loop-at in
    let none = none_here es c.args.count first c.loop-at.at bits.result mask.result after.result c.starts-found.result (omega arith) c.loop-at.invariant.1.1 bits.ensures mask.ensures after.ensures c.starts-found.ensures c.if-found-ne0.false in
    (p.ensures.1.0, (omega (arith, c.loop-at.invariant.1.0, p.ensures.0), no_start_join es c.args.count first (32 * (c.loop-at.at + 1)) (32 * p.result) none p.ensures.1.1))

pub returns : goal.returns
returns c =
    let long : c.blocks-n.result ≡ length (entries_of c.args.table.now) = c.blocks-n.ensures in
    let es = entries_of c.args.table.now in
    let k = c.index-first in
    let e : c.plus-2.result.0 ≡ length es = omega (arith, c.plus-2.ensures, c.first-2.ensures, long) in
    subst (λ (x : ℕ). Next es c.args.count x c.plus-2.result.0) k.ensures
    (rw e
    (end_next es c.args.count k.result c.loop-at.at (omega (arith, k.ensures, c.requires.0)) (omega (arith, long, c.loop-at-test.false)) c.loop-at.invariant.1.1))
