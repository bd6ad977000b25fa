-- `first_fit`: blocks may start nowhere before the start in hand, nor where they would hold a block that is not FREE, so the search may go on after that
-- block. The answer is the lowest start, and there is one lowest start.
-- Assumes nothing.
use mathlib.Core.Path.{◌≡◌, sym}
use mathlib.Core.Logic.{◌≢◌}
use mathlib.Core.Option.{some, none}
use mathlib.Core.List.{List}
use Prim.Native.Nat.{ℕ, ◌+◌, ◌-◌, ◌≤◌, ◌<◌}
use native.Mathlib.Decide.{dec_lt}
use native.Mathlib.Omega.{arith}
use lib.ListN.{length, get_or}
use borrow.Author.Rules.{rules}
use Rattle.rules.specs.Entries.{FREE, HEAD}
use Rattle.rules.specs.Tables.{entry_at, first_fit}
use Rattle.laws.specs.Meaning.{Run, Lowest}
use Rattle.laws.proofs.Planes.{few_entries}
use Rattle.laws.proofs.Tables.{first_is, none_first, run_shorter}
use Rattle.laws.proofs.Widths.{in_32_bits}
use Rattle.search.specs.Starts.{Next}
use Rattle.search.proofs.Searches.{next_join, none_over}
use Rattle.table.proofs.first_fit.Goals as goal

-- a run goes on with the FREE blocks after it
run_on : (es : List ℕ) (s i k f : ℕ) → Run es i s → k ≡ s + i → Run es f k → Run es (i + f) s
run_on es s i k f r e more = record { room = omega (arith, more.room); free = λ j h. go j h (dec_lt j i) }
  where
    go : (j : ℕ) → j < i + f → Dec (j < i) → entry_at es (s + j) ≡ FREE
    go j h (yes l) = r.free j l
    go j h (no l) = let q : k + (j - i) ≡ s + j = omega arith in rw q at (more.free (j - i) (omega arith))

module _ (es : List ℕ) (b s : ℕ) (start : Next es b 0 s) where
  -- the search goes on after the block that ends the run
  next_on : (i k r : ℕ) → i < b → get_or es (s + i) HEAD ≢ FREE → k ≡ s + (i + 1) → Next es b k r → Next es b 0 r
  next_on i k r h ends e more = next_join es b 0 k r (omega arith) (rw e (none_over es b s i start.none_before h ends)) more

  -- it ends where the blocks are FREE
  lowest : (i : ℕ) → 0 < b → b ≤ i → Run es i s → some s ≡ first_fit es b
  unfolding Lowest
  lowest i h l r =
      sym (first_is es b (some s) h (record { aligned = start.aligned (omega (arith, r.room)); run = run_shorter es i b s l r }, λ q l. start.none_before q (omega arith) l))

  -- or where too few are left
  nowhere : 0 < b → length es < s + b → none ≡ first_fit es b
  nowhere h few = sym (none_first es b h (λ q f. start.none_before q (omega arith) (omega (arith, f.run.room)) f))

pub next-start-requires : goal.next-start-requires
next-start-requires c = (omega arith, omega arith)

pub starts-init : goal.starts-init
starts-init c = rw (← c.first.ensures) c.next-start.ensures

pub until-requires : goal.until-requires
until-requires c = omega (arith, c.starts.invariant.inside, c.blocks-n.ensures)

pub loop-i-init : goal.loop-i-init
loop-i-init c = (search rules, record { room = omega (arith, c.starts.invariant.inside); free = λ j l. absurd (omega arith) })

pub plus-requires : goal.plus-requires
plus-requires c =
    omega (arith, c.blocks-n.ensures, few_entries _ _ c.args.table.now.is_table)

pub free_from-ahead-requires : goal.free_from-ahead-requires
free_from-ahead-requires c =
    omega (arith, c.blocks-n.ensures)

pub overflow_add-i : goal.overflow_add-i
overflow_add-i c =
    let longer = run_on _ _ _ _ _ c.loop-i.invariant.1 (omega arith) c.free_from-ahead.ensures.run in
    in_32_bits (record { fits = omega (arith, longer.room, few_entries _ _ c.args.table.now.is_table) })

pub overflow_add-i-then-i-count : goal.overflow_add-i-then-i-count
overflow_add-i-then-i-count c =
    let longer = run_on _ _ _ _ _ c.loop-i.invariant.1 (omega arith) c.free_from-ahead.ensures.run in
    in_32_bits (record { fits = omega (arith, longer.room, few_entries _ _ c.args.table.now.is_table) })

pub plus-requires-then-i-count : goal.plus-requires-then-i-count
plus-requires-then-i-count c =
    let longer = run_on _ _ _ _ _ c.loop-i.invariant.1 (omega arith) c.free_from-ahead.ensures.run in
    omega (arith, longer.room, c.loop-i.invariant.0, few_entries _ _ c.args.table.now.is_table)

pub next-start-requires-then-i-count : goal.next-start-requires-then-i-count
next-start-requires-then-i-count c =
    (omega (arith, c.if-i-count.true, c.blocks-n.ensures), omega arith)

pub starts-smaller : goal.starts-smaller
starts-smaller c =
    omega (arith, c.if-i-count.true, c.next-start-then-i-count.ensures.from, c.blocks-n.ensures)

pub starts-preserved : goal.starts-preserved
starts-preserved c =
    let block_is : c.plus.result.0 ≡ c.starts.start.0 + c.loop-i.i = omega arith in
    let at : c.plus.result.0 + c.free_from-ahead.result.free ≡ c.starts.start.0 + (c.loop-i.i + c.free_from-ahead.result.free) = omega (arith, block_is) in
    next_on _ _ _ c.starts.invariant (c.loop-i.i + c.free_from-ahead.result.free) _ _ c.if-i-count.true (rw at at (c.free_from-ahead.ensures.next c.if-ahead.true))
    (omega arith) c.next-start-then-i-count.ensures

pub loop-i-smaller-else-i-count : goal.loop-i-smaller-else-i-count
loop-i-smaller-else-i-count c = omega (arith, c.if-i-count.false, c.loop-i-test.true)

pub loop-i-preserved-else-i-count : goal.loop-i-preserved-else-i-count
loop-i-preserved-else-i-count c =
    let longer = run_on _ _ _ _ _ c.loop-i.invariant.1 (omega arith) c.free_from-ahead.ensures.run in
    (c.loop-i.invariant.0, longer)

pub loop-i-smaller : goal.loop-i-smaller
loop-i-smaller c = omega (arith, c.free_from-ahead.ensures.more c.if-ahead.false, c.loop-i-test.true)

pub loop-i-preserved : goal.loop-i-preserved
loop-i-preserved c =
    let longer = run_on _ _ _ _ _ c.loop-i.invariant.1 (omega arith) c.free_from-ahead.ensures.run in
    (c.loop-i.invariant.0, longer)

pub returns-in-starts : goal.returns-in-starts
returns-in-starts c =
    rw c.loop-i.invariant.0 (lowest _ _ _ c.starts.invariant _ c.requires c.loop-i-test.false c.loop-i.invariant.1)

pub returns : goal.returns
returns c =
    nowhere _ _ _ c.starts.invariant c.requires (omega (arith, c.blocks-n.ensures))
