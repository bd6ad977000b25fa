-- An accepted allocate: the new object, its bytes, and all else as before.
-- Assumes nothing.
use mathlib.Core.Path.{◌≡◌, refl, ◌∙◌}
use mathlib.Core.Logic.{⊎_elim}
use mathlib.Core.Bool.{false}
use mathlib.Core.List.{List, []}
use mathlib.Core.Option.{Option, some, none}
use Prim.Native.Nat.{ℕ, ◌+◌, ◌*◌, ◌≤◌, ◌<◌}
use native.Mathlib.Omega.{arith}
use lib.ListN.{length}
use borrow.Author.Tests.{eqb-false}
use Rattle.rules.specs.Tests.{is_none, or_else}
use Rattle.rules.specs.Tables.{block_count, first_fit}
use Rattle.laws.specs.Meaning.{Run, Fits, Lowest, Extent, Passed, Accepted}
use Rattle.rules.specs.Outcomes.{Heap}
use Rattle.rules.specs.Refusals.{no_bytes, no_room}
use Rattle.rules.specs.Calls.{taken, placing, blocks_for, allocate}
use Rattle.laws.proofs.Refusals.{passed, passes, asks, true_not_false, first_none, first_last, own_tests}
use Rattle.laws.proofs.Tables.{entry_inside, extent_of, run_apart, first_lowest}
use Rattle.laws.proofs.Changes.{placed_length, placed_head, placed_tail, placed_out, placed_well, placed_count, placed_apart, placed_other}
use Rattle.laws.proofs.Pools.{cleared_length, cleared_in, cleared_out}
use Rattle.laws.proofs.Calls.{blocks_some, allocate_change}
use Rattle.promises.specs.Promises.{Object, Same, Allocated}
use Rattle.promises.proofs.Checked.{start_of, allocate_checked, number, no_refusal, acts}
use Rattle.promises.proofs.Counting.{counts_of, shape_kept}

-- b blocks are taken at the lowest start where they fit
module _ (base : ℕ) (h : Heap) (s b : ℕ) (good : Passed base h) (some_block : 0 < b) (low : Lowest h.entries b (some s)) where
  abbrev es : List ℕ
  es = h.entries

  fit : Fits es b s
  unfolding Lowest
  fit = low.0

  run : Run es b s
  run = fit.run

  -- the blocks have their bytes in the pool
  taken_inside : 16 * (s + b) ≤ length h.pool
  taken_inside = omega (arith, run.room, good.shape.pool)

  -- another object has no block and no byte among those taken
  taken_others : (o : ℕ) → Object h o → Same h (taken h s b) o
  unfolding taken
  taken_others o head =
      let x : Extent es o (block_count es o) = extent_of es o (entry_inside es o (λ f. omega arith)) in
      let apart = run_apart es o (block_count es o) s b x some_block run head in
      record {
        head = placed_out es s b o some_block (placed_apart es s b some_block run o head) ∙ head;
        blocks = placed_other es s b some_block run o head;
        bytes = λ i l. cleared_out h.pool s b (16 * o + i) (λ p q. ⊎_elim (λ left. omega arith) (λ right. omega arith) apart);
      }

  taken_good : Passed base (taken h s b)
  unfolding taken
  taken_good = record {
    shape = shape_kept base h (taken h s b) (cleared_length h.pool s b) (placed_length es s b) good.shape;
    well = placed_well es s b good.well some_block run.room;
  }

  taken_allocated : Allocated base h b (placing h s (taken h s b))
  unfolding taken placing
  taken_allocated = record {
    start = low;
    aligned = fit.aligned;
    head = placed_head es s b some_block run.room;
    tail = λ j l r. placed_tail es s b j run.room l r;
    blocks = placed_count es s b some_block run good.well;
    zero = λ i l. cleared_in h.pool s b i taken_inside l;
    entries = λ i out. placed_out es s b i some_block (λ p q. out (p, q));
    bytes = λ i out. cleared_out h.pool s b i (λ p q. out (p, q));
    others = taken_others;
    change = allocate_change es s b some_block run;
    counts = counts_of base h (placing h s (taken h s b)) good.shape (placed_length es s b) refl;
    good = taken_good;
  }

-- what an accepted allocate knows
module _ (base : ℕ) (h : Heap) (bytes : ℕ) where
  found : (o : Option ℕ) → is_none o ≡ false → Lowest h.entries (blocks_for bytes) o → Lowest h.entries (blocks_for bytes) (some (or_else o 0))
  found none e low = absurd (true_not_false refl e)
  found (some s) e low = low

  pub allocated : Accepted (allocate base h bytes) → Allocated base h (blocks_for bytes) (allocate base h bytes)
  allocated accepted =
      let e = no_refusal (allocate_checked base h bytes) accepted in
      let c = first_none (no_bytes bytes) _ (omega arith) (own_tests base h _ e) in
      let d = first_none (no_room (is_none (first_fit h.entries (blocks_for bytes)))) [] (omega arith) c.1 in
      let some_block : 0 < blocks_for bytes = blocks_some bytes (omega (arith, eqb-false bytes 0 c.0)) in
      rw (acts (allocate_checked base h bytes) accepted)
      (taken_allocated base h (start_of h bytes) (blocks_for bytes) (passed base h _ e) some_block
      (found (first_fit h.entries (blocks_for bytes)) d.0 (first_lowest h.entries (blocks_for bytes) some_block)))

  -- where the blocks fit somewhere, allocate is accepted
  fits_some : (o : Option ℕ) (s : ℕ) → Fits h.entries (blocks_for bytes) s → Lowest h.entries (blocks_for bytes) o → is_none o ≡ false
  unfolding Lowest
  fits_some none s f low = absurd (low s f)
  fits_some (some q) s f low = refl

  pub room_for : (s : ℕ) → Passed base h → 0 < bytes → Fits h.entries (blocks_for bytes) s → Accepted (allocate base h bytes)
  room_for s good more f =
      number (allocate_checked base h bytes)
      ∙ passes base h _ good
      ∙ asks bytes _ more
      ∙ first_last (no_room (is_none (first_fit h.entries (blocks_for bytes))))
      (fits_some (first_fit h.entries (blocks_for bytes)) s f (first_lowest h.entries (blocks_for bytes) (blocks_some bytes more)))
