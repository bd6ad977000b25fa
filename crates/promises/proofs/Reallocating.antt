-- An accepted reallocate, by the four ways that it can go: the object has its new blocks, the bytes that both reach are kept, and all else is as before.
-- Assumes nothing.
use mathlib.Core.Path.{◌≡◌, refl, sym, ◌∙◌}
use mathlib.Core.Logic.{◌≢◌, ⊎_elim}
use mathlib.Core.Bool.{false}
use mathlib.Core.List.{List, []}
use mathlib.Core.Option.{some}
use Prim.Native.Nat.{ℕ, ◌+◌, ◌-◌, ◌*◌, ◌≤◌, ◌<◌}
use native.Mathlib.Omega.{arith}
use lib.ListN.{length}
use borrow.Author.Tests.{eqb-false}
use Rattle.rules.specs.Tables.{block_count, used, placed, released}
use Rattle.laws.specs.Meaning.{Run, Fits, Lowest, GrowsInPlace, Extent, Passed, Named, Accepted}
use Rattle.rules.specs.Outcomes.{Heap, change_from}
use Rattle.rules.specs.Refusals.{no_bytes, outside, no_head, no_room}
use Rattle.rules.specs.Calls.{Way, stay, shrink, grow, move, no_way, is_no_way, along, shrunk, grown, moved, placing, blocks_for, reallocate, way_of}
use Rattle.laws.proofs.Refusals.{passed, named, true_not_false, first_none, first_rest, own_tests}
use Rattle.laws.proofs.Tables.{entry_inside, extent_of, run_apart}
use Rattle.laws.proofs.Changes.{placed_length, placed_out, placed_apart, released_length, released_in, released_out, extended_length, extended_out, freed_apart, shrunk_well, shrunk_count, shrunk_other, grown_well, grown_count, grown_apart, grown_other, moved_well, moved_head, moved_count, moved_other}
use Rattle.laws.proofs.Pools.{cleared_length, cleared_in, cleared_out, moved_length, moved_out, moved_kept, moved_zero}
use Rattle.laws.proofs.Calls.{Ways, stays, shrinks, grows, moves, way_says, blocks_some, sub_same, shrink_change, grow_change, move_change}
use Rattle.promises.specs.Promises.{Object, Same, Reallocated}
use Rattle.promises.proofs.Checked.{reallocate_checked, no_refusal, acts}
use Rattle.promises.proofs.Counting.{counts_of, shape_kept}

module _ (base : ℕ) (h : Heap) (k c : ℕ) (good : Passed base h) (object : Named h k) (some_block : 0 < c) where
  abbrev es : List ℕ
  es = h.entries

  abbrev b : ℕ
  b = block_count es k

  extent : Extent es k b
  extent = extent_of es k object.inside

  old_inside : 16 * (k + b) ≤ length h.pool
  old_inside = omega (arith, extent.room, good.shape.pool)

  -- ---- as many blocks

  stayed : c ≡ b → Reallocated base h k c (placing h k h)
  unfolding placing change_from
  stayed e = record {
    equal = λ _. refl;
    in_place = λ _. refl;
    elsewhere = λ less full. absurd (omega arith);
    aligned = λ less. absurd (omega arith);
    head = object.head;
    blocks = sym e;
    kept = λ i l r. refl;
    zero = λ i l r. absurd (omega arith);
    free = λ i among out. absurd (out (among.0, omega (arith, among.1)));
    entries = λ i out out'. refl;
    bytes = λ i out. refl;
    others = λ o head other. record { head = head; blocks = refl; bytes = λ i l. refl };
    change = sub_same (used es) (used es) c b (omega arith);
    counts = counts_of base h (placing h k h) good.shape refl refl;
    good = good;
  }

  -- ---- fewer blocks

  module _ (fewer : c < b) where
    shrunk_others : (o : ℕ) → Object h o → o ≢ k → Same h (shrunk h k b c) o
    unfolding shrunk
    shrunk_others o head other = record {
      head = released_out es (k + c) (b - c) o (λ p q. freed_apart es k object.head o head other (omega arith) (omega arith)) ∙ head;
      blocks = shrunk_other es k object.head c some_block (omega arith) o head other;
      bytes = λ i l. refl;
    }

    shrank : Reallocated base h k c (placing h k (shrunk h k b c))
    unfolding placing shrunk
    shrank = record {
      equal = λ e. absurd (omega arith);
      in_place = λ _. refl;
      elsewhere = λ less full. absurd (omega arith);
      aligned = λ more. absurd (omega arith);
      head = released_out es (k + c) (b - c) k (λ p q. omega arith) ∙ object.head;
      blocks = shrunk_count es k object.head c some_block (omega arith);
      kept = λ i l r. refl;
      zero = λ i l r. absurd (omega arith);
      free = λ i among out.
          let past : ¬ (i < k + c) = λ l. out (among.0, l) in
          let e : k + c + (i - (k + c)) ≡ i = omega arith in
          rw e at (released_in es (k + c) (b - c) (i - (k + c)) (omega (arith, extent.room)) (omega (arith, among.1)));
      entries = λ i out out'. released_out es (k + c) (b - c) i (λ p q. out (omega arith, omega arith));
      bytes = λ i out. refl;
      others = shrunk_others;
      change = shrink_change es k c object.head some_block (omega arith);
      counts = counts_of base h (placing h k (shrunk h k b c)) good.shape (released_length es (k + c) (b - c)) refl;
      good = record {
        shape = shape_kept base h (shrunk h k b c) refl (released_length es (k + c) (b - c)) good.shape;
        well = shrunk_well es k object.head c some_block (omega arith) good.well;
      };
    }

  -- ---- more blocks in place

  module _ (more : b < c) (grows : GrowsInPlace es k b c) where
    after : Run es (c - b) (k + b)
    after = grows.run

    grown_others : (o : ℕ) → Object h o → o ≢ k → Same h (grown h k b c) o
    unfolding grown
    grown_others o head other =
        let x = extent_of es o (entry_inside es o (λ f. omega arith)) in
        let apart = run_apart es o (block_count es o) (k + b) (c - b) x (omega arith) after head in
        record {
          head = extended_out es (k + b) (c - b) o (λ p q. grown_apart es k object.head (c - b) (omega arith) after o head other (omega arith) (omega arith)) ∙ head;
          blocks = grown_other es k object.head (c - b) (omega arith) after o head other;
          bytes = λ i l. cleared_out h.pool (k + b) (c - b) (16 * o + i) (λ p q. ⊎_elim (λ left. omega arith) (λ right. omega arith) apart);
        }

    grew : Reallocated base h k c (placing h k (grown h k b c))
    unfolding placing grown
    grew = record {
      equal = λ e. absurd (omega arith);
      in_place = λ _. refl;
      elsewhere = λ less full. absurd (full grows);
      aligned = λ less. grows.aligned;
      head = extended_out es (k + b) (c - b) k (λ p q. omega (arith, extent.some_block)) ∙ object.head;
      blocks = let e : b + (c - b) ≡ c = omega arith in grown_count es k object.head (c - b) (omega arith) after good.well ∙ e;
      kept = λ i l r. cleared_out h.pool (k + b) (c - b) (16 * k + i) (λ p q. omega arith);
      zero = λ i l r.
          let e : 16 * (k + b) + (i - 16 * b) ≡ 16 * k + i = omega arith in
          rw e at (cleared_in h.pool (k + b) (c - b) (i - 16 * b) (omega (arith, after.room, good.shape.pool)) (omega arith));
      free = λ i among out. absurd (out (among.0, omega (arith, among.1)));
      entries = λ i out out'. extended_out es (k + b) (c - b) i (λ p q. out' (omega arith, omega arith));
      bytes = λ i out. cleared_out h.pool (k + b) (c - b) i (λ p q. out (omega arith, omega arith));
      others = grown_others;
      change = grow_change es k b c (omega arith) after;
      counts = counts_of base h (placing h k (grown h k b c)) good.shape (extended_length es (k + b) (c - b)) refl;
      good = record {
        shape = shape_kept base h (grown h k b c) (cleared_length h.pool (k + b) (c - b)) (extended_length es (k + b) (c - b)) good.shape;
        well = grown_well es k object.head (c - b) (omega arith) after good.well;
      };
    }

  -- ---- more blocks elsewhere

  module _ (s : ℕ) (more : b < c) (full : ¬ GrowsInPlace es k b c) (low : Lowest es c (some s)) where
    fit : Fits es c s
    unfolding Lowest
    fit = low.0

    run : Run es c s
    run = fit.run

    new_inside : 16 * (s + c) ≤ length h.pool
    new_inside = omega (arith, run.room, good.shape.pool)

    same_length : length (released (placed es s c) k b) ≡ length es
    same_length = released_length (placed es s c) k b ∙ placed_length es s c

    moved_others : (o : ℕ) → Object h o → o ≢ k → Same h (moved h k b c s) o
    unfolding moved
    moved_others o head other =
        let x = extent_of es o (entry_inside es o (λ f. omega arith)) in
        let apart = run_apart es o (block_count es o) s c x some_block run head in
        record {
          head =
              released_out (placed es s c) k b o (freed_apart es k object.head o head other)
              ∙ placed_out es s c o some_block (placed_apart es s c some_block run o head)
              ∙ head;
          blocks = moved_other es k object.head c s some_block run o head other;
          bytes = λ i l. moved_out h k b c s old_inside (omega arith) (16 * o + i) (λ p q. ⊎_elim (λ left. omega arith) (λ right. omega arith) apart);
        }

    went : Reallocated base h k c (placing h s (moved h k b c s))
    unfolding placing moved
    went = record {
      equal = λ e. absurd (omega arith);
      in_place = λ why. ⊎_elim (λ less. absurd (omega arith)) (λ room. absurd (full room)) why;
      elsewhere = λ less _. low;
      aligned = λ less. fit.aligned;
      head = moved_head es k object.head c s some_block run;
      blocks = moved_count es k object.head c s some_block run good.well;
      kept = λ i l r. moved_kept h k b c s old_inside (omega arith) new_inside i l;
      zero = λ i l r. moved_zero h k b c s old_inside (omega arith) new_inside i l r;
      free = λ i among out.
          let e : k + (i - k) ≡ i = omega (arith, among.0) in
          rw e at (released_in (placed es s c) k b (i - k) (omega (arith, extent.room, placed_length es s c)) (omega (arith, among.1)));
      entries = λ i out out'. released_out (placed es s c) k b i (λ p q. out (p, q)) ∙ placed_out es s c i some_block (λ p q. out' (p, q));
      bytes = λ i out. moved_out h k b c s old_inside (omega arith) i (λ p q. out (p, q));
      others = moved_others;
      change = move_change es k c s object.head some_block run;
      counts = counts_of base h (placing h s (moved h k b c s)) good.shape same_length refl;
      good = record {
        shape = shape_kept base h (moved h k b c s) (moved_length h k b c s) same_length good.shape;
        well = moved_well es k object.head c s some_block run good.well;
      };
    }

  -- ---- each way

  goes : (w : Way) → Ways es k b c w → is_no_way w ≡ false → Reallocated base h k c (along w h k b c)
  unfolding along
  goes stay (stays e) _ = stayed e
  goes shrink (shrinks l) _ = shrank l
  goes grow (grows l g) _ = grew l g
  goes (move s) (moves l full low) _ = went s l full low
  goes no_way way e = absurd (true_not_false refl e)

pub reallocated : (base : ℕ) (h : Heap) (k bytes : ℕ) → Accepted (reallocate base h k bytes) → Reallocated base h k (blocks_for bytes) (reallocate base h k bytes)
reallocated base h k bytes accepted =
    let e = no_refusal (reallocate_checked base h k bytes) accepted in
    let a = first_none (no_bytes bytes) _ (omega arith) (own_tests base h _ e) in
    let e3 = first_rest (no_head h k) _ (omega arith) (first_rest (outside h k) _ (omega arith) a.1) in
    let c = first_none (no_room (is_no_way (way_of h k bytes))) [] (omega arith) e3 in
    let object = named h k _ a.1 in
    let some_block = blocks_some bytes (omega (arith, eqb-false bytes 0 a.0)) in
    rw (acts (reallocate_checked base h k bytes) accepted)
    (goes base h k (blocks_for bytes) (passed base h _ e) object some_block (way_of h k bytes)
    (way_says h.entries k (block_count h.entries k) (blocks_for bytes) (extent_of h.entries k object.inside).room some_block)
    c.0)
