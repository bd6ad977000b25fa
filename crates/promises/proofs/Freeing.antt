-- An accepted free: the object's blocks are FREE, all else is as before, and there is room for as many blocks again where they are aligned.
-- Assumes nothing.
use mathlib.Core.Path.{◌≡◌, refl, ◌∙◌}
use mathlib.Core.Logic.{◌≢◌}
use mathlib.Core.List.{List, []}
use Prim.Native.Nat.{ℕ, ◌+◌, ◌-◌}
use native.Mathlib.Omega.{arith}
use Rattle.rules.specs.Tables.{block_count}
use Rattle.laws.specs.Meaning.{Run, Extent, Passed, Named, Accepted}
use Rattle.rules.specs.Outcomes.{Heap}
use Rattle.rules.specs.Calls.{freed as freed_heap, placing, blocks_for, free}
use Rattle.laws.proofs.Refusals.{passed, named_object}
use Rattle.laws.proofs.Tables.{extent_of, run_shorter}
use Rattle.laws.proofs.Changes.{released_length, released_in, released_out, freed_well, freed_apart, freed_other}
use Rattle.laws.proofs.Calls.{free_change}
use Rattle.promises.specs.Promises.{Object, Same, Freed}
use Rattle.promises.proofs.Checked.{free_checked, no_refusal, acts}
use Rattle.promises.proofs.Counting.{counts_of, shape_kept}
use Rattle.promises.proofs.Allocating.{room_for}

module _ (base : ℕ) (h : Heap) (k : ℕ) (good : Passed base h) (object : Named h k) where
  abbrev es : List ℕ
  es = h.entries

  abbrev b : ℕ
  b = block_count es k

  extent : Extent es k b
  extent = extent_of es k object.inside

  freed_others : (o : ℕ) → Object h o → o ≢ k → Same h (freed_heap h k) o
  unfolding freed_heap
  freed_others o head other = record {
    head = released_out es k b o (freed_apart es k object.head o head other) ∙ head;
    blocks = freed_other es k object.head o head other;
    bytes = λ i l. refl;
  }

  freed_good : Passed base (freed_heap h k)
  unfolding freed_heap
  freed_good = record {
    shape = shape_kept base h (freed_heap h k) refl (released_length es k b) good.shape;
    well = freed_well es k object.head good.well;
  }

  -- the blocks given back are a run
  freed_run : Run (freed_heap h k).entries b k
  unfolding freed_heap
  freed_run = record {
    room = omega (arith, extent.room, released_length es k b);
    free = λ j l. released_in es k b j extent.room l;
  }

  freed_freed : Freed base h k (placing h 0 (freed_heap h k))
  unfolding freed_heap placing
  freed_freed = record {
    free = λ i among. let e : k + (i - k) ≡ i = omega (arith, among.0) in rw e at (released_in es k b (i - k) extent.room (omega (arith, among.1)));
    entries = λ i out. released_out es k b i (λ p q. out (p, q));
    bytes = refl;
    others = freed_others;
    change = free_change es k object.head;
    counts = counts_of base h (placing h 0 (freed_heap h k)) good.shape (released_length es k b) refl;
    good = freed_good;
    room = λ bytes more fewer aligned. room_for base (freed_heap h k) bytes k freed_good more (record { aligned = aligned; run = run_shorter (freed_heap h k).entries b (blocks_for bytes) k fewer freed_run });
  }

pub freed : (base : ℕ) (h : Heap) (k : ℕ) → Accepted (free base h k) → Freed base h k (free base h k)
freed base h k accepted =
    let e = no_refusal (free_checked base h k) accepted in
    rw (acts (free_checked base h k) accepted) (freed_freed base h k (passed base h _ e) (named_object base h k [] e))
