-- An accepted collect: how the used blocks change, and what stays.
-- Assumes nothing.
use mathlib.Core.Path.{ap, ◌∙◌}
use mathlib.Core.List.{List}
use Prim.Native.Nat.{ℕ, ◌+◌, ◌*◌}
use lib.ListN.{length, get_or}
use Rattle.rules.specs.Outcomes.{Heap, Outcome}
use Rattle.rules.specs.Forms.{Form}
use Rattle.laws.specs.Faithful.{Faithful}
use Rattle.rules.specs.Memory.{Memory, heap_in}
use Rattle.rules.specs.Calls.{collect}
use Rattle.laws.specs.Meaning.{Shape, Accepted}
use Rattle.laws.proofs.Calls.{collect_change}
use Rattle.keeping.specs.Keeping.{Collected}
use Rattle.keeping.proofs.Collections.{collect_asks, keeps_exactly, collect_less}
use Rattle.promises.specs.Promises.{Reclaimed}
use Rattle.promises.proofs.Counting.{counts_of, shape_kept}

module _ (f : Form) (faithful : Faithful f) (base : ℕ) (m : Memory) (roots stack : List ℕ) (accepted : Accepted (collect base (heap_in f m) roots stack)) where
  abbrev h : Heap
  h = heap_in f m

  abbrev r : Outcome
  r = collect base h roots stack

  shape : Shape base h
  shape = (collect_asks base h roots stack accepted).passed.shape

  pub reclaimed : Reclaimed base h roots r
  reclaimed =
      let k : Collected base h roots stack r = keeps_exactly f faithful base m roots stack accepted in
      record {
        bytes = k.pool;
        others = λ o reach. record {
          head = k.table.kept o reach;
          blocks = k.table.count o reach;
          bytes = λ i l. ap (λ (bytes : List ℕ). get_or bytes (16 * o + i) 0) k.pool;
        };
        change = k.change ∙ collect_change h.entries r.heap.entries (collect_less base h roots stack accepted);
        fewer = collect_less base h roots stack accepted;
        counts = counts_of base h r shape k.table.long k.change;
        good = record {
          shape = shape_kept base h r.heap (ap length k.pool) k.table.long shape;
          well = k.table.proper.well;
        };
      }
