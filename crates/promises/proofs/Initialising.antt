-- An accepted init: every block is FREE.
-- Assumes nothing.
use mathlib.Core.Path.{◌≡◌, refl}
use mathlib.Core.List.{List, []}
use Prim.Native.Nat.{ℕ, zero, suc}
use native.Mathlib.Omega.{arith}
use lib.ListN.{length, replicate, length-replicate}
use Rattle.rules.specs.Entries.{FREE}
use Rattle.rules.specs.Tables.{entry_at, is_used, used}
use Rattle.rules.specs.Outcomes.{Heap}
use Rattle.rules.specs.Refusals.{good_shape, bad_shape}
use Rattle.rules.specs.Calls.{init}
use Rattle.laws.specs.Meaning.{Passed, Shape, Accepted}
use Rattle.laws.proofs.Lists.{count_none}
use Rattle.laws.proofs.Tables.{well_of}
use Rattle.laws.proofs.Refusals.{not-false, first_none, shape_true}
use Rattle.promises.specs.Promises.{Initialised}
use Rattle.promises.proofs.Checked.{init_checked, no_refusal, acts}
use Rattle.promises.proofs.Counting.{shape_kept}

pub all_free : (n i : ℕ) → entry_at (replicate n FREE) i ≡ FREE
all_free zero i = refl
all_free (suc n) zero = refl
all_free (suc n) (suc i) = all_free n i

module _ (base : ℕ) (h : Heap) where
  abbrev es : List ℕ
  es = replicate (length h.entries) FREE

  abbrev cleared : Heap
  cleared = record { pool = h.pool; entries = es }

  cleared_good : Shape base h → Passed base cleared
  cleared_good s =
      let free : (i : ℕ) → entry_at es i ≡ FREE = all_free (length h.entries) in
      record {
        shape = shape_kept base h cleared refl (length-replicate (length h.entries) FREE) s;
        well = well_of es (record {
          no_mark = λ k l e. omega (arith, free k);
          first = λ l e. omega (arith, free 0);
          after = λ k l e f. omega (arith, free (suc k));
        });
      }

  pub initialised : Accepted (init base h) → Initialised base h (init base h)
  unfolding used
  initialised accepted =
      let a = first_none (bad_shape (good_shape base h)) [] (omega arith) (no_refusal (init_checked base h) accepted) in
      rw (acts (init_checked base h) accepted)
      (record {
        free = all_free (length h.entries);
        none_used = count_none is_used (length h.entries) FREE refl;
        bytes = refl;
        good = cleared_good (shape_true base h (not-false (good_shape base h) a.0));
      })
