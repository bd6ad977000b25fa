-- Two frees of different objects, in either order: each leaves the other object as it was, and in the end the blocks of both are FREE and all else is as before.
-- Only the promises are used, not how free is defined.
-- Assumes nothing.
use mathlib.Core.Path.{◌≡◌, refl, sym, ap, ◌∙◌}
use mathlib.Core.Logic.{◌≢◌, inr}
use mathlib.Core.List.{List, []}
use Prim.Native.Nat.{ℕ, ◌+◌, ◌≤◌, ◌<◌}
use native.Mathlib.Decide.{dec_le, dec_lt}
use native.Mathlib.Omega.{arith}
use lib.IntN.{pos, neg_ℤ}
use lib.ListN.{get_or}
use Rattle.rules.specs.Entries.{FREE}
use Rattle.rules.specs.Tables.{entry_at}
use Rattle.laws.specs.Meaning.{Passed, Accepted}
use Rattle.rules.specs.Outcomes.{Heap, placed_at}
use Rattle.rules.specs.Calls.{free}
use Rattle.rules.specs.Runs.{Free, step}
use Rattle.laws.proofs.Tables.{entry_inside, well_says}
use Rattle.promises.specs.Conditions.{First, of_free}
use Rattle.promises.specs.Promises.{Object, blocks_of, Among, Same, Freed}
use Rattle.promises.specs.Determined.{Sized}
use Rattle.promises.proofs.Promised.{promises}
use Rattle.promises.proofs.Observed.{free_number, free_answer}
use Rattle.promises.proofs.Whole.{whole}

-- an object of a heap that is accepted can be freed
free_accepts : (base : ℕ) (h : Heap) (k : ℕ) → Passed base h → Object h k → Accepted (free base h k)
unfolding First of_free
free_accepts base h k good head =
    free_number base h k 0
    (inr (
      λ bad. bad good.shape,
      inr (
        λ bad. bad (well_says h.entries good.well),
        inr (λ out. omega (arith, entry_inside h.entries k (λ f. omega arith)), inr (λ other. other head, refl)),
      ),
    ))

-- whether block i is one of the b blocks from s on
among : (s b i : ℕ) → Dec (Among s b i)
among s b i = go (dec_le s i) (dec_lt i (s + b))
  where
    go : Dec (s ≤ i) → Dec (i < s + b) → Dec (Among s b i)
    go (yes l) (yes u) = yes (l, u)
    go (no l) u = no (λ a. l a.0)
    go (yes l) (no u) = no (λ a. u a.1)

-- two different objects of a heap that is accepted
pub record Two (base : ℕ) (h : Heap) (j k : ℕ) : Type 0 where
  pub good : Passed base h
  pub one : Object h j
  pub other : Object h k
  pub different : j ≢ k

pub swap : {base : ℕ} {h : Heap} {j k : ℕ} → Two base h j k → Two base h k j
swap t = record { good = t.good; one = t.other; other = t.one; different = λ e. t.different (sym e) }

-- the heap without the object j, and then without k
abbrev first : ℕ → Heap → ℕ → Heap
first base h j = (free base h j).heap

abbrev second : ℕ → Heap → ℕ → ℕ → Heap
second base h j k = (free base (first base h j) k).heap

module _ {base : ℕ} {h : Heap} {j k : ℕ} (t : Two base h j k) where
  pub first_accepted : Accepted (free base h j)
  first_accepted = free_accepts base h j t.good t.one

  first_freed : Freed base h j (free base h j)
  first_freed = promises.freed base h j first_accepted

  -- the other object is still there, as it was
  still : Same h (first base h j) k
  still = first_freed.others k t.other (swap t).different

  pub second_accepted : Accepted (free base (first base h j) k)
  second_accepted = free_accepts base (first base h j) k first_freed.good still.head

  second_freed : Freed base (first base h j) k (free base (first base h j) k)
  second_freed = promises.freed base (first base h j) k second_accepted

  -- the blocks of both are FREE
  gone : (i : ℕ) → Among k (blocks_of h k) i → entry_at (second base h j k).entries i ≡ FREE
  gone i a = second_freed.free i (rw still.blocks a)

  gone_before : (i : ℕ) → Among j (blocks_of h j) i → entry_at (second base h j k).entries i ≡ FREE
  gone_before i a = go (among k (blocks_of h k) i)
    where
      go : Dec (Among k (blocks_of h k) i) → entry_at (second base h j k).entries i ≡ FREE
      go (yes b) = gone i b
      go (no out) = second_freed.entries i (rw still.blocks out) ∙ first_freed.free i a

  -- every other block is as before, and every byte
  stays : (i : ℕ) → ¬ Among j (blocks_of h j) i → ¬ Among k (blocks_of h k) i → entry_at (second base h j k).entries i ≡ entry_at h.entries i
  stays i out-j out-k = second_freed.entries i (rw still.blocks out-k) ∙ first_freed.entries i out-j

  bytes_stay : (second base h j k).pool ≡ h.pool
  bytes_stay = second_freed.bytes ∙ first_freed.bytes

  sized : Sized h (free base (first base h j) k)
  unfolding step
  sized =
      let s = whole.sized (Free base j) [] h in
      let u = whole.sized (Free base k) [] (first base h j) in
      record { blocks = u.blocks ∙ s.blocks; bytes = u.bytes ∙ s.bytes }

-- a free answers what it would answer if it came first
pub answers_same : {base : ℕ} {h : Heap} {j k : ℕ} → Two base h j k → (free base (first base h j) k).answer ≡ (free base h k).answer
answers_same {base = base} {h = h} {j = j} {k = k} t =
    free_answer base (first base h j) k (second_accepted t)
    ∙ ap (λ (b : ℕ). placed_at 0 (neg_ℤ (pos b))) (still t).blocks
    ∙ sym (free_answer base h k (first_accepted (swap t)))

-- and both orders leave the same heap
pub heaps_same : {base : ℕ} {h : Heap} {j k : ℕ} → Two base h j k → second base h j k ≡ second base h k j
heaps_same {base = base} {h = h} {j = j} {k = k} t =
    whole.one_heap h (free base (first base h j) k) (free base (first base h k) j) (sized t) (sized (swap t))
    (record {
      entries = λ i. go i (among j (blocks_of h j) i) (among k (blocks_of h k) i);
      bytes = λ i. ap (λ (p : List ℕ). get_or p i 0) (bytes_stay t ∙ sym (bytes_stay (swap t)));
    })
  where
    go : (i : ℕ) → Dec (Among j (blocks_of h j) i) → Dec (Among k (blocks_of h k) i)
        → entry_at (second base h j k).entries i ≡ entry_at (second base h k j).entries i
    go i (yes a) d = gone_before t i a ∙ sym (gone (swap t) i a)
    go i (no x) (yes a) = gone t i a ∙ sym (gone_before (swap t) i a)
    go i (no x) (no y) = stays t i x y ∙ sym (stays (swap t) i y x)
