-- How a plain list lies in a pool and a table: the objects one after the other, each a HEAD and its TAILs with its words in the pool, and FREE between them.
-- Assumes nothing.
use mathlib.Core.Path.{◌≡◌, refl}
use mathlib.Core.Logic.{◌≢◌}
use mathlib.Core.Bool.{true}
use mathlib.Core.List.{List, [], ◌∷◌}
use mathlib.Core.Option.{Option, some, none}
use Prim.Native.Nat.{ℕ, suc, ◌+◌, ◌-◌, ◌*◌, ◌≤◌, ◌<◌}
use native.Mathlib.Decide.{ℕ_discrete, dec_lt}
use native.Mathlib.Omega.{arith}
use lib.Dec.{eqb}
use lib.ListN.{length, get_or}
use borrow.Author.Tests.{eq-eqb, ne_eqb}
use Rattle.rules.specs.Tests.{pick}
use Rattle.rules.specs.Words.{word_at}
use Rattle.rules.specs.Entries.{FREE, HEAD, TAIL, MARK}
use Rattle.rules.specs.Tables.{entry_at, well_formed}
use Rattle.laws.specs.Meaning.{Extent}
use Rattle.laws.proofs.Tables.{entry_outside, well_of}
use Rattle.plain.specs.Objects.{Object, end, find}

-- the b blocks from s on hold these words
pub record Holds (pool : List ℕ) (s b : ℕ) (ws : List ℕ) : Type 0 where
  pub long : length ws ≡ 4 * b
  pub at : (i : ℕ) → i < 4 * b → get_or ws i 0 ≡ word_at pool (4 * s + i)

-- the blocks from a to before b are FREE
abbrev pub Clear : List ℕ → ℕ → ℕ → Type 0
Clear es a b = (k : ℕ) → a ≤ k → k < b → entry_at es k ≡ FREE

-- the object's blocks are a HEAD and TAILs, and hold its words
pub record Lies (pool es : List ℕ) (o : Object) : Type 0 where
  pub some_block : 0 < o.blocks
  pub head : entry_at es o.start ≡ HEAD
  pub tails : (k : ℕ) → o.start < k → k < end o → entry_at es k ≡ TAIL
  pub words : Holds pool o.start o.blocks o.words

-- from a block on there are these objects and nothing else
pub data Laid (pool es : List ℕ) : ℕ → List Object → Type 0 where
  done : {from : ℕ} → from ≤ length es → Clear es from (length es) → Laid pool es from []
  next : {from : ℕ} {o : Object} {os : List Object} → from ≤ o.start → Clear es from o.start → Lies pool es o → end o ≤ length es → Laid pool es (end o) os → Laid pool es from (o ∷ os)

-- what a block of a laid list can be
data Kind (es : List ℕ) (k : ℕ) : Type 0 where
  unused : entry_at es k ≡ FREE → Kind es k
  first : entry_at es k ≡ HEAD → Kind es k
  further : entry_at es k ≡ TAIL → (j : ℕ) → k ≡ suc j → entry_at es j ≢ FREE → Kind es k

module _ {pool es : List ℕ} where
  pub lies_used : {o : Object} → Lies pool es o → (k : ℕ) → o.start ≤ k → k < end o → entry_at es k ≢ FREE
  lies_used {o} y k l r = go (ℕ_discrete k o.start)
    where
      go : Dec (k ≡ o.start) → entry_at es k ≢ FREE
      go (yes e) = let h = y.head in λ f. omega (arith, rw e at f)
      go (no e) = let t = y.tails k (omega arith) r in λ f. omega arith

  pub laid_room : {from : ℕ} {os : List Object} → Laid pool es from os → from ≤ length es
  laid_room (done r g) = r
  laid_room (next l g y e r) = let b = y.some_block in omega arith

  -- the block at which a list begins is no TAIL
  pub laid_start : {from : ℕ} {os : List Object} → Laid pool es from os → entry_at es from ≢ TAIL
  laid_start {from} (done r g) = go (dec_lt from (length es))
    where
      go : Dec (from < length es) → entry_at es from ≢ TAIL
      go (yes l) = let f = g from (omega arith) l in λ t. omega arith
      go (no l) = let f = entry_outside es from (omega arith) in λ t. omega arith
  laid_start {from} (next {o = o} l g y e r) = go (ℕ_discrete from o.start)
    where
      go : Dec (from ≡ o.start) → entry_at es from ≢ TAIL
      go (yes e) = let h = y.head in λ t. omega (arith, rw e at t)
      go (no e) = let f = g from (omega arith) (omega arith) in λ t. omega arith

  pub lies_extent : {o : Object} {os : List Object} → Lies pool es o → Laid pool es (end o) os → Extent es o.start o.blocks
  lies_extent {o} y r = record {
    some_block = y.some_block;
    room = laid_room r;
    tail = λ j h l. y.tails (o.start + j) (omega arith) (omega arith);
    next = laid_start r;
  }

  -- ---- each block

  kind : {from : ℕ} {os : List Object} → Laid pool es from os → (k : ℕ) → from ≤ k → Kind es k
  kind (done r g) k h = go (dec_lt k (length es))
    where
      go : Dec (k < length es) → Kind es k
      go (yes l) = unused (g k h l)
      go (no l) = unused (entry_outside es k (omega arith))
  kind (next {o = o} l g y e r) k h = go (dec_lt k o.start) (ℕ_discrete k o.start) (dec_lt k (end o)) (kind r k)
    where
      go : Dec (k < o.start) → Dec (k ≡ o.start) → Dec (k < end o) → (end o ≤ k → Kind es k) → Kind es k
      go (yes p) _ _ rest = unused (g k h p)
      go (no p) (yes q) _ rest = first (rw q y.head)
      go (no p) (no q) (yes u) rest = further (y.tails k (omega arith) u) (k - 1) (omega arith) (lies_used y (k - 1) (omega arith) (omega arith))
      go (no p) (no q) (no u) rest = rest (omega arith)

  -- no block is MARK
  pub laid_unmarked : {os : List Object} → Laid pool es 0 os → (k : ℕ) → entry_at es k ≢ MARK
  laid_unmarked d k = go (kind d k (omega arith))
    where
      go : Kind es k → entry_at es k ≢ MARK
      go (unused e) = λ m. omega arith
      go (first e) = λ m. omega arith
      go (further e j q u) = λ m. omega arith

  -- the table is well-formed
  pub laid_well : {os : List Object} → Laid pool es 0 os → well_formed es ≡ true
  laid_well {os} d = well_of es (record {
    no_mark = λ k h. laid_unmarked d k;
    first = λ h. laid_start d;
    after = λ k h. after k (kind d (suc k) (omega arith));
  })
    where
      after : (k : ℕ) → Kind es (suc k) → entry_at es (suc k) ≡ TAIL → entry_at es k ≢ FREE
      after k (unused e) t = absurd (omega arith)
      after k (first e) t = absurd (omega arith)
      after k (further e j q u) t = let i : k ≡ j = omega arith in rw i u

  -- ---- the object that starts at a block

  pub find_below : {from : ℕ} {os : List Object} → Laid pool es from os → (k : ℕ) → k < from → find k os ≡ none
  unfolding find
  find_below (done r g) k h = refl
  find_below (next {o = o} l g y e r) k h = rw (ne_eqb o.start k (λ q. omega arith)) (find_below r k (omega arith))

-- what the search for an object finds
pub data Found (pool es : List ℕ) (k : ℕ) : Option Object → Type 0 where
  missing : entry_at es k ≢ HEAD → Found pool es k none
  there : (o : Object) → o.start ≡ k → Lies pool es o → Extent es k o.blocks → Found pool es k (some o)

module _ {pool es : List ℕ} where
  pub finds : {from : ℕ} {os : List Object} → Laid pool es from os → (k : ℕ) → from ≤ k → Found pool es k (find k os)
  unfolding find
  finds (done r g) k h = go (dec_lt k (length es))
    where
      go : Dec (k < length es) → Found pool es k none
      go (yes l) = let f = g k h l in missing (λ t. omega arith)
      go (no l) = let f = entry_outside es k (omega arith) in missing (λ t. omega arith)
  finds (next {o = o} {os = os} l g y e r) k h = go (ℕ_discrete o.start k) (dec_lt k o.start) (dec_lt k (end o)) (finds r k)
    where
      go : Dec (o.start ≡ k) → Dec (k < o.start) → Dec (k < end o) → (end o ≤ k → Found pool es k (find k os)) → Found pool es k (pick (eqb o.start k) (some o) (find k os))
      go (yes q) _ _ rest = rw (eq-eqb o.start k q) (there o q y (rw (← q) (lies_extent y r)))
      go (no q) (yes u) _ rest =
          let f = g k h u in
          let b = y.some_block in
          rw (ne_eqb o.start k q, find_below r k (omega arith)) (missing (λ t. omega arith))
      go (no q) (no u) (yes v) rest =
          let f = y.tails k (omega arith) v in
          rw (ne_eqb o.start k q, find_below r k v) (missing (λ t. omega arith))
      go (no q) (no u) (no v) rest = rw (ne_eqb o.start k q) (rest (omega arith))
