-- Where large objects start, call by call from the promises: an object of the heap that a call leaves is the one that it placed or gave more blocks, which is
-- aligned, or was there before.
-- Assumes nothing.
use mathlib.Core.Path.{◌≡◌, sym, ◌∙◌}
use mathlib.Core.Logic.{◌≢◌, ◌⊎◌, inl, inr, ⊎_elim}
use mathlib.Core.List.{List}
use Prim.Native.Nat.{ℕ, ◌+◌, ◌-◌, ◌≤◌, ◌<◌}
use native.Mathlib.Decide.{ℕ_discrete, dec_lt}
use native.Mathlib.Omega.{arith}
use Rattle.rules.specs.Entries.{HEAD}
use Rattle.rules.specs.Tables.{entry_at, block_count}
use Rattle.laws.specs.Meaning.{Aligned, Accepted}
use Rattle.rules.specs.Outcomes.{Heap}
use Rattle.laws.specs.Faithful.{Small}
use Rattle.rules.specs.Calls.{blocks_for, allocate, free, reallocate, collect}
use Rattle.laws.proofs.Refusals.{named_resize}
use Rattle.laws.proofs.Tables.{entry_inside, extent_of}
use Rattle.keeping.proofs.Owners.{reachable_head}
use Rattle.keeping.proofs.Collections.{collect_keeps, collect_well}
use Rattle.promises.specs.Promises.{Object, blocks_of, Among, Same, Allocated, Freed, Reallocated}
use Rattle.promises.specs.Alignment.{Older, NewAligned}
use Rattle.promises.proofs.Checked.{reallocate_checked, no_refusal}
use Rattle.promises.proofs.Promised.{promises}

-- ---- aligned and older

pub fewer_aligned : (b c s : ℕ) → c ≤ b → Aligned b s → Aligned c s
fewer_aligned b c s h (inl few) = inl (omega arith)
fewer_aligned b c s h (inr front) = inr front

-- an object that is as it was
same_older : {before after : Heap} {o : ℕ} → Object before o → Same before after o → Older before after o
same_older head s = record { head = head; blocks = omega (arith, s.blocks) }

-- the table is as it was
pub same_table : (before after : Heap) → after.entries ≡ before.entries → NewAligned before after
same_table before after e o head = inr (record { head = rw e at head; blocks = rw e (omega arith) })

-- what is new after two calls was new after the first, or is after the second
pub two_calls : (h h'' h''' : Heap) → NewAligned h h'' → NewAligned h'' h''' → NewAligned h h'''
two_calls h h'' h''' first second o head = ⊎_elim inl later (second o head)
  where
    later : Older h'' h''' o → Aligned (blocks_of h''' o) o ⊎ Older h h''' o
    later p =
        ⊎_elim
        (λ placed. inl (fewer_aligned (blocks_of h'' o) (blocks_of h''' o) o p.blocks placed))
        (λ older. inr (record { head = older.head; blocks = omega (arith, p.blocks, older.blocks) }))
        (first o p.head)

-- ---- each call

among : (s b i : ℕ) → Dec (Among s b i)
among s b i = go (dec_lt i s) (dec_lt i (s + b))
  where
    go : Dec (i < s) → Dec (i < s + b) → Dec (Among s b i)
    go (yes l) _ = no (λ a. omega (arith, a.0))
    go (no l) (yes h) = yes (omega arith, h)
    go (no l) (no h) = no (λ a. h a.1)

-- of an object's blocks only the first is a head
one_head : (es : List ℕ) (s b o : ℕ) → entry_at es s ≡ HEAD → block_count es s ≡ b → Among s b o → o ≢ s → entry_at es o ≡ HEAD → ⊥
one_head es s b o first count a other head =
    let e : s + (o - s) ≡ o = omega (arith, a.0) in
    let t = (extent_of es s (entry_inside es s (λ f. omega arith))).tail (o - s) (omega (arith, a.0)) (omega (arith, a.1)) in
    omega (arith, rw e at t)

count_some : (es : List ℕ) (k : ℕ) → 0 < block_count es k
unfolding block_count
count_some es k = omega arith

module _ (base : ℕ) (h : Heap) where
  -- an accepted reallocate names an object
  reallocate_head : (k bytes : ℕ) → Accepted (reallocate base h k bytes) → Object h k
  reallocate_head k bytes accepted = (named_resize base h k bytes _ (no_refusal (reallocate_checked base h k bytes) accepted)).1.head

  pub new_allocated : (bytes : ℕ) → Accepted (allocate base h bytes) → NewAligned h (allocate base h bytes).heap
  new_allocated bytes accepted o head = go (ℕ_discrete o s) (among s (blocks_for bytes) o)
    where
      after : Heap
      after = (allocate base h bytes).heap

      s : ℕ
      s = (allocate base h bytes).answer.block

      p : Allocated base h (blocks_for bytes) (allocate base h bytes)
      p = promises.allocated base h bytes accepted

      go : Dec (o ≡ s) → Dec (Among s (blocks_for bytes) o) → Aligned (blocks_of after o) o ⊎ Older h after o
      go (yes e) _ = inl (rw (e, p.blocks) p.aligned)
      go (no other) (yes a) = absurd (one_head after.entries s (blocks_for bytes) o p.head p.blocks a other head)
      go (no other) (no out) = let was = sym (p.entries o out) ∙ head in inr (same_older was (p.others o was))

  pub new_freed : (k : ℕ) → Accepted (free base h k) → NewAligned h (free base h k).heap
  new_freed k accepted o head = go (among k (blocks_of h k) o)
    where
      p : Freed base h k (free base h k)
      p = promises.freed base h k accepted

      go : Dec (Among k (blocks_of h k) o) → Aligned (blocks_of (free base h k).heap o) o ⊎ Older h (free base h k).heap o
      go (yes a) = absurd (omega (arith, p.free o a))
      go (no out) =
          let was = sym (p.entries o out) ∙ head in
          inr (same_older was (p.others o was (λ e. out (omega arith, omega (arith, count_some h.entries k)))))

  pub new_reallocated : (k bytes : ℕ) → Accepted (reallocate base h k bytes) → NewAligned h (reallocate base h k bytes).heap
  new_reallocated k bytes accepted o head = go (ℕ_discrete o s) (among s (blocks_for bytes) o) (among k (blocks_of h k) o)
    where
      after : Heap
      after = (reallocate base h k bytes).heap

      s : ℕ
      s = (reallocate base h k bytes).answer.block

      p : Reallocated base h k (blocks_for bytes) (reallocate base h k bytes)
      p = promises.reallocated base h k bytes accepted

      -- with more blocks it is aligned, with as many or fewer it was there
      placed : Dec (blocks_of h k < blocks_for bytes) → Aligned (blocks_of after s) s ⊎ Older h after s
      placed (yes more) = inl (rw p.blocks (p.aligned more))
      placed (no less) =
          let e : s ≡ k = p.in_place (inl (omega arith)) in
          inr (record { head = rw e (reallocate_head k bytes accepted); blocks = rw (p.blocks, e) (omega arith) })

      go : Dec (o ≡ s) → Dec (Among s (blocks_for bytes) o) → Dec (Among k (blocks_of h k) o) → Aligned (blocks_of after o) o ⊎ Older h after o
      go (yes e) _ _ = rw e (placed (dec_lt (blocks_of h k) (blocks_for bytes)))
      go (no other) (yes a) _ = absurd (one_head after.entries s (blocks_for bytes) o p.head p.blocks a other head)
      go (no other) (no out) (yes a) = absurd (omega (arith, p.free o a out))
      go (no other) (no out) (no past) =
          let was = sym (p.entries o past out) ∙ head in
          inr (same_older was (p.others o was (λ e. past (omega arith, omega (arith, count_some h.entries k)))))

  pub new_collected : (roots stack : List ℕ) → Small h.entries → Accepted (collect base h roots stack) → NewAligned h (collect base h roots stack).heap
  new_collected roots stack small accepted o head =
      let keeps = (collect_keeps base h roots stack accepted small).table in
      let reached = keeps.only o head in
      inr (record { head = reachable_head base h _ (collect_well base h roots stack accepted) o reached; blocks = omega (arith, keeps.count o reached) })
