-- A table is swept from its front on: what is known at the start, after some bytes more, and at the end.
-- Assumes nothing.
use Rattle.std.proofs.Common.{◌≡◌, ℕ, suc, ◌+◌, ◌-◌, ◌*◌, ◌<◌, ◌≤◌, Bool, true, false, eqb, List, sym, refl, ◌∙◌, arith}
use native.Mathlib.Decide.{dec_lt}
use Rattle.rules.specs.Tests.{pick}
use Rattle.rules.specs.Bits.{bit_of}
use Rattle.rules.specs.Tables.{entry_at}
use Rattle.rules.specs.Marking.{freeing_at, sweep}
use Rattle.rules.specs.Planes.{plane_bytes, entry_in, entries_in, spare_free, Sized, Holds}
use Rattle.laws.proofs.Marking.{sweep_length}
use Rattle.laws.proofs.Swept.{freeing_on, freeing_same, swept_at}
use Rattle.laws.proofs.Planes.{length_entries_in, entry_clean, holds_of}
use Rattle.entries.specs.Groups.{lane}
use Rattle.whole.specs.Sweeps.{SweptBits, SweptTo}

-- nothing is swept at first, and TAILs are kept
pub swept_start : (t : ℕ) (table : List ℕ) → spare_free t table ≡ true → SweptTo t (entries_in t table) table 0 1
unfolding freeing_at
swept_start t table clean = record {
  done = λ k h. absurd (omega arith);
  left = λ k g h. sym (entry_clean t table clean k h);
  keeps = refl;
}

-- in the end all is
pub swept_end : (t : ℕ) (old table : List ℕ) (keeping : ℕ) → Sized t table → SweptTo t (entries_in t old) table (plane_bytes t) keeping → Holds t (sweep (entries_in t old)) table
unfolding sweep
swept_end t old table keeping sized s =
    holds_of t (sweep (entries_in t old)) table sized (sweep_length false (entries_in t old) ∙ length_entries_in t old) s.done

keeping_none : (f : Bool) → eqb (pick f 0 1) 0 ≡ f
keeping_none true = refl
keeping_none false = refl

-- n bytes of each plane are swept from byte `at` on
pub record Step (t : ℕ) (before after : List ℕ) (at n low high low' high' : ℕ) : Type 0 where
  pub some : 0 < n
  pub few : n ≤ 4
  pub room : at + n ≤ plane_bytes t
  -- the entries in them, before and after
  pub was : (j : ℕ) → j < 8 * n → entry_in t before (8 * at + j) ≡ lane low high j
  pub is : (j : ℕ) → j < 8 * n → entry_in t after (8 * at + j) ≡ lane low' high' j
  -- the others stay
  pub rest : (k : ℕ) → k < 8 * plane_bytes t → (8 * at ≤ k → k < 8 * at + 8 * n → ⊥) → entry_in t after k ≡ entry_in t before k

module _ (t : ℕ) (es before after : List ℕ) (at n keeping low high low' high' kept : ℕ) (step : Step t before after at n low high low' high') (bits : SweptBits low high keeping low' high' kept) (s : SweptTo t es before at keeping) where
  -- the entries before the step are those of the list
  was_here : (j : ℕ) → j < 8 * n → entry_at es (8 * at + j) ≡ lane low high j
  was_here j h = sym (s.left (8 * at + j) (omega arith) (omega (arith, step.room))) ∙ step.was j h

  freeing_here : (j : ℕ) → j ≤ 8 * n → freeing_at false (entry_at es) (8 * at + j) ≡ freeing_at (eqb keeping 0) (lane low high) j
  freeing_here j h =
      let e : eqb keeping 0 ≡ freeing_at false (entry_at es) (8 * at) = rw s.keeps (keeping_none (freeing_at false (entry_at es) (8 * at))) in
      rw e
      (freeing_on false (entry_at es) (8 * at) j
      ∙ freeing_same (freeing_at false (entry_at es) (8 * at)) (λ (i : ℕ). entry_at es (8 * at + i)) (lane low high) j (λ i l. was_here i (omega arith)))

  swept_here : (j : ℕ) → j < 8 * n → entry_in t after (8 * at + j) ≡ entry_at (sweep es) (8 * at + j)
  swept_here j h =
      step.is j h
      ∙ bits.entry j (omega (arith, step.few))
      ∙ sym (rw (swept_at es (8 * at + j), freeing_here j (omega arith), was_here j h))

  pub swept_on : (keeping' : ℕ) → keeping' ≡ bit_of kept (8 * n - 1) → SweptTo t es after (at + n) keeping'
  swept_on keeping' e = record {
    done = λ k h. done k h (dec_lt k (8 * at));
    left = λ k g h. step.rest k h (λ a b. omega arith) ∙ s.left k (omega arith) h;
    keeps = keeps;
  }
    where
      done : (k : ℕ) → k < 8 * (at + n) → Dec (k < 8 * at) → entry_in t after k ≡ entry_at (sweep es) k
      done k h (yes l) = step.rest k (omega (arith, step.room)) (λ a b. omega arith) ∙ s.done k l
      done k h (no l) =
          let q : 8 * at + (k - 8 * at) ≡ k = omega arith in
          rw q at (swept_here (k - 8 * at) (omega arith))

      keeps : keeping' ≡ pick (freeing_at false (entry_at es) (8 * (at + n))) 0 1
      keeps =
          let q : 8 * (at + n) ≡ 8 * at + 8 * n = omega arith in
          let r : suc (8 * n - 1) ≡ 8 * n = omega (arith, step.some) in
          rw (q, freeing_here (8 * n) (omega arith)) (e ∙ rw r at (bits.after (8 * n - 1) (omega (arith, step.some, step.few))))
