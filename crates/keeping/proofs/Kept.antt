-- A collection keeps exactly the reachable objects, whole, and nothing else.
-- Assumes nothing.
use mathlib.Core.Path.{◌≡◌, refl, sym, ◌∙◌}
use mathlib.Core.Logic.{◌≢◌, ⊎_elim}
use mathlib.Core.Bool.{Bool, true, false}
use mathlib.Core.List.{List}
use Prim.Native.Nat.{ℕ, suc, ◌+◌, ◌-◌, ◌<◌}
use native.Mathlib.Omega.{arith}
use lib.ListN.{length}
use Rattle.rules.specs.Entries.{FREE, HEAD, TAIL, MARK}
use Rattle.rules.specs.Tables.{entry_at, well_formed, block_count}
use Rattle.laws.specs.Meaning.{Extent}
use Rattle.rules.specs.Outcomes.{Heap}
use Rattle.rules.specs.Reach.{Reachable}
use Rattle.rules.specs.Marking.{freeing_at, sweep}
use Rattle.laws.proofs.Tables.{well_of, extent_of, count_is}
use Rattle.laws.proofs.Marking.{head_inside, mark_inside, sweep_length}
use Rattle.laws.proofs.Marks.{Marks, marks_count}
use Rattle.keeping.specs.Keeping.{marking, collected, Proper, Owns, Held, Keeps}
use Rattle.keeping.proofs.Sound.{Sound, sound}
use Rattle.keeping.proofs.Owners.{well_fresh, well_first, owns_cases, owns_used, Owned, owner}
use Rattle.keeping.proofs.Complete.{complete}
use Rattle.keeping.proofs.Swept.{Swept, kept, tail, freed, swept, swept_mark, swept_head, swept_tail, tail_kept, tail_freed}

module _ (base : ℕ) (h : Heap) (roots : List ℕ) (room : ℕ) (well : well_formed h.entries ≡ true) where
  -- the entries before, after the marking, and after the sweep
  abbrev old : List ℕ
  old = h.entries

  abbrev mid : List ℕ
  mid = (marking base h roots room).last.entries

  abbrev new : List ℕ
  new = collected base h roots room

  fresh : (k : ℕ) → entry_at old k ≢ MARK
  fresh = well_fresh old well

  end : Sound base h roots room (marking base h roots room).last
  end = sound base h roots room fresh

  marks : Marks old mid
  marks = end.marks

  -- a reachable object is MARK after the marking, and what is MARK was HEAD
  reached : (o : ℕ) → Reachable base h roots o → entry_at mid o ≡ MARK
  reached o r = complete base h roots room fresh o r

  was_head : (o : ℕ) → entry_at mid o ≡ MARK → entry_at old o ≡ HEAD
  was_head o m = ⊎_elim (λ q. absurd (fresh o (sym q ∙ m))) (λ q. q.0) (marks.at o)

  was_tail : (k : ℕ) → entry_at mid k ≡ TAIL → entry_at old k ≡ TAIL
  was_tail k t = ⊎_elim (λ q. sym q ∙ t) (λ q. absurd (omega arith)) (marks.at k)

  pub collected_length : length new ≡ length old
  unfolding collected sweep
  collected_length = sweep_length false mid ∙ marks.long

  pub collected_kept : (o : ℕ) → Reachable base h roots o → entry_at new o ≡ HEAD
  unfolding collected
  collected_kept o r = swept_mark mid o (reached o r)

  pub collected_only : (o : ℕ) → entry_at new o ≡ HEAD → Reachable base h roots o
  unfolding collected
  collected_only o q = end.reached o (swept_head mid o q)

  -- the object in the marked table
  extent : (o : ℕ) → entry_at mid o ≡ MARK → Extent mid o (block_count old o)
  extent o m = rw (marks_count old mid o marks) at (extent_of mid o (mark_inside mid o m))

  kept_tail : (o j : ℕ) → Reachable base h roots o → 0 < j → j < block_count old o → entry_at new (o + j) ≡ TAIL
  unfolding collected
  kept_tail o j r l u =
      let x = extent o (reached o r) in
      tail_kept mid o j (λ i p q. x.tail i p (omega arith)) l (reached o r)

  -- each block of a kept object is as it was
  pub collected_whole : (k : ℕ) → Held base h roots k → entry_at new k ≡ entry_at old k
  collected_whole k w =
      ⊎_elim
      (λ q. rw q (collected_kept w.object w.reachable ∙ sym w.owns.head))
      (λ q.
      let l = q.0 in
      let u = w.owns.to in
      let e : w.object + (k - w.object) ≡ k = omega arith in
      (rw e at (kept_tail w.object (k - w.object) w.reachable (omega arith) (omega arith))) ∙ sym q.1)
      (owns_cases old w.object k w.owns)

  -- and there are as many
  pub collected_count : (o : ℕ) → Reachable base h roots o → block_count new o ≡ block_count old o
  unfolding collected
  collected_count o r =
      let x = extent o (reached o r) in
      let l = marks.long in
      let m = collected_length in
      count_is new o (block_count old o)
      (record {
        some_block = x.some_block;
        room = omega (arith, x.room);
        tail = λ j l u. kept_tail o j r l u;
        next = λ t. x.next (swept_tail mid (o + block_count old o) t).0;
      })

  -- an entry is FREE or as it was, so the collection uses no new block
  pub collected_used : (k : ℕ) → entry_at new k ≢ FREE → entry_at new k ≡ entry_at old k
  unfolding collected
  collected_used k n = go (swept mid k) n
    where
      go : {e : ℕ} → Swept (freeing_at false (entry_at mid) k) (entry_at mid k) e → e ≢ FREE → e ≡ entry_at old k
      go (kept m) n = sym (was_head k m)
      go (tail t f) n = sym (was_tail k t)
      go (freed m t) n = absurd (n refl)

  -- an object that is not marked is freed, all its blocks
  unmarked_freed : (o k : ℕ) → entry_at mid o ≡ HEAD → Owns old o k → entry_at new k ≡ FREE
  unfolding collected
  unmarked_freed o k still w =
      ⊎_elim
      (λ q. rw q (head_free (swept mid o)))
      (λ q.
      let l = q.0 in
      let u = w.to in
      let e : o + (k - o) ≡ k = omega arith in
      let x = rw (marks_count old mid o marks) at (extent_of mid o (head_inside mid o still)) in
      rw e at (tail_freed mid o (k - o) (λ i p j. x.tail i p (omega arith)) (omega arith) still))
      (owns_cases old o k w)
    where
      head_free : {e : ℕ} → Swept (freeing_at false (entry_at mid) o) (entry_at mid o) e → e ≡ FREE
      head_free (kept m) = absurd (omega (arith, still))
      head_free (tail t f) = absurd (omega (arith, still))
      head_free (freed m t) = refl

  -- ---- with each entry one of the four there is nothing else

  module _ (small : (k : ℕ) → entry_at old k < 4) where
    -- every block that is not FREE is a block of a reachable object
    pub collected_rest : (k : ℕ) → entry_at new k ≢ FREE → Held base h roots k
    collected_rest k n = go (owner old (record { well = well; small = small }) k (λ f. n (collected_used k n ∙ f)))
      where
        go : Owned old k → Held base h roots k
        go w =
            record {
              object = w.object;
              reachable = ⊎_elim (λ q. absurd (n (unmarked_freed w.object k (q ∙ w.owns.head) w.owns))) (λ q. end.reached w.object q.1) (marks.at w.object);
              owns = w.owns;
            }

    pub collected_proper : Proper new
    unfolding collected
    collected_proper =
        record {
          small = λ k. two (swept mid k);
          well = well_of new
              (record {
                no_mark = λ k l m. unmarked (swept mid k) m;
                first = λ l t. well_first old well (was_tail 0 (swept_tail mid 0 t).0);
                after = λ k l t f. after k t (collected_rest (suc k) (λ z. omega arith)) f;
              });
        }
      where
        two : {f : Bool} {e x : ℕ} → Swept f e x → x < 4
        two (kept m) = omega arith
        two (tail t f) = omega arith
        two (freed m t) = omega arith

        unmarked : {f : Bool} {e x : ℕ} → Swept f e x → x ≢ MARK
        unmarked (kept m) q = omega arith
        unmarked (tail t f) q = omega arith
        unmarked (freed m t) q = omega arith

        after : (k : ℕ) → entry_at new (suc k) ≡ TAIL → Held base h roots (suc k) → entry_at new k ≢ FREE
        after k t w f =
            let x = w.owns.head in
            let u = w.owns.to in
            ⊎_elim
            (λ q. let z : entry_at old (suc k) ≡ TAIL = sym (collected_whole (suc k) w) ∙ t in let y : entry_at old (suc k) ≡ HEAD = rw q x in omega arith)
            (λ q.
            let l = q.0 in
            let v : Owns old w.object k = record { head = x; from = omega arith; to = omega arith } in
            owns_used old w.object k v (sym (collected_whole k (record { object = w.object; reachable = w.reachable; owns = v })) ∙ f))
            (owns_cases old w.object (suc k) w.owns)

-- the whole statement
pub keeps : (base : ℕ) (h : Heap) (roots : List ℕ) (room : ℕ) → Proper h.entries → Keeps base h roots (collected base h roots room)
keeps base h roots room p =
    let w = p.well in
    record {
      long = collected_length base h roots room w;
      kept = collected_kept base h roots room w;
      only = collected_only base h roots room w;
      count = collected_count base h roots room w;
      whole = collected_whole base h roots room w;
      rest = collected_rest base h roots room w p.small;
      proper = collected_proper base h roots room w p.small;
    }
