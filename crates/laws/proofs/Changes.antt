-- What placing, releasing and extending do to a table: its entries, well-formed, counts, and the blocks of each object.
-- The last part speaks of whole objects, as the calls use them.
-- Assumes nothing.
use mathlib.Core.Path.{◌≡◌, refl, ◌∙◌}
use mathlib.Core.Logic.{◌≢◌, ⊎_elim}
use mathlib.Core.Bool.{true, false}
use mathlib.Core.List.{List, [], ◌∷◌}
use Prim.Native.Nat.{ℕ, zero, suc, ◌+◌, ◌-◌, ◌≤◌, ◌<◌}
use native.Mathlib.Decide.{ℕ_discrete, dec_lt}
use native.Mathlib.Omega.{arith}
use lib.ListN.{length, replicate, length-replicate, get_or-replicate}
use lib.Seq.{sets, length-sets}
use borrow.Author.Tests.{ne_eqb}
use Rattle.rules.specs.Entries.{FREE, HEAD, TAIL}
use Rattle.rules.specs.Tables.{entry_at, is_used, may_follow, well_after, well_formed, block_count, placed, released, extended, used}
use Rattle.laws.specs.Meaning.{Extent, Run}
use Rattle.laws.proofs.Refusals.{both_left, both_right}
use Rattle.laws.proofs.Lists.{sets_out, sets_in, sets_cons, count_all, count_cons, count_sets_fresh, count_sets_gone}
use Rattle.laws.proofs.Tables.{both_of, may_not_mark, may_of, extent_of, extent_used, extent_before, objects_apart, run_apart, run_next, count_is, entry_inside}

-- ---- entries

pub placed_length : (es : List ℕ) (s b : ℕ) → length (placed es s b) ≡ length es
unfolding placed
placed_length es s b = length-sets es s (HEAD ∷ replicate (b - 1) TAIL)

pub released_length : (es : List ℕ) (s b : ℕ) → length (released es s b) ≡ length es
unfolding released
released_length es s b = length-sets es s (replicate b FREE)

pub extended_length : (es : List ℕ) (s b : ℕ) → length (extended es s b) ≡ length es
unfolding extended
extended_length es s b = length-sets es s (replicate b TAIL)

pub placed_head : (es : List ℕ) (s b : ℕ) → 0 < b → s + b ≤ length es → entry_at (placed es s b) s ≡ HEAD
unfolding placed
placed_head es s b h r =
    let e : s + 0 ≡ s = omega arith in
    rw e at (sets_in es s (HEAD ∷ replicate (b - 1) TAIL) 0 FREE (omega arith) (omega (arith, length-replicate (b - 1) TAIL)))

pub placed_tail : (es : List ℕ) (s b j : ℕ) → s + b ≤ length es → 0 < j → j < b → entry_at (placed es s b) (s + j) ≡ TAIL
unfolding placed
placed_tail es s b zero r h l = absurd (omega arith)
placed_tail es s b (suc j) r h l =
    sets_in es s (HEAD ∷ replicate (b - 1) TAIL) (suc j) FREE (omega (arith, length-replicate (b - 1) TAIL)) (omega (arith, length-replicate (b - 1) TAIL))
    ∙ get_or-replicate (b - 1) j TAIL FREE (omega arith)

pub placed_out : (es : List ℕ) (s b i : ℕ) → 0 < b → (s ≤ i → i < s + b → ⊥) → entry_at (placed es s b) i ≡ entry_at es i
unfolding placed
placed_out es s b i h out = sets_out es s (HEAD ∷ replicate (b - 1) TAIL) i FREE (λ l r. out l (omega (arith, length-replicate (b - 1) TAIL)))

pub released_in : (es : List ℕ) (s b j : ℕ) → s + b ≤ length es → j < b → entry_at (released es s b) (s + j) ≡ FREE
unfolding released
released_in es s b j r h =
    let e : length (replicate b FREE) ≡ b = length-replicate b FREE in
    sets_in es s (replicate b FREE) j FREE (omega arith) (omega arith) ∙ get_or-replicate b j FREE FREE h

pub released_out : (es : List ℕ) (s b i : ℕ) → (s ≤ i → i < s + b → ⊥) → entry_at (released es s b) i ≡ entry_at es i
unfolding released
released_out es s b i out = sets_out es s (replicate b FREE) i FREE (λ l r. out l (omega (arith, length-replicate b FREE)))

pub extended_in : (es : List ℕ) (s b j : ℕ) → s + b ≤ length es → j < b → entry_at (extended es s b) (s + j) ≡ TAIL
unfolding extended
extended_in es s b j r h =
    let e : length (replicate b TAIL) ≡ b = length-replicate b TAIL in
    sets_in es s (replicate b TAIL) j FREE (omega arith) (omega arith) ∙ get_or-replicate b j TAIL FREE h

pub extended_out : (es : List ℕ) (s b i : ℕ) → (s ≤ i → i < s + b → ⊥) → entry_at (extended es s b) i ≡ entry_at es i
unfolding extended
extended_out es s b i out = sets_out es s (replicate b TAIL) i FREE (λ l r. out l (omega (arith, length-replicate b TAIL)))

-- entries stay below 4

-- ---- well-formed

-- what stands before a table may change if its first entry is no TAIL, or the new one is used
after_other : (p q : ℕ) (es : List ℕ) → well_after q es ≡ true → (entry_at es 0 ≡ TAIL → p ≢ FREE) → well_after p es ≡ true
unfolding well_after
after_other p q [] w join = refl
after_other p q (e ∷ es) w join =
    both_of (may_follow p e) (well_after e es)
    (may_of p e (may_not_mark q e (both_left (may_follow q e) (well_after e es) w)) join)
    (both_right (may_follow q e) (well_after e es) w)

-- a run of stores at the front, whose last may stand before the first entry that stays
front_well : (p q : ℕ) (es vs : List ℕ) → length vs ≤ length es → well_after q es ≡ true → well_after p vs ≡ true
    → (entry_at es (length vs) ≡ TAIL → entry_at (p ∷ vs) (length vs) ≢ FREE) → well_after p (sets es 0 vs) ≡ true
unfolding well_after
front_well p q es [] r w wvs join = after_other p q es w join
front_well p q [] (v ∷ vs) r w wvs join = absurd (omega arith)
front_well p q (e ∷ es) (v ∷ vs) r w wvs join =
    rw (sets_cons v es 0 vs)
    (both_of (may_follow p v) (well_after v (sets es 0 vs))
    (both_left (may_follow p v) (well_after v vs) wvs)
    (front_well v e es vs (omega arith) (both_right (may_follow q e) (well_after e es) w) (both_right (may_follow p v) (well_after v vs) wvs) join))

-- a run of stores that may stand after the entry before it, and whose last may stand before the entry after it
sets_well : (p : ℕ) (es : List ℕ) (s : ℕ) (vs : List ℕ) → s + length vs ≤ length es → well_after p es ≡ true → well_after (entry_at (p ∷ es) s) vs ≡ true
    → (entry_at es (s + length vs) ≡ TAIL → entry_at (entry_at (p ∷ es) s ∷ vs) (length vs) ≢ FREE) → well_after p (sets es s vs) ≡ true
unfolding well_after
sets_well p es zero vs r w wvs join = let e : 0 + length vs ≡ length vs = omega arith in front_well p p es vs (omega arith) w wvs (λ t. join (rw e t))
sets_well p [] (suc s) vs r w wvs join = absurd (omega arith)
sets_well p (e ∷ es) (suc s) vs r w wvs join =
    let i : suc s + length vs ≡ suc (s + length vs) = omega arith in
    rw (sets_cons e es s vs)
    (both_of (may_follow p e) (well_after e (sets es s vs))
    (both_left (may_follow p e) (well_after e es) w)
    (sets_well e es s vs (omega arith) (both_right (may_follow p e) (well_after e es) w) wvs (λ t. join (rw i t))))

tails_well : (p n : ℕ) → p ≢ FREE → well_after p (replicate n TAIL) ≡ true
unfolding well_after
tails_well p zero h = refl
tails_well p (suc n) h = both_of (may_follow p TAIL) (well_after TAIL (replicate n TAIL)) (may_of p TAIL (λ e. omega arith) (λ e. h)) (tails_well TAIL n (λ e. omega arith))

tails_last : (p n : ℕ) → p ≢ FREE → entry_at (p ∷ replicate n TAIL) (length (replicate n TAIL)) ≢ FREE
tails_last p zero h = h
tails_last p (suc n) h = tails_last TAIL n (λ e. omega arith)

frees_well : (p n : ℕ) → well_after p (replicate n FREE) ≡ true
unfolding well_after
frees_well p zero = refl
frees_well p (suc n) = both_of (may_follow p FREE) (well_after FREE (replicate n FREE)) (may_of p FREE (λ e. omega arith) (λ e. absurd (omega arith))) (frees_well FREE n)

-- a new object may stand anywhere
pub placed_well : (es : List ℕ) (s b : ℕ) → well_formed es ≡ true → 0 < b → s + b ≤ length es → well_formed (placed es s b) ≡ true
unfolding well_formed well_after placed
placed_well es s b w h r =
    let p : ℕ = entry_at (FREE ∷ es) s in
    sets_well FREE es s (HEAD ∷ replicate (b - 1) TAIL) (omega (arith, length-replicate (b - 1) TAIL)) w
    (both_of (may_follow p HEAD) (well_after HEAD (replicate (b - 1) TAIL)) (may_of p HEAD (λ e. omega arith) (λ e. absurd (omega arith))) (tails_well HEAD (b - 1) (λ e. omega arith)))
    (λ _. tails_last HEAD (b - 1) (λ e. omega arith))

-- blocks may be released if no TAIL comes after them
pub released_well : (es : List ℕ) (s b : ℕ) → well_formed es ≡ true → s + b ≤ length es → entry_at es (s + b) ≢ TAIL → well_formed (released es s b) ≡ true
unfolding well_formed released
released_well es s b w r next =
    let e : length (replicate b FREE) ≡ b = length-replicate b FREE in
    sets_well FREE es s (replicate b FREE) (omega arith) w (frees_well (entry_at (FREE ∷ es) s) b) (λ t. absurd (next (rw e at t)))

-- TAILs may come after any used block
pub extended_well : (es : List ℕ) (k b : ℕ) → well_formed es ≡ true → entry_at es k ≢ FREE → suc k + b ≤ length es → well_formed (extended es (suc k) b) ≡ true
unfolding well_formed extended
extended_well es k b w h r =
    let e : length (replicate b TAIL) ≡ b = length-replicate b TAIL in
    sets_well FREE es (suc k) (replicate b TAIL) (omega arith) w (tails_well (entry_at es k) b h) (λ _. tails_last (entry_at es k) b h)

-- ---- used blocks and objects

free_unused : (e : ℕ) → e ≡ FREE → is_used e ≡ false
free_unused e h = rw h

other_used : (e : ℕ) → e ≢ FREE → is_used e ≡ true
other_used e h = rw (ne_eqb e FREE h)

-- each new block counts as used
pub placed_used : (es : List ℕ) (s b : ℕ) → 0 < b → Run es b s → used (placed es s b) ≡ used es + b
unfolding used placed
placed_used es s b h r =
    let l : length (replicate (b - 1) TAIL) ≡ b - 1 = length-replicate (b - 1) TAIL in
    let rest = count_sets_fresh is_used es s (HEAD ∷ replicate (b - 1) TAIL) FREE (omega (arith, r.room)) (λ j i. free_unused _ (r.free j (omega arith))) in
    omega (arith, rest, count_cons is_used HEAD (replicate (b - 1) TAIL), count_all is_used (b - 1) TAIL refl)

pub extended_used : (es : List ℕ) (s b : ℕ) → Run es b s → used (extended es s b) ≡ used es + b
unfolding used extended
extended_used es s b r =
    let l : length (replicate b TAIL) ≡ b = length-replicate b TAIL in
    let rest = count_sets_fresh is_used es s (replicate b TAIL) FREE (omega (arith, r.room)) (λ j i. free_unused _ (r.free j (omega arith))) in
    omega (arith, rest, count_all is_used b TAIL refl)

-- each released block no longer does
pub released_used : (es : List ℕ) (s b : ℕ) → s + b ≤ length es → ((j : ℕ) → j < b → entry_at es (s + j) ≢ FREE) → used (released es s b) + b ≡ used es
unfolding used released
released_used es s b r taken = count_sets_gone is_used es s b FREE FREE refl r (λ j h. other_used _ (taken j h))

-- ---- the blocks of each object

-- a change within the m blocks from s on, where no object crosses s before or after, leaves the blocks of every object outside
count_apart : (es es' : List ℕ) (s m o : ℕ) → length es' ≡ length es → ((i : ℕ) → (s ≤ i → i < s + m → ⊥) → entry_at es' i ≡ entry_at es i)
    → entry_at es s ≢ TAIL → entry_at es' s ≢ TAIL → o < length es → (s ≤ o → o < s + m → ⊥) → block_count es' o ≡ block_count es o
count_apart es es' s m o l same before after h out = count_is es' o (block_count es o) (go (dec_lt o s))
  where
    b : ℕ
    b = block_count es o

    x : Extent es o b
    x = extent_of es o h

    next : o + b ≤ s → Dec (o + b ≡ s) → entry_at es' (o + b) ≢ TAIL
    next r (yes e) = rw e after
    next r (no e) = rw (same (o + b) (λ p q. omega arith)) x.next

    go : Dec (o < s) → Extent es' o b
    go (yes lower) =
        let r : o + b ≤ s = extent_before es o b s x lower before in
        record {
          some_block = x.some_block;
          room = omega (arith, x.room);
          tail = λ j i k. same (o + j) (λ p q. omega arith) ∙ x.tail j i k;
          next = next r (ℕ_discrete (o + b) s);
        }
    go (no above) =
        let r : s + m ≤ o = omega (arith, out (omega arith)) in
        record {
          some_block = x.some_block;
          room = omega (arith, x.room);
          tail = λ j i k. same (o + j) (λ p q. omega arith) ∙ x.tail j i k;
          next = rw (same (o + b) (λ p q. omega arith)) x.next;
        }

-- ---- allocate: b blocks placed where they fit

module _ (es : List ℕ) (s b : ℕ) (some_block : 0 < b) (run : Run es b s) where
  pub placed_count : well_formed es ≡ true → block_count (placed es s b) s ≡ b
  placed_count w =
      count_is (placed es s b) s b
      (record {
        some_block = some_block;
        room = omega (arith, run.room, placed_length es s b);
        tail = λ j h l. placed_tail es s b j run.room h l;
        next = rw (placed_out es s b (s + b) some_block (λ p q. omega arith)) (run_next es b s w some_block run);
      })

  -- another object is outside the run
  pub placed_apart : (o : ℕ) → entry_at es o ≡ HEAD → s ≤ o → o < s + b → ⊥
  placed_apart o head l r =
      let x = extent_of es o (entry_inside es o (λ e. omega arith)) in
      ⊎_elim (λ h. omega (arith, x.some_block)) (λ h. omega arith) (run_apart es o (block_count es o) s b x some_block run head)

  pub placed_other : (o : ℕ) → entry_at es o ≡ HEAD → block_count (placed es s b) o ≡ block_count es o
  placed_other o head =
      let e : s + 0 ≡ s = omega arith in
      count_apart es (placed es s b) s b o (placed_length es s b) (λ i out. placed_out es s b i some_block out)
      (λ t. omega (arith, rw e at (run.free 0 some_block)))
      (λ t. omega (arith, placed_head es s b some_block run.room))
      (entry_inside es o (λ f. omega arith))
      (placed_apart o head)

-- ---- free: an object is released

module _ (es : List ℕ) (k : ℕ) (head : entry_at es k ≡ HEAD) where
  -- the object
  whole : Extent es k (block_count es k)
  whole = extent_of es k (entry_inside es k (λ e. omega arith))

  pub freed_well : well_formed es ≡ true → well_formed (released es k (block_count es k)) ≡ true
  freed_well w = released_well es k (block_count es k) w whole.room whole.next

  pub freed_used : used (released es k (block_count es k)) + block_count es k ≡ used es
  freed_used = released_used es k (block_count es k) whole.room (extent_used es k (block_count es k) whole (λ e. omega arith))

  -- another object is outside this one
  pub freed_apart : (o : ℕ) → entry_at es o ≡ HEAD → o ≢ k → k ≤ o → o < k + block_count es k → ⊥
  freed_apart o other ne l r =
      let x = extent_of es o (entry_inside es o (λ e. omega arith)) in
      ⊎_elim (λ h. omega (arith, x.some_block)) (λ h. omega arith) (objects_apart es o (block_count es o) k (block_count es k) x whole other head ne)

  pub freed_other : (o : ℕ) → entry_at es o ≡ HEAD → o ≢ k → block_count (released es k (block_count es k)) o ≡ block_count es o
  freed_other o other ne =
      let e : k + 0 ≡ k = omega arith in
      count_apart es (released es k (block_count es k)) k (block_count es k) o (released_length es k (block_count es k)) (released_out es k (block_count es k))
      (λ t. omega arith)
      (λ t. omega (arith, rw e at (released_in es k (block_count es k) 0 whole.room whole.some_block)))
      (entry_inside es o (λ f. omega arith))
      (freed_apart o other ne)

  -- ---- reallocate to c blocks, fewer than the object has: the others are released

  module _ (c : ℕ) (some_block : 0 < c) (fewer : c ≤ block_count es k) where
    shrunk_end : k + c + (block_count es k - c) ≡ k + block_count es k
    shrunk_end = omega arith

    shrunk_at : (j : ℕ) → k + c + j ≡ k + (c + j)
    shrunk_at j = omega arith

    pub shrunk_well : well_formed es ≡ true → well_formed (released es (k + c) (block_count es k - c)) ≡ true
    shrunk_well w = released_well es (k + c) (block_count es k - c) w (omega (arith, whole.room)) (rw shrunk_end whole.next)

    pub shrunk_used : used (released es (k + c) (block_count es k - c)) + (block_count es k - c) ≡ used es
    shrunk_used =
        released_used es (k + c) (block_count es k - c) (omega (arith, whole.room))
        (λ j h. rw (shrunk_at j) (extent_used es k (block_count es k) whole (λ e. omega arith) (c + j) (omega arith)))

    pub shrunk_count : block_count (released es (k + c) (block_count es k - c)) k ≡ c
    shrunk_count =
        count_is es' k c
        (record {
          some_block = some_block;
          room = omega (arith, whole.room, released_length es (k + c) (block_count es k - c));
          tail = λ j h l. released_out es (k + c) (block_count es k - c) (k + j) (λ p q. omega arith) ∙ whole.tail j h (omega arith);
          next = next (dec_lt c (block_count es k));
        })
      where
        es' : List ℕ
        es' = released es (k + c) (block_count es k - c)

        next : Dec (c < block_count es k) → entry_at es' (k + c) ≢ TAIL
        next (yes l) =
            let e : k + c + 0 ≡ k + c = omega arith in
            λ t. omega (arith, t, rw e at (released_in es (k + c) (block_count es k - c) 0 (omega (arith, whole.room)) (omega arith)))
        next (no l) =
            let e : k + c ≡ k + block_count es k = omega arith in
            rw (released_out es (k + c) (block_count es k - c) (k + c) (λ p q. omega arith), e) whole.next

    pub shrunk_other : (o : ℕ) → entry_at es o ≡ HEAD → o ≢ k → block_count (released es (k + c) (block_count es k - c)) o ≡ block_count es o
    shrunk_other o other ne =
        count_apart es (released es (k + c) (block_count es k - c)) k (block_count es k) o (released_length es (k + c) (block_count es k - c))
        (λ i out. released_out es (k + c) (block_count es k - c) i (λ p q. out (omega arith) (omega arith)))
        (λ t. omega arith)
        (λ t. omega (arith, t, released_out es (k + c) (block_count es k - c) k (λ p q. omega arith)))
        (entry_inside es o (λ f. omega arith))
        (freed_apart o other ne)

  -- ---- reallocate to n blocks more, where those directly after the object are free: they are taken

  module _ (n : ℕ) (some_more : 0 < n) (run : Run es n (k + block_count es k)) where
    pub grown_well : well_formed es ≡ true → well_formed (extended es (k + block_count es k) n) ≡ true
    grown_well w =
        let e : k + block_count es k ≡ suc (k + (block_count es k - 1)) = omega (arith, whole.some_block) in
        let last = extent_used es k (block_count es k) whole (λ e. omega arith) (block_count es k - 1) (omega (arith, whole.some_block)) in
        rw e (extended_well es (k + (block_count es k - 1)) n w last (omega (arith, run.room)))

    pub grown_count : well_formed es ≡ true → block_count (extended es (k + block_count es k) n) k ≡ block_count es k + n
    grown_count w =
        let e : k + (block_count es k + n) ≡ k + block_count es k + n = omega arith in
        count_is (extended es (k + block_count es k) n) k (block_count es k + n)
        (record {
          some_block = omega arith;
          room = omega (arith, run.room, extended_length es (k + block_count es k) n);
          tail = λ j h l. tail j h l (dec_lt j (block_count es k));
          next = rw (e, extended_out es (k + block_count es k) n (k + block_count es k + n) (λ p q. omega arith)) (run_next es n (k + block_count es k) w some_more run);
        })
      where
        tail : (j : ℕ) → 0 < j → j < block_count es k + n → Dec (j < block_count es k) → entry_at (extended es (k + block_count es k) n) (k + j) ≡ TAIL
        tail j h l (yes old) = extended_out es (k + block_count es k) n (k + j) (λ p q. omega arith) ∙ whole.tail j h old
        tail j h l (no new) =
            let e : k + block_count es k + (j - block_count es k) ≡ k + j = omega arith in
            rw e at (extended_in es (k + block_count es k) n (j - block_count es k) run.room (omega arith))

    -- another object is outside the grown one
    pub grown_apart : (o : ℕ) → entry_at es o ≡ HEAD → o ≢ k → k ≤ o → o < k + (block_count es k + n) → ⊥
    grown_apart o other ne l r = placed_apart es (k + block_count es k) n some_more run o other (omega (arith, freed_apart o other ne l)) (omega arith)

    pub grown_other : (o : ℕ) → entry_at es o ≡ HEAD → o ≢ k → block_count (extended es (k + block_count es k) n) o ≡ block_count es o
    grown_other o other ne =
        count_apart es (extended es (k + block_count es k) n) k (block_count es k + n) o (extended_length es (k + block_count es k) n)
        (λ i out. extended_out es (k + block_count es k) n i (λ p q. out (omega arith) (omega arith)))
        (λ t. omega arith)
        (λ t. omega (arith, t, whole.some_block, extended_out es (k + block_count es k) n k (λ p q. omega (arith, whole.some_block))))
        (entry_inside es o (λ f. omega arith))
        (grown_apart o other ne)

-- ---- reallocate to c blocks elsewhere: they are placed with the old object still held, and then it is released

module _ (es : List ℕ) (k : ℕ) (head : entry_at es k ≡ HEAD) (c s : ℕ) (some_block : 0 < c) (run : Run es c s) where
  -- the old object while both are held
  held_head : entry_at (placed es s c) k ≡ HEAD
  held_head = placed_out es s c k some_block (placed_apart es s c some_block run k head) ∙ head

  held_count : block_count (placed es s c) k ≡ block_count es k
  held_count = placed_other es s c some_block run k head

  new_other : s ≢ k
  new_other e = placed_apart es s c some_block run k head (omega arith) (omega arith)

  pub moved_well : well_formed es ≡ true → well_formed (released (placed es s c) k (block_count es k)) ≡ true
  moved_well w = rw held_count at (freed_well (placed es s c) k held_head (placed_well es s c w some_block run.room))

  pub moved_used : used (released (placed es s c) k (block_count es k)) + block_count es k ≡ used es + c
  moved_used = rw held_count at (freed_used (placed es s c) k held_head) ∙ placed_used es s c some_block run

  -- the new object
  pub moved_head : entry_at (released (placed es s c) k (block_count es k)) s ≡ HEAD
  moved_head =
      released_out (placed es s c) k (block_count es k) s
      (rw held_count at (freed_apart (placed es s c) k held_head s (placed_head es s c some_block run.room) new_other))
      ∙ placed_head es s c some_block run.room

  pub moved_count : well_formed es ≡ true → block_count (released (placed es s c) k (block_count es k)) s ≡ c
  moved_count w =
      rw held_count at (freed_other (placed es s c) k held_head s (placed_head es s c some_block run.room) new_other)
      ∙ placed_count es s c some_block run w

  pub moved_other : (o : ℕ) → entry_at es o ≡ HEAD → o ≢ k → block_count (released (placed es s c) k (block_count es k)) o ≡ block_count es o
  moved_other o other ne =
      rw held_count at (freed_other (placed es s c) k held_head o (placed_out es s c o some_block (placed_apart es s c some_block run o other) ∙ other) ne)
      ∙ placed_other es s c some_block run o other
