-- Laws of the table's definitions: each matches its plain sentence, and a sentence has one answer.
-- Assumes nothing.
use mathlib.Core.Path.{◌≡◌, refl, ap, ◌∙◌}
use mathlib.Core.Logic.{◌≢◌, ◌⊎◌, inl, inr, ⊎_elim}
use mathlib.Core.Bool.{Bool, true, false, not}
use mathlib.Core.List.{List, [], ◌∷◌}
use mathlib.Core.Option.{Option, some, none}
use Prim.Native.Nat.{ℕ, zero, suc, ◌+◌, ◌-◌, ◌%◌, ◌≤◌, ◌<◌}
use native.Mathlib.Nat.{eq-or-lt_of_le}
use native.Mathlib.Decide.{ℕ_discrete, dec_lt}
use native.Mathlib.Omega.{arith}
use lib.Dec.{eqb, leb, ltb}
use lib.ListN.{length, drop, length-drop, get_or-eq_default}
use lib.Seq.{drop-nil, get_or-drop}
use borrow.Author.Tests.{eqb-true, eqb-false, eq-eqb, ne_eqb, leb-true, le-leb, ltb-true, lt-ltb}
use Rattle.rules.specs.Tests.{pick, both, either, leading}
use Rattle.rules.specs.Entries.{FREE, HEAD, TAIL, MARK}
use Rattle.rules.specs.Tables.{entry_at, is_free, is_used, is_head, is_tail, may_follow, well_after, well_formed, block_count, start_of, free_from, aligned, fits, first_from, first_fit, grows_in_place, used, objects, longest}
use Rattle.laws.specs.Meaning.{Well, Extent, Start, Run, Aligned, Fits, Lowest, GrowsInPlace, Longest}
use Rattle.laws.proofs.Refusals.{true_not_false, both_left, both_right}
use Rattle.laws.proofs.Lists.{count_le, leading_le, leading_pass, leading_stop, leading_more}

-- ---- tests and entries

pub both_of : (a b : Bool) → a ≡ true → b ≡ true → both a b ≡ true
both_of a b s t = rw (s, t)

-- outside the table an entry counts as FREE
pub entry_outside : (es : List ℕ) (k : ℕ) → length es ≤ k → entry_at es k ≡ FREE
entry_outside es k h = get_or-eq_default es FREE h

-- so a block that is not FREE is a block of the table
pub entry_inside : (es : List ℕ) (k : ℕ) → entry_at es k ≢ FREE → k < length es
entry_inside es k taken = go (dec_lt k (length es))
  where
    go : Dec (k < length es) → k < length es
    go (yes h) = h
    go (no h) = absurd (taken (entry_outside es k (omega arith)))

-- ---- well-formed

pub may_not_mark : (p e : ℕ) → may_follow p e ≡ true → e ≢ MARK
unfolding may_follow
may_not_mark p e m mark = true_not_false m (rw mark)

may_not_tail : (p e : ℕ) → may_follow p e ≡ true → e ≡ TAIL → p ≢ FREE
unfolding may_follow
may_not_tail p e m tail free = true_not_false m (rw (tail, free))

pub may_of : (p e : ℕ) → e ≢ MARK → (e ≡ TAIL → p ≢ FREE) → may_follow p e ≡ true
unfolding may_follow
may_of p e no_mark after = go (ℕ_discrete e TAIL)
  where
    go : Dec (e ≡ TAIL) → both (not (eqb e MARK)) (not (both (is_tail e) (is_free p))) ≡ true
    go (yes tail) = rw (tail, ne_eqb p FREE (after tail))
    go (no other) = rw (ne_eqb e MARK no_mark, ne_eqb e TAIL other)

-- each entry may stand after the one before it
pub may_at : (p : ℕ) (es : List ℕ) → well_after p es ≡ true → (k : ℕ) → k < length es → may_follow (entry_at (p ∷ es) k) (entry_at es k) ≡ true
unfolding well_after
may_at p [] w k h = absurd (omega arith)
may_at p (e ∷ es) w zero h = both_left (may_follow p e) (well_after e es) w
may_at p (e ∷ es) w (suc k) h = may_at e es (both_right (may_follow p e) (well_after e es) w) k (omega arith)

pub may_all : (p : ℕ) (es : List ℕ) → ((k : ℕ) → k < length es → may_follow (entry_at (p ∷ es) k) (entry_at es k) ≡ true) → well_after p es ≡ true
unfolding well_after
may_all p [] all = refl
may_all p (e ∷ es) all = both_of (may_follow p e) (well_after e es) (all 0 (omega arith)) (may_all e es (λ k h. all (suc k) (omega arith)))

pub well_says : (es : List ℕ) → well_formed es ≡ true → Well es
unfolding well_formed
well_says es w = record {
  no_mark = λ k h. may_not_mark (entry_at (FREE ∷ es) k) (entry_at es k) (may_at FREE es w k h);
  first = λ h tail. may_not_tail FREE (entry_at es 0) (may_at FREE es w 0 h) tail refl;
  after = λ k h. may_not_tail (entry_at es k) (entry_at es (suc k)) (may_at FREE es w (suc k) h);
}

pub well_of : (es : List ℕ) → Well es → well_formed es ≡ true
unfolding well_formed
well_of es w = may_all FREE es go
  where
    go : (k : ℕ) → k < length es → may_follow (entry_at (FREE ∷ es) k) (entry_at es k) ≡ true
    go zero h = may_of FREE (entry_at es 0) (w.no_mark 0 h) (λ tail. absurd (w.first h tail))
    go (suc k) h = may_of (entry_at es k) (entry_at es (suc k)) (w.no_mark (suc k) h) (w.after k h)

-- ---- an object's blocks

pub extent_of : (es : List ℕ) (k : ℕ) → k < length es → Extent es k (block_count es k)
unfolding block_count
extent_of es k h = record {
  some_block = omega arith;
  room = omega (arith, leading_le is_tail (drop (suc k) es), length-drop (suc k) es);
  tail = tail;
  next = next (dec_lt (leading is_tail (drop (suc k) es)) (length (drop (suc k) es)));
}
  where
    n : ℕ
    n = leading is_tail (drop (suc k) es)

    tail : (j : ℕ) → 0 < j → j < suc n → entry_at es (k + j) ≡ TAIL
    tail zero l r = absurd (omega arith)
    tail (suc j) l r =
        let e : k + suc j ≡ suc k + j = omega arith in
        rw (e, ← get_or-drop (suc k) es j FREE) (eqb-true _ _ (leading_pass is_tail (drop (suc k) es) j FREE (omega arith)))

    next : Dec (n < length (drop (suc k) es)) → entry_at es (k + suc n) ≢ TAIL
    next (yes l) =
        let e : k + suc n ≡ suc k + n = omega arith in
        rw (e, ← get_or-drop (suc k) es n FREE) (eqb-false _ _ (leading_stop is_tail (drop (suc k) es) FREE l))
    next (no l) = λ t. let z = entry_outside es (k + suc n) (omega (arith, length-drop (suc k) es)) in omega arith

pub extent_one : (es : List ℕ) (k b c : ℕ) → Extent es k b → Extent es k c → b ≡ c
extent_one es k b c p q = go (dec_lt b c) (dec_lt c b)
  where
    go : Dec (b < c) → Dec (c < b) → b ≡ c
    go (yes l) _ = absurd (p.next (q.tail b p.some_block l))
    go (no _) (yes l) = absurd (q.next (p.tail c q.some_block l))
    go (no l) (no r) = omega arith

pub count_is : (es : List ℕ) (k b : ℕ) → Extent es k b → block_count es k ≡ b
count_is es k b x = extent_one es k (block_count es k) b (extent_of es k (omega (arith, x.some_block, x.room))) x

-- the TAILs that follow block k are blocks of its object
pub count_covers : (es : List ℕ) (k b : ℕ) → k < length es → ((j : ℕ) → k < j → j ≤ b → entry_at es j ≡ TAIL) → b < k + block_count es k
count_covers es k b h tails = go (dec_lt b (k + block_count es k))
  where
    go : Dec (b < k + block_count es k) → b < k + block_count es k
    go (yes l) = l
    go (no l) = let x = extent_of es k h in absurd (x.next (tails (k + block_count es k) (omega (arith, x.some_block)) (omega arith)))

-- ---- where an object starts

pub start_says : (es : List ℕ) (k : ℕ) → Start es k (start_of es k)
unfolding start_of
start_says es zero = record { from = omega arith; tails = λ j l r. absurd (omega arith); first = λ l. absurd (omega arith) }
start_says es (suc k) = go (ℕ_discrete (entry_at es (suc k)) TAIL) (start_says es k)
  where
    go : Dec (entry_at es (suc k) ≡ TAIL) → Start es k (start_of es k) → Start es (suc k) (pick (is_tail (entry_at es (suc k))) (start_of es k) (suc k))
    go (yes q) s =
        rw (eq-eqb _ _ q) (record { from = omega (arith, s.from); tails = λ j l r. ⊎_elim (λ e. rw e q) (λ u. s.tails j l (omega arith)) (eq-or-lt_of_le r); first = s.first })
    go (no q) s = rw (ne_eqb _ _ q) (record { from = omega arith; tails = λ j l r. absurd (omega arith); first = λ l. q })

pub start_one : (es : List ℕ) (k s t : ℕ) → Start es k s → Start es k t → s ≡ t
start_one es k s t p q = go (dec_lt s t) (dec_lt t s)
  where
    go : Dec (s < t) → Dec (t < s) → s ≡ t
    go (yes l) _ = absurd (q.first (omega arith) (p.tails t l q.from))
    go (no _) (yes l) = absurd (p.first (omega arith) (q.tails s l p.from))
    go (no l) (no r) = omega arith

-- a block that is no TAIL starts its own object
pub start_own : (es : List ℕ) (k : ℕ) → entry_at es k ≢ TAIL → start_of es k ≡ k
start_own es k other =
    start_one es k (start_of es k) k (start_says es k) (record { from = omega arith; tails = λ j l r. absurd (omega arith); first = λ l. other })

-- the blocks from there to block b have the same start
pub start_between : (es : List ℕ) (k b s : ℕ) → s ≡ start_of es b → s ≤ k → k ≤ b → start_of es k ≡ s
start_between es k b s e l r =
    let w : Start es b s = rw e (start_says es b) in
    start_one es k (start_of es k) s (start_says es k) (record { from = l; tails = λ j a c. w.tails j a (omega arith); first = w.first })

-- the blocks of an object are used
pub extent_used : (es : List ℕ) (k b : ℕ) → Extent es k b → entry_at es k ≢ FREE → (j : ℕ) → j < b → entry_at es (k + j) ≢ FREE
extent_used es k b x head zero h = let e : k + 0 ≡ k = omega arith in rw e head
extent_used es k b x head (suc j) h = let t = x.tail (suc j) (omega arith) h in λ free. omega arith

-- an object ends before any later block that is no TAIL
pub extent_before : (es : List ℕ) (o b k : ℕ) → Extent es o b → o < k → entry_at es k ≢ TAIL → o + b ≤ k
extent_before es o b k x l other = go (dec_lt k (o + b))
  where
    go : Dec (k < o + b) → o + b ≤ k
    go (yes h) = let e : o + (k - o) ≡ k = omega arith in absurd (other (rw e at (x.tail (k - o) (omega arith) (omega arith))))
    go (no h) = omega arith

-- two objects do not overlap
pub objects_apart : (es : List ℕ) (o c k b : ℕ) → Extent es o c → Extent es k b → entry_at es o ≡ HEAD → entry_at es k ≡ HEAD → o ≢ k → (o + c ≤ k) ⊎ (k + b ≤ o)
objects_apart es o c k b x y ho hk other = go (dec_lt o k)
  where
    go : Dec (o < k) → (o + c ≤ k) ⊎ (k + b ≤ o)
    go (yes l) = inl (extent_before es o c k x l (λ t. omega arith))
    go (no l) = inr (extent_before es k b o y (omega arith) (λ t. omega arith))

-- ---- runs of free blocks

-- free_from is the longest run at a start: it is one, and no run there is longer
pub run_longest : (es : List ℕ) (s : ℕ) → s ≤ length es → Run es (free_from es s) s
unfolding free_from
run_longest es s h = record {
  room = omega (arith, leading_le is_free (drop s es), length-drop s es);
  free = λ j l. rw (← get_or-drop s es j FREE) (eqb-true _ _ (leading_pass is_free (drop s es) j FREE l));
}

pub run_le : (es : List ℕ) (b s : ℕ) → Run es b s → b ≤ free_from es s
unfolding free_from
run_le es b s r =
    leading_more is_free (drop s es) b FREE (omega (arith, r.room, length-drop s es))
    (λ j l. rw get_or-drop (eq-eqb (entry_at es (s + j)) FREE (r.free j l)))

pub free_room : (es : List ℕ) (s : ℕ) → free_from es s ≤ length es - s
unfolding free_from
free_room es s = omega (arith, leading_le is_free (drop s es), length-drop s es)

-- a shorter run at the same start
pub run_shorter : (es : List ℕ) (b c s : ℕ) → c ≤ b → Run es b s → Run es c s
run_shorter es b c s h r = record { room = omega (arith, r.room); free = λ j l. r.free j (omega arith) }

pub le_run : (es : List ℕ) (b s : ℕ) → s ≤ length es → b ≤ free_from es s → Run es b s
le_run es b s h l = run_shorter es (free_from es s) b s l (run_longest es s h)

pub no_run_lt : (es : List ℕ) (b s : ℕ) → s ≤ length es → (Run es b s → ⊥) → free_from es s < b
no_run_lt es b s h nowhere = go (dec_lt (free_from es s) b)
  where
    go : Dec (free_from es s < b) → free_from es s < b
    go (yes l) = l
    go (no l) = absurd (nowhere (le_run es b s h (omega arith)))

-- an object and a run of free blocks do not overlap
pub run_apart : (es : List ℕ) (o c s b : ℕ) → Extent es o c → 0 < b → Run es b s → entry_at es o ≡ HEAD → (o + c ≤ s) ⊎ (s + b ≤ o)
run_apart es o c s b x some_block r head = go (dec_lt o s) (dec_lt o (s + b))
  where
    go : Dec (o < s) → Dec (o < s + b) → (o + c ≤ s) ⊎ (s + b ≤ o)
    go (yes l) _ = let e : s + 0 ≡ s = omega arith in inl (extent_before es o c s x l (λ t. omega (arith, rw e at (r.free 0 some_block))))
    go (no l) (yes h) = let e : s + (o - s) ≡ o = omega arith in absurd (omega (arith, rw e at (r.free (o - s) (omega arith))))
    go (no l) (no h) = inr (omega arith)

-- no TAIL follows a run of free blocks
pub run_next : (es : List ℕ) (b s : ℕ) → well_formed es ≡ true → 0 < b → Run es b s → entry_at es (s + b) ≢ TAIL
run_next es b s w h r t =
    let e : s + b ≡ suc (s + (b - 1)) = omega arith in
    (well_says es w).after (s + (b - 1)) (rw (← e) (entry_inside es (s + b) (λ f. omega arith))) (rw e at t) (r.free (b - 1) (omega arith))

-- ---- aligned

pub aligned_of : (b s : ℕ) → Aligned b s → aligned b s ≡ true
unfolding aligned
aligned_of b s (inl few) = rw (lt-ltb b 4 few)
aligned_of b s (inr front) = rw (eq-eqb (s % 4) 0 front) (go (ltb b 4))
  where
    go : (v : Bool) → either v true ≡ true
    go true = refl
    go false = refl

pub aligned_says : (b s : ℕ) → aligned b s ≡ true → Aligned b s
unfolding aligned
aligned_says b s e = go (ltb b 4) refl e
  where
    go : (v : Bool) → ltb b 4 ≡ v → either v (eqb (s % 4) 0) ≡ true → Aligned b s
    go true few _ = inl (ltb-true b 4 few)
    go false _ front = inr (eqb-true (s % 4) 0 front)

-- ---- the lowest start

pub fits_of : (es : List ℕ) (b s : ℕ) → Fits es b s → fits es b s ≡ true
unfolding fits
fits_of es b s f = both_of (aligned b s) (leb b (free_from es s)) (aligned_of b s f.aligned) (le-leb b (free_from es s) (run_le es b s f.run))

pub fits_says : (es : List ℕ) (b s : ℕ) → 0 < b → fits es b s ≡ true → Fits es b s
unfolding fits
fits_says es b s h f =
    let l = leb-true b (free_from es s) (both_right (aligned b s) (leb b (free_from es s)) f) in
    record { aligned = aligned_says b s (both_left (aligned b s) (leb b (free_from es s)) f); run = le_run es b s (omega (arith, free_room es s)) l }

-- the search, with nothing found below s, and m starts left
first_says : (es : List ℕ) (b m s : ℕ) → 0 < b → s + m ≡ length es → ((q : ℕ) → q < s → Fits es b q → ⊥) → Lowest es b (first_from es b m s)
unfolding first_from Lowest
first_says es b zero s h e lower = λ q r. lower q (omega (arith, r.run.room)) r
first_says es b (suc m) s h e lower = go (fits es b s) refl (first_says es b m (suc s) h (omega arith))
  where
    go : (v : Bool) → fits es b s ≡ v → (((q : ℕ) → q < suc s → Fits es b q → ⊥) → Lowest es b (first_from es b m (suc s)))
        → Lowest es b (elim v [ true ↦ some s | false ↦ first_from es b m (suc s) ])
    go true f rest = (fits_says es b s h f, lower)
    go false f rest =
        rest
        (λ q l r. ⊎_elim
        (λ same. true_not_false (fits_of es b q r) (ap (fits es b) same ∙ f))
        (λ below. lower q below r)
        (eq-or-lt_of_le {n = q} {m = s} (omega arith)))

pub first_lowest : (es : List ℕ) (b : ℕ) → 0 < b → Lowest es b (first_fit es b)
unfolding first_fit
first_lowest es b h = first_says es b (length es) 0 h (omega arith) (λ q l. absurd (omega arith))

pub lowest_one : (es : List ℕ) (b : ℕ) (x y : Option ℕ) → Lowest es b x → Lowest es b y → x ≡ y
unfolding Lowest
lowest_one es b (some s) (some q) x y = go (dec_lt s q) (dec_lt q s)
  where
    go : Dec (s < q) → Dec (q < s) → some s ≡ some q
    go (yes l) _ = absurd (y.1 s l x.0)
    go (no _) (yes l) = absurd (x.1 q l y.0)
    go (no l) (no r) = ap some (omega arith)
lowest_one es b (some s) none x y = absurd (y s x.0)
lowest_one es b none (some q) x y = absurd (x q y.0)
lowest_one es b none none x y = refl

pub first_is : (es : List ℕ) (b : ℕ) (x : Option ℕ) → 0 < b → Lowest es b x → first_fit es b ≡ x
first_is es b x h l = lowest_one es b (first_fit es b) x (first_lowest es b h) l

-- the search finds a start
pub first_fits : (es : List ℕ) (b s : ℕ) → 0 < b → first_fit es b ≡ some s → Fits es b s
unfolding Lowest
first_fits es b s h e = (rw e at (first_lowest es b h)).0

-- it finds none exactly if there is no start
pub first_none : (es : List ℕ) (b : ℕ) → 0 < b → first_fit es b ≡ none → (s : ℕ) → Fits es b s → ⊥
unfolding Lowest
first_none es b h e = rw e at (first_lowest es b h)

pub none_first : (es : List ℕ) (b : ℕ) → 0 < b → ((s : ℕ) → Fits es b s → ⊥) → first_fit es b ≡ none
unfolding Lowest
none_first es b h nowhere = first_is es b none h nowhere

-- ---- more blocks in place

module _ (es : List ℕ) (k b c : ℕ) where
  pub grows_of : GrowsInPlace es k b c → grows_in_place es k b c ≡ true
  unfolding grows_in_place
  grows_of g =
      both_of (aligned c k) (leb (c - b) (free_from es (k + b))) (aligned_of c k g.aligned) (le-leb (c - b) (free_from es (k + b)) (run_le es (c - b) (k + b) g.run))

  pub grows_says : k + b ≤ length es → grows_in_place es k b c ≡ true → GrowsInPlace es k b c
  unfolding grows_in_place
  grows_says inside e = record {
    aligned = aligned_says c k (both_left (aligned c k) (leb (c - b) (free_from es (k + b))) e);
    run = le_run es (c - b) (k + b) inside (leb-true (c - b) (free_from es (k + b)) (both_right (aligned c k) (leb (c - b) (free_from es (k + b))) e));
  }

-- ---- the longest run

free_le : (es : List ℕ) (s : ℕ) → free_from es s ≤ longest es
unfolding free_from longest leading
free_le [] s = rw (drop-nil s) (omega arith)
free_le (e ∷ es) zero = omega arith
free_le (e ∷ es) (suc s) = omega (arith, free_le es s)

record Attained (es : List ℕ) : Type 0 where
  start : ℕ
  inside : start ≤ length es
  there : free_from es start ≡ longest es

attained : (es : List ℕ) → Attained es
unfolding free_from longest leading
attained [] = record { start = 0; inside = omega arith; there = refl }
attained (e ∷ es) = go (attained es) (dec_lt (longest es) (leading is_free (e ∷ es)))
  where
    go : Attained es → Dec (longest es < leading is_free (e ∷ es)) → Attained (e ∷ es)
    go a (yes h) = record { start = 0; inside = omega arith; there = omega arith }
    go a (no h) = record { start = suc a.start; inside = omega (arith, a.inside); there = omega (arith, a.there) }

pub longest_says : (es : List ℕ) → Longest es (longest es)
longest_says es = record {
  start = (attained es).start;
  run = rw (← (attained es).there) (run_longest es (attained es).start (attained es).inside);
  most = λ b s r. omega (arith, run_le es b s r, free_le es s);
}

-- two numbers that are the longest run's length are the same
pub longest_one : (es : List ℕ) (l m : ℕ) → Longest es l → Longest es m → l ≡ m
longest_one es l m x y = omega (arith, x.most m y.start y.run, y.most l x.start x.run)

-- ---- counts

pub used_le : (es : List ℕ) → used es ≤ length es
unfolding used
used_le es = count_le is_used es

pub objects_le : (es : List ℕ) → objects es ≤ length es
unfolding objects
objects_le es = count_le is_head es
