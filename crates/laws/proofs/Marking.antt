-- Laws of the collection cycle that hide the numbers it counts down: what one step can do, the measures, what each loop keeps,
-- and a turn and the end of each loop.
-- Assumes nothing.
use mathlib.Core.Path.{◌≡◌, refl, ap, sym, ◌∙◌, subst}
use mathlib.Core.Bool.{Bool, true, false}
use mathlib.Core.List.Memᴰ
use mathlib.Core.List.{List, [], ◌∷◌, Memᴰ}
use mathlib.Core.Logic.{⊎_elim}
use mathlib.Core.Option.{Option, some, none}
use Prim.Native.Nat.{ℕ, zero, suc, ◌+◌, ◌*◌, ◌-◌, ◌≤◌, ◌<◌}
use native.Mathlib.Numerals.{add-one}
use native.Mathlib.Omega.{arith}
use lib.Dec.{eqb, ltb}
use lib.ListN.{length, get_or, set, drop, length-set, drop_of_length-le}
use lib.Seq.{drop-cons}
use borrow.Author.Tests.{eq-eqb, ne_eqb, ltb-true, ltb-false, eqb-true, eqb-false}
use Rattle.rules.specs.Tests.{pick}
use Rattle.rules.specs.Words.{word_at}
use Rattle.rules.specs.Entries.{FREE, HEAD, MARK}
use Rattle.rules.specs.Tables.{entry_at, is_head, objects, block_count}
use Rattle.rules.specs.Pointers.{leads_to}
use Rattle.laws.proofs.Lists.{one, count_set}
use Rattle.laws.proofs.Tables.{entry_inside, objects_le}
use Rattle.rules.specs.Marking.{Context, State, state, marked, pushed, visit_to, visit, walk_words, walk, drain_for, drain, trace, root_to, mark_root, mark_roots, pass_block, pass_from, pass, Marked, marked_in, rescan_for, rescan, mark_all, freeing_after, sweep_from}

-- a HEAD or a MARK is a block of the table
pub head_inside : (es : List ℕ) (k : ℕ) → entry_at es k ≡ HEAD → k < length es
head_inside es k h = entry_inside es k (λ q. omega arith)

pub mark_inside : (es : List ℕ) (k : ℕ) → entry_at es k ≡ MARK → k < length es
mark_inside es k h = entry_inside es k (λ q. omega arith)

-- a HEAD that becomes MARK is one HEAD fewer
pub objects_mark : (es : List ℕ) (k : ℕ) → entry_at es k ≡ HEAD → suc (objects (set es k MARK)) ≡ objects es
unfolding objects
objects_mark es k h =
    let z : one (is_head (entry_at es k)) ≡ 1 = ap (λ (e : ℕ). one (is_head e)) h in
    omega (arith, count_set is_head es k MARK FREE (head_inside es k h))

-- What a word of a walked object does. Nothing, if it leads to no HEAD; else that becomes MARK, and is pushed or, with the stack full, lost.
pub data Visits (c : Context) (w : ℕ) (s : State) : State → Type 0 where
  stays : ((k : ℕ) → leads_to c.base s.entries w ≡ some k → entry_at s.entries k ≡ HEAD → ⊥) → Visits c w s s
  pushes : (k : ℕ) → leads_to c.base s.entries w ≡ some k → entry_at s.entries k ≡ HEAD → length s.stack < c.room
      → Visits c w s (state (set s.entries k MARK) (k ∷ s.stack) s.overflow)
  loses : (k : ℕ) → leads_to c.base s.entries w ≡ some k → entry_at s.entries k ≡ HEAD → c.room ≤ length s.stack
      → Visits c w s (state (set s.entries k MARK) s.stack true)

some_same : {j k : ℕ} → some j ≡ some k → k ≡ j
some_same p = cc

not_some : {k : ℕ} → ◌≡◌ {A = Option ℕ} none (some k) → ⊥
not_some p = let z : ◌≡◌ {A = ℕ} 0 1 = cc in omega arith

pub visits : (c : Context) (w : ℕ) (s : State) → Visits c w s (visit c w s)
unfolding visit visit_to pushed
visits c w s = to (leads_to c.base s.entries w) refl
  where
    at : (k : ℕ) → leads_to c.base s.entries w ≡ some k
        → (t : Bool) → eqb (entry_at s.entries k) HEAD ≡ t → (u : Bool) → ltb (length s.stack) c.room ≡ u
        → Visits c w s (pick t (pick u (state (set s.entries k MARK) (k ∷ s.stack) s.overflow) (state (set s.entries k MARK) s.stack true)) s)
    at k q false p u r = stays (λ i l h. eqb-false _ _ p (rw (some_same (sym q ∙ l)) at h))
    at k q true p true r = pushes k q (eqb-true _ _ p) (ltb-true _ _ r)
    at k q true p false r = loses k q (eqb-true _ _ p) (ltb-false _ _ r)

    to : (o : Option ℕ) → leads_to c.base s.entries w ≡ o → Visits c w s (visit_to c s o)
    to none q = stays (λ k l h. not_some (sym q ∙ l))
    to (some k) q = at k q (eqb (entry_at s.entries k) HEAD) refl (ltb (length s.stack) c.room) refl

-- What a root does. Nothing, if it leads to no HEAD; else that becomes MARK and is traced.
pub data Rooted (c : Context) (w : ℕ) (s : State) : State → Type 0 where
  idle : ((k : ℕ) → leads_to c.base s.entries w ≡ some k → entry_at s.entries k ≡ HEAD → ⊥) → Rooted c w s s
  takes : (k : ℕ) → leads_to c.base s.entries w ≡ some k → entry_at s.entries k ≡ HEAD → Rooted c w s (trace c k (marked k s))

pub rooted : (c : Context) (w : ℕ) (s : State) → Rooted c w s (mark_root c w s)
unfolding mark_root root_to
rooted c w s = to (leads_to c.base s.entries w) refl
  where
    at : (k : ℕ) → leads_to c.base s.entries w ≡ some k → (t : Bool) → eqb (entry_at s.entries k) HEAD ≡ t
        → Rooted c w s (pick t (trace c k (marked k s)) s)
    at k q false p = idle (λ i l h. eqb-false _ _ p (rw (some_same (sym q ∙ l)) at h))
    at k q true p = takes k q (eqb-true _ _ p)

    to : (o : Option ℕ) → leads_to c.base s.entries w ≡ o → Rooted c w s (root_to c s o)
    to none q = idle (λ k l h. not_some (sym q ∙ l))
    to (some k) q = at k q (eqb (entry_at s.entries k) HEAD) refl

-- What a pass does at a block. Nothing at what is no MARK; else it is traced.
pub data Passed (c : Context) (k : ℕ) (s : State) : State → Type 0 where
  skips : (entry_at s.entries k ≡ MARK → ⊥) → Passed c k s s
  walks : entry_at s.entries k ≡ MARK → Passed c k s (trace c k s)

pub passed : (c : Context) (k : ℕ) (s : State) → Passed c k s (pass_block c k s)
unfolding pass_block
passed c k s = go (eqb (entry_at s.entries k) MARK) refl
  where
    go : (t : Bool) → eqb (entry_at s.entries k) MARK ≡ t → Passed c k s (pick t (trace c k s) s)
    go false p = skips (eqb-false _ _ p)
    go true p = walks (eqb-true _ _ p)

pub pass_skips : (c : Context) (k : ℕ) (s : State) → (entry_at s.entries k ≡ MARK → ⊥) → pass_block c k s ≡ s
unfolding pass_block
pass_skips c k s h = rw (ne_eqb _ _ h)

pub pass_walks : (c : Context) (k : ℕ) (s : State) → entry_at s.entries k ≡ MARK → pass_block c k s ≡ trace c k s
unfolding pass_block
pass_walks c k s h = rw (eq-eqb _ _ h)

-- what each word keeps, the words keep
pub words_keep : (c : Context) (P : State → Type 0) (first n : ℕ) (s : State)
    → ((i : ℕ) → i < n → (z : State) → P z → P (visit c (word_at c.pool (first + i)) z)) → P s → P (walk_words c first n s)
unfolding walk_words
words_keep c P first zero s f p = p
words_keep c P first (suc n) s f p =
    words_keep c P first n (visit c (word_at c.pool (first + n)) s) (λ i h. f i (omega arith)) (f n (omega arith) s p)

pub walk_keeps : (c : Context) (P : State → Type 0) (k : ℕ) (s : State)
    → ((i : ℕ) → i < 4 * block_count s.entries k → (z : State) → P z → P (visit c (word_at c.pool (4 * k + i)) z)) → P s → P (walk c k s)
unfolding walk
walk_keeps c P k s f p = words_keep c P (4 * k) (4 * block_count s.entries k) s f p

-- what popping and walking keeps, draining keeps
pub drain_keeps : (c : Context) (P : State → Type 0)
    → ((es : List ℕ) (k : ℕ) (st : List ℕ) (o : Bool) → P (state es (k ∷ st) o) → P (walk c k (state es st o)))
    → (s : State) → P s → P (drain c s)
unfolding drain drain_for
drain_keeps c P f s p = go (objects s.entries + length s.stack) s.entries s.stack s.overflow p
  where
    go : (n : ℕ) (es st : List ℕ) (o : Bool) → P (state es st o) → P (drain_for n c (state es st o))
    go zero es st o p = p
    go (suc n) es [] o p = p
    go (suc n) es (k ∷ st) o p = let r = walk c k (state es st o) in go n r.entries r.stack r.overflow (f es k st o p)

-- what each block keeps, a pass keeps; what is kept may name the block that is next
pub pass_keeps : (c : Context) (P : ℕ → State → Type 0) → ((k : ℕ) (s : State) → P k s → P (suc k) (pass_block c k s))
    → (k n : ℕ) (s : State) → P k s → P (k + n) (pass_from c k n s)
unfolding pass_from
pass_keeps c P f k zero s p = let e : k + 0 ≡ k = omega arith in rw e p
pass_keeps c P f k (suc n) s p =
    let e : k + suc n ≡ suc k + n = omega arith in
    rw e (pass_keeps c P f (suc k) n (pass_block c k s) (f k s p))

-- what each pass keeps, the rescans keep
pub rescan_keeps : (c : Context) (P : State → Type 0) → ((s : State) → P s → P (pass c s)) → (s : State) (r : ℕ) → P s → P (rescan c s r).last
unfolding rescan rescan_for
rescan_keeps c P f s r p = go (pick s.overflow (suc (objects s.entries)) 0) s.entries s.stack s.overflow r p
  where
    go : (n : ℕ) (es st : List ℕ) (o : Bool) (r : ℕ) → P (state es st o) → P (rescan_for n c (state es st o) r).last
    go zero es st o r p = p
    go (suc n) es st false r p = p
    go (suc n) es st true r p =
        let z = pass c (state es st true) in
        go n z.entries z.stack z.overflow (suc r) (f (state es st true) p)

-- The measure of draining: walking does not raise it, and popping lowers it.
unfoldable pub to_drain : State → ℕ
to_drain s = objects s.entries + length s.stack

visits_measure : {c : Context} {w : ℕ} {s z : State} → Visits c w s z → to_drain z ≤ to_drain s
unfolding to_drain
visits_measure (stays _) = omega arith
visits_measure {s = s} (pushes k q h r) = omega (arith, objects_mark s.entries k h)
visits_measure {s = s} (loses k q h r) = omega (arith, objects_mark s.entries k h)

pub words_measure : (c : Context) (first n : ℕ) (s : State) → to_drain (walk_words c first n s) ≤ to_drain s
words_measure c first n s =
    words_keep c (λ z. to_drain z ≤ to_drain s) first n s (λ i h z p. omega (arith, visits_measure (visits c (word_at c.pool (first + i)) z))) (omega arith)

pub walk_measure : (c : Context) (k : ℕ) (s : State) → to_drain (walk c k s) ≤ to_drain s
unfolding walk
walk_measure c k s = words_measure c (4 * k) (4 * block_count s.entries k) s

pub pop_less : (es : List ℕ) (k : ℕ) (st : List ℕ) (o : Bool) → to_drain (state es st o) < to_drain (state es (k ∷ st) o)
unfolding to_drain
pop_less es k st o = omega arith

pub pop_measure : (c : Context) (es : List ℕ) (k : ℕ) (st : List ℕ) (o : Bool) → to_drain (walk c k (state es st o)) < to_drain (state es (k ∷ st) o)
pop_measure c es k st o = omega (arith, walk_measure c k (state es st o), pop_less es k st o)

-- any number that is enough gives the same
drain_enough : (c : Context) (m n : ℕ) (es st : List ℕ) (o : Bool) → to_drain (state es st o) ≤ m → to_drain (state es st o) ≤ n
    → drain_for m c (state es st o) ≡ drain_for n c (state es st o)
unfolding drain_for to_drain
drain_enough c zero zero es st o p q = refl
drain_enough c zero (suc n) es [] o p q = refl
drain_enough c zero (suc n) es (k ∷ st) o p q = absurd (omega arith)
drain_enough c (suc m) zero es [] o p q = refl
drain_enough c (suc m) zero es (k ∷ st) o p q = absurd (omega arith)
drain_enough c (suc m) (suc n) es [] o p q = refl
drain_enough c (suc m) (suc n) es (k ∷ st) o p q =
    let r = walk c k (state es st o) in
    let l = pop_measure c es k st o in
    drain_enough c m n r.entries r.stack r.overflow (omega arith) (omega arith)

-- Draining: with the stack empty nothing is left to do; else the top is popped and walked.
pub drain_nil : (c : Context) (es : List ℕ) (o : Bool) → drain c (state es [] o) ≡ state es [] o
unfolding drain drain_for
drain_nil c es o = go (objects es + 0)
  where
    go : (n : ℕ) → drain_for n c (state es [] o) ≡ state es [] o
    go zero = refl
    go (suc n) = refl

pub drain_pop : (c : Context) (es : List ℕ) (k : ℕ) (st : List ℕ) (o : Bool) → drain c (state es (k ∷ st) o) ≡ drain c (walk c k (state es st o))
unfolding drain drain_for to_drain
drain_pop c es k st o =
    let r = walk c k (state es st o) in
    let l = pop_measure c es k st o in
    let f : objects es + suc (length st) ≡ suc (objects es + length st) = omega arith in
    rw f (drain_enough c (objects es + length st) (to_drain r) r.entries r.stack r.overflow (omega arith) (omega arith))

pub drained : (c : Context) (s : State) → (drain c s).stack ≡ []
unfolding drain drain_for to_drain
drained c s = go (objects s.entries + length s.stack) s.entries s.stack s.overflow (omega arith)
  where
    go : (n : ℕ) (es st : List ℕ) (o : Bool) → to_drain (state es st o) ≤ n → (drain_for n c (state es st o)).stack ≡ []
    go zero es [] o p = refl
    go zero es (k ∷ st) o p = absurd (omega arith)
    go (suc n) es [] o p = refl
    go (suc n) es (k ∷ st) o p =
        let r = walk c k (state es st o) in
        let l = pop_measure c es k st o in
        go n r.entries r.stack r.overflow (omega arith)

pub traced : (c : Context) (k : ℕ) (s : State) → (trace c k s).stack ≡ []
unfolding trace
traced c k s = drained c (walk c k s)

-- The potential of a state: HEADs and the flag. A flag that is newly set has cost a HEAD.
unfoldable pub potential : State → ℕ
potential s = objects s.entries + one s.overflow

visits_potential : {c : Context} {w : ℕ} {s z : State} → Visits c w s z → potential z ≤ potential s
unfolding potential
visits_potential (stays _) = omega arith
visits_potential {s = s} (pushes k q h r) = omega (arith, objects_mark s.entries k h)
visits_potential {s = s} (loses k q h r) = omega (arith, objects_mark s.entries k h)

module _ (c : Context) (m : ℕ) where
  walk_potential : (k : ℕ) (s : State) → potential s ≤ m → potential (walk c k s) ≤ m
  walk_potential k s p =
      walk_keeps c (λ z. potential z ≤ m) k s (λ i h z q. omega (arith, visits_potential (visits c (word_at c.pool (4 * k + i)) z))) p

  drain_potential : (s : State) → potential s ≤ m → potential (drain c s) ≤ m
  unfolding potential
  drain_potential s p = drain_keeps c (λ z. potential z ≤ m) (λ es k st o q. walk_potential k (state es st o) q) s p

  passed_potential : {k : ℕ} {s z : State} → Passed c k s z → potential s ≤ m → potential z ≤ m
  unfolding trace
  passed_potential (skips h) p = p
  passed_potential {k = k} {s = s} (walks h) p = drain_potential (walk c k s) (walk_potential k s p)

  pub passes_potential : (k n : ℕ) (s : State) → potential s ≤ m → potential (pass_from c k n s) ≤ m
  passes_potential k n s p = pass_keeps c (λ k z. potential z ≤ m) (λ k z q. passed_potential (passed c k z) q) k n s p

-- a pass ends with no more HEADs and flag than there were HEADs
pub pass_potential : (c : Context) (s : State) → potential (pass c s) ≤ objects s.entries
unfolding pass potential
pass_potential c s = passes_potential c (objects s.entries) 0 (length s.entries) (state s.entries s.stack false) (omega arith)

-- The measure of the rescans: how many there can still be. Each lowers it.
unfoldable pub to_rescan : State → ℕ
to_rescan s = pick s.overflow (suc (objects s.entries)) 0

rescan_potential : (s : State) → to_rescan s ≤ potential s
unfolding to_rescan potential
rescan_potential s = go s.overflow
  where
    go : (o : Bool) → pick o (suc (objects s.entries)) 0 ≤ objects s.entries + one o
    go true = omega arith
    go false = omega arith

pub pass_measure : (c : Context) (s : State) → s.overflow ≡ true → to_rescan (pass c s) < to_rescan s
unfolding to_rescan
pass_measure c s h =
    let q : pick s.overflow (suc (objects s.entries)) 0 ≡ suc (objects s.entries) = ap (λ (o : Bool). pick o (suc (objects s.entries)) 0) h in
    omega (arith, rescan_potential (pass c s), pass_potential c s)

pub rescan_most : (s : State) → to_rescan s ≤ suc (length s.entries)
unfolding to_rescan
rescan_most s = go s.overflow
  where
    go : (o : Bool) → pick o (suc (objects s.entries)) 0 ≤ suc (length s.entries)
    go true = omega (arith, objects_le s.entries)
    go false = omega arith

rescan_enough : (c : Context) (m n : ℕ) (es st : List ℕ) (o : Bool) (r : ℕ) → to_rescan (state es st o) ≤ m → to_rescan (state es st o) ≤ n
    → rescan_for m c (state es st o) r ≡ rescan_for n c (state es st o) r
unfolding rescan_for to_rescan
rescan_enough c zero zero es st o r p q = refl
rescan_enough c zero (suc n) es st false r p q = refl
rescan_enough c zero (suc n) es st true r p q = absurd (omega arith)
rescan_enough c (suc m) zero es st false r p q = refl
rescan_enough c (suc m) zero es st true r p q = absurd (omega arith)
rescan_enough c (suc m) (suc n) es st false r p q = refl
rescan_enough c (suc m) (suc n) es st true r p q =
    let z = pass c (state es st true) in
    let l = pass_measure c (state es st true) refl in
    rescan_enough c m n z.entries z.stack z.overflow (suc r) (omega (arith, l)) (omega (arith, l))

-- Rescanning: with the flag clear nothing is left to do; else there is one pass more.
pub rescan_done : (c : Context) (s : State) (r : ℕ) → s.overflow ≡ false → rescan c s r ≡ marked_in s r
unfolding rescan rescan_for
rescan_done c s r h = go s.overflow h
  where
    go : (o : Bool) → o ≡ false → rescan c (state s.entries s.stack o) r ≡ marked_in (state s.entries s.stack o) r
    go false q = refl
    go true q = let z : ◌≡◌ {A = ℕ} 1 0 = ap one q in absurd (omega arith)

pub rescan_more : (c : Context) (s : State) (r : ℕ) → s.overflow ≡ true → rescan c s r ≡ rescan c (pass c s) (suc r)
unfolding rescan rescan_for to_rescan
rescan_more c s r h = go s.overflow h
  where
    go : (o : Bool) → o ≡ true
        → rescan c (state s.entries s.stack o) r ≡ rescan c (pass c (state s.entries s.stack o)) (suc r)
    go false q = let z : ◌≡◌ {A = ℕ} 0 1 = ap one q in absurd (omega arith)
    go true q =
        let z = pass c (state s.entries s.stack true) in
        let l = pass_measure c (state s.entries s.stack true) refl in
        rescan_enough c (objects s.entries) (to_rescan z) z.entries z.stack z.overflow (suc r) (omega (arith, l)) (omega arith)

-- the flag is clear after the rescans
pub rescanned : (c : Context) (s : State) (r : ℕ) → (rescan c s r).last.overflow ≡ false
unfolding rescan rescan_for to_rescan
rescanned c s r = go (pick s.overflow (suc (objects s.entries)) 0) s.entries s.stack s.overflow r (omega arith)
  where
    go : (n : ℕ) (es st : List ℕ) (o : Bool) (r : ℕ) → to_rescan (state es st o) ≤ n → (rescan_for n c (state es st o) r).last.overflow ≡ false
    go zero es st false r p = refl
    go zero es st true r p = absurd (omega arith)
    go (suc n) es st false r p = refl
    go (suc n) es st true r p =
        let z = pass c (state es st true) in
        let l = pass_measure c (state es st true) refl in
        go n z.entries z.stack z.overflow (suc r) (omega (arith, l))

-- What the whole cycle keeps: the number of blocks; on the stack only blocks of the table, no more than there is room for.
pub record Sane (c : Context) (n : ℕ) (s : State) : Type 0 where
  pub long : length s.entries ≡ n
  pub below : (k : ℕ) → Memᴰ k s.stack → k < n
  pub fits : length s.stack ≤ c.room

module _ {c : Context} {n : ℕ} where
  pub sane_start : (es : List ℕ) (o : Bool) → length es ≡ n → Sane c n (state es [] o)
  sane_start es o h = record { long = h; below = λ k m. absurd (Memᴰ.not-nil m); fits = omega arith }

  pub sane_pop : {es : List ℕ} {k : ℕ} {st : List ℕ} {o : Bool} → Sane c n (state es (k ∷ st) o) → Sane c n (state es st o)
  sane_pop g = let f = g.fits in record { long = g.long; below = λ i m. g.below i (Memᴰ.tail m); fits = omega arith }

  sane_visits : {w : ℕ} {s z : State} → Visits c w s z → Sane c n s → Sane c n z
  sane_visits (stays _) g = g
  sane_visits {s = s} (pushes k q h r) g =
      let i = head_inside s.entries k h in
      let l = g.long in
      record {
        long = simp length-set g.long;
        below = λ j m. ⊎_elim (λ p. omega arith) (λ t. g.below j t) (Memᴰ.cases_cons m);
        fits = omega arith;
      }
  sane_visits {s = s} (loses k q h r) g = record { long = simp length-set g.long; below = g.below; fits = g.fits }

  pub sane_visit : (w : ℕ) (s : State) → Sane c n s → Sane c n (visit c w s)
  sane_visit w s g = sane_visits (visits c w s) g

  pub sane_words : (first m : ℕ) (s : State) → Sane c n s → Sane c n (walk_words c first m s)
  sane_words first m s g = words_keep c (Sane c n) first m s (λ i h z q. sane_visit (word_at c.pool (first + i)) z q) g

  pub sane_walk : (k : ℕ) (s : State) → Sane c n s → Sane c n (walk c k s)
  unfolding walk
  sane_walk k s g = sane_words (4 * k) (4 * block_count s.entries k) s g

-- Turns and ends of the loops, for what is left to do. `c'` is the context as it is at the turn.
pub words_turn : (c : Context) (first n : ℕ) (s : State) {c' : Context} {s' z : State} → 0 < n → c' ≡ c → s' ≡ visit c' (word_at c'.pool (first + (n - 1))) s
    → walk_words c first n s ≡ z → walk_words c first (n - 1) s' ≡ z
unfolding walk_words
words_turn c first zero s h e q i = absurd (omega arith)
words_turn c first (suc n) s h e q i = let m : suc n - 1 ≡ n = omega arith in rw (q, e, m) i

pub words_end : (c : Context) (first n : ℕ) (s : State) {z : State} → n ≤ 0 → walk_words c first n s ≡ z → s ≡ z
unfolding walk_words
words_end c first n s h i = let m : n ≡ 0 = omega arith in rw m at i

pub drain_end : (c : Context) (es : List ℕ) (o : Bool) {z : State} → drain c (state es [] o) ≡ z → state es [] o ≡ z
drain_end c es o i = sym (drain_nil c es o) ∙ i

pub roots_turn : (c : Context) (ws : List ℕ) (i : ℕ) (s : State) {c' : Context} {s' z : State} → i < length ws → c' ≡ c → s' ≡ mark_root c' (get_or ws i 0) s
    → mark_roots c (drop i ws) s ≡ z → mark_roots c (drop (i + 1) ws) s' ≡ z
unfolding mark_roots
roots_turn c ws i s h e q k = rw (add-one, q, e) (rw (drop-cons ws i 0 h) at k)

pub roots_end : (c : Context) (ws : List ℕ) (i : ℕ) (s : State) {z : State} → length ws ≤ i → mark_roots c (drop i ws) s ≡ z → s ≡ z
unfolding mark_roots
roots_end c ws i s h k = rw (drop_of_length-le ws h) at k

pub pass_turn : (c : Context) (k n : ℕ) (s : State) {c' : Context} {s' z : State} → k < n → c' ≡ c → s' ≡ pass_block c' k s
    → pass_from c k (n - k) s ≡ z → pass_from c (k + 1) (n - (k + 1)) s' ≡ z
unfolding pass_from
pass_turn c k n s {z = z} h e q i =
    let m : n - k ≡ suc (n - (k + 1)) = omega arith in
    let j : pass_from c (suc k) (n - (k + 1)) (pass_block c k s) ≡ z = rw m at i in
    rw (q, e) (subst (λ (l : ℕ). pass_from c l (n - (k + 1)) (pass_block c k s) ≡ z) (sym (add-one k)) j)

pub pass_end : (c : Context) (k n : ℕ) (s : State) {z : State} → n ≤ k → pass_from c k (n - k) s ≡ z → s ≡ z
unfolding pass_from
pass_end c k n s h i = let m : n - k ≡ 0 = omega arith in rw m at i

pub sweep_length : (freeing : Bool) (es : List ℕ) → length (sweep_from freeing es) ≡ length es
unfolding sweep_from
sweep_length freeing [] = refl
sweep_length freeing (e ∷ es) = ap suc (sweep_length (freeing_after freeing e) es)

-- the whole marking, from what its two loops leave
pub mark_all_from : (c : Context) (ws es : List ℕ) {s : State} {m : Marked} → s ≡ mark_roots c ws (state es [] false) → rescan c s 0 ≡ m → mark_all c ws es ≡ m
unfolding mark_all
mark_all_from c ws es q i = rw (← q) i
