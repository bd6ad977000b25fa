-- The marking of a table follows the marking of the plain list step by step: the same objects marked, the same on the stack, the same flag.
-- Assumes nothing.
use mathlib.Core.Path.{◌≡◌, refl, sym, ap, ◌∙◌}
use mathlib.Core.Logic.{◌≢◌, inl, ⊎_elim}
use mathlib.Core.Bool.{Bool, true, false}
use mathlib.Core.List.Memᴰ
use mathlib.Core.List.{List, [], ◌∷◌, map, Memᴰ}
use mathlib.Core.Option.{Option, some, none}
use Prim.Native.Nat.{ℕ, zero, suc, ◌+◌, ◌-◌, ◌*◌, ◌≤◌, ◌<◌}
use native.Mathlib.Decide.{ℕ_discrete}
use native.Mathlib.Omega.{arith}
use lib.Dec.{eqb, ltb}
use lib.ListN.{length, get_or, set, length-map}
use lib.Seq.{get_or-set_same, get_or-set_other}
use borrow.Author.Tests.{eq-eqb, ne_eqb, eqb-true, eqb-false}
use Rattle.rules.specs.Tests.{pick, either, tabulate}
use Rattle.rules.specs.Words.{word_at}
use Rattle.rules.specs.Entries.{FREE, HEAD, MARK}
use Rattle.rules.specs.Tables.{entry_at, is_head, block_count, objects}
use Rattle.rules.specs.Pointers.{address_of, leads_to}
use Rattle.laws.specs.Meaning.{PointsInto, Leads}
use Rattle.rules.specs.Marking.{Context, State, state, marked, pushed, visit_to, visit, walk_words, walk, drain, trace, root_to, mark_root, mark_roots, pass_block, pass_from, pass, Marked, rescan, mark_all}
use Rattle.laws.proofs.Refusals.{true_not_false}
use Rattle.laws.proofs.Tables.{count_is}
use Rattle.laws.proofs.Pointers.{leads_says, leads_one}
use Rattle.laws.proofs.Marking.{head_inside, objects_mark, to_drain, pop_measure, drain_nil, drain_pop, pass_skips, to_rescan, pass_measure, rescan_done, rescan_more}
use Rattle.laws.proofs.Marks.{Marks, marks_none, marks_more, marks_count, marks_leads}
use Rattle.plain.specs.Objects.{Object, end, find}
use Rattle.plain.specs.Tracing.{View, Progress, progress, is_in, addresses, led_to, mark, push, follow_to, follow, follow_all, empty_for, empty, subtree, from_root_to, from_roots, go_through, again, Traced, again_for}
use Rattle.plain.specs.Tracing as list
use Rattle.simulation.proofs.Laid.{Holds, Lies, Laid, done, next, lies_extent, laid_unmarked, Found, missing, there, finds}
use Rattle.simulation.proofs.Gaps.{laid_objects}

-- ---- where a word leads

-- an object of the table
pub record Known (pool es : List ℕ) (o : Object) : Type 0 where
  pub head : entry_at es o.start ≡ HEAD
  pub count : block_count es o.start ≡ o.blocks
  pub words : Holds pool o.start o.blocks o.words

-- a word leads to nothing, or to an object, in the list and in the table
pub data Led (pool es : List ℕ) : Option Object → Option ℕ → Type 0 where
  nowhere : Led pool es none none
  object : (o : Object) → Known pool es o → Led pool es (some o) (some o.start)

-- a number is one of the n values of f
record Tabulated (n : ℕ) (f : ℕ → ℕ) (w : ℕ) : Type 0 where
  index : ℕ
  below : index < n
  is : w ≡ f index

tabulated_of : (n : ℕ) (f : ℕ → ℕ) (w : ℕ) → is_in w (tabulate n f) ≡ true → Tabulated n f w
unfolding is_in tabulate
tabulated_of zero f w q = absurd (true_not_false q refl)
tabulated_of (suc n) f w q = go (eqb w (f 0)) refl q (tabulated_of n (λ (i : ℕ). f (suc i)) w)
  where
    go : (t : Bool) → eqb w (f 0) ≡ t → either t (is_in w (tabulate n (λ (i : ℕ). f (suc i)))) ≡ true
        → (is_in w (tabulate n (λ (i : ℕ). f (suc i))) ≡ true → Tabulated n (λ (i : ℕ). f (suc i)) w) → Tabulated (suc n) f w
    go true e q rest = record { index = 0; below = omega arith; is = eqb-true _ _ e }
    go false e q rest = let a = rest q in record { index = suc a.index; below = omega (arith, a.below); is = a.is }

of_tabulated : (n : ℕ) (f : ℕ → ℕ) (w i : ℕ) → i < n → w ≡ f i → is_in w (tabulate n f) ≡ true
unfolding is_in tabulate
of_tabulated zero f w i l e = absurd (omega arith)
of_tabulated (suc n) f w zero l e = rw (eq-eqb w (f 0) e)
of_tabulated (suc n) f w (suc i) l e = rw (of_tabulated n (λ (j : ℕ). f (suc j)) w i (omega arith) e) (go (eqb w (f 0)))
  where
    go : (t : Bool) → either t true ≡ true
    go true = refl
    go false = refl

-- an object with that address is found, or one before it
led_there : (base w k : ℕ) (os : List Object) (o : Object) → find k os ≡ some o → is_in w (addresses base o) ≡ true → led_to base w os ≢ none
unfolding find led_to
led_there base w k [] o q i = let z : ◌≡◌ {A = ℕ} 0 1 = cc in absurd (omega arith)
led_there base w k (x ∷ os) o q i = go (is_in w (addresses base x)) refl (eqb x.start k) q (led_there base w k os o)
  where
    go : (t : Bool) → is_in w (addresses base x) ≡ t → (u : Bool) → pick u (some x) (find k os) ≡ some o
        → (find k os ≡ some o → is_in w (addresses base o) ≡ true → led_to base w os ≢ none) → pick t (some x) (led_to base w os) ≢ none
    go true e u q rest = λ n. let z : ◌≡◌ {A = ℕ} 0 1 = cc in omega arith
    go false e true q rest = let p : x ≡ o = cc in absurd (true_not_false (rw p i) e)
    go false e false q rest = rest q i

module _ (pool es : List ℕ) (base w : ℕ) where
  -- the object that a word leads to in the list is an object of the table, and the word points into it
  led_some : {from : ℕ} {os : List Object} {o : Object} → Laid pool es from os → led_to base w os ≡ some o → Known pool es o × PointsInto base es w o.start
  unfolding led_to address_of
  led_some (done r g) q = let z : ◌≡◌ {A = ℕ} 0 1 = cc in absurd (omega arith)
  led_some {o = o} (next {o = x} {os = os} l g y e r) q = go (is_in w (addresses base x)) refl q (led_some r)
    where
      count : block_count es x.start ≡ x.blocks
      count = count_is es x.start x.blocks (lies_extent y r)

      into : Tabulated x.blocks (λ (i : ℕ). base + 16 * (x.start + i)) w → PointsInto base es w x.start
      into a = record { head = inl y.head; block = x.start + a.index; from = omega arith; to = rw count (omega (arith, a.below)); address = a.is }

      go : (t : Bool) → is_in w (addresses base x) ≡ t → pick t (some x) (led_to base w os) ≡ some o
          → (led_to base w os ≡ some o → Known pool es o × PointsInto base es w o.start) → Known pool es o × PointsInto base es w o.start
      go true i q rest =
          let p : x ≡ o = cc in
          rw (← p) (record { head = y.head; count = count; words = y.words }, into (tabulated_of _ _ w i))
      go false i q rest = rest q

  -- and where it leads to none in the list, it points into no object of the table
  led_none : {os : List Object} → Laid pool es 0 os → led_to base w os ≡ none → (k : ℕ) → PointsInto base es w k → ⊥
  unfolding address_of
  led_none {os} d q k p = go (find k os) refl (finds d k (omega arith))
    where
      head : entry_at es k ≡ HEAD
      head = ⊎_elim (λ h. h) (λ m. absurd (laid_unmarked d k m)) p.head

      go : (x : Option Object) → find k os ≡ x → Found pool es k x → ⊥
      go x e (missing n) = n head
      go x e (there o s y t) =
          led_there base w k os o e (of_tabulated o.blocks (λ (i : ℕ). base + 16 * (o.start + i)) w (p.block - k)
          (omega (arith, p.from, p.to, count_is es k o.blocks t)) (omega (arith, p.from, p.address))) q

  pub leads_agree : {os : List Object} → Laid pool es 0 os → Led pool es (led_to base w os) (leads_to base es w)
  unfolding Leads
  leads_agree {os} d = go (led_to base w os) refl
    where
      go : (x : Option Object) → led_to base w os ≡ x → Led pool es x (leads_to base es w)
      go none q = rw (leads_one base es w (leads_to base es w) none (leads_says base es w) (led_none d q)) nowhere
      go (some o) q =
          let l = led_some d q in
          rw (leads_one base es w (leads_to base es w) (some o.start) (leads_says base es w) l.1) (object o l.0)

-- ---- steps of the marking

abbrev pub starts : List Object → List ℕ
starts os = map (λ (o : Object). o.start) os

-- the words of an object can also be taken the first last
walk_front : (c : Context) (first n : ℕ) (z : State) → walk_words c first (suc n) z ≡ visit c (word_at c.pool first) (walk_words c (suc first) n z)
unfolding walk_words
walk_front c first zero z = let e : first + 0 ≡ first = omega arith in rw e
walk_front c first (suc n) z =
    let e : first + suc n ≡ suc first + n = omega arith in
    walk_front c first n (visit c (word_at c.pool (first + suc n)) z) ∙ rw e

drain_empty : (c : Context) (z : State) → z.stack ≡ [] → drain c z ≡ z
drain_empty c z e =
    ap (λ (l : List ℕ). drain c (state z.entries l z.overflow)) e ∙ drain_nil c z.entries z.overflow
    ∙ ap (λ (l : List ℕ). state z.entries l z.overflow) (sym e)

drain_top : (c : Context) (z : State) (k : ℕ) (st : List ℕ) → z.stack ≡ k ∷ st → drain c z ≡ drain c (walk c k (state z.entries st z.overflow))
drain_top c z k st e = ap (λ (l : List ℕ). drain c (state z.entries l z.overflow)) e ∙ drain_pop c z.entries k st z.overflow

pass_split : (c : Context) (k a b : ℕ) (z : State) → pass_from c k (a + b) z ≡ pass_from c (k + a) b (pass_from c k a z)
unfolding pass_from
pass_split c k zero b z =
    let e : k + 0 ≡ k = omega arith in
    let f : 0 + b ≡ b = omega arith in
    rw (e, f)
pass_split c k (suc a) b z =
    let e : k + suc a ≡ suc k + a = omega arith in
    let f : suc a + b ≡ suc (a + b) = omega arith in
    rw (e, f) (pass_split c (suc k) a b (pass_block c k z))

module _ (base : ℕ) (pool es₀ : List ℕ) (os : List Object) (room : ℕ) (laid : Laid pool es₀ 0 os) where
  abbrev c : Context
  c = record { base = base; pool = pool; room = room }

  abbrev v : View
  v = record { base = base; objects = os; room = room }

  -- the state of the table's marking is that of the list's
  pub record Follows (s : Progress) (z : State) : Type 0 where
    pub marks : Marks es₀ z.entries
    pub marked : (k : ℕ) → eqb (entry_at z.entries k) MARK ≡ is_in k s.marked
    pub few : objects z.entries ≤ length os
    pub stack : z.stack ≡ starts s.stack
    pub known : (o : Object) → Memᴰ o s.stack → Known pool es₀ o
    pub overflow : z.overflow ≡ s.overflow

  -- an object that is marked is MARK
  is_marked : {s : Progress} {z : State} (o : Object) → Follows s z → is_in o.start s.marked ≡ true → entry_at z.entries o.start ≡ MARK
  is_marked o f e = eqb-true _ _ (f.marked o.start ∙ e)

  -- and else still HEAD
  not_marked : {s : Progress} {z : State} (o : Object) → Known pool es₀ o → Follows s z → is_in o.start s.marked ≡ false → entry_at z.entries o.start ≡ HEAD
  not_marked o n f e = ⊎_elim (λ q. q ∙ n.head) (λ q. absurd (eqb-false _ _ (f.marked o.start ∙ e) q.1)) (f.marks.at o.start)

  mark_follows : {s : Progress} {z : State} (o : Object) → entry_at z.entries o.start ≡ HEAD → Follows s z → Follows (mark o s) (marked o.start z)
  unfolding is_in
  mark_follows {s} {z} o h f =
      record {
        marks = marks_more es₀ z.entries o.start f.marks h;
        marked = λ k. go k (ℕ_discrete k o.start);
        few = omega (arith, objects_mark z.entries o.start h, f.few);
        stack = f.stack;
        known = f.known;
        overflow = f.overflow;
      }
    where
      go : (k : ℕ) → Dec (k ≡ o.start) → eqb (entry_at (set z.entries o.start MARK) k) MARK ≡ either (eqb k o.start) (is_in k s.marked)
      go k (yes e) = rw (eq-eqb k o.start e, e, get_or-set_same z.entries o.start MARK FREE (head_inside z.entries o.start h))
      go k (no e) = rw (ne_eqb k o.start e, get_or-set_other z.entries o.start k MARK FREE e) (f.marked k)

  push_follows : {s : Progress} {z : State} (o : Object) → Known pool es₀ o → Follows s z → Follows (push v o s) (pushed c o.start z)
  unfolding push pushed
  push_follows {s} {z} o n f = rw l (go (ltb (length s.stack) room))
    where
      l : length z.stack ≡ length s.stack
      l = ap length f.stack ∙ length-map s.stack (λ (o : Object). o.start)

      go : (t : Bool) → Follows (pick t (progress s.marked (o ∷ s.stack) s.overflow) (progress s.marked s.stack true))
          (pick t (state z.entries (o.start ∷ z.stack) z.overflow) (state z.entries z.stack true))
      go true =
          record {
            marks = f.marks;
            marked = f.marked;
            few = f.few;
            stack = ap (λ (l : List ℕ). o.start ∷ l) f.stack;
            known = λ x m. ⊎_elim (λ e. rw e n) (λ t. f.known x t) (Memᴰ.cases_cons m);
            overflow = f.overflow;
          }
      go false = record { marks = f.marks; marked = f.marked; few = f.few; stack = f.stack; known = f.known; overflow = refl }

  -- a word leads to the same object while objects are marked
  leads_now : {s : Progress} {z : State} → Follows s z → (w : ℕ) → Led pool es₀ (led_to base w os) (leads_to base z.entries w)
  leads_now {s} {z} f w = rw (marks_leads base es₀ z.entries w f.marks) (leads_agree pool es₀ base w laid)

  follows_to : {s : Progress} {z : State} → Follows s z → {x : Option Object} {y : Option ℕ} → Led pool es₀ x y → Follows (follow_to v s x) (visit_to c z y)
  unfolding follow_to visit_to
  follows_to f nowhere = f
  follows_to {s} {z} f (object o n) = go (is_in o.start s.marked) refl
    where
      go : (t : Bool) → is_in o.start s.marked ≡ t
          → Follows (pick t s (push v o (mark o s))) (pick (is_head (entry_at z.entries o.start)) (pushed c o.start (marked o.start z)) z)
      go true e = rw (is_marked o f e) f
      go false e = let h = not_marked o n f e in rw h (push_follows o n (mark_follows o h f))

  follow_follows : {s : Progress} {z : State} (w : ℕ) → Follows s z → Follows (follow v w s) (visit c w z)
  unfolding follow visit
  follow_follows w f = follows_to f (leads_now f w)

  words_follow : (ws : List ℕ) (first : ℕ) → ((i : ℕ) → i < length ws → get_or ws i 0 ≡ word_at pool (first + i)) → {s : Progress} {z : State} → Follows s z
      → Follows (follow_all v ws s) (walk_words c first (length ws) z)
  unfolding follow_all walk_words
  words_follow [] first at f = f
  words_follow (w ∷ ws) first at {z = z} f =
      let e : first + 0 ≡ first = omega arith in
      let h : w ≡ word_at pool first = rw e at (at 0 (omega arith)) in
      rw (h, walk_front c first (length ws) z)
      (follow_follows (word_at pool first)
      (words_follow ws (suc first) (λ i l. let g : suc first + i ≡ first + suc i = omega arith in rw g (at (suc i) (omega arith))) f))

  walk_follows : {s : Progress} {z : State} (o : Object) → Known pool es₀ o → Follows s z → Follows (follow_all v o.words s) (walk c o.start z)
  unfolding walk
  walk_follows {z = z} o n f =
      let b : 4 * block_count z.entries o.start ≡ length o.words =
      ap (λ (m : ℕ). 4 * m) (marks_count es₀ z.entries o.start f.marks ∙ n.count) ∙ sym n.words.long in
      let l = n.words.long in
      rw b (words_follow o.words (4 * o.start) (λ i u. n.words.at i (omega arith)) f)

  -- ---- the stack is emptied

  empty_follows : (m : ℕ) {s : Progress} {z : State} → Follows s z → to_drain z ≤ m → Follows (empty_for m v s) (drain c z)
  unfolding empty_for to_drain
  empty_follows zero {s} {z} f l = rw (drain_empty c z (nil z.stack (omega arith))) f
    where
      nil : (st : List ℕ) → length st ≤ 0 → st ≡ []
      nil [] h = refl
      nil (k ∷ st) h = absurd (omega arith)
  empty_follows (suc m) {s} {z} f l = go s.stack refl (λ q r u. empty_follows m {s = q} {z = r} u)
    where
      go : (st : List Object) → s.stack ≡ st → ((q : Progress) (r : State) → Follows q r → to_drain r ≤ m → Follows (empty_for m v q) (drain c r))
          → Follows (elim st [ [] ↦ s | o ∷ rest ↦ empty_for m v (follow_all v o.words (progress s.marked rest s.overflow)) ]) (drain c z)
      go [] e rec = rw (drain_empty c z (f.stack ∙ ap starts e)) f
      go (o ∷ st) e rec =
          let t : z.stack ≡ o.start ∷ starts st = f.stack ∙ ap starts e in
          let g : Follows (progress s.marked st s.overflow) (state z.entries (starts st) z.overflow) =
          record {
            marks = f.marks;
            marked = f.marked;
            few = f.few;
            stack = refl;
            known = λ x i. f.known x (rw e (Memᴰ.tail i));
            overflow = f.overflow;
          } in
          let n = f.known o (rw e (Memᴰ.head refl)) in
          let p = pop_measure c z.entries o.start (starts st) z.overflow in
          let q : length z.stack ≡ suc (length (starts st)) = ap length t in
          rw (drain_top c z o.start (starts st) t) (rec _ _ (walk_follows o n g) (omega arith))

  subtree_follows : {s : Progress} {z : State} (o : Object) → Known pool es₀ o → Follows s z → Follows (subtree v o s) (trace c o.start z)
  unfolding subtree trace empty to_drain
  subtree_follows {s} {z} o n f =
      let g = walk_follows o n f in
      let q = follow_all v o.words s in
      let l : length (walk c o.start z).stack ≡ length q.stack = ap length g.stack ∙ length-map q.stack (λ (o : Object). o.start) in
      empty_follows (length os + length q.stack) g (omega (arith, g.few))

  -- ---- the roots

  roots_to : {s : Progress} {z : State} → Follows s z → {x : Option Object} {y : Option ℕ} → Led pool es₀ x y → Follows (from_root_to v s x) (root_to c z y)
  unfolding from_root_to root_to
  roots_to f nowhere = f
  roots_to {s} {z} f (object o n) = go (is_in o.start s.marked) refl
    where
      go : (t : Bool) → is_in o.start s.marked ≡ t
          → Follows (pick t s (subtree v o (mark o s))) (pick (is_head (entry_at z.entries o.start)) (trace c o.start (marked o.start z)) z)
      go true e = rw (is_marked o f e) f
      go false e = let h = not_marked o n f e in rw h (subtree_follows o n (mark_follows o h f))

  roots_follow : (ws : List ℕ) {s : Progress} {z : State} → Follows s z → Follows (from_roots v ws s) (mark_roots c ws z)
  unfolding from_roots mark_roots mark_root
  roots_follow [] f = f
  roots_follow (w ∷ ws) f = roots_follow ws (roots_to f (leads_now f w))

  -- ---- a pass

  -- blocks that head no object are passed over
  pass_over : (m k : ℕ) (z : State) → Marks es₀ z.entries → ((j : ℕ) → k ≤ j → j < k + m → entry_at es₀ j ≢ HEAD) → pass_from c k m z ≡ z
  unfolding pass_from
  pass_over zero k z g n = refl
  pass_over (suc m) k z g n =
      let e : pass_block c k z ≡ z =
      pass_skips c k z (λ q. ⊎_elim (λ t. laid_unmarked laid k (sym t ∙ q)) (λ t. n k (omega arith) (omega arith) t.0) (g.at k)) in
      rw e (pass_over m (suc k) z g (λ j l u. n j (omega arith) (omega arith)))

  block_follows : {s : Progress} {z : State} (o : Object) → Known pool es₀ o → Follows s z
      → Follows (pick (is_in o.start s.marked) (subtree v o s) s) (pass_block c o.start z)
  unfolding pass_block
  block_follows {s} {z} o n f = rw (f.marked o.start) (go (is_in o.start s.marked))
    where
      go : (t : Bool) → Follows (pick t (subtree v o s) s) (pick t (trace c o.start z) z)
      go true = subtree_follows o n f
      go false = f

  -- an object's blocks: its head is passed, and its other blocks are passed over
  object_over : (o : Object) → Lies pool es₀ o → (z : State) → Marks es₀ (pass_block c o.start z).entries
      → pass_from c o.start o.blocks z ≡ pass_block c o.start z
  unfolding pass_from
  object_over o y z g =
      let p : o.blocks ≡ suc (o.blocks - 1) = omega (arith, y.some_block) in
      ap (λ (i : ℕ). pass_from c o.start i z) p
      ∙ pass_over (o.blocks - 1) (suc o.start) (pass_block c o.start z) g (λ j k q. let t = y.tails j (omega arith) (omega arith) in λ h. omega arith)

  through_follows : {from : ℕ} {xs : List Object} → Laid pool es₀ from xs → (m : ℕ) → from + m ≡ length es₀ → {s : Progress} {z : State} → Follows s z
      → Follows (go_through v xs s) (pass_from c from m z)
  unfolding go_through
  through_follows {from} (done r g) m l {z = z} f =
      rw (pass_over m from z f.marks (λ j p q. let e = g j p (omega arith) in λ h. omega arith)) f
  through_follows {from} (next {o = o} {os = xs} l g y e r) m u {s = s} {z = z} f =
      rw (split, gap, object_over o y z b.marks)
      (through_follows r (length es₀ - end o) (omega arith) b)
    where
      n : Known pool es₀ o
      n = record { head = y.head; count = count_is es₀ o.start o.blocks (lies_extent y r); words = y.words }

      b : Follows (pick (is_in o.start s.marked) (subtree v o s) s) (pass_block c o.start z)
      b = block_follows o n f

      split : pass_from c from m z ≡ pass_from c (end o) (length es₀ - end o) (pass_from c o.start o.blocks (pass_from c from (o.start - from) z))
      split =
          let p : m ≡ (o.start - from) + (o.blocks + (length es₀ - end o)) = omega arith in
          let q : from + (o.start - from) ≡ o.start = omega arith in
          ap (λ (i : ℕ). pass_from c from i z) p ∙ pass_split c from (o.start - from) (o.blocks + (length es₀ - end o)) z
          ∙ ap (λ (i : ℕ). pass_from c i (o.blocks + (length es₀ - end o)) (pass_from c from (o.start - from) z)) q
          ∙ pass_split c o.start o.blocks (length es₀ - end o) (pass_from c from (o.start - from) z)

      gap : pass_from c from (o.start - from) z ≡ z
      gap = pass_over (o.start - from) from z f.marks (λ j p q. let t = g j p (omega arith) in λ h. omega arith)

  again_follows : {s : Progress} {z : State} → Follows s z → Follows (again v s) (pass c z)
  unfolding again pass
  again_follows {s} {z} f =
      rw f.marks.long
      (through_follows laid (length es₀) (omega arith)
      (record { marks = f.marks; marked = f.marked; few = f.few; stack = f.stack; known = f.known; overflow = refl }))

  -- ---- the rescans

  -- the end of the marking
  pub record Ends (t : Traced) (m : Marked) : Type 0 where
    pub marks : Marks es₀ m.last.entries
    pub marked : (k : ℕ) → eqb (entry_at m.last.entries k) MARK ≡ is_in k t.reached
    pub rescans : m.rescans ≡ t.rescans

  ends_here : {s : Progress} {z : State} (r : ℕ) → Follows s z → z.overflow ≡ false → Ends (record { reached = s.marked; rescans = r }) (rescan c z r)
  ends_here {s} {z} r f e = rw (rescan_done c z r e) (record { marks = f.marks; marked = f.marked; rescans = refl })

  rescans_follow : (n : ℕ) {s : Progress} {z : State} (r : ℕ) → Follows s z → to_rescan z ≤ n → Ends (again_for n v s r) (rescan c z r)
  unfolding again_for to_rescan
  rescans_follow zero {s} {z} r f l = ends_here r f (go z.overflow l)
    where
      go : (o : Bool) → pick o (suc (objects z.entries)) 0 ≤ 0 → o ≡ false
      go true h = absurd (omega arith)
      go false h = refl
  rescans_follow (suc n) {s} {z} r f l = go s.overflow refl (λ q y u. rescans_follow n {s = q} {z = y} (suc r) u)
    where
      go : (o : Bool) → s.overflow ≡ o → ((q : Progress) (y : State) → Follows q y → to_rescan y ≤ n → Ends (again_for n v q (suc r)) (rescan c y (suc r)))
          → Ends (elim o [ true ↦ again_for n v (again v s) (suc r) | false ↦ record { reached = s.marked; rescans = r } ]) (rescan c z r)
      go true e rec =
          let t : z.overflow ≡ true = f.overflow ∙ e in
          rw (rescan_more c z r t) (rec (again v s) (pass c z) (again_follows f) (omega (arith, pass_measure c z t)))
      go false e rec = ends_here r f (f.overflow ∙ e)

  -- ---- the whole marking

  none_marked : (k : ℕ) → eqb (entry_at es₀ k) MARK ≡ is_in k []
  unfolding is_in
  none_marked k = ne_eqb _ _ (laid_unmarked laid k)

  pub trace_follows : (roots : List ℕ) → Ends (list.trace v roots) (mark_all c roots es₀)
  unfolding list.trace mark_all to_rescan
  trace_follows roots =
      let f : Follows (progress [] [] false) (state es₀ [] false) =
      record {
        marks = marks_none es₀;
        marked = none_marked;
        few = omega (arith, laid_objects laid);
        stack = refl;
        known = λ o m. absurd (Memᴰ.not-nil m);
        overflow = refl;
      } in
      let g = roots_follow roots f in
      rescans_follow (suc (length os)) 0 g (most (mark_roots c roots (state es₀ [] false)) g.few)
    where
      most : (z : State) → objects z.entries ≤ length os → to_rescan z ≤ suc (length os)
      most z l = go z.overflow
        where
          go : (o : Bool) → pick o (suc (objects z.entries)) 0 ≤ suc (length os)
          go true = omega arith
          go false = omega arith
