-- Two heaps that differ in dead bytes alone are collected alike: the same objects are reachable, the same entries are marked, and as many rescans are needed.
-- Assumes nothing.
use mathlib.Core.Path.{◌≡◌, refl, ap, sym, ◌∙◌}
use mathlib.Core.Logic.{◌≢◌}
use mathlib.Core.Bool.{Bool, true, false}
use mathlib.Core.List.{List, [], ◌∷◌, Memᴰ}
use mathlib.Core.Option.{Option, some, none}
use Prim.Native.Nat.{ℕ, zero, suc, ◌+◌, ◌*◌, ◌-◌, ◌<◌}
use native.Mathlib.Omega.{arith}
use lib.Dec.{eqb}
use lib.ListN.{length, get_or}
use borrow.Author.Tests.{eqb-true}
use Rattle.rules.specs.Tests.{pick}
use Rattle.rules.specs.Words.{word_at}
use Rattle.rules.specs.Entries.{FREE, HEAD, MARK}
use Rattle.rules.specs.Tables.{entry_at, objects, well_formed, block_count}
use Rattle.rules.specs.Pointers.{leads_to}
use Rattle.rules.specs.Outcomes.{Heap}
use Rattle.rules.specs.Reach.{Edge, Reachable, root, edge}
use Rattle.rules.specs.Marking.{Context, State, state, marked, pushed, visit_to, visit, walk_words, walk, drain_for, drain, trace, root_to, mark_root, mark_roots, pass_block, pass_from, pass, rescan_for, rescan, mark_all}
use Rattle.laws.proofs.Words.{word_at_same}
use Rattle.laws.proofs.Marks.{marks_count, marks_leads, mark_here}
use Rattle.keeping.specs.Keeping.{context_of, marking, collected, Proper, Agree, AgreeInWords}
use Rattle.keeping.proofs.Sound.{Sound, sound_start, sound_mark, sound_walk, sound_popped, sound_root, sound_roots, sound_block, sound_pass}
use Rattle.keeping.proofs.Owners.{well_fresh}
use Rattle.keeping.proofs.Kept.{collected_rest}
use Rattle.keeping.proofs.Same.{collected_same}

-- the same bytes are the same words
pub agree_words : {base : ℕ} {roots : List ℕ} {h g : Heap} → Agree base roots h g → AgreeInWords base roots h g
agree_words {h = h} {g = g} a =
    record {
      table = a.table;
      words = λ o r i l. word_at_same h.pool g.pool (4 * o + i) (4 * o + i) (λ j u. let e : 16 * o + (4 * i + j) ≡ 4 * (4 * o + i) + j = omega arith in rw e at (a.bytes o r (4 * i + j) (omega arith)));
    }

-- ---- the same objects are reachable

module _ {base : ℕ} {roots : List ℕ} {h g : Heap} (a : AgreeInWords base roots h g) where
  edge_there : (o k : ℕ) → Reachable base h roots o → Edge base h o k → Edge base g o k
  edge_there o k r x =
      record {
        word = x.word;
        inside = rw (← a.table) x.inside;
        leads = rw (← a.table, ← a.words o r x.word x.inside) x.leads;
      }

  edge_back : (o k : ℕ) → Reachable base h roots o → Edge base g o k → Edge base h o k
  edge_back o k r x =
      let i : x.word < 4 * block_count h.entries o = rw a.table x.inside in
      record { word = x.word; inside = i; leads = rw (a.table, a.words o r x.word i) x.leads }

  pub reachable_there : (k : ℕ) → Reachable base h roots k → Reachable base g roots k
  reachable_there k (root m q) = root m (rw a.table at q)
  reachable_there k (edge {o = o} r x) = edge (reachable_there o r) (edge_there o k r x)

  pub reachable_back : (k : ℕ) → Reachable base g roots k → Reachable base h roots k
  reachable_back k (root m q) = root m (rw (← a.table) at q)
  reachable_back k (edge {o = o} r x) = edge (reachable_back o r) (edge_back o k (reachable_back o r) x)

-- ---- the same steps are taken

module _ (base : ℕ) (h g : Heap) (roots : List ℕ) (room : ℕ)
    (words : (o : ℕ) → Reachable base h roots o → (i : ℕ) → i < 4 * block_count h.entries o → word_at h.pool (4 * o + i) ≡ word_at g.pool (4 * o + i)) where
  abbrev c : Context
  c = context_of base h room

  abbrev d : Context
  d = context_of base g room

  abbrev Fine : State → Type 0
  Fine = Sound base h roots room

  -- a visit does not look at the pool
  visit_alike : (w : ℕ) (s : State) → visit c w s ≡ visit d w s
  unfolding visit visit_to pushed
  visit_alike w s = go (leads_to base s.entries w)
    where
      go : (o : Option ℕ) → visit_to c s o ≡ visit_to d s o
      go none = refl
      go (some k) = refl

  words_alike : (first n : ℕ) (s : State) → ((i : ℕ) → i < n → word_at h.pool (first + i) ≡ word_at g.pool (first + i)) → walk_words c first n s ≡ walk_words d first n s
  unfolding walk_words
  words_alike first zero s f = refl
  words_alike first (suc n) s f =
      words_alike first n (visit c (word_at h.pool (first + n)) s) (λ i l. f i (omega arith))
      ∙ ap (λ (z : State). walk_words d first n z) (visit_alike (word_at h.pool (first + n)) s ∙ ap (λ (w : ℕ). visit d w s) (f n (omega arith)))

  walk_alike : (k : ℕ) (s : State) → entry_at s.entries k ≡ MARK → Fine s → walk c k s ≡ walk d k s
  unfolding walk
  walk_alike k s m f =
      let e = marks_count h.entries s.entries k f.marks in
      words_alike (4 * k) (4 * block_count s.entries k) s (λ i l. words k (f.reached k m) i (rw e at l))

  drain_alike : (s : State) → Fine s → drain c s ≡ drain d s
  unfolding drain drain_for
  drain_alike s f = go (objects s.entries + length s.stack) s.entries s.stack s.overflow f
    where
      go : (n : ℕ) (es st : List ℕ) (o : Bool) → Fine (state es st o) → drain_for n c (state es st o) ≡ drain_for n d (state es st o)
      go zero es st o f = refl
      go (suc n) es [] o f = refl
      go (suc n) es (k ∷ st) o f =
          let r = walk c k (state es st o) in
          let p : Fine (state es st o) = record { marks = f.marks; reached = f.reached; stacked = λ i m. f.stacked i (Memᴰ.tail m) } in
          go n r.entries r.stack r.overflow (sound_popped base h roots room es k st o f)
          ∙ ap (λ (z : State). drain_for n d z) (walk_alike k (state es st o) (f.stacked k (Memᴰ.head refl)) p)

  trace_alike : (k : ℕ) (s : State) → entry_at s.entries k ≡ MARK → Fine s → trace c k s ≡ trace d k s
  unfolding trace
  trace_alike k s m f = drain_alike (walk c k s) (sound_walk base h roots room k s m f) ∙ ap (λ (z : State). drain d z) (walk_alike k s m f)

  root_alike : (w : ℕ) (s : State) → Memᴰ w roots → Fine s → mark_root c w s ≡ mark_root d w s
  unfolding mark_root root_to
  root_alike w s i f = to (leads_to base s.entries w) refl
    where
      at : (k : ℕ) → leads_to base s.entries w ≡ some k → (t : Bool) → eqb (entry_at s.entries k) HEAD ≡ t
          → pick t (trace c k (marked k s)) s ≡ pick t (trace d k (marked k s)) s
      at k q false p = refl
      at k q true p =
          let e = eqb-true _ _ p in
          trace_alike k (marked k s) (mark_here s.entries k e)
          (sound_mark base h roots room k s e (root i (sym (marks_leads base h.entries s.entries w f.marks) ∙ q)) f)

      to : (o : Option ℕ) → leads_to base s.entries w ≡ o → root_to c s o ≡ root_to d s o
      to none q = refl
      to (some k) q = at k q (eqb (entry_at s.entries k) HEAD) refl

  roots_alike : (ws : List ℕ) (s : State) → ((w : ℕ) → Memᴰ w ws → Memᴰ w roots) → Fine s → mark_roots c ws s ≡ mark_roots d ws s
  unfolding mark_roots
  roots_alike [] s i f = refl
  roots_alike (w ∷ ws) s i f =
      let m = i w (Memᴰ.head refl) in
      roots_alike ws (mark_root c w s) (λ v n. i v (Memᴰ.tail n)) (sound_root base h roots room w s m f)
      ∙ ap (λ (z : State). mark_roots d ws z) (root_alike w s m f)

  block_alike : (k : ℕ) (s : State) → Fine s → pass_block c k s ≡ pass_block d k s
  unfolding pass_block
  block_alike k s f = go (eqb (entry_at s.entries k) MARK) refl
    where
      go : (t : Bool) → eqb (entry_at s.entries k) MARK ≡ t → pick t (trace c k s) s ≡ pick t (trace d k s) s
      go false p = refl
      go true p = trace_alike k s (eqb-true _ _ p) f

  blocks_alike : (k n : ℕ) (s : State) → Fine s → pass_from c k n s ≡ pass_from d k n s
  unfolding pass_from
  blocks_alike k zero s f = refl
  blocks_alike k (suc n) s f =
      blocks_alike (suc k) n (pass_block c k s) (sound_block base h roots room k s f) ∙ ap (λ (z : State). pass_from d (suc k) n z) (block_alike k s f)

  pass_alike : (s : State) → Fine s → pass c s ≡ pass d s
  unfolding pass
  pass_alike s f =
      blocks_alike 0 (length s.entries) (state s.entries s.stack false) (record { marks = f.marks; reached = f.reached; stacked = f.stacked })

  rescan_alike : (s : State) (r : ℕ) → Fine s → rescan c s r ≡ rescan d s r
  unfolding rescan rescan_for
  rescan_alike s r f = go (pick s.overflow (suc (objects s.entries)) 0) s.entries s.stack s.overflow r f
    where
      go : (n : ℕ) (es st : List ℕ) (o : Bool) (r : ℕ) → Fine (state es st o) → rescan_for n c (state es st o) r ≡ rescan_for n d (state es st o) r
      go zero es st o r f = refl
      go (suc n) es st false r f = refl
      go (suc n) es st true r f =
          let z = pass c (state es st true) in
          go n z.entries z.stack z.overflow (suc r) (sound_pass base h roots room (state es st true) f)
          ∙ ap (λ (y : State). rescan_for n d y (suc r)) (pass_alike (state es st true) f)

  mark_all_alike : ((k : ℕ) → entry_at h.entries k ≢ MARK) → mark_all c roots h.entries ≡ mark_all d roots h.entries
  unfolding mark_all
  mark_all_alike fresh =
      let s = state h.entries [] false in
      let f = sound_start base h roots room fresh in
      rescan_alike (mark_roots c roots s) 0 (sound_roots base h roots room roots s (λ w m. m) f)
      ∙ ap (λ (z : State). rescan d z 0) (roots_alike roots s (λ w m. m) f)

module _ (base : ℕ) (h g : Heap) (roots : List ℕ) (well : well_formed h.entries ≡ true) where
  -- with the same room: the same entries, and the same number of rescans
  pub marking_alike : AgreeInWords base roots h g → (room : ℕ) → marking base h roots room ≡ marking base g roots room
  unfolding marking
  marking_alike a room =
      mark_all_alike base h g roots room a.words (well_fresh h.entries well) ∙ ap (λ (es : List ℕ). mark_all (context_of base g room) roots es) a.table

  -- with any room: the same table
  pub collected_alike : AgreeInWords base roots h g → (room room' : ℕ) → collected base h roots room ≡ collected base g roots room'
  collected_alike a room room' = collected_same base h g roots roots room room' well a.table (reachable_there a) (reachable_back a)

-- and what is used then has the same bytes
pub collected_bytes : (base : ℕ) (h g : Heap) (roots : List ℕ) (room : ℕ) → Proper h.entries → Agree base roots h g
    → (k : ℕ) → entry_at (collected base h roots room) k ≢ FREE → (i : ℕ) → i < 16 → get_or h.pool (16 * k + i) 0 ≡ get_or g.pool (16 * k + i) 0
collected_bytes base h g roots room p a k n i l =
    let w = collected_rest base h roots room p.well p.small k n in
    let f = w.owns.from in
    let t = w.owns.to in
    let e : 16 * w.object + (16 * (k - w.object) + i) ≡ 16 * k + i = omega arith in
    rw e at (a.bytes w.object w.reachable (16 * (k - w.object) + i) (omega arith))
