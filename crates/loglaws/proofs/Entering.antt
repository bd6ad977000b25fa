-- A new entry: an object of two blocks is allocated, its time and tip count are stored, and it joins the log behind the last entry.
-- Assumes nothing.
use mathlib.Core.Path.{◌≡◌, refl, ap, ap₂, sym, subst, ◌∙◌}
use mathlib.Core.Logic.{◌≢◌, inr}
use mathlib.Core.List.{List, [], ◌∷◌, ◌++◌, Memᴰ}
use mathlib.Core.Option.{Option, some, none, some-injective, none-ne-some}
use Prim.Native.Nat.{ℕ, ◌+◌, ◌*◌, ◌^◌, ◌≤◌, ◌<◌}
use native.Mathlib.Omega.{arith}
use lib.IntN.{ℤ, pos, ◌+ℤ◌, nat_abs}
use Rattle.rules.specs.Words.{word_at}
use Rattle.rules.specs.Entries.{FREE}
use Rattle.rules.specs.Tables.{entry_at, used}
use Rattle.rules.specs.Pointers.{address_of}
use Rattle.laws.specs.Meaning.{Lowest, Passed, Accepted}
use Rattle.rules.specs.Outcomes.{Heap, Answer, Outcome, loaded}
use Rattle.rules.specs.Calls.{blocks_for, allocate, store}
use Rattle.laws.proofs.Tables.{entry_inside, well_says}
use Rattle.promises.specs.Conditions.{First, of_word}
use Rattle.promises.specs.Promises.{Object, blocks_of, byte_at, Among, Within, Same, Allocated, Stored}
use Rattle.promises.proofs.Promised.{promises}
use Rattle.promises.proofs.Observed.{store_number, load_inside, same_words, new_zero}
use Rattle.logs.specs.Log.{last_of}
use Rattle.loglaws.specs.Chains.{Entry, Chain, heads}
use Rattle.loglaws.specs.Promises.{LastOf, Longer}
use Rattle.loglaws.proofs.Chaining.{Relinked, chain_same, chain_object, chain_blocks, chain_single, chain_append, last_behind, last_among}
use Rattle.loglaws.proofs.Distinct.{no_repetition}
use Rattle.loglaws.proofs.Following.{looks}

-- ---- words, by what loads answer

-- a word of an object is what a load of it answers
word_value : (base : ℕ) (h : Heap) → Passed base h → (k i v : ℕ) → Object h k → i < 4 * blocks_of h k → looks base h k i ≡ loaded v → word_at h.pool (4 * k + i) ≡ v
word_value base h good k i v head l e = ap (λ (a : Answer). a.value) (sym (load_inside base h good k i head l) ∙ e)

-- a store into a word of an object is accepted
store_accepted : (base : ℕ) (h : Heap) → Passed base h → (k i w : ℕ) → Object h k → i < 4 * blocks_of h k → Accepted (store base h k i w)
unfolding First of_word
store_accepted base h good k i w head l =
    store_number base h k i w 0
    (inr (
      λ bad. bad good.shape,
      inr (
        λ bad. bad (well_says h.entries good.well),
        inr (λ out. omega (arith, entry_inside h.entries k (λ f. omega arith)), inr (λ other. other head, inr (λ past. omega arith, refl))),
      ),
    ))

-- it leaves every object's head and blocks
module _ (base : ℕ) (h : Heap) (k i w : ℕ) (accepted : Accepted (store base h k i w)) where
  abbrev stored : Stored base h k i w (store base h k i w)
  stored = promises.stored base h k i w accepted

  stored_head : (o : ℕ) → Object h o → Object (store base h k i w).heap o
  stored_head o head = rw stored.table head

  stored_blocks : (o b : ℕ) → blocks_of h o ≡ b → blocks_of (store base h k i w).heap o ≡ b
  stored_blocks o b e = rw stored.table e

-- ---- the new object

-- The heap g' is the heap g with a new object of two blocks at k, which holds an entry with the next word 0
pub record New (base : ℕ) (g : Heap) (k time tips : ℕ) (g' : Heap) : Type 0 where
  pub good : Passed base g'
  pub start : Lowest g.entries 2 (some k)
  pub head : Object g' k
  pub blocks : blocks_of g' k ≡ 2
  pub words : (i : ℕ) → i < 8 → i ≢ 1 → i ≢ 2 → word_at g'.pool (4 * k + i) ≡ 0
  pub time_word : word_at g'.pool (4 * k + 1) ≡ time
  pub tips_word : word_at g'.pool (4 * k + 2) ≡ tips
  pub entries : (i : ℕ) → ¬ Among k 2 i → entry_at g'.entries i ≡ entry_at g.entries i
  pub bytes : (i : ℕ) → ¬ Within k 2 i → byte_at g' i ≡ byte_at g i
  pub others : (o : ℕ) → Object g o → Same g g' o
  pub more_used : used g'.entries ≡ used g.entries + 2

-- a sum with a change of two
used_more : (before after : ℕ) → pos after ≡ pos before +ℤ pos 2 → after ≡ before + 2
used_more before after e = ap nat_abs e

same_trans : (h h' h'' : Heap) (o : ℕ) → Same h h' o → Same h' h'' o → Same h h'' o
same_trans h h' h'' o s t = record { head = t.head; blocks = t.blocks ∙ s.blocks; bytes = λ i l. t.bytes i (omega (arith, s.blocks)) ∙ s.bytes i l }

module _ (base : ℕ) (g : Heap) (time tips : ℕ) (small : time < 2 ^ 32) (small' : tips < 2 ^ 32) (accepted : Accepted (allocate base g 32)) where
  abbrev a : Outcome
  a = allocate base g 32

  abbrev k : ℕ
  k = a.answer.block

  pub allocated : Allocated base g 2 a
  unfolding blocks_for
  allocated = promises.allocated base g 32 accepted

  -- it is no object of before
  new_apart : (o : ℕ) → Object g o → o ≢ k
  unfolding Lowest
  new_apart o head e =
      let here : k + 0 ≡ k = omega arith in
      let free : entry_at g.entries k ≡ FREE = rw here at (allocated.start.0.run.free 0 (omega arith)) in
      omega (arith, free, subst (λ (j : ℕ). Object g j) e head)

  zero_words : (i : ℕ) → i < 8 → looks base a.heap k i ≡ loaded 0
  unfolding blocks_for
  zero_words i l = new_zero base g 32 accepted i l

  abbrev timed : Outcome
  timed = store base a.heap k 1 time

  abbrev whole : Outcome
  whole = store base timed.heap k 2 tips

  timed_accepted : Accepted timed
  timed_accepted = let p = allocated in store_accepted base a.heap p.good k 1 time p.head (omega (arith, p.blocks))

  abbrev timed_stored : Stored base a.heap k 1 time timed
  timed_stored = promises.stored base a.heap k 1 time timed_accepted

  timed_head : Object timed.heap k
  timed_head = stored_head base a.heap k 1 time timed_accepted k allocated.head

  timed_blocks : blocks_of timed.heap k ≡ 2
  timed_blocks = stored_blocks base a.heap k 1 time timed_accepted k 2 allocated.blocks

  whole_accepted : Accepted whole
  whole_accepted = store_accepted base timed.heap timed_stored.good k 2 tips timed_head (omega (arith, timed_blocks))

  abbrev whole_stored : Stored base timed.heap k 2 tips whole
  whole_stored = promises.stored base timed.heap k 2 tips whole_accepted

  pub new_object : New base g k time tips whole.heap
  new_object =
      let p = allocated in
      let q = timed_stored in
      let r = whole_stored in
      let head : Object whole.heap k = stored_head base timed.heap k 2 tips whole_accepted k timed_head in
      let blocks : blocks_of whole.heap k ≡ 2 = stored_blocks base timed.heap k 2 tips whole_accepted k 2 timed_blocks in
      record {
        good = r.good;
        start = p.start;
        head = head;
        blocks = blocks;
        words = λ i l one two. word_value base whole.heap r.good k i 0 head (omega (arith, blocks)) (r.other k i (inr two) ∙ q.other k i (inr one) ∙ zero_words i l);
        time_word = word_value base whole.heap r.good k 1 time head (omega (arith, blocks)) (r.other k 1 (inr (λ e. omega (arith, e))) ∙ q.back small);
        tips_word = word_value base whole.heap r.good k 2 tips head (omega (arith, blocks)) (r.back small');
        entries = λ i out. ap (λ (es : List ℕ). entry_at es i) (r.table ∙ q.table) ∙ p.entries i out;
        bytes = λ i out. r.bytes i (λ x. out (omega (arith, x.0), omega (arith, x.1))) ∙ q.bytes i (λ x. out (omega (arith, x.0), omega (arith, x.1))) ∙ p.bytes i out;
        others = λ o head.
            let s = p.others o head in
            let apart = new_apart o head in
            let t = q.others o s.head apart in
            same_trans g timed.heap whole.heap o (same_trans g a.heap timed.heap o s t) (r.others o t.head apart);
        more_used = ap used (r.table ∙ q.table) ∙ used_more (used g.entries) (used a.heap.entries) (p.counts.sum ∙ ap (λ (y : ℤ). pos (used g.entries) +ℤ y) p.change);
      }

-- ---- it joins the log

-- the last head is that of the last entry
last_of_entries : (es : List Entry) (l : ℕ) → last_of (heads es) ≡ some l → LastOf es l
unfolding last_of
last_of_entries [] l e = absurd (none-ne-some l e)
last_of_entries (x ∷ []) l e = ([], x, refl, some-injective l x.head (sym e))
last_of_entries (x ∷ y ∷ es) l e =
    let (front, z, are, at) = last_of_entries (y ∷ es) l (sym (last_behind x.head y.head (heads es)) ∙ e) in
    (x ∷ front, z, ap (λ (ds : List Entry). x ∷ ds) are, at)

-- no entries have no last
last_none : (es : List Entry) → last_of (heads es) ≡ none → es ≡ []
unfolding last_of
last_none [] e = refl
last_none (x ∷ es) e = absurd (go (last_of (heads es)) e)
  where
    or : Option ℕ → Option ℕ
    or y = elim y [ none ↦ some x.head | some l ↦ some l ]

    go : (y : Option ℕ) → or y ≡ none → ⊥
    go none q = none-ne-some x.head (sym q)
    go (some l) q = none-ne-some l (sym q)

module _ (base : ℕ) (g g' : Heap) (first k time tips : ℕ) (es : List Entry) (high : 16 ≤ base) (chain : Chain base g first es) (n : New base g k time tips g') where
  abbrev entry : Entry
  entry = record { head = k; time = time; tips = tips }

  -- the objects of the log are in the new heap
  chain_stays : Chain base g' first es
  chain_stays = chain_same base g g' chain (λ o m. n.others o (chain_object base g chain o m))

  -- and the new one is none of them
  apart : (o : ℕ) → Memᴰ o (heads es) → o ≢ k
  unfolding Lowest
  apart o m e =
      let here : k + 0 ≡ k = omega arith in
      let free : entry_at g.entries k ≡ FREE = rw here at (n.start.0.run.free 0 (omega arith)) in
      omega (arith, free, subst (λ (j : ℕ). Object g j) e (chain_object base g chain o m))

  -- the entry in a heap that has its object
  entry_in_is : (h : Heap) → Object h k → blocks_of h k ≡ 2 → word_at h.pool (4 * k) ≡ 0 → word_at h.pool (4 * k + 1) ≡ time → word_at h.pool (4 * k + 2) ≡ tips
      → Chain base h (address_of base k) (entry ∷ [])
  entry_in_is h head two next t u =
      subst (λ (e : Entry). Chain base h (address_of base k) (e ∷ [])) (ap₂ (λ (x y : ℕ). record { head = k; time = x; tips = y }) t u) (chain_single base h k head two next)

  next_word : word_at g'.pool (4 * k) ≡ 0
  next_word = let e : 4 * k + 0 ≡ 4 * k = omega arith in rw e at (n.words 0 (omega arith) (λ q. omega (arith, q)) (λ q. omega (arith, q)))

  -- the log starts with it
  pub joined_none : last_of (heads es) ≡ none → Longer base first g es k time tips g' (address_of base k)
  joined_none last =
      let no_entries = last_none es last in
      record {
        chain = subst (λ (ds : List Entry). Chain base g' (address_of base k) (ds ++ entry ∷ [])) (sym no_entries)
            (entry_in_is g' n.head n.blocks next_word n.time_word n.tips_word);
        first = λ some-entries. absurd (some-entries no_entries);
        start = n.start;
        rest = λ i l u. n.words i u (λ e. omega arith) (λ e. omega arith);
        entries = n.entries;
        more_used = n.more_used;
        bytes = λ i out other. n.bytes i out;
      }

  -- or it is behind the last entry
  module _ (l : ℕ) (last : last_of (heads es) ≡ some l) where
    abbrev linked : Outcome
    linked = store base g' l 0 (address_of base k)

    last_in : Memᴰ l (heads es)
    last_in = last_among (heads es) l last

    last_object : Object g' l
    last_object = chain_object base g' chain_stays l last_in

    last_blocks : blocks_of g' l ≡ 2
    last_blocks = chain_blocks base g' chain_stays l last_in

    linked_accepted : Accepted linked
    linked_accepted = store_accepted base g' n.good l 0 (address_of base k) last_object (omega (arith, last_blocks))

    abbrev linked_stored : Stored base g' l 0 (address_of base k) linked
    linked_stored = promises.stored base g' l 0 (address_of base k) linked_accepted

    address_small : address_of base k < 2 ^ 32
    unfolding address_of
    address_small =
        let inside = entry_inside g'.entries k (λ f. omega (arith, f, n.head)) in
        omega (arith, inside, n.good.shape.below)

    pub linked_good : Passed base linked.heap
    linked_good = linked_stored.good

    -- a word of the last entry but for its first
    kept_word : (i : ℕ) → 0 < i → i < 8 → word_at linked.heap.pool (4 * l + i) ≡ word_at g'.pool (4 * l + i)
    kept_word i some_word few =
        word_value base linked.heap linked_good l i (word_at g'.pool (4 * l + i)) (stored_head base g' l 0 (address_of base k) linked_accepted l last_object)
        (omega (arith, stored_blocks base g' l 0 (address_of base k) linked_accepted l 2 last_blocks))
        (linked_stored.other l i (inr (λ e. omega (arith, e))) ∙ load_inside base g' n.good l i last_object (omega (arith, last_blocks)))

    relinked : Relinked g' linked.heap l (address_of base k)
    relinked =
        let head = stored_head base g' l 0 (address_of base k) linked_accepted l last_object in
        let blocks = stored_blocks base g' l 0 (address_of base k) linked_accepted l 2 last_blocks in
        let e : 4 * l + 0 ≡ 4 * l = omega arith in
        record {
          head = head;
          blocks = blocks;
          next = rw e at (word_value base linked.heap linked_good l 0 (address_of base k) head (omega (arith, blocks)) (linked_stored.back address_small));
          time = kept_word 1 (omega arith) (omega arith);
          tips = kept_word 2 (omega arith) (omega arith);
        }

    -- the new object is as it was
    new_same : Same g' linked.heap k
    new_same = linked_stored.others k n.head (λ e. apart l last_in (sym e))

    new_words : (i : ℕ) → i < 8 → word_at linked.heap.pool (4 * k + i) ≡ word_at g'.pool (4 * k + i)
    new_words i few = same_words g' linked.heap k new_same i (omega (arith, n.blocks))

    pub joined_last : Longer base first g es k time tips linked.heap first
    joined_last =
        let e : 4 * k + 0 ≡ 4 * k = omega arith in
        let behind = entry_in_is linked.heap new_same.head (new_same.blocks ∙ n.blocks) ((rw e at (new_words 0 (omega arith))) ∙ next_word)
        (new_words 1 (omega arith) ∙ n.time_word) (new_words 2 (omega arith) ∙ n.tips_word) in
        record {
          chain = chain_append base g' linked.heap l (address_of base k) (entry ∷ []) relinked behind es chain_stays (no_repetition base high g' chain_stays) last
              (λ o m other. linked_stored.others o (chain_object base g' chain_stays o m) other);
          first = λ some-entries. refl;
          start = n.start;
          rest = λ i low few. new_words i few ∙ n.words i few (λ q. omega arith) (λ q. omega arith);
          entries = λ i out. ap (λ (xs : List ℕ). entry_at xs i) linked_stored.table ∙ n.entries i out;
          more_used = ap used linked_stored.table ∙ n.more_used;
          bytes = λ i out other.
              linked_stored.bytes i (λ x. other l (last_of_entries es l last) (omega (arith, x.0), omega (arith, x.1))) ∙ n.bytes i out;
        }
