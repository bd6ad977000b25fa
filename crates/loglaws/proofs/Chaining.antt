-- Chains of entries: an address has one, it depends on its objects alone, a collection follows it, and two may be joined.
-- Assumes nothing.
use mathlib.Core.Path.{◌≡◌, refl, ap, ap₂, sym, subst, ◌∙◌}
use mathlib.Core.Logic.{◌≢◌, inl, ⊎_elim}
use mathlib.Core.List.Memᴰ
use mathlib.Core.List.{List, [], ◌∷◌, ◌++◌, Memᴰ}
use mathlib.Core.Option.{Option, some, none, some-injective, none-ne-some}
use Prim.Native.Nat.{ℕ, ◌+◌, ◌*◌, ◌^◌, ◌≤◌, ◌<◌}
use native.Mathlib.Omega.{arith}
use Rattle.rules.specs.Words.{word_at}
use Rattle.rules.specs.Tables.{block_count}
use Rattle.rules.specs.Pointers.{address_of, leads_to}
use Rattle.laws.specs.Meaning.{Leads, Passed}
use Rattle.rules.specs.Outcomes.{Heap}
use Rattle.rules.specs.Reach.{Reachable, root, edge}
use Rattle.laws.proofs.Tables.{entry_inside}
use Rattle.promises.specs.Promises.{Object, blocks_of, Same}
use Rattle.promises.proofs.Observed.{same_words, lead_one}
use Rattle.logs.specs.Log.{last_of}
use Rattle.loglaws.specs.Chains.{Entry, entry_in, Chain, ends, leads, heads, Distinct, fresh}
use Rattle.loglaws.specs.Lasting.{Apart}

-- ---- addresses

-- two blocks with one address are one
pub address_one : (base k j : ℕ) → address_of base k ≡ address_of base j → k ≡ j
unfolding address_of
address_one base k j e = omega arith

-- no block has the address 0
pub address_some : (base k : ℕ) → 16 ≤ base → address_of base k ≢ 0
unfolding address_of
address_some base k high e = omega arith

-- the address of a head leads to it
pub address_leads : (base : ℕ) (h : Heap) (k : ℕ) → Object h k → leads_to base h.entries (address_of base k) ≡ some k
unfolding Leads block_count
address_leads base h k head = lead_one base h.entries (address_of base k) (some k) (record { head = inl head; block = k; from = omega arith; to = omega arith; address = refl })

-- ---- parts of a chain

-- the first entry of a chain, and the chain behind it
pub record Front (base : ℕ) (h : Heap) (w : ℕ) (e : Entry) (es : List Entry) : Type 0 where
  pub address : w ≡ address_of base e.head
  pub object : Object h e.head
  pub blocks : blocks_of h e.head ≡ 2
  pub entry : e ≡ entry_in h e.head
  pub rest : Chain base h (word_at h.pool (4 * e.head)) es

module _ (base : ℕ) (h : Heap) where
  pub chain_front : {w : ℕ} {e : Entry} {es : List Entry} → Chain base h w (e ∷ es) → Front base h w e es
  chain_front (leads head two c) = record { address = refl; object = head; blocks = two; entry = refl; rest = c }

  -- the empty chain leads from 0 alone
  pub chain_none : {w : ℕ} → Chain base h w [] → w ≡ 0
  chain_none ends = refl

  -- each entry of a chain is at the head of an object
  pub chain_object : {w : ℕ} {es : List Entry} → Chain base h w es → (k : ℕ) → Memᴰ k (heads es) → Object h k
  chain_object ends k m = absurd (Memᴰ.not-nil m)
  chain_object (leads head two c) k m = ⊎_elim (λ e. rw e head) (λ n. chain_object c k n) (Memᴰ.cases_cons m)

  -- which has two blocks
  pub chain_blocks : {w : ℕ} {es : List Entry} → Chain base h w es → (k : ℕ) → Memᴰ k (heads es) → blocks_of h k ≡ 2
  chain_blocks ends k m = absurd (Memᴰ.not-nil m)
  chain_blocks (leads head two c) k m = ⊎_elim (λ e. rw e two) (λ n. chain_blocks c k n) (Memᴰ.cases_cons m)

-- the address from which a chain leads has 32 bits
pub chain_word : (base : ℕ) (h : Heap) → Passed base h → {w : ℕ} {es : List Entry} → Chain base h w es → w < 2 ^ 32
unfolding address_of
chain_word base h good ends = omega arith
chain_word base h good (leads {k = k} head two c) = omega (arith, entry_inside h.entries k (λ free. omega (arith, free, head)), good.shape.below)

-- ---- one chain

-- chains from one address have the same entries
module _ (base : ℕ) (high : 16 ≤ base) (h : Heap) where
  one_from : {v w : ℕ} {es ds : List Entry} → v ≡ w → Chain base h v es → Chain base h w ds → es ≡ ds
  one_from e ends ends = refl
  one_from e ends (leads {k = k} head two c) = absurd (address_some base k high (sym e))
  one_from e (leads {k = k} head two c) ends = absurd (address_some base k high e)
  one_from e (leads {k = k} head two c) (leads {k = j} head' two' d) =
      let same : k ≡ j = address_one base k j e in
      ap₂ ◌∷◌ (ap (entry_in h) same) (one_from (ap (λ (i : ℕ). word_at h.pool (4 * i)) same) c d)

  pub chain_one : {w : ℕ} {es ds : List Entry} → Chain base h w es → Chain base h w ds → es ≡ ds
  chain_one c d = one_from refl c d

-- ---- a chain in another heap

module _ (base : ℕ) (h h' : Heap) where
  -- the entry of an object that stays
  entry_same : (k : ℕ) → Same h h' k → blocks_of h k ≡ 2 → entry_in h' k ≡ entry_in h k
  entry_same k s two =
      ap₂ (λ (x y : ℕ). record { head = k; time = x; tips = y }) (same_words h h' k s 1 (omega arith)) (same_words h h' k s 2 (omega arith))

  next_same : (k : ℕ) → Same h h' k → blocks_of h k ≡ 2 → word_at h'.pool (4 * k) ≡ word_at h.pool (4 * k)
  next_same k s two = let e : 4 * k + 0 ≡ 4 * k = omega arith in rw e at (same_words h h' k s 0 (omega arith))

  -- one entry more in front
  leads_same : {k : ℕ} {es : List Entry} → Same h h' k → blocks_of h k ≡ 2 → Chain base h' (word_at h.pool (4 * k)) es → Chain base h' (address_of base k) (entry_in h k ∷ es)
  leads_same {k} {es} s two c =
      subst (λ (e : Entry). Chain base h' (address_of base k) (e ∷ es)) (entry_same k s two)
      (leads s.head (s.blocks ∙ two) (subst (λ (w : ℕ). Chain base h' w es) (sym (next_same k s two)) c))

  -- the first entry of a chain, with its address
  as_front : {w : ℕ} {e : Entry} {es ds : List Entry} → Front base h w e es → Chain base h' (address_of base e.head) (entry_in h e.head ∷ ds) → Chain base h' w (e ∷ ds)
  as_front {w} {e} {es} {ds} f c =
      subst (λ (x : ℕ). Chain base h' x (e ∷ ds)) (sym f.address) (subst (λ (d : Entry). Chain base h' (address_of base e.head) (d ∷ ds)) (sym f.entry) c)

  -- where all its objects stay, the chain does
  pub chain_same : {w : ℕ} {es : List Entry} → Chain base h w es → ((k : ℕ) → Memᴰ k (heads es) → Same h h' k) → Chain base h' w es
  chain_same ends same = ends
  chain_same (leads {k = k} head two c) same = leads_same (same k (Memᴰ.head refl)) two (chain_same c (λ j m. same j (Memᴰ.tail m)))

  -- so where all objects stay but one, which is none of its own
  pub chain_apart : {w : ℕ} {es : List Entry} → Chain base h w es → (k : ℕ) → Apart es k → ((o : ℕ) → Object h o → o ≢ k → Same h h' o) → Chain base h' w es
  chain_apart c k apart others = chain_same c (λ o m. others o (chain_object base h c o m) (λ e. apart (Memᴰ.cast (sym e) m)))

-- ---- what a collection follows

module _ (base : ℕ) (h : Heap) (roots : List ℕ) where
  reached_from : {w : ℕ} {es : List Entry} → Chain base h w es → ((k : ℕ) → leads_to base h.entries w ≡ some k → Reachable base h roots k)
      → (k : ℕ) → Memᴰ k (heads es) → Reachable base h roots k
  reached_from ends reach k m = absurd (Memᴰ.not-nil m)
  reached_from (leads {k = j} head two c) reach k m =
      let here : Reachable base h roots j = reach j (address_leads base h j head) in
      let e : 4 * j + 0 ≡ 4 * j = omega arith in
      ⊎_elim (λ same. rw same here) (λ n. reached_from c (λ i l. edge here (record { word = 0; inside = omega arith; leads = rw e l })) k n) (Memᴰ.cases_cons m)

  -- from a root that is its first address, every entry is reachable
  pub chain_reachable : {w : ℕ} {es : List Entry} → Chain base h w es → Memᴰ w roots → (k : ℕ) → Memᴰ k (heads es) → Reachable base h roots k
  chain_reachable c among = reached_from c (λ k l. root among l)

-- ---- one chain behind another

-- the last of some numbers is that of those behind the first
pub last_behind : (k j : ℕ) (ks : List ℕ) → last_of (k ∷ j ∷ ks) ≡ last_of (j ∷ ks)
unfolding last_of
last_behind k j ks = go (last_of ks)
  where
    or : ℕ → Option ℕ → Option ℕ
    or i x = elim x [ none ↦ some i | some l ↦ some l ]

    go : (x : Option ℕ) → or k (or j x) ≡ or j x
    go none = refl
    go (some l) = refl

-- and is one of them
pub last_among : (ks : List ℕ) (l : ℕ) → last_of ks ≡ some l → Memᴰ l ks
unfolding last_of
last_among [] l e = absurd (none-ne-some l e)
last_among (k ∷ []) l e = Memᴰ.head (some-injective l k (sym e))
last_among (k ∷ j ∷ ks) l e = Memᴰ.tail (last_among (j ∷ ks) l (sym (last_behind k j ks) ∙ e))

-- the object l has a new next word, and the time and the tip count that it had
pub record Relinked (h h' : Heap) (l w : ℕ) : Type 0 where
  pub head : Object h' l
  pub blocks : blocks_of h' l ≡ 2
  pub next : word_at h'.pool (4 * l) ≡ w
  pub time : word_at h'.pool (4 * l + 1) ≡ word_at h.pool (4 * l + 1)
  pub tips : word_at h'.pool (4 * l + 2) ≡ word_at h.pool (4 * l + 2)

-- an object of two blocks with the next word 0 is a chain
pub chain_single : (base : ℕ) (h : Heap) (k : ℕ) → Object h k → blocks_of h k ≡ 2 → word_at h.pool (4 * k) ≡ 0 → Chain base h (address_of base k) (entry_in h k ∷ [])
chain_single base h k head two zero = leads head two (subst (λ (w : ℕ). Chain base h w []) (sym zero) ends)

-- the first of distinct numbers is none of the others
pub distinct_front : {k : ℕ} {ks : List ℕ} → Distinct (k ∷ ks) → (Memᴰ k ks → ⊥) × Distinct ks
distinct_front (fresh other rest) = (other, rest)

-- where the last object of a chain gets the first address of another as its next word, and the others stay, the two are one chain
module _ (base : ℕ) (h h' : Heap) (l v : ℕ) (ds : List Entry) (linked : Relinked h h' l v) (behind : Chain base h' v ds) where
  -- the last entry
  leads_linked : Chain base h' (address_of base l) (entry_in h l ∷ ds)
  leads_linked =
      subst (λ (e : Entry). Chain base h' (address_of base l) (e ∷ ds)) (ap₂ (λ (x y : ℕ). record { head = l; time = x; tips = y }) linked.time linked.tips)
      (leads linked.head linked.blocks (subst (λ (w : ℕ). Chain base h' w ds) (sym linked.next) behind))

  pub chain_append : {w : ℕ} (es : List Entry) → Chain base h w es → Distinct (heads es) → last_of (heads es) ≡ some l
      → ((o : ℕ) → Memᴰ o (heads es) → o ≢ l → Same h h' o) → Chain base h' w (es ++ ds)
  unfolding last_of
  chain_append [] c distinct last same = absurd (none-ne-some l last)
  chain_append (e ∷ []) c distinct last same =
      let at : l ≡ e.head = some-injective l e.head (sym last) in
      as_front base h h' (chain_front base h c) (subst (λ (k : ℕ). Chain base h' (address_of base k) (entry_in h k ∷ ds)) at leads_linked)
  chain_append {w = w} (e ∷ d ∷ es) c distinct last same =
      let f = chain_front base h c in
      let last' : last_of (heads (d ∷ es)) ≡ some l = sym (last_behind e.head d.head (heads es)) ∙ last in
      let fresh_head = distinct_front distinct in
      let other : e.head ≢ l = λ q. fresh_head.0 (Memᴰ.cast q (last_among (heads (d ∷ es)) l last')) in
      as_front base h h' f
      (leads_same base h h' (same e.head (Memᴰ.head refl) other) f.blocks
      (chain_append {w = word_at h.pool (4 * e.head)} (d ∷ es) f.rest fresh_head.1 last' (λ o m. same o (Memᴰ.tail m))))
