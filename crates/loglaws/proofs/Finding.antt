-- A program of the log finds the heads of a chain exactly if there is one.
-- Assumes nothing.
use mathlib.Core.Path.{◌≡◌, refl, ap, sym, subst}
use mathlib.Core.Logic.{⊎_elim}
use mathlib.Core.Bool.{Bool, true, false}
use mathlib.Core.List.{List, [], ◌∷◌}
use mathlib.Core.Option.{Option, some, none, some-injective, none-ne-some}
use Prim.Native.Nat.{ℕ, zero, suc, ◌+◌, ◌*◌, ◌≤◌, ◌<◌}
use native.Mathlib.Decide.{ℕ_discrete}
use native.Mathlib.Omega.{arith}
use lib.Dec.{eqb}
use lib.ListN.{length}
use borrow.Author.Tests.{eqb-true, ne_eqb}
use Rattle.rules.specs.Tests.{pick, both}
use Rattle.rules.specs.Words.{word_at}
use Rattle.rules.specs.Entries.{HEAD}
use Rattle.rules.specs.Tables.{entry_at}
use Rattle.rules.specs.Pointers.{address_of, target_of}
use Rattle.laws.specs.Meaning.{Points, Passed}
use Rattle.rules.specs.Outcomes.{Heap, Answer}
use Rattle.laws.proofs.Tables.{entry_inside}
use Rattle.promises.specs.Conditions.{First, of_word}
use Rattle.promises.specs.Promises.{Object, blocks_of}
use Rattle.promises.proofs.Promised.{promises}
use Rattle.promises.proofs.Observed.{target_one, load_inside, load_beyond}
use Rattle.logs.specs.Log.{Link, link_in, prepended}
use Rattle.loglaws.specs.Chains.{Entry, entry_in, Chain, ends, leads, heads}
use Rattle.loglaws.proofs.Chaining.{address_some}
use Rattle.logs.specs.Heads.{link_from, heads_from}
use Rattle.loglaws.proofs.Following.{looks}

-- ---- a link

-- a word that can be read is one of an object
word_of : (base : ℕ) (h : Heap) (k i : ℕ) → (looks base h k i).refusal ≡ 0 → Object h k × (i < 4 * blocks_of h k)
unfolding First of_word
word_of base h k i e =
    ⊎_elim (λ x. omega (arith, x.1, e))
    (λ x. ⊎_elim (λ y. omega (arith, y.1, e))
    (λ y. ⊎_elim (λ z. omega (arith, z.1, e))
    (λ z. ⊎_elim (λ u. omega (arith, u.1, e))
    (λ u. ⊎_elim (λ v. omega (arith, v.1, e))
    (λ v. (head (ℕ_discrete (entry_at h.entries k) HEAD) u.0, inside v.0))
    u.1) z.1) y.1) x.1) (promises.load_refusal base h k i)
  where
    head : Dec (Object h k) → ¬ (Object h k → ⊥) → Object h k
    head (yes is) twice = is
    head (no is) twice = absurd (twice is)

    inside : ¬ (4 * blocks_of h k ≤ i) → i < 4 * blocks_of h k
    inside past = omega arith

-- and one that is refused with 8 lies behind the last of an object
beyond_of : (base : ℕ) (h : Heap) (k i : ℕ) → (looks base h k i).refusal ≡ 8 → 4 * blocks_of h k ≤ i
unfolding First of_word
beyond_of base h k i e =
    ⊎_elim (λ x. omega (arith, x.1, e))
    (λ x. ⊎_elim (λ y. omega (arith, y.1, e))
    (λ y. ⊎_elim (λ z. omega (arith, z.1, e))
    (λ z. ⊎_elim (λ u. omega (arith, u.1, e))
    (λ u. ⊎_elim (λ v. v.0) (λ v. omega (arith, v.1, e))
    u.1) z.1) y.1) x.1) (promises.load_refusal base h k i)

-- a link is that of an object of two blocks
pub record Linked (base : ℕ) (h : Heap) (w : ℕ) (l : Link) : Type 0 where
  pub address : w ≡ address_of base l.head
  pub object : Object h l.head
  pub blocks : blocks_of h l.head ≡ 2
  pub next : l.next ≡ word_at h.pool (4 * l.head)

module _ (base : ℕ) (h : Heap) (good : Passed base h) where
  -- word 0 of an object
  next_word : (k : ℕ) → Object h k → blocks_of h k ≡ 2 → (looks base h k 0).value ≡ word_at h.pool (4 * k)
  next_word k head two =
      let e : 4 * k + 0 ≡ 4 * k = omega arith in
      ap (λ (a : Answer). a.value) (rw e at (load_inside base h good k 0 head (omega arith)))

  pub link_says : (w : ℕ) (l : Link) → link_from (looks base h) (target_of base 4096 w) ≡ some l → Linked base h w l
  unfolding link_from link_in Points
  link_says w l = go (target_of base 4096 w) (promises.target_points base 4096 w)
    where
      to : (k : ℕ) → w ≡ address_of base k → (a b : Bool) → eqb (looks base h k 7).refusal 0 ≡ a → eqb (looks base h k 8).refusal 8 ≡ b
          → pick (both a b) (some (record { head = k; next = (looks base h k 0).value })) none ≡ some l → Linked base h w l
      to k e true true x y q =
          let at = word_of base h k 7 (eqb-true _ _ x) in
          let past = beyond_of base h k 8 (eqb-true _ _ y) in
          let two : blocks_of h k ≡ 2 = omega (arith, at.1, past) in
          subst (Linked base h w) (some-injective _ _ q)
          (record { address = e; object = at.0; blocks = two; next = next_word k at.0 two })
      to k e true false x y q = absurd (none-ne-some l q)
      to k e false b x y q = absurd (none-ne-some l q)

      go : (x : Option ℕ) → Points base 4096 w x → link_from (looks base h) x ≡ some l → Linked base h w l
      go none p q = absurd (none-ne-some l q)
      go (some k) p q = to k p.1 _ _ refl refl q

  -- and each such object has one
  pub link_is : (k : ℕ) → Object h k → blocks_of h k ≡ 2 → link_from (looks base h) (target_of base 4096 (address_of base k)) ≡ some (record { head = k; next = word_at h.pool (4 * k) })
  unfolding link_from link_in Points
  link_is k head two =
      let inside = entry_inside h.entries k (λ f. omega arith) in
      let at = target_one base 4096 (address_of base k) (some k) (omega (arith, inside, good.shape.few), refl) in
      let seventh = ap (λ (a : Answer). a.refusal) (load_inside base h good k 7 head (omega arith)) in
      let eighth = ap (λ (a : Answer). a.refusal) (load_beyond base h good k 8 head (omega arith)) in
      rw (at, seventh, eighth, next_word k head two)

-- ---- the chain

-- some entries, and the chain that leads through them
pub record Found (base : ℕ) (h : Heap) (w : ℕ) (ks : List ℕ) : Type 0 where
  pub entries : List Entry
  pub chain : Chain base h w entries
  pub are : heads entries ≡ ks

-- heads that were found are those of a chain
module _ (base : ℕ) (h : Heap) (good : Passed base h) where
  found_more : (w : ℕ) (l : Link) (ks : List ℕ) → Linked base h w l → Found base h l.next ks → Found base h w (l.head ∷ ks)
  found_more w l ks x f =
      record {
        entries = entry_in h l.head ∷ f.entries;
        chain = subst (λ (v : ℕ). Chain base h v (entry_in h l.head ∷ f.entries)) (sym x.address)
            (leads x.object x.blocks (subst (λ (v : ℕ). Chain base h v f.entries) x.next f.chain));
        are = ap (λ (js : List ℕ). l.head ∷ js) f.are;
      }

  found_none : (w : ℕ) (ks : List ℕ) → w ≡ 0 → [] ≡ ks → Found base h w ks
  found_none w ks z e = record { entries = []; chain = subst (λ (v : ℕ). Chain base h v []) (sym z) ends; are = e }

  pub found_says : (n w : ℕ) (ks : List ℕ) → heads_from (looks base h) base n w ≡ some ks → Found base h w ks
  unfolding heads_from
  found_says zero w ks = go (eqb w 0) refl
    where
      go : (b : Bool) → eqb w 0 ≡ b → pick b (some []) none ≡ some ks → Found base h w ks
      go true z e = found_none w ks (eqb-true w 0 z) (some-injective _ _ e)
      go false z e = absurd (none-ne-some ks e)
  found_says (suc n) w ks = go (found_says n) (eqb w 0) refl
    where
      more : ((v : ℕ) (js : List ℕ) → heads_from (looks base h) base n v ≡ some js → Found base h v js) → (l : Link) → Linked base h w l → (x : Option (List ℕ)) → heads_from (looks base h) base n l.next ≡ x
          → prepended l.head x ≡ some ks → Found base h w ks
      more rest l at none q e = absurd (none-ne-some ks e)
      more rest l at (some js) q e = subst (Found base h w) (some-injective _ _ e) (found_more w l js at (rest l.next js q))

      to : ((v : ℕ) (js : List ℕ) → heads_from (looks base h) base n v ≡ some js → Found base h v js) → (x : Option Link) → link_from (looks base h) (target_of base 4096 w) ≡ x
          → elim x [ none ↦ none | some l ↦ prepended l.head (heads_from (looks base h) base n l.next) ] ≡ some ks → Found base h w ks
      to rest none q e = absurd (none-ne-some ks e)
      to rest (some l) q e = more rest l (link_says base h good w l q) _ refl e

      go : ((v : ℕ) (js : List ℕ) → heads_from (looks base h) base n v ≡ some js → Found base h v js) → (b : Bool) → eqb w 0 ≡ b
          → pick b (some []) (elim (link_from (looks base h) (target_of base 4096 w)) [ none ↦ none | some l ↦ prepended l.head (heads_from (looks base h) base n l.next) ]) ≡ some ks → Found base h w ks
      go rest true z e = found_none w ks (eqb-true w 0 z) (some-injective _ _ e)
      go rest false z e = to rest _ refl e

  -- and those of a chain are found, if there are not too many
  pub chain_found : (n : ℕ) {w : ℕ} {es : List Entry} → Chain base h w es → length es ≤ n → heads_from (looks base h) base n w ≡ some (heads es)
  unfolding heads_from
  chain_found zero ends l = refl
  chain_found (suc n) ends l = refl
  chain_found zero (leads head two c) l = absurd (omega arith)
  chain_found (suc n) (leads {k = k} head two c) l =
      let some_address = ne_eqb (address_of base k) 0 (address_some base k good.shape.above) in
      rw (some_address, link_is base h good k head two, chain_found n c (omega arith))
