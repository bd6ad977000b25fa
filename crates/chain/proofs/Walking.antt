-- A walk along the heads: what is left to pass leads to what all of them come to, turn by turn.
-- Assumes nothing.
use mathlib.Core.Path.{◌≡◌, refl, sym, ap, ◌∙◌}
use mathlib.Core.Bool.{Bool, true, false}
use mathlib.Core.List.{List, [], ◌∷◌}
use mathlib.Core.Option.{Option, some, none, none-ne-some, some-injective}
use Prim.Native.Nat.{ℕ, zero, suc, ◌+◌, ◌-◌, ◌≤◌, ◌<◌}
use native.Mathlib.Omega.{arith}
use native.Mathlib.Decide.{ℕ_discrete}
use lib.Dec.{eqb}
use lib.ListN.{length}
use borrow.Author.Tests.{eq-eqb, ne_eqb, eqb-true}
use Rattle.std.specs.Prelude.{Some, None}
use Rattle.rules.specs.Tests.{pick, both}
use Rattle.rules.specs.Pointers.{target_of}
use Rattle.laws.proofs.Refusals.{true_not_false}
use Rattle.logs.specs.Log.{Link, is_accepted, link_in, prepended, last_of, at_index}
use Rattle.logs.specs.Heads.{Loads, link_from, heads_from}
use Rattle.heap.specs.Answers.{next_by}
use Rattle.chain.specs.Walks.{Passed, passed_by, pass, Steps, Found, Walked}
use Rattle.chain.specs.declared.Walk.{Walk}

-- ---- one step, by what the loads answer

module _ (load : Loads) (base index : ℕ) (w : Walk) where
  abbrev link : Option Link
  link = link_from load (target_of base 4096 w.at.0)

  -- the address is that of no block
  pub steps_nowhere : none ≡ target_of base 4096 w.at.0 → Steps index w link None
  unfolding link_from
  steps_nowhere e = rw (← e) refl

  module _ (k : ℕ) (at : some k ≡ target_of base 4096 w.at.0) where
    -- its object has not two blocks, or there is none
    pub steps_other : none ≡ next_by (load k) → Steps index w link None
    unfolding link_from link_in next_by
    steps_other e = rw (← at) (go (both (is_accepted (load k 7)) (eqb (load k 8).refusal 8)) e)
      where
        go : (b : Bool) → none ≡ pick b (some (load k 0).value) none → Steps index w (pick b (some (record { head = k; next = (load k 0).value })) none) None
        go true same = absurd (none-ne-some _ same)
        go false same = refl

    -- it has
    pub steps_on : {n : ℕ} (r : Walk) → some n ≡ next_by (load k) → r.at.0 ≡ n → passed_by r ≡ pass index (passed_by w) k → Steps index w link (Some r)
    unfolding link_from link_in next_by
    steps_on {n} r e next by = rw (← at) (go (both (is_accepted (load k 7)) (eqb (load k 8).refusal 8)) e)
      where
        go : (b : Bool) → some n ≡ pick b (some (load k 0).value) none → Steps index w (pick b (some (record { head = k; next = (load k 0).value })) none) (Some r)
        go true same = (next ∙ some-injective _ _ same, by)
        go false same = absurd (none-ne-some _ (sym same))

-- ---- what has been passed at the end

-- all entries of a list are passed
unfoldable pub pass_all : ℕ → Passed → List ℕ → Passed
pass_all index p [] = p
pass_all index p (k ∷ ks) = pass_all index (pass index p k) ks

-- if there is one
abbrev pub pass_on : ℕ → Passed → Option (List ℕ) → Option Passed
pass_on index p none = none
pass_on index p (some ks) = some (pass_all index p ks)

-- the number of all, from 0
pass_count : (index : ℕ) (ks : List ℕ) (p : Passed) → (pass_all index p ks).count ≡ p.count + length ks
unfolding pass_all
pass_count index [] p = omega arith
pass_count index (k ∷ ks) p = omega (arith, pass_count index ks (pass index p k))

-- what was found, or else what was known before
abbrev or_known : Option ℕ → Option ℕ → Option ℕ
or_known none y = y
or_known (some k) y = some k

or_none : (x : Option ℕ) → or_known x none ≡ x
or_none none = refl
or_none (some k) = refl

-- the last one
pass_last : (index : ℕ) (ks : List ℕ) (p : Passed) → (pass_all index p ks).last ≡ or_known (last_of ks) p.last
unfolding pass_all last_of
pass_last index [] p = refl
pass_last index (k ∷ ks) p = pass_last index ks (pass index p k) ∙ go (last_of ks)
  where
    go : (x : Option ℕ) → or_known x (some k) ≡ or_known (elim x [ none ↦ some k | some l ↦ some l ]) p.last
    go none = refl
    go (some l) = refl

-- the one with the wanted index: once it is passed it stays
pass_passed : (index : ℕ) (ks : List ℕ) (p : Passed) → index < p.count → (pass_all index p ks).wanted ≡ p.wanted
unfolding pass_all
pass_passed index [] p l = refl
pass_passed index (k ∷ ks) p l =
    pass_passed index ks (pass index p k) (omega (arith, l)) ∙ ap (λ (b : Bool). pick b (some k) p.wanted) (ne_eqb p.count index (λ e. omega (arith, e, l)))

-- and until then it is sought among the rest
pass_wanted : (index : ℕ) (ks : List ℕ) (p : Passed) → p.count ≤ index → (pass_all index p ks).wanted ≡ or_known (at_index ks (index - p.count)) p.wanted
unfolding pass_all at_index
pass_wanted index [] p l = refl
pass_wanted index (k ∷ ks) p l = go (ℕ_discrete p.count index) (λ (m : p.count < index). pass_wanted index ks (pass index p k) (omega (arith, m)))
  where
    go : Dec (p.count ≡ index)
        → (p.count < index → (pass_all index (pass index p k) ks).wanted ≡ or_known (at_index ks (index - suc p.count)) (pick (eqb p.count index) (some k) p.wanted))
        → (pass_all index (pass index p k) ks).wanted ≡ or_known (at_index (k ∷ ks) (index - p.count)) p.wanted
    go (yes e) later =
        let z : index - p.count ≡ 0 = omega (arith, e) in
        rw z (pass_passed index ks (pass index p k) (omega (arith, e)) ∙ ap (λ (b : Bool). pick b (some k) p.wanted) (eq-eqb p.count index e))
    go (no ne) later =
        let s : index - p.count ≡ suc (index - suc p.count) = omega (arith, ne, l) in
        rw s (later (omega (arith, ne, l)) ∙ ap (λ (b : Bool). or_known (at_index ks (index - suc p.count)) (pick b (some k) p.wanted)) (ne_eqb p.count index ne))

-- nothing is passed
abbrev none_passed : Passed
none_passed = record { count = 0; last = none; wanted = none }

-- a walk that has passed all entries of a list from the first one on has found what it had to
found_all : (index : ℕ) (w : Walk) (ks : List ℕ) → pass_all index none_passed ks ≡ passed_by w → Found index w ks
found_all index w ks same =
    let z : index - 0 ≡ index = omega arith in
    let passed : w.count ≡ 0 + length ks = sym (ap (λ (p : Passed). p.count) same) ∙ pass_count index ks none_passed in
    record {
      count = omega (arith, passed);
      last = sym (or_none (last_of ks)) ∙ sym (pass_last index ks none_passed) ∙ ap (λ (p : Passed). p.last) same;
      wanted = sym (or_none (at_index ks index)) ∙ rw z at (sym (pass_wanted index ks none_passed (omega arith))) ∙ ap (λ (p : Passed). p.wanted) same;
    }

-- ---- the turns

module _ (load : Loads) (base : ℕ) where
  -- what is left of the heads, where the walk stands
  abbrev pub left_of : Walk → Option (List ℕ)
  left_of w = heads_from load base (4096 - w.count) w.at.0

  heads_end : (n : ℕ) → heads_from load base n 0 ≡ some []
  unfolding heads_from
  heads_end zero = refl
  heads_end (suc n) = refl

  heads_more : (n a : ℕ) → eqb a 0 ≡ false → heads_from load base (suc n) a ≡ elim (link_from load (target_of base 4096 a)) [ none ↦ none | some l ↦ prepended l.head (heads_from load base n l.next) ]
  unfolding heads_from
  heads_more n a e = rw e

  heads_long : (a : ℕ) → eqb a 0 ≡ false → heads_from load base 0 a ≡ none
  unfolding heads_from
  heads_long a e = rw e

  pass_first : (index : ℕ) (p : Passed) (k : ℕ) (x : Option (List ℕ)) → pass_on index p (prepended k x) ≡ pass_on index (pass index p k) x
  unfolding pass_all
  pass_first index p k none = refl
  pass_first index p k (some ks) = refl

  module _ (index : ℕ) (y : Option (List ℕ)) where
    -- the walk along the heads y stands where what is left leads to the end
    pub record Walks (w : Walk) : Type 0 where
      pub few : w.count ≤ 4096
      pub left : pass_on index (passed_by w) (left_of w) ≡ pass_on index none_passed y

    -- it came to a next word of 0
    pub ended : (w : Walk) → Walks w → {b : Bool} → b ≡ eqb w.at.0 0 → b ≡ true → Walked index (Some w) y
    unfolding pass_all
    ended w g test at = go y (sym g.left ∙ rw (eqb-true w.at.0 0 (sym test ∙ at), heads_end (4096 - w.count)))
      where
        go : (x : Option (List ℕ)) → pass_on index none_passed x ≡ some (passed_by w) → Walked index (Some w) x
        go none same = absurd (none-ne-some _ same)
        go (some ks) same = found_all index w ks (some-injective _ _ same)

    -- no more heads: there is no log
    failed : pass_on index none_passed y ≡ none → Walked index None y
    failed e = go y e
      where
        go : (x : Option (List ℕ)) → pass_on index none_passed x ≡ none → Walked index None x
        go none same = refl
        go (some ks) same = absurd (none-ne-some _ (sym same))

    module _ (w : Walk) (g : Walks w) {b : Bool} (test : b ≡ eqb w.at.0 0) (on : b ≡ false) where
      -- it stands at another address after as many entries as a heap may have
      pub too_many : w.count ≡ 4096 → Walked index None y
      too_many z =
          let e : 4096 - w.count ≡ 0 = omega (arith, z) in
          let long : left_of w ≡ none = rw e (heads_long w.at.0 (sym test ∙ on)) in
          failed (sym g.left ∙ ap (pass_on index (passed_by w)) long)

      module _ (more : w.count ≡ 4096 → ⊥) where
        pub below : w.count < 4096
        below = omega (arith, more, g.few)

        left_next : pass_on index (passed_by w) (elim (link_from load (target_of base 4096 w.at.0)) [ none ↦ none | some l ↦ prepended l.head (heads_from load base (4096 - suc w.count) l.next) ])
            ≡ pass_on index none_passed y
        left_next =
            let e : 4096 - w.count ≡ suc (4096 - suc w.count) = omega (arith, below) in
            rw (e, heads_more (4096 - suc w.count) w.at.0 (sym test ∙ on)) at g.left

        -- it came to an address with no entry
        pub stopped : Steps index w (link_from load (target_of base 4096 w.at.0)) None → Walked index None y
        stopped steps = failed (sym left_next ∙ go (link_from load (target_of base 4096 w.at.0)) steps)
          where
            go : (o : Option Link) → Steps index w o None
                → pass_on index (passed_by w) (elim o [ none ↦ none | some l ↦ prepended l.head (heads_from load base (4096 - suc w.count) l.next) ]) ≡ none
            go none e = refl
            go (some l) e = absurd e

        -- it passed one
        pub walk_on : (r : Walk) → Steps index w (link_from load (target_of base 4096 w.at.0)) (Some r) → (r.count ≡ suc w.count) × Walks r
        walk_on r steps = go (link_from load (target_of base 4096 w.at.0)) steps left_next
          where
            go : (o : Option Link) → Steps index w o (Some r)
                → pass_on index (passed_by w) (elim o [ none ↦ none | some l ↦ prepended l.head (heads_from load base (4096 - suc w.count) l.next) ]) ≡ pass_on index none_passed y
                → (r.count ≡ suc w.count) × Walks r
            go none e same = absurd (true_not_false refl e)
            go (some l) (at, by) same =
                let n : r.count ≡ suc w.count = ap (λ (p : Passed). p.count) by in
                let here : pass_on index (passed_by r) (heads_from load base (4096 - suc w.count) l.next) ≡ pass_on index none_passed y =
                rw by (sym (pass_first index (passed_by w) l.head (heads_from load base (4096 - suc w.count) l.next)) ∙ same) in
                let there : left_of r ≡ heads_from load base (4096 - suc w.count) l.next = rw (n, at) in
                (n, record { few = omega (arith, n, below); left = ap (pass_on index (passed_by r)) there ∙ here })
