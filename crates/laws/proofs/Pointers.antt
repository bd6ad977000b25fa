-- What a word's target is and what a word leads to: the definitions match their sentences, and a sentence has one answer.
-- Assumes nothing.
use mathlib.Core.Path.{◌≡◌, refl, ap, subst}
use mathlib.Core.Logic.{◌≢◌, ◌⊎◌, inl, inr, ⊎_elim}
use mathlib.Core.Bool.{Bool, true, false}
use mathlib.Core.List.{List}
use mathlib.Core.Option.{Option, some, none}
use Prim.Native.Nat.{ℕ, ◌+◌, ◌-◌, ◌/◌, ◌%◌, ◌<◌}
use native.Mathlib.Omega.{arith}
use lib.Dec.{eqb, leb, ltb}
use lib.ListN.{length}
use borrow.Author.Tests.{eqb-true, eqb-false, leb-true, leb-false, ltb-true, ltb-false}
use Rattle.rules.specs.Tests.{pick, both, either}
use Rattle.rules.specs.Entries.{FREE, HEAD, MARK}
use Rattle.rules.specs.Tables.{entry_at, block_count, start_of}
use Rattle.rules.specs.Pointers.{address_of, target_of, heads_object, head_at, leads_to}
use Rattle.laws.specs.Meaning.{Points, Heads, PointsInto, Leads, Extent, Start}
use Rattle.laws.proofs.Refusals.{true_not_false}
use Rattle.laws.proofs.Tables.{entry_inside, extent_of, extent_used, count_covers, start_says, start_one}

pub target_points : (base n w : ℕ) → Points base n w (target_of base n w)
unfolding Points target_of address_of
target_points base n w = go (leb base w) (eqb ((w - base) % 16) 0) (ltb ((w - base) / 16) n) refl refl refl
  where
    go : (a b c : Bool) → leb base w ≡ a → eqb ((w - base) % 16) 0 ≡ b → ltb ((w - base) / 16) n ≡ c
        → Points base n w (pick (both a (both b c)) (some ((w - base) / 16)) none)
    go true true true p q r = (ltb-true _ _ r, omega (arith, leb-true base w p, eqb-true ((w - base) % 16) 0 q))
    go true true false p q r = λ k l e. omega (arith, ltb-false ((w - base) / 16) n r)
    go true false c p q r = λ k l e. eqb-false ((w - base) % 16) 0 q (omega arith)
    go false b c p q r = λ k l e. omega (arith, leb-false base w p)

pub points_one : (base n w : ℕ) (x y : Option ℕ) → Points base n w x → Points base n w y → x ≡ y
unfolding Points address_of
points_one base n w (some k) (some j) x y = ap some (omega (arith, x.1, y.1))
points_one base n w (some k) none x y = absurd (y k x.0 x.1)
points_one base n w none (some j) x y = absurd (x j y.0 y.1)
points_one base n w none none x y = refl

-- ---- what a word leads to

heads_true : (e : ℕ) → heads_object e ≡ true → (e ≡ HEAD) ⊎ (e ≡ MARK)
unfolding heads_object
heads_true e = go (eqb e HEAD) (eqb e MARK) refl refl
  where
    go : (a b : Bool) → eqb e HEAD ≡ a → eqb e MARK ≡ b → either a b ≡ true → (e ≡ HEAD) ⊎ (e ≡ MARK)
    go true b p r q = inl (eqb-true _ _ p)
    go false true p r q = inr (eqb-true _ _ r)
    go false false p r q = absurd (true_not_false q refl)

heads_of : (e : ℕ) → (e ≡ HEAD) ⊎ (e ≡ MARK) → heads_object e ≡ true
unfolding heads_object
heads_of e = ⊎_elim (λ q. rw q) (λ q. rw q)

heads_used : (es : List ℕ) (k : ℕ) → Heads es k → entry_at es k ≢ FREE
heads_used es k h f = ⊎_elim (λ q. omega arith) (λ q. omega arith) h

pub heads_inside : (es : List ℕ) (k : ℕ) → Heads es k → k < length es
heads_inside es k h = entry_inside es k (heads_used es k h)

-- a block into which a word points is used
pub into_used : (base : ℕ) (es : List ℕ) (w k : ℕ) (p : PointsInto base es w k) → entry_at es p.block ≢ FREE
into_used base es w k p =
    let inside : k < length es = heads_inside es k p.head in
    let e : k + (p.block - k) ≡ p.block = omega (arith, p.from) in
    rw e at (extent_used es k (block_count es k) (extent_of es k inside) (heads_used es k p.head) (p.block - k) (omega (arith, p.from, p.to)))

-- its object starts at the head
pub into_start : (base : ℕ) (es : List ℕ) (w k : ℕ) (p : PointsInto base es w k) → Start es p.block k
into_start base es w k p = record {
  from = p.from;
  tails = λ j l r. let e : k + (j - k) ≡ j = omega arith in rw e at (x.tail (j - k) (omega arith) (omega (arith, p.to)));
  first = λ l t. ⊎_elim (λ q. omega arith) (λ q. omega arith) p.head;
}
  where
    x : Extent es k (block_count es k)
    x = extent_of es k (heads_inside es k p.head)

pub leads_says : (base : ℕ) (es : List ℕ) (w : ℕ) → Leads base es w (leads_to base es w)
unfolding Points Leads address_of head_at leads_to
leads_says base es w = to (target_of base (length es) w) (target_points base (length es) w)
  where
    -- the target is block b, and its object starts at block s, which is a head or is none
    at : (b s : ℕ) → (b < length es) × (w ≡ address_of base b) → Start es b s → (t : Bool) → heads_object (entry_at es s) ≡ t → Leads base es w (pick t (some s) none)
    at b s o u true q =
        let h : Heads es s = heads_true (entry_at es s) q in
        record { head = h; block = b; from = u.from; to = count_covers es s b (heads_inside es s h) u.tails; address = o.1 }
    at b s o u false q = λ k p.
        let same : p.block ≡ b = omega (arith, o.1, p.address) in
        let starts : k ≡ s = start_one es b k s (rw same at (into_start base es w k p)) u in
        true_not_false (heads_of (entry_at es s) (subst (Heads es) starts p.head)) q

    to : (o : Option ℕ) → Points base (length es) w o → Leads base es w (head_at es o)
    to none t = λ k p. t p.block (omega (arith, p.to, (extent_of es k (heads_inside es k p.head)).room)) p.address
    to (some b) t = at b (start_of es b) t (start_says es b) (heads_object (entry_at es (start_of es b))) refl

pub leads_one : (base : ℕ) (es : List ℕ) (w : ℕ) (x y : Option ℕ) → Leads base es w x → Leads base es w y → x ≡ y
unfolding Leads address_of
leads_one base es w (some k) (some j) x y =
    let same : y.block ≡ x.block = omega (arith, x.address, y.address) in
    ap some (start_one es x.block k j (into_start base es w k x) (rw same at (into_start base es w j y)))
leads_one base es w (some k) none x y = absurd (y k x)
leads_one base es w none (some j) x y = absurd (x j y)
leads_one base es w none none x y = refl

-- what a word leads to is a head of the table
pub leads_head : (base : ℕ) (es : List ℕ) (w k : ℕ) → leads_to base es w ≡ some k → Heads es k
unfolding Leads
leads_head base es w k q = let l : PointsInto base es w k = rw q at (leads_says base es w) in l.head
