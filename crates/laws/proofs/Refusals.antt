-- Laws of the refusals: the first test that holds, what the shape test says, and what a refusal leaves.
-- Assumes nothing.
use mathlib.Core.Path.{◌≡◌, refl, sym, ap, ◌∙◌}
use mathlib.Core.Bool.{Bool, true, false, not}
use mathlib.Core.List.{List, [], ◌∷◌, ◌++◌}
use Prim.Native.Nat.{ℕ, zero, suc, ◌*◌, ◌/◌, ◌%◌, ◌≤◌, ◌<◌}
use native.Mathlib.Omega.{arith}
use lib.Dec.{eqb, leb, ltb}
use lib.ListN.{length}
use borrow.Author.Tests.{eqb-true, eqb-false, leb-true, leb-false, ltb-true, ltb-false, eq-eqb, ne_eqb, le-leb, lt-leb, le-ltb}
use Rattle.rules.specs.Tests.{pick, both}
use Rattle.rules.specs.Pointers.{address_of, good_base}
use Rattle.rules.specs.Entries.{HEAD}
use Rattle.rules.specs.Tables.{entry_at, well_formed}
use Rattle.rules.specs.Outcomes.{Heap, Outcome, only_refusal, leaves_with, unless_refused}
use Rattle.rules.specs.Refusals.{Test, first_of, good_shape, whole_words, good_roots, good_lists, bad_shape, ill_formed, many_roots, first_tests, heap_tests, root_tests, name_tests, no_bytes, outside, no_head}
use Rattle.laws.specs.Meaning.{Shape, Passed, Named, Accepted}

-- ---- booleans

pub true_not_false : {b : Bool} → b ≡ true → b ≡ false → ⊥
true_not_false p q = let z : ◌≡◌ {A = ℕ} 0 1 = cc in omega arith

pub both_left : (a b : Bool) → both a b ≡ true → a ≡ true
both_left true b t = refl
both_left false b t = t

pub both_right : (a b : Bool) → both a b ≡ true → b ≡ true
both_right true b t = t
both_right false b t = absurd (true_not_false t refl)

pub both_false : (a : Bool) → both a false ≡ false
both_false true = refl
both_false false = refl

pub both_true : (a : Bool) → both a true ≡ a
both_true true = refl
both_true false = refl

pub not-true : (b : Bool) → not b ≡ true → b ≡ false
not-true false e = refl
not-true true e = absurd (true_not_false e refl)

pub not-false : (b : Bool) → not b ≡ false → b ≡ true
not-false true e = refl
not-false false e = absurd (true_not_false refl e)

-- a test is false if its being true is absurd
pub not_so : (b : Bool) → (b ≡ true → ⊥) → b ≡ false
not_so true f = absurd (f refl)
not_so false f = refl

-- ---- the first test that holds

pub first_yes : (t : Test) (ts : List Test) → t.holds ≡ true → first_of (t ∷ ts) ≡ t.number
unfolding first_of
first_yes t ts h = rw h

pub first_no : (t : Test) (ts : List Test) → t.holds ≡ false → first_of (t ∷ ts) ≡ first_of ts
unfolding first_of
first_no t ts h = rw h

-- the last test does not hold either
pub first_last : (t : Test) → t.holds ≡ false → first_of (t ∷ []) ≡ 0
unfolding first_of
first_last t h = rw h

-- none of the numbers is 0
abbrev pub numbered : List Test → Bool
numbered [] = true
numbered (t ∷ ts) = both (ltb 0 t.number) (numbered ts)

-- no refusal: the first test does not hold, nor does any other
pub first_none : (t : Test) (ts : List Test) → 0 < t.number → first_of (t ∷ ts) ≡ 0 → (t.holds ≡ false) × (first_of ts ≡ 0)
unfolding first_of
first_none t ts p e = go t.holds refl e
  where
    go : (b : Bool) → t.holds ≡ b → pick b t.number (first_of ts) ≡ 0 → (t.holds ≡ false) × (first_of ts ≡ 0)
    go true q e = absurd (omega arith)
    go false q e = (q, e)

-- further tests after those of which none holds
pub first_more : (ts us : List Test) → numbered ts ≡ true → first_of ts ≡ 0 → first_of (ts ++ us) ≡ first_of us
first_more [] us n e = refl
first_more (t ∷ ts) us n e =
    let r = first_none t ts (ltb-true 0 t.number (both_left (ltb 0 t.number) (numbered ts) n)) e in
    first_no t (ts ++ us) r.0 ∙ first_more ts us (both_right (ltb 0 t.number) (numbered ts) n) r.1

-- further tests after one that holds
pub first_less : (ts us : List Test) (r : ℕ) → 0 < r → first_of ts ≡ r → first_of (ts ++ us) ≡ r
unfolding first_of
first_less [] us r p e = absurd (omega arith)
first_less (t ∷ ts) us r p e = go t.holds e (first_less ts us r p)
  where
    go : (b : Bool) → pick b t.number (first_of ts) ≡ r → (first_of ts ≡ r → first_of (ts ++ us) ≡ r) → pick b t.number (first_of (ts ++ us)) ≡ r
    go true e rest = e
    go false e rest = rest e

-- the same, as a function that tests in two steps answers: the first step's number if it refuses, else the second's
pub refused_first : (ts us : List Test) {r : ℕ} → r ≡ first_of ts → (r ≡ 0 → ⊥) → r ≡ first_of (ts ++ us)
refused_first ts us {r} e ne = sym (first_less ts us r (omega arith) (sym e))

-- tests in two parts: none of either holds
pub first_neither : (ts us : List Test) → numbered ts ≡ true → first_of (ts ++ us) ≡ 0 → (first_of ts ≡ 0) × (first_of us ≡ 0)
first_neither ts us k e = go (first_of ts) refl
  where
    go : (n : ℕ) → first_of ts ≡ n → (first_of ts ≡ 0) × (first_of us ≡ 0)
    go zero q = (q, sym (first_more ts us k q) ∙ e)
    go (suc n) q = let r = first_less ts us (suc n) (omega arith) q in absurd (omega arith)

-- ---- what a call leaves

pub refuses : (r : ℕ) (h : Heap) (stack : List ℕ) (acted : Outcome) {n : ℕ} → n ≡ r → 0 < r
    → unless_refused n h stack acted ≡ leaves_with (only_refusal r) h stack
unfolding unless_refused
refuses zero h stack acted e p = absurd (omega arith)
refuses (suc r) h stack acted e p = rw e

-- the refusal of a call of the rules is the number of its tests, if its act has none
pub refusal_is : (n : ℕ) (h : Heap) (stack : List ℕ) (acted : Outcome) → (n ≡ 0 → acted.answer.refusal ≡ 0) → (unless_refused n h stack acted).answer.refusal ≡ n
unfolding unless_refused
refusal_is zero h stack acted z = z refl
refusal_is (suc n) h stack acted z = refl

pub accepts : (h : Heap) (stack : List ℕ) (acted : Outcome) {n : ℕ} → n ≡ 0 → unless_refused n h stack acted ≡ acted
unfolding unless_refused
accepts h stack acted e = rw e

-- an accepted call has no refusal
pub accepted_none : (n : ℕ) (h : Heap) (stack : List ℕ) (acted : Outcome) → Accepted (unless_refused n h stack acted) → n ≡ 0
unfolding unless_refused
accepted_none zero h stack acted e = refl
accepted_none (suc n) h stack acted e = absurd (omega arith)

-- ---- the shape of a heap

pub shape_true : (base : ℕ) (h : Heap) → good_shape base h ≡ true → Shape base h
unfolding good_shape good_base address_of
shape_true base h t =
    let n = length h.entries in
    let t1 = both_left (both (leb 1 n) (leb n 4096)) _ t in
    let t2 = both_right (both (leb 1 n) (leb n 4096)) _ t in
    let t3 = both_right (eqb (length h.pool) (16 * n)) _ t2 in
    let t4 = both_right (eqb (base % 16) 0) _ t3 in
    record {
      some = leb-true 1 n (both_left (leb 1 n) _ t1);
      few = leb-true n 4096 (both_right (leb 1 n) _ t1);
      pool = eqb-true _ _ (both_left (eqb (length h.pool) (16 * n)) _ t2);
      aligned = eqb-true _ _ (both_left (eqb (base % 16) 0) _ t3);
      above = leb-true 16 base (both_left (leb 16 base) _ t4);
      below = leb-true _ _ (both_right (leb 16 base) _ t4);
    }

pub shape_of : (base : ℕ) (h : Heap) → Shape base h → good_shape base h ≡ true
unfolding good_shape good_base address_of
shape_of base h s =
    rw (le-leb _ _ s.some, le-leb _ _ s.few, eq-eqb _ _ s.pool, eq-eqb _ _ s.aligned, le-leb _ _ s.above, le-leb _ _ s.below)

-- it is that of the lengths
pub shape_lengths : (base : ℕ) (h h'' : Heap) → length h.pool ≡ length h''.pool → length h.entries ≡ length h''.entries → Shape base h → Shape base h''
shape_lengths base h h'' pools entries s = record {
  some = omega (arith, s.some, entries);
  few = omega (arith, s.few, entries);
  pool = omega (arith, s.pool, pools, entries);
  aligned = s.aligned;
  above = s.above;
  below = omega (arith, s.below, entries);
}

pub shape_not : (base : ℕ) (h : Heap) → (Shape base h → ⊥) → good_shape base h ≡ false
shape_not base h f = not_so (good_shape base h) (λ t. f (shape_true base h t))

-- of a collection: the shape, and whole words
pub lists_of : (base : ℕ) (h : Heap) (roots stack : List ℕ) → Shape base h × (length roots % 4 ≡ 0) × (length stack % 4 ≡ 0) → good_lists base h roots stack ≡ true
unfolding whole_words
lists_of base h roots stack s = rw (shape_of base h s.0, eq-eqb (length roots % 4) 0 s.1, eq-eqb (length stack % 4) 0 s.2)

pub lists_say : (base : ℕ) (h : Heap) (roots stack : List ℕ) → good_lists base h roots stack ≡ true → Shape base h × (length roots % 4 ≡ 0) × (length stack % 4 ≡ 0)
unfolding whole_words
lists_say base h roots stack e =
    let lists = both_right (good_shape base h) _ e in
    (shape_true base h (both_left (good_shape base h) _ e), eqb-true _ _ (both_left (whole_words roots) _ lists), eqb-true _ _ (both_right (whole_words roots) _ lists))

pub roots_of : (base : ℕ) (h : Heap) (roots : List ℕ) → Shape base h × (length roots % 4 ≡ 0) → good_roots base h roots ≡ true
unfolding whole_words
roots_of base h roots s = rw (shape_of base h s.0, eq-eqb (length roots % 4) 0 s.1)

pub roots_say : (base : ℕ) (h : Heap) (roots : List ℕ) → good_roots base h roots ≡ true → Shape base h × (length roots % 4 ≡ 0)
unfolding whole_words
roots_say base h roots e = (shape_true base h (both_left (good_shape base h) _ e), eqb-true _ _ (both_right (good_shape base h) _ e))

-- ---- what a call knows once it is not refused

-- the tests that come first do not hold, nor do the others
pub first_passed : (good : Bool) (h : Heap) (ts : List Test) → first_of (first_tests good h ++ ts) ≡ 0
    → (good ≡ true) × (well_formed h.entries ≡ true) × (first_of ts ≡ 0)
first_passed good h ts e =
    let a = first_none (bad_shape good) (ill_formed h ∷ ts) (omega arith) e in
    let b = first_none (ill_formed h) ts (omega arith) a.1 in
    (not-false _ a.0, not-false _ b.0, b.1)

-- nor do those of a root list
pub roots_passed : (base : ℕ) (h : Heap) (roots : List ℕ) (ts : List Test) → first_of (root_tests base h roots ++ ts) ≡ 0
    → Passed base h × (length roots % 4 ≡ 0) × (length roots / 4 ≤ 4096) × (first_of ts ≡ 0)
roots_passed base h roots ts e =
    let p = first_passed (good_roots base h roots) h (many_roots roots ∷ ts) e in
    let s = roots_say base h roots p.0 in
    let m = first_none (many_roots roots) ts (omega arith) p.2 in
    (record { shape = s.0; well = p.1 }, s.1, ltb-false 4096 (length roots / 4) m.0, m.1)

pub passed : (base : ℕ) (h : Heap) (ts : List Test) → first_of (heap_tests base h ++ ts) ≡ 0 → Passed base h
passed base h ts e = let p = first_passed (good_shape base h) h ts e in record { shape = shape_true base h p.0; well = p.1 }

-- the call's own tests
pub own_tests : (base : ℕ) (h : Heap) (ts : List Test) → first_of (heap_tests base h ++ ts) ≡ 0 → first_of ts ≡ 0
own_tests base h ts e = (first_passed (good_shape base h) h ts e).2

pub named : (h : Heap) (k : ℕ) (ts : List Test) → first_of (name_tests h k ++ ts) ≡ 0 → Named h k
named h k ts e =
    let a = first_none (outside h k) (no_head h k ∷ ts) (omega arith) e in
    let b = first_none (no_head h k) ts (omega arith) a.1 in
    record { inside = leb-false _ _ a.0; head = eqb-true _ _ (not-false _ b.0) }

-- the same of the call's whole list of tests
pub named_object : (base : ℕ) (h : Heap) (k : ℕ) (ts : List Test) → first_of (heap_tests base h ++ outside h k ∷ no_head h k ∷ ts) ≡ 0 → Named h k
named_object base h k ts e = named h k ts (own_tests base h _ e)

pub after_names : (base : ℕ) (h : Heap) (k : ℕ) (ts : List Test) → first_of (heap_tests base h ++ outside h k ∷ no_head h k ∷ ts) ≡ 0 → first_of ts ≡ 0
after_names base h k ts e =
    (first_none (no_head h k) ts (omega arith) (first_none (outside h k) (no_head h k ∷ ts) (omega arith) (own_tests base h _ e)).1).1

-- a request that is not refused asks for some bytes
pub asked : (base : ℕ) (h : Heap) (bytes : ℕ) (ts : List Test) → first_of (heap_tests base h ++ no_bytes bytes ∷ ts) ≡ 0 → 0 < bytes
asked base h bytes ts e = omega (arith, eqb-false bytes 0 (first_none (no_bytes bytes) ts (omega arith) (own_tests base h _ e)).0)

pub named_resize : (base : ℕ) (h : Heap) (k bytes : ℕ) (ts : List Test) → first_of (heap_tests base h ++ no_bytes bytes ∷ outside h k ∷ no_head h k ∷ ts) ≡ 0
    → (0 < bytes) × Named h k
named_resize base h k bytes ts e =
    let d = first_none (no_bytes bytes) (outside h k ∷ no_head h k ∷ ts) (omega arith) (own_tests base h _ e) in
    let ne = eqb-false bytes 0 d.0 in
    (omega arith, named h k ts d.1)

-- the tests behind the first
pub first_rest : (t : Test) (ts : List Test) → 0 < t.number → first_of (t ∷ ts) ≡ 0 → first_of ts ≡ 0
first_rest t ts p e = (first_none t ts p e).1

-- ---- what does not hold is not refused

pub passes : (base : ℕ) (h : Heap) (ts : List Test) → Passed base h → first_of (heap_tests base h ++ ts) ≡ first_of ts
passes base h ts p =
    first_no (bad_shape (good_shape base h)) (ill_formed h ∷ ts) (ap not (shape_of base h p.shape))
    ∙ first_no (ill_formed h) ts (ap not p.well)

pub roots_pass : (base : ℕ) (h : Heap) (roots : List ℕ) (ts : List Test) → Passed base h → length roots % 4 ≡ 0 → length roots / 4 ≤ 4096 → first_of (root_tests base h roots ++ ts) ≡ first_of ts
roots_pass base h roots ts p words few =
    first_no (bad_shape (good_roots base h roots)) (ill_formed h ∷ many_roots roots ∷ ts) (ap not (roots_of base h roots (p.shape, words)))
    ∙ first_no (ill_formed h) (many_roots roots ∷ ts) (ap not p.well) ∙ first_no (many_roots roots) ts (le-ltb 4096 (length roots / 4) few)

pub asks : (bytes : ℕ) (ts : List Test) → 0 < bytes → first_of (no_bytes bytes ∷ ts) ≡ first_of ts
asks bytes ts more = first_no (no_bytes bytes) ts (ne_eqb bytes 0 (λ e. omega arith))

pub names : (h : Heap) (k : ℕ) (ts : List Test) → Named h k → first_of (outside h k ∷ no_head h k ∷ ts) ≡ first_of ts
names h k ts n =
    first_no (outside h k) (no_head h k ∷ ts) (lt-leb (length h.entries) k n.inside)
    ∙ first_no (no_head h k) ts (ap not (eq-eqb (entry_at h.entries k) HEAD n.head))
