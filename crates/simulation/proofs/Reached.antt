-- What the marking of a plain list reaches is what is reachable in it: a chain of words in the list is a chain of words in the table,
-- and the table's marking marks exactly what is reachable there.
-- Assumes nothing.
use mathlib.Core.Path.{◌≡◌, refl, sym, ◌∙◌}
use mathlib.Core.Logic.{◌⊎◌, inl, inr, ⊎_elim}
use mathlib.Core.Bool.{Bool, true, false}
use mathlib.Core.List.Memᴰ
use mathlib.Core.List.{List, [], ◌∷◌, Memᴰ}
use mathlib.Core.Option.{Option, some}
use Prim.Native.Nat.{ℕ, zero, suc, ◌+◌, ◌*◌, ◌≤◌, ◌<◌}
use native.Mathlib.Omega.{arith}
use lib.ListN.{length, get_or, replicate, length-replicate}
use borrow.Author.Tests.{eq-eqb, ne_eqb, eqb-true}
use Rattle.rules.specs.Tests.{pick}
use Rattle.rules.specs.Words.{word_at}
use Rattle.rules.specs.Entries.{FREE}
use Rattle.rules.specs.Tables.{block_count}
use Rattle.rules.specs.Pointers.{leads_to}
use Rattle.rules.specs.Outcomes.{Heap}
use Rattle.rules.specs.Reach as table
use Rattle.keeping.specs.Keeping.{marking}
use Rattle.keeping.proofs.Sound.{sound}
use Rattle.keeping.proofs.Complete.{complete}
use Rattle.plain.specs.Objects.{Object, end, find}
use Rattle.plain.specs.Tracing.{View, is_in, addresses, led_to, trace, among}
use Rattle.plain.specs.Reaching.{Reachable, root, edge, Keeps}
use Rattle.simulation.proofs.Laid.{Laid, done, next, laid_unmarked}
use Rattle.simulation.proofs.Traces.{Known, Led, nowhere, object, leads_agree, Ends, trace_follows}
use Rattle.simulation.proofs.Agrees.{Represents}
use Rattle.simulation.proofs.Acts.{empty_laid}

-- ---- members

-- where a list holds an element
record At (ws : List ℕ) (w : ℕ) : Type 0 where
  index : ℕ
  inside : index < length ws
  is : get_or ws index 0 ≡ w

at_of : {w : ℕ} {ws : List ℕ} → Memᴰ w ws → At ws w
at_of (Memᴰ.head e) = record { index = 0; inside = omega arith; is = sym e }
at_of (Memᴰ.tail m) = let a = at_of m in let l = a.inside in record { index = suc a.index; inside = omega arith; is = a.is }

pub of_at : (ws : List ℕ) (i : ℕ) → i < length ws → Memᴰ (get_or ws i 0) ws
of_at [] i h = absurd (omega arith)
of_at (w ∷ ws) zero h = Memᴰ.head refl
of_at (w ∷ ws) (suc i) h = Memᴰ.tail (of_at ws i (omega arith))

-- what a word leads to is an object of the list
pub led_member : (base w : ℕ) (os : List Object) {o : Object} → led_to base w os ≡ some o → Memᴰ o os
unfolding led_to
led_member base w [] e = let z : ◌≡◌ {A = ℕ} 0 1 = cc in absurd (omega arith)
led_member base w (x ∷ os) {o} e = go (is_in w (addresses base x)) e (led_member base w os)
  where
    go : (t : Bool) → pick t (some x) (led_to base w os) ≡ some o → (led_to base w os ≡ some o → Memᴰ o os) → Memᴰ o (x ∷ os)
    go true q rest = let p : o ≡ x = cc in Memᴰ.head p
    go false q rest = Memᴰ.tail (rest q)

-- an object of a laid list is the one that starts there
member_found : {pool es : List ℕ} {from : ℕ} {os : List Object} → Laid pool es from os → (o : Object) → Memᴰ o os → (from ≤ o.start) × (find o.start os ≡ some o)
unfolding find
member_found (done r g) o m = absurd (Memᴰ.not-nil m)
member_found {from = from} (next {o = x} {os = os} l g y e r) o m = go (Memᴰ.cases_cons m) (member_found r o)
  where
    go : (o ≡ x) ⊎ Memᴰ o os → (Memᴰ o os → (end x ≤ o.start) × (find o.start os ≡ some o)) → (from ≤ o.start) × (find o.start (x ∷ os) ≡ some o)
    go (inl q) rest = (rw q l, rw (q, eq-eqb x.start x.start refl))
    go (inr q) rest =
        let t = rest q in
        let b = y.some_block in
        let u = t.0 in
        (omega arith, rw (ne_eqb x.start o.start (λ i. omega arith)) t.1)

among_of : (reached : List ℕ) (os : List Object) (o : Object) → Memᴰ o os → is_in o.start reached ≡ true → Memᴰ o (among reached os)
unfolding among
among_of reached [] o m t = absurd (Memᴰ.not-nil m)
among_of reached (x ∷ os) o m t = go (Memᴰ.cases_cons m) (is_in x.start reached) refl (λ q. among_of reached os o q t)
  where
    go : (o ≡ x) ⊎ Memᴰ o os → (b : Bool) → is_in x.start reached ≡ b → (Memᴰ o os → Memᴰ o (among reached os))
        → Memᴰ o (pick b (x ∷ among reached os) (among reached os))
    go (inl q) true e rest = Memᴰ.head q
    go (inl q) false e rest = let z : true ≡ false = sym t ∙ rw q e in let n : ◌≡◌ {A = ℕ} 0 1 = cc in absurd (omega arith)
    go (inr q) true e rest = Memᴰ.tail (rest q)
    go (inr q) false e rest = rest q

of_among : (reached : List ℕ) (os : List Object) (o : Object) → Memᴰ o (among reached os) → Memᴰ o os × (is_in o.start reached ≡ true)
unfolding among
of_among reached [] o m = absurd (Memᴰ.not-nil m)
of_among reached (x ∷ os) o m = go (is_in x.start reached) refl m (of_among reached os o)
  where
    go : (b : Bool) → is_in x.start reached ≡ b → Memᴰ o (pick b (x ∷ among reached os) (among reached os))
        → (Memᴰ o (among reached os) → Memᴰ o os × (is_in o.start reached ≡ true)) → Memᴰ o (x ∷ os) × (is_in o.start reached ≡ true)
    go true e m rest =
        ⊎_elim (λ q. (Memᴰ.head q, rw q e)) (λ q. let t = rest q in (Memᴰ.tail t.0, t.1)) (Memᴰ.cases_cons m)
    go false e m rest = let t = rest m in (Memᴰ.tail t.0, t.1)

-- ---- chains of words

module _ (base : ℕ) (h : Heap) (os : List Object) (laid : Laid h.pool h.entries 0 os) (roots : List ℕ) where
  -- the object that a word leads to, in the table
  record InTable (w : ℕ) (o : Object) : Type 0 where
    known : Known h.pool h.entries o
    leads : leads_to base h.entries w ≡ some o.start

  in_table : (w : ℕ) {o : Object} → led_to base w os ≡ some o → InTable w o
  in_table w {o} e = go (led_to base w os) e (leads_to base h.entries w) refl (leads_agree h.pool h.entries base w laid)
    where
      go : (x : Option Object) → x ≡ some o → (y : Option ℕ) → leads_to base h.entries w ≡ y → Led h.pool h.entries x y → InTable w o
      go x q y p nowhere = let z : ◌≡◌ {A = ℕ} 0 1 = cc in absurd (omega arith)
      go x q y p (object u n) = let i : u ≡ o = cc in record { known = rw i at n; leads = rw i at p }

  -- and back
  record InList (w k : ℕ) : Type 0 where
    target : Object
    starts : target.start ≡ k
    known : Known h.pool h.entries target
    leads : led_to base w os ≡ some target

  in_list : (w k : ℕ) → leads_to base h.entries w ≡ some k → InList w k
  in_list w k e = go (led_to base w os) refl (leads_to base h.entries w) e (leads_agree h.pool h.entries base w laid)
    where
      go : (x : Option Object) → led_to base w os ≡ x → (y : Option ℕ) → y ≡ some k → Led h.pool h.entries x y → InList w k
      go x p y q nowhere = let z : ◌≡◌ {A = ℕ} 0 1 = cc in absurd (omega arith)
      go x p y q (object u n) = record { target = u; starts = cc; known = n; leads = p }

  -- the last step of a chain leads to an object of the table
  reached_known : {o : Object} → Reachable base os roots o → Known h.pool h.entries o
  reached_known (root {w = w} m e) = (in_table w e).known
  reached_known (edge {w = w} r m e) = (in_table w e).known

  reached_member : {o : Object} → Reachable base os roots o → Memᴰ o os
  reached_member (root {w = w} m e) = led_member base w os e
  reached_member (edge {w = w} r m e) = led_member base w os e

  to_table : {o : Object} → Reachable base os roots o → table.Reachable base h roots o.start
  to_table (root {w = w} m e) = table.root m (in_table w e).leads
  to_table (edge {x = x} {w = w} {o = o} r m e) =
      let n = reached_known r in
      let a = at_of m in
      let l = a.inside in
      let g = n.words.long in
      let c = n.count in
      table.edge {o = x.start} {k = o.start} (to_table r) (record {
        word = a.index;
        inside = omega arith;
        leads = rw (← n.words.at a.index (omega arith), a.is) (in_table w e).leads;
      })

  -- a block that is reachable in the table is the start of a reachable object
  record OfList (k : ℕ) : Type 0 where
    found : Object
    starts : found.start ≡ k
    known : Known h.pool h.entries found
    member : Memᴰ found os
    reachable : Reachable base os roots found

  to_list : {k : ℕ} → table.Reachable base h roots k → OfList k
  to_list {k} (table.root {w = w} m e) =
      let i = in_list w k e in
      record { found = i.target; starts = i.starts; known = i.known; member = led_member base w os i.leads; reachable = root m i.leads }
  to_list {k} (table.edge {o = o} r x) = go (to_list r)
    where
      go : OfList o → OfList k
      go b =
          let n = b.known in
          let s = b.starts in
          let c : block_count h.entries o ≡ b.found.blocks = rw s at n.count in
          let l = x.inside in
          let g = n.words.long in
          let w : get_or b.found.words x.word 0 ≡ word_at h.pool (4 * o + x.word) = n.words.at x.word (omega arith) ∙ rw s in
          let i = in_list (word_at h.pool (4 * o + x.word)) k x.leads in
          record {
            found = i.target;
            starts = i.starts;
            known = i.known;
            member = led_member base _ os i.leads;
            reachable = edge {x = b.found} {o = i.target} b.reachable (of_at b.found.words x.word (omega arith)) (rw w i.leads);
          }

  -- ---- the marking

  module _ (room : ℕ) where
    abbrev v : View
    v = record { base = base; objects = os; room = room }

    ends : Ends base h.pool h.entries os room laid (trace v roots) (marking base h roots room)
    unfolding marking
    ends = trace_follows base h.pool h.entries os room laid roots

    pub keeps_reachable : Keeps base os roots (among (trace v roots).reached os)
    keeps_reachable = record {
      all = λ o r.
          let m = complete base h roots room (laid_unmarked laid) o.start (to_table r) in
          among_of (trace v roots).reached os o (reached_member r) (sym (ends.marked o.start) ∙ eq-eqb _ _ m);
      only = λ o m. only o (of_among (trace v roots).reached os o m);
    }
      where
        only : (o : Object) → Memᴰ o os × (is_in o.start (trace v roots).reached ≡ true) → Reachable base os roots o
        only o t =
            let k = eqb-true _ _ (ends.marked o.start ∙ t.1) in
            let b = to_list ((sound base h roots room (laid_unmarked laid)).reached o.start k) in
            let p : find o.start os ≡ some o = (member_found laid o t.0).1 in
            let q : find o.start os ≡ some b.found = rw b.starts at (member_found laid b.found b.member).1 in
            let i : b.found ≡ o = cc in
            rw i at b.reachable

-- ---- an empty heap

-- some pool and table of n blocks
abbrev pub blank : ℕ → Heap
blank n = record { pool = replicate (16 * n) 0; entries = replicate n FREE }

pub blank_represents : (n : ℕ) → 1 ≤ n → n ≤ 4096 → Represents (record { size = n; objects = [] }) (blank n)
blank_represents n l u =
    let e : length (replicate n FREE) ≡ n = length-replicate n FREE in
    record {
      size = sym e;
      some = omega arith;
      few = omega arith;
      pool = length-replicate (16 * n) 0 ∙ omega arith;
      laid = empty_laid (replicate (16 * n) 0) n;
    }
