-- A heap that represents a plain list, and an outcome that agrees with a reply: the same answer, a heap that represents the list that is left and, if the pool's elements are
-- bytes, the same bytes in a buffer.
-- A call's tests are gone through one by one on both sides.
-- Assumes nothing.
use mathlib.Core.Path.{◌≡◌, refl, sym, ap, ◌∙◌}
use mathlib.Core.Bool.{Bool, true, false, not}
use mathlib.Core.List.{List, [], ◌∷◌, ◌++◌}
use mathlib.Core.Option.{Option, some, none}
use Prim.Native.Nat.{ℕ, zero, suc, ◌*◌, ◌≤◌, ◌<◌}
use native.Mathlib.Omega.{arith}
use lib.Dec.{eqb, leb}
use lib.ListN.{length}
use borrow.Author.Tests.{eq-eqb, ne_eqb, le-leb}
use Rattle.rules.specs.Pointers.{good_base}
use Rattle.rules.specs.Entries.{HEAD}
use Rattle.laws.specs.Meaning.{AllBytes, Extent}
use Rattle.rules.specs.Outcomes.{Heap, Outcome, only_refusal, change_from, leaves_with, unless_refused}
use Rattle.rules.specs.Refusals.{Test, first_of, good_shape, bad_shape, ill_formed, heap_tests, outside, no_head}
use Rattle.rules.specs.Calls.{placing}
use Rattle.laws.proofs.Refusals.{numbered, first_yes, first_no, first_more, first_less, refuses}
use Rattle.plain.specs.Objects.{Object, Plain, find}
use Rattle.plain.specs.Replies.{Reply, refuse, refuse_if, places, on_object, named, misplaced}
use Rattle.simulation.proofs.Laid.{Lies, Laid, laid_well, Found, missing, there, finds}
use Rattle.simulation.proofs.Gaps.{laid_used}

pub record Represents (p : Plain) (h : Heap) : Type 0 where
  pub size : p.size ≡ length h.entries
  pub some : 1 ≤ length h.entries
  pub few : length h.entries ≤ 4096
  pub pool : length h.pool ≡ 16 * length h.entries
  pub laid : Laid h.pool h.entries 0 p.objects

-- the same blocks, with other objects in them
pub represents_other : {p : Plain} {h : Heap} → Represents p h → (h'' : Heap) (os : List Object) → length h''.pool ≡ length h.pool → length h''.entries ≡ length h.entries
    → Laid h''.pool h''.entries 0 os → Represents (record { size = p.size; objects = os }) h''
represents_other {p} {h} r h'' os pl el d =
    record { size = r.size ∙ sym el; some = rw el r.some; few = rw el r.few; pool = pl ∙ r.pool ∙ ap (λ (n : ℕ). 16 * n) (sym el); laid = d }

pub record Agrees (r : Reply) (o : Outcome) : Type 0 where
  pub answer : o.answer ≡ r.answer
  pub heap : Represents r.heap o.heap
  pub filled : AllBytes o.heap.pool → o.filled ≡ r.filled

module _ {p : Plain} {h : Heap} (r : Represents p h) where
  pub agree_refused : (n : ℕ) (stack : List ℕ) → Agrees (refuse n p) (leaves_with (only_refusal n) h stack)
  agree_refused n stack = record { answer = refl; heap = r; filled = λ _. refl }

  -- a test on both sides
  pub agree_test : (t : Test) (ts : List Test) (b : Bool) (stack : List ℕ) (acted : Outcome) (x : Reply) → 0 < t.number → t.holds ≡ b
      → (b ≡ false → Agrees x (unless_refused (first_of ts) h stack acted)) → Agrees (refuse_if b t.number p x) (unless_refused (first_of (t ∷ ts)) h stack acted)
  agree_test t ts true stack acted x pos e f = rw (refuses t.number h stack acted (first_yes t ts e) pos) (agree_refused t.number stack)
  agree_test t ts false stack acted x pos e f = rw (first_no t ts e) (f refl)

  -- several tests, which are one on the list: the number of the first that holds
  pub agree_tests : (us ts : List Test) (stack : List ℕ) (acted : Outcome) (x : Reply) → numbered us ≡ true
      → (first_of us ≡ 0 → Agrees x (unless_refused (first_of ts) h stack acted)) → Agrees (refuse_if (not (eqb (first_of us) 0)) (first_of us) p x) (unless_refused (first_of (us ++ ts)) h stack acted)
  agree_tests us ts stack acted x k f = go (first_of us) refl
    where
      go : (n : ℕ) → first_of us ≡ n → Agrees (refuse_if (not (eqb n 0)) n p x) (unless_refused (first_of (us ++ ts)) h stack acted)
      go zero e = rw (first_more us ts k e) (f e)
      go (suc n) e =
          rw (ne_eqb (suc n) 0 (λ z. omega arith), refuses (suc n) h stack acted (first_less us ts (suc n) (omega arith) e) (omega arith)) (agree_refused (suc n) stack)

  -- a test on the table alone, that does not hold
  pub agree_skip : (t : Test) (ts : List Test) (stack : List ℕ) (acted : Outcome) (x : Reply) → t.holds ≡ false
      → Agrees x (unless_refused (first_of ts) h stack acted) → Agrees x (unless_refused (first_of (t ∷ ts)) h stack acted)
  agree_skip t ts stack acted x e f = rw (first_no t ts e) f

  pub agree_shape : (base : ℕ) → good_shape base h ≡ good_base base p.size
  unfolding good_shape
  agree_shape base = rw (le-leb _ _ r.some, le-leb _ _ r.few, eq-eqb _ _ r.pool, r.size)

  pub agree_well : (ts : List Test) (stack : List ℕ) (acted : Outcome) (x : Reply) → Agrees x (unless_refused (first_of ts) h stack acted)
      → Agrees x (unless_refused (first_of (ill_formed h ∷ ts)) h stack acted)
  agree_well ts stack acted x f = agree_skip (ill_formed h) ts stack acted x (rw (laid_well r.laid)) f

  -- the tests that come first in a call that reads the table: the base suits, and the table is well-formed
  pub agree_heap : (base : ℕ) (ts : List Test) (stack : List ℕ) (acted : Outcome) (x : Reply) → Agrees x (unless_refused (first_of ts) h stack acted)
      → Agrees (refuse_if (misplaced base p) 1 p x) (unless_refused (first_of (heap_tests base h ++ ts)) h stack acted)
  agree_heap base ts stack acted x f =
      agree_test (bad_shape (good_shape base h)) (ill_formed h ∷ ts) (misplaced base p) stack acted x (omega arith) (ap not (agree_shape base)) (λ _. agree_well ts stack acted x f)

  -- the tests of a call that names an object
  pub agree_named : (k : ℕ) (ts : List Test) (acted : Outcome) (f : Object → Reply)
      → ((o : Object) → find k p.objects ≡ some o → o.start ≡ k → Lies h.pool h.entries o → Extent h.entries k o.blocks → Agrees (f o) (unless_refused (first_of ts) h [] acted))
      → Agrees (named p k f) (unless_refused (first_of (outside h k ∷ no_head h k ∷ ts)) h [] acted)
  unfolding named on_object
  agree_named k ts acted f act =
      agree_test (outside h k) (no_head h k ∷ ts) (leb p.size k) [] acted (on_object p (find k p.objects) f) (omega arith) (ap (λ (n : ℕ). leb n k) (sym r.size))
      (λ _. go (find k p.objects) refl (finds r.laid k (omega arith)))
    where
      go : (x : Option Object) → find k p.objects ≡ x → Found h.pool h.entries k x → Agrees (on_object p x f) (unless_refused (first_of (no_head h k ∷ ts)) h [] acted)
      go none q (missing n) =
          rw (refuses 7 h [] acted (first_yes (no_head h k) ts (ap not (ne_eqb _ HEAD n))) (omega arith)) (agree_refused 7 [])
      go (some _) q (there o s y x) =
          agree_skip (no_head h k) ts [] acted (f o) (ap not (eq-eqb _ HEAD (rw s at y.head))) (act o q s y x)

  -- an accepted call that answers a block and the change
  pub agree_placing : (k : ℕ) (os : List Object) (h'' : Heap) → Represents (record { size = p.size; objects = os }) h'' → Agrees (places p k os) (placing h k h'')
  unfolding places placing change_from
  agree_placing k os h'' r' = record { answer = rw (laid_used r.laid, laid_used r'.laid); heap = r'; filled = λ _. refl }
