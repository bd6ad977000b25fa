-- The laws, said of lent memory: a call that is accepted on the heap in the memory does there what it does to the heap, and leaves the bytes that its entries are written as.
-- Assumes nothing.
use mathlib.Core.Path.{◌≡◌, refl, sym, ap, subst, ◌∙◌}
use mathlib.Core.List.{List, [], ◌++◌}
use Prim.Native.Nat.{ℕ}
use Rattle.rules.specs.Words.{words_of}
use Rattle.rules.specs.Forms.{Form}
use Rattle.laws.specs.Faithful.{Faithful}
use Rattle.rules.specs.Outcomes.{Heap, Answer, Outcome}
use Rattle.rules.specs.Calls.{free, collect, survey}
use Rattle.rules.specs.Runs.{Call, Free, Collect, Survey, step}
use Rattle.laws.specs.Meaning.{Passed, Accepted}
use Rattle.rules.specs.Memory.{Memory, memory, heap_in, Sound, Result, AcceptedIn, perform}
use Rattle.laws.proofs.Refusals.{passed}
use Rattle.laws.proofs.Memory.{Written, passes_in, perform_accepted, accepted_sound, follows_sound, refusal_in}
use Rattle.keeping.specs.Keeping.{Keeps}
use Rattle.keeping.proofs.Collections.{collect_keeps}
use Rattle.promises.proofs.Checked.{survey_checked, no_refusal}
use Rattle.algebra.specs.Algebra.{free_in, collect_in, Usable, FreesCommute, RootsAreASet, RootsJoin, CollectIdempotent}
use Rattle.algebra.proofs.Frees.{Two, swap, first_accepted, second_accepted, answers_same, heaps_same}
use Rattle.algebra.proofs.Collecting.{members_same, joined_kept, joined_blocks, joined_accepted, joined_words, collect_again}

-- ---- a call on memory, accepted, and the call on the heap in it

pub record Does (f : Form) (r : Result) (o : Outcome) : Type 0 where
  pub accepted : AcceptedIn r
  pub answer : r.answer ≡ o.answer
  pub heap : heap_in f r.memory ≡ o.heap
  pub sound : Sound f r.memory
  pub written : Written f r.memory

module _ {f : Form} (faithful : Faithful f) where
  pub does_first : (c : Call) (stack : List ℕ) (m : Memory) → Sound f m → Accepted (step c stack (heap_in f m)) → Does f (perform f c stack m) (step c stack (heap_in f m))
  does_first c stack m s z =
      let x = follows_sound f faithful c stack m s in
      let y : AcceptedIn (perform f c stack m) = refusal_in f faithful c stack m s ∙ z in
      record { accepted = y; answer = x.answer; heap = x.heap; sound = x.sound y; written = x.written y }

  -- and a call after it
  pub does_next : {r : Result} {o : Outcome} → Does f r o → (c : Call) (stack : List ℕ) → Accepted (step c stack o.heap) → Does f (perform f c stack r.memory) (step c stack o.heap)
  does_next {r = r} d c stack =
      subst (λ (h : Heap). Accepted (step c stack h) → Does f (perform f c stack r.memory) (step c stack h)) d.heap (does_first c stack r.memory d.sound)

-- calls that leave the same heap leave the same memory
pub memory_same : {f : Form} {r r' : Result} {o o' : Outcome} → Does f r o → Does f r' o' → o.heap ≡ o'.heap → r.memory ≡ r'.memory
memory_same {f = f} {r = r} {r' = r'} d d' e =
    let same : heap_in f r.memory ≡ heap_in f r'.memory = d.heap ∙ e ∙ sym d'.heap in
    let table : r.memory.table ≡ r'.memory.table = d.written ∙ ap (λ (h : Heap). f.write h.entries) same ∙ sym d'.written in
    λ i. memory (same i).pool (table i)

-- ---- frees

module _ {f : Form} (faithful : Faithful f) {base j k : ℕ} {m : Memory} (s : Sound f m) (two : Two base (heap_in f m) j k) where
  first_free : Does f (free_in f base j m) (free base (heap_in f m) j)
  unfolding step
  first_free = does_first faithful (Free base j) [] m s (first_accepted two)

  second_free : Does f (free_in f base k (free_in f base j m).memory) (free base (free base (heap_in f m) j).heap k)
  unfolding step
  second_free = does_next faithful first_free (Free base k) [] (second_accepted two)

-- what a base and memory that the calls take have passed
usable_passed : (f : Form) → Faithful f → (base : ℕ) (m : Memory) → Usable f base m → Sound f m × Passed base (heap_in f m)
unfolding step
usable_passed f faithful base m usable =
    let s = accepted_sound f (Survey base) [] m refl usable in
    let z : Accepted (survey base (heap_in f m)) = sym (refusal_in f faithful (Survey base) [] m s) ∙ usable in
    (s, passed base (heap_in f m) [] (no_refusal (survey_checked base (heap_in f m)) z))

pub frees_commute : FreesCommute
frees_commute f faithful base j k m usable one other different =
    let (s, good) = usable_passed f faithful base m usable in
    let two : Two base (heap_in f m) j k = record { good = good; one = one; other = other; different = different } in
    let first = first_free faithful s two in
    let second = second_free faithful s two in
    let first' = first_free faithful s (swap two) in
    let second' = second_free faithful s (swap two) in
    record {
      accepted = (first.accepted, second.accepted, first'.accepted, second'.accepted);
      same = memory_same second second' (heaps_same two);
      answers = (first.answer ∙ sym (answers_same (swap two)) ∙ sym second'.answer, first'.answer ∙ sym (answers_same two) ∙ sym second.answer);
    }

-- ---- collections

-- a collection that is accepted is one of the heap, and keeps what it has to
pub record Collects (f : Form) (base : ℕ) (roots stack : List ℕ) (m : Memory) : Type 0 where
  pub accepted : Accepted (collect base (heap_in f m) roots stack)
  pub does : Does f (collect_in f base roots stack m) (collect base (heap_in f m) roots stack)
  pub keeps : Keeps base (heap_in f m) (words_of roots) (f.read (collect_in f base roots stack m).memory.table)

module _ {f : Form} (faithful : Faithful f) (base : ℕ) (roots stack : List ℕ) (m : Memory) where
  collects_of : Sound f m → Accepted (collect base (heap_in f m) roots stack) → Collects f base roots stack m
  unfolding step
  collects_of s z =
      let d = does_first faithful (Collect base roots) stack m s z in
      let k = (collect_keeps base (heap_in f m) roots stack z (faithful.small m.table)).table in
      record { accepted = z; does = d; keeps = subst (λ (h : Heap). Keeps base (heap_in f m) (words_of roots) h.entries) (sym d.heap) k }

  accepted_collects : AcceptedIn (collect_in f base roots stack m) → Sound f m × Collects f base roots stack m
  unfolding step
  accepted_collects x =
      let s = accepted_sound f (Collect base roots) stack m refl x in
      (s, collects_of s (sym (refusal_in f faithful (Collect base roots) stack m s) ∙ x))

pub roots_are_a_set : RootsAreASet
unfolding step
roots_are_a_set f base roots roots' stack stack' m x members good_roots good_stack =
    let p = passes_in f (Collect base roots) stack m x in
    let (z, heap, answer) = members_same base (heap_in f m) roots roots' stack stack' p.own members good_roots good_stack in
    let e = perform_accepted f (Collect base roots) stack m p.fits p.clean p.own in
    let e' = perform_accepted f (Collect base roots') stack' m p.fits p.clean z in
    record { accepted = rw e' z; same = rw (e, e', heap) refl; answer = rw (e, e') answer }

pub roots_join : RootsJoin
roots_join f faithful base roots roots' stack stack' stack'' m x x' few good_stack =
    let (s, c) = accepted_collects faithful base roots stack m x in
    let (s', c') = accepted_collects faithful base roots' stack' m x' in
    let h = heap_in f m in
    let c'' = collects_of faithful base (roots ++ roots') stack'' m s (joined_accepted base h roots roots' stack stack' stack'' c.accepted c'.accepted few good_stack) in
    let keeps = rw (joined_words base h roots roots' stack c.accepted) at c''.keeps in
    record { accepted = c''.does.accepted; kept = joined_kept c.keeps c'.keeps keeps; blocks = joined_blocks c.keeps c'.keeps keeps }

pub collect_idempotent : CollectIdempotent
unfolding step
collect_idempotent f faithful base roots stack stack' m x good_stack =
    let (s, c) = accepted_collects faithful base roots stack m x in
    let again = collect_again base (heap_in f m) roots stack stack' (faithful.small m.table) c.accepted good_stack in
    let d = does_next faithful c.does (Collect base roots) stack' again.accepted in
    record {
      accepted = d.accepted;
      same = memory_same d c.does again.heap;
      kept = ap (λ (a : Answer). a.kept) d.answer ∙ again.kept ∙ sym (ap (λ (a : Answer). a.kept) c.does.answer);
      change = ap (λ (a : Answer). a.change) d.answer ∙ again.change;
    }
