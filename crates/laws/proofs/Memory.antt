-- Calls on lent memory: a refused call of the rules leaves the heap, so the bytes that the code leaves are those that the memory's rules give.
-- Assumes nothing.
use mathlib.Core.Path.{◌≡◌, refl, sym, ap, subst, ◌∙◌}
use mathlib.Core.Logic.{◌≢◌}
use mathlib.Core.Bool.{Bool, true, false, not}
use mathlib.Core.List.{List, [], ◌∷◌, ◌++◌}
use Prim.Native.Nat.{ℕ, zero, suc, ◌<◌}
use native.Mathlib.Omega.{arith}
use lib.Dec.{eqb, ltb}
use lib.ListN.{length}
use borrow.Author.Tests.{eqb-true, eqb-false, ne_eqb, ltb-true}
use Rattle.rules.specs.Tests.{pick, both, either}
use Rattle.rules.specs.Forms.{Form, packed}
use Rattle.laws.specs.Faithful.{Faithful}
use Rattle.rules.specs.Outcomes.{Heap, Answer, Outcome, only_refusal, leaves_with, unless_refused}
use Rattle.rules.specs.Refusals.{Test, first_of}
use Rattle.rules.specs.Calls.{init, placing, allocate, free, Way, stay, shrink, grow, move, no_way, along, reallocate, collecting, collect, survey, load, store, write_image, open_tests, open_image}
use Rattle.rules.specs.Files.{fault_of, file_tests}
use Rattle.rules.specs.Runs.{Call, Init, Allocate, Free, Reallocate, Collect, Survey, Load, Store, WriteImage, OpenImage, step, Turn, after, answers, fillings}
use Rattle.rules.specs.Memory.{Memory, lengths_fit, Sound, heap_in, holding, done_in, Result, result, AcceptedIn, stack_for, reads_table, fault_in, tests_in, or_refused, perform, turn_in, after_in, answers_in, filled_in}
use Rattle.laws.specs.Meaning.{AllBytes}
use Rattle.laws.proofs.Entries.{length_entries_of, length_table_of, entries_of_lt, table_of_entries_of, entries_of_table_of}
use Rattle.laws.proofs.Refusals.{both_false, both_left, both_right, not-false, numbered, first_more, first_less, refusal_is}
use Rattle.laws.proofs.Sizes.{Kept, step_keeps}

-- ---- a call of the rules is accepted, or leaves all as it was

pub data Ended (h : Heap) (stack : List ℕ) (o : Outcome) : Type 0 where
  accepted : o.answer.refusal ≡ 0 → Ended h stack o
  refused : (r : ℕ) → o ≡ leaves_with (only_refusal (suc r)) h stack → Ended h stack o

ended_unless : (n : ℕ) (h : Heap) (stack : List ℕ) {acted : Outcome} → Ended h stack acted → Ended h stack (unless_refused n h stack acted)
unfolding unless_refused
ended_unless zero h stack e = e
ended_unless (suc r) h stack e = refused r refl

ended_along : (way : Way) (h : Heap) (k b c : ℕ) → Ended h [] (along way h k b c)
unfolding along placing
ended_along stay h k b c = accepted refl
ended_along shrink h k b c = accepted refl
ended_along grow h k b c = accepted refl
ended_along (move s) h k b c = accepted refl
ended_along no_way h k b c = refused 8 refl

pub step_ended : (c : Call) (stack : List ℕ) (h : Heap) → Ended h (stack_for c stack) (step c stack h)
unfolding step init allocate free reallocate collect survey load store write_image open_image placing collecting
step_ended (Init base) stack h = ended_unless _ h [] (accepted refl)
step_ended (Allocate base bytes) stack h = ended_unless _ h [] (accepted refl)
step_ended (Free base k) stack h = ended_unless _ h [] (accepted refl)
step_ended (Reallocate base k bytes) stack h = ended_unless _ h [] (ended_along _ h k _ _)
step_ended (Collect base roots) stack h = ended_unless _ h stack (accepted refl)
step_ended (Survey base) stack h = ended_unless _ h [] (accepted refl)
step_ended (Load base k i) stack h = ended_unless _ h [] (accepted refl)
step_ended (Store base k i w) stack h = ended_unless _ h [] (accepted refl)
step_ended (WriteImage base roots room) stack h = ended_unless _ h [] (accepted refl)
step_ended (OpenImage image room) stack h = ended_unless _ h [] (accepted refl)

-- ---- the tests on memory

-- the fault of a file is the refusal of the call on any heap
pub fault_refuses : (c : Call) (stack : List ℕ) (h : Heap) → fault_in c ≢ 0 → (step c stack h).answer.refusal ≡ fault_in c
unfolding step open_image fault_of
fault_refuses (Init base) stack h f = absurd (f refl)
fault_refuses (Allocate base bytes) stack h f = absurd (f refl)
fault_refuses (Free base k) stack h f = absurd (f refl)
fault_refuses (Reallocate base k bytes) stack h f = absurd (f refl)
fault_refuses (Collect base roots) stack h f = absurd (f refl)
fault_refuses (Survey base) stack h f = absurd (f refl)
fault_refuses (Load base k i) stack h f = absurd (f refl)
fault_refuses (Store base k i w) stack h f = absurd (f refl)
fault_refuses (WriteImage base roots room) stack h f = absurd (f refl)
fault_refuses (OpenImage image room) stack h f =
    refusal_is (first_of (open_tests h image room)) h [] _ (λ _. refl) ∙ first_less (file_tests image ++ _) _ _ (omega (arith, f)) (first_less (file_tests image) _ _ (omega (arith, f)) refl)

-- the number that the call on the heap gives, where the form adds no refusal of its own
pub tests_own : (f : Form) (c : Call) (m : Memory) (r : ℕ) → (fault_in c ≢ 0 → r ≡ fault_in c) → lengths_fit f m ≡ true → both (reads_table c) (not (f.clean m.table)) ≡ false
    → first_of (tests_in f c m r) ≡ r
unfolding first_of
tests_own f c m r fault fits clean = rw (fits, clean) (file (eqb (fault_in c) 0) refl)
  where
    go : (a b z : Bool) → eqb r 1 ≡ a → eqb r 2 ≡ b → eqb r 0 ≡ z → pick (either a false) 1 (pick (either b false) 2 (pick (not z) r 0)) ≡ r
    go true b z p q s = sym (eqb-true r 1 p)
    go false true z p q s = sym (eqb-true r 2 q)
    go false false true p q s = sym (eqb-true r 0 s)
    go false false false p q s = refl

    file : (g : Bool) → eqb (fault_in c) 0 ≡ g → pick (not g) (fault_in c) (pick (either (eqb r 1) false) 1 (pick (either (eqb r 2) false) 2 (pick (not (eqb r 0)) r 0))) ≡ r
    file true q = go (eqb r 1) (eqb r 2) (eqb r 0) refl refl refl
    file false q = sym (fault (eqb-false (fault_in c) 0 q))

-- a test for a number other than 0, and another behind it: neither holds
neither : (n x : ℕ) → pick (not (eqb n 0)) n x ≡ 0 → (n ≡ 0) × (x ≡ 0)
neither n x z = go (eqb n 0) refl z
  where
    go : (t : Bool) → eqb n 0 ≡ t → pick (not t) n x ≡ 0 → (n ≡ 0) × (x ≡ 0)
    go true q z = (eqb-true n 0 q, z)
    go false q z = absurd (eqb-false n 0 q z)

-- none of the tests but that of a file holds, where a and b are those of the call on the heap, and d and e those of the form
none_holds : (a b d e : Bool) (r : ℕ) → pick (either a (not d)) 1 (pick (either b e) 2 (pick (not (eqb r 0)) r 0)) ≡ 0 → (d ≡ true) × (e ≡ false) × (r ≡ 0)
none_holds true b d e r z = absurd (omega arith)
none_holds false b false e r z = absurd (omega arith)
none_holds false true true e r z = absurd (omega arith)
none_holds false false true true r z = absurd (omega arith)
none_holds false false true false r z = (refl, refl, (neither r 0 z).0)

-- then neither the form nor the call on the heap refuses
pub record Passes (f : Form) (c : Call) (m : Memory) (r : ℕ) : Type 0 where
  pub fits : lengths_fit f m ≡ true
  pub clean : both (reads_table c) (not (f.clean m.table)) ≡ false
  pub own : r ≡ 0

pub tests_passed : (f : Form) (c : Call) (m : Memory) (r : ℕ) → first_of (tests_in f c m r) ≡ 0 → Passes f c m r
unfolding first_of
tests_passed f c m r z =
    let n = none_holds (eqb r 1) (eqb r 2) (lengths_fit f m) (both (reads_table c) (not (f.clean m.table))) r (neither (fault_in c) _ z).1 in
    record { fits = n.0; clean = n.1; own = n.2 }

-- ---- lengths

pub table_fits : (f : Form) (m : Memory) → lengths_fit f m ≡ true → f.fits m.table ≡ true
table_fits f m fit = fit

-- no call changes them
pub still_fit : (f : Form) → Faithful f → (c : Call) (m : Memory) (h : Heap) → lengths_fit f m ≡ true → length h.entries ≡ length (f.read m.table)
    → lengths_fit f (holding f c m h) ≡ true
still_fit f faithful c m h fit long = faithful.write_fits m.table h.entries (table_fits f m fit) long

-- which are what all but the pool decides, as is whether the table is clean
pub same_table_sound : (f : Form) (m m' : Memory) → m.table ≡ m'.table → Sound f m → Sound f m'
same_table_sound f m m' e s = record { fits = rw (← e) s.fits; clean = rw (← e) s.clean }

-- every packed table is as its form asks
pub packed_sound : (m : Memory) → lengths_fit packed m ≡ true → Sound packed m
packed_sound m fit = record { fits = fit; clean = refl }

-- ---- a call on memory to which the form adds no refusal

module _ (f : Form) (c : Call) (stack : List ℕ) (m : Memory) (fits : lengths_fit f m ≡ true) (clean : both (reads_table c) (not (f.clean m.table)) ≡ false) where
  abbrev o : Outcome
  o = step c stack (heap_in f m)

  number : first_of (tests_in f c m o.answer.refusal) ≡ o.answer.refusal
  number = tests_own f c m o.answer.refusal (fault_refuses c stack (heap_in f m)) fits clean

  pub perform_accepted : o.answer.refusal ≡ 0 → perform f c stack m ≡ done_in f c stack m
  unfolding perform or_refused
  perform_accepted z = rw (number ∙ z)

  pub perform_refused : (r : ℕ) → o ≡ leaves_with (only_refusal (suc r)) (heap_in f m) (stack_for c stack) → perform f c stack m ≡ result (only_refusal (suc r)) m (stack_for c stack)
  unfolding perform or_refused
  perform_refused r e = rw (number ∙ ap (λ (x : Outcome). x.answer.refusal) e)

-- ---- an accepted call

pub passes_in : (f : Form) (c : Call) (stack : List ℕ) (m : Memory) → AcceptedIn (perform f c stack m) → Passes f c m (step c stack (heap_in f m)).answer.refusal
unfolding perform or_refused
passes_in f c stack m x = tests_passed f c m o.answer.refusal (go (first_of (tests_in f c m o.answer.refusal)) x)
  where
    o : Outcome
    o = step c stack (heap_in f m)

    go : (n : ℕ) → AcceptedIn (or_refused n m (stack_for c stack) (done_in f c stack m)) → n ≡ 0
    go zero a = refl
    go (suc r) a = a

-- if it reads the table, that was as the form asks
pub accepted_sound : (f : Form) (c : Call) (stack : List ℕ) (m : Memory) → reads_table c ≡ true → AcceptedIn (perform f c stack m) → Sound f m
accepted_sound f c stack m reads x =
    let p = passes_in f c stack m x in
    let unclean : not (f.clean m.table) ≡ false = rw reads at p.clean in
    record { fits = p.fits; clean = not-false _ unclean }

-- ---- the calls on memory are those on the heap in it

pub packed_faithful : Faithful packed
packed_faithful = record {
  small = entries_of_lt;
  write_read = λ t bytes _ _. table_of_entries_of t bytes;
  read_write = λ t es _ long small. entries_of_table_of es (omega (arith, long, length_entries_of t)) small;
  write_fits = λ t es _ _. refl;
  write_long = λ t es _ long. omega (arith, long, length_entries_of t, length_table_of es);
  write_clean = λ t es _ _. refl;
}

-- the table is what its entries are written as
abbrev pub Written : Form → Memory → Type 0
Written f m = m.table ≡ f.write (f.read m.table)

-- a call on memory does what the call on the heap in it does
pub record Follows (f : Form) (r : Result) (o : Outcome) : Type 0 where
  pub answer : r.answer ≡ o.answer
  pub heap : heap_in f r.memory ≡ o.heap
  pub stack : r.stack ≡ o.stack
  pub filled : r.filled ≡ o.filled
  -- if it is accepted, the table is as the form asks, and is what its entries are written as
  pub sound : AcceptedIn r → Sound f r.memory
  pub written : AcceptedIn r → Written f r.memory

module _ (f : Form) (faithful : Faithful f) (c : Call) (stack : List ℕ) (m : Memory) (fits : lengths_fit f m ≡ true)
    (clean : both (reads_table c) (not (f.clean m.table)) ≡ false) where
  abbrev there : Outcome
  there = step c stack (heap_in f m)

  pub follows : Follows f (perform f c stack m) there
  follows = go (step_ended c stack (heap_in f m))
    where
      kept : Kept (f.read m.table) there.heap.entries
      kept = (step_keeps c stack (heap_in f m)).entries

      back : f.read (f.write there.heap.entries) ≡ there.heap.entries
      back = faithful.read_write m.table there.heap.entries (table_fits f m fits) kept.long (kept.small (faithful.small m.table))

      go : Ended (heap_in f m) (stack_for c stack) there → Follows f (perform f c stack m) there
      go (accepted z) =
          let e = perform_accepted f c stack m fits clean z in
          rw e
          (record {
            answer = refl;
            heap = rw back refl;
            stack = refl;
            filled = refl;
            sound = λ _. record { fits = still_fit f faithful c m there.heap fits kept.long; clean = faithful.write_clean m.table _ (table_fits f m fits) kept.long };
            written = λ _. rw back refl;
          })
      go (refused r q) =
          rw (perform_refused f c stack m fits clean r q, q) (record { answer = refl; heap = refl; stack = refl; filled = refl; sound = λ z. absurd (omega arith); written = λ z. absurd (omega arith) })

-- an accepted call does, whether or not the table was clean before
pub follows_accepted : (f : Form) → Faithful f → (c : Call) (stack : List ℕ) (m : Memory) → AcceptedIn (perform f c stack m)
    → Follows f (perform f c stack m) (step c stack (heap_in f m))
follows_accepted f faithful c stack m z = let p = passes_in f c stack m z in follows f faithful c stack m p.fits p.clean

-- ---- a call on memory is accepted, or leaves every byte as it was

pub data Performed (m : Memory) (stack : List ℕ) (x : Result) : Type 0 where
  acted : AcceptedIn x → Performed m stack x
  left : (r : ℕ) → x ≡ result (only_refusal (suc r)) m stack → Performed m stack x

pub performed : (f : Form) (c : Call) (stack : List ℕ) (m : Memory) → Performed m (stack_for c stack) (perform f c stack m)
unfolding perform or_refused
performed f c stack m = go (first_of (tests_in f c m o.answer.refusal)) refl
  where
    o : Outcome
    o = step c stack (heap_in f m)

    go : (n : ℕ) → first_of (tests_in f c m o.answer.refusal) ≡ n
        → Performed m (stack_for c stack) (or_refused n m (stack_for c stack) (done_in f c stack m))
    go zero e = acted (tests_passed f c m o.answer.refusal e).own
    go (suc r) e = left r refl

-- ---- lists of calls

-- what every call keeps, if an accepted one gives it
pub kept_by : (P : Memory → Type 0) (f : Form) (c : Call) (stack : List ℕ) (m : Memory)
    → (AcceptedIn (perform f c stack m) → P (perform f c stack m).memory) → P m → P (perform f c stack m).memory
kept_by P f c stack m given p = go (performed f c stack m)
  where
    go : Performed m (stack_for c stack) (perform f c stack m) → P (perform f c stack m).memory
    go (acted z) = given z
    go (left r e) = subst (λ (x : Result). P x.memory) (sym e) p

module _ (f : Form) (faithful : Faithful f) where
  -- on memory that is as the form asks, every call does what the call on the heap does
  pub follows_sound : (c : Call) (stack : List ℕ) (m : Memory) → Sound f m → Follows f (perform f c stack m) (step c stack (heap_in f m))
  follows_sound c stack m s = follows f faithful c stack m s.fits (rw s.clean (both_false (reads_table c)))

  -- so it is refused by the same number
  pub refusal_in : (c : Call) (stack : List ℕ) (m : Memory) → Sound f m → (perform f c stack m).answer.refusal ≡ (step c stack (heap_in f m)).answer.refusal
  refusal_in c stack m s = ap (λ (a : Answer). a.refusal) (follows_sound c stack m s).answer

  pub sound_next : (c : Call) (stack : List ℕ) (m : Memory) → Sound f m → Sound f (perform f c stack m).memory
  sound_next c stack m s = kept_by (Sound f) f c stack m (follows_sound c stack m s).sound s

  pub heap_answers_in : (ts : List Turn) (m : Memory) → Sound f m → answers_in f ts m ≡ answers ts (heap_in f m)
  unfolding answers_in answers
  heap_answers_in [] m s = refl
  heap_answers_in (t ∷ ts) m s =
      let x = follows_sound t.call t.stack m s in
      rw (x.answer, heap_answers_in ts (turn_in f t m).memory (sound_next t.call t.stack m s), x.heap)

  pub heap_filled_in : (ts : List Turn) (m : Memory) → Sound f m → filled_in f ts m ≡ fillings ts (heap_in f m)
  unfolding filled_in fillings
  heap_filled_in [] m s = refl
  heap_filled_in (t ∷ ts) m s =
      let x = follows_sound t.call t.stack m s in
      rw (x.filled, heap_filled_in ts (turn_in f t m).memory (sound_next t.call t.stack m s), x.heap)

  pub heap_after_in : (ts : List Turn) (m : Memory) → Sound f m → heap_in f (after_in f ts m) ≡ after ts (heap_in f m)
  unfolding after_in after
  heap_after_in [] m s = refl
  heap_after_in (t ∷ ts) m s =
      let x = follows_sound t.call t.stack m s in
      heap_after_in ts (turn_in f t m).memory (sound_next t.call t.stack m s) ∙ ap (after ts) x.heap

-- ---- the tests of a call that reads the table, where 1 and 2 are also what the form refuses

abbrev refused_in : Form → Memory → List Test → ℕ
refused_in f m ts = first_of (tests_in f (Survey 0) m (first_of ts))

-- the numbers are above 2
abbrev pub later : List Test → Bool
later [] = true
later (t ∷ ts) = both (ltb 2 t.number) (later ts)

later_first : (ts : List Test) → later ts ≡ true → (eqb (first_of ts) 1 ≡ false) × (eqb (first_of ts) 2 ≡ false)
unfolding first_of
later_first [] l = (refl, refl)
later_first (t ∷ ts) l = go t.holds (later_first ts (both_right (ltb 2 t.number) (later ts) l))
  where
    high : 2 < t.number
    high = ltb-true 2 t.number (both_left (ltb 2 t.number) (later ts) l)

    go : (b : Bool) → (eqb (first_of ts) 1 ≡ false) × (eqb (first_of ts) 2 ≡ false)
        → (eqb (pick b t.number (first_of ts)) 1 ≡ false) × (eqb (pick b t.number (first_of ts)) 2 ≡ false)
    go true r = (ne_eqb t.number 1 (λ q. omega (arith, high, q)), ne_eqb t.number 2 (λ q. omega (arith, high, q)))
    go false r = r

-- once none of the first tests holds, the memory is as the form asks
pub sound_of : (f : Form) (m : Memory) (ts : List Test) {r : ℕ} → r ≡ refused_in f m ts → r ≡ 0 → Sound f m × (first_of ts ≡ 0)
sound_of f m ts e z =
    let p = tests_passed f (Survey 0) m (first_of ts) (sym e ∙ z) in
    (record { fits = p.fits; clean = not-false _ p.clean }, p.own)

-- where only the form refuses, it does so whatever the later tests say
form_refuses : (d e : Bool) (u : ℕ) {r : ℕ} → eqb u 1 ≡ false → eqb u 2 ≡ false → r ≡ pick (not d) 1 (pick (not e) 2 0) → (r ≡ 0 → ⊥)
    → r ≡ pick (either (eqb u 1) (not d)) 1 (pick (either (eqb u 2) (not e)) 2 (pick (not (eqb u 0)) u 0))
form_refuses false e u p q h ne = rw p h
form_refuses true false u p q h ne = rw (p, q) h
form_refuses true true u p q h ne = absurd (ne h)

-- a refusal by the first tests is that of the whole list
pub refused_first_in : (f : Form) (m : Memory) (ts us : List Test) {r : ℕ} → numbered ts ≡ true → later us ≡ true → r ≡ refused_in f m ts → (r ≡ 0 → ⊥) → r ≡ refused_in f m (ts ++ us)
unfolding first_of
refused_first_in f m ts us {r = r} k l e ne = go (first_of ts) refl
  where
    go : (n : ℕ) → first_of ts ≡ n → r ≡ refused_in f m (ts ++ us)
    go (suc n) q = e ∙ ap (λ (x : ℕ). first_of (tests_in f (Survey 0) m x)) (q ∙ sym (first_less ts us (suc n) (omega arith) q))
    go zero q =
        let u = later_first us l in
        form_refuses (lengths_fit f m) (f.clean m.table) (first_of us) u.0 u.1 (e ∙ ap (λ (x : ℕ). first_of (tests_in f (Survey 0) m x)) q) ne
        ∙ ap (λ (x : ℕ). first_of (tests_in f (Survey 0) m x)) (sym (first_more ts us k q))

-- and where they do not hold it is that of the others
pub refused_next_in : (f : Form) (m : Memory) (ts us : List Test) {r n : ℕ} → numbered ts ≡ true → r ≡ refused_in f m ts → r ≡ 0 → n ≡ first_of us → n ≡ refused_in f m (ts ++ us)
refused_next_in f m ts us k e z h =
    let p = sound_of f m ts e z in
    h ∙ sym (ap (λ (x : ℕ). first_of (tests_in f (Survey 0) m x)) (first_more ts us k p.1) ∙ tests_own f (Survey 0) m (first_of us) (λ x. absurd (x refl)) p.0.fits (ap not p.0.clean))

-- ---- what the code leaves, in bytes

-- a call that is refused by r, as the tests on memory give it, leaves everything
pub left_in : (f : Form) (c : Call) (stack : List ℕ) (m : Memory) (r : ℕ) → first_of (tests_in f c m (step c stack (heap_in f m)).answer.refusal) ≡ r → 0 < r
    → result (only_refusal r) m (stack_for c stack) ≡ perform f c stack m
unfolding perform or_refused
left_in f c stack m zero e p = absurd (omega arith)
left_in f c stack m (suc r) e p = rw e

-- An accepted call whose answer, heap and buffer are those of the rules, and that leaves a table as the form asks, leaves the bytes that memory's rules give: they are what
-- its entries are written as.
pub acted_filling : (f : Form) → Faithful f → (c : Call) (stack : List ℕ) (m m' : Memory) (stack' filled : List ℕ) (a : Answer) → lengths_fit f m ≡ true
    → both (reads_table c) (not (f.clean m.table)) ≡ false → AllBytes m'.table → Sound f m' → a.refusal ≡ 0
    → record { answer = a; heap = heap_in f m'; stack = stack'; filled = filled } ≡ step c stack (heap_in f m)
    → record { answer = a; memory = m'; stack = stack'; filled = filled } ≡ perform f c stack m
acted_filling f faithful c stack m m' stack' filled a fits clean bytes s z e =
    rw (perform_accepted f c stack m fits clean (sym (ap (λ (x : Outcome). x.answer.refusal) e) ∙ z), ← e, faithful.write_read m'.table bytes (table_fits f m' s.fits) s.clean)

-- the same of a call that fills no buffer
pub acted_in : (f : Form) → Faithful f → (c : Call) (stack : List ℕ) (m m' : Memory) (stack' : List ℕ) (a : Answer) → lengths_fit f m ≡ true
    → both (reads_table c) (not (f.clean m.table)) ≡ false → AllBytes m'.table → Sound f m' → a.refusal ≡ 0
    → leaves_with a (heap_in f m') stack' ≡ step c stack (heap_in f m) → result a m' stack' ≡ perform f c stack m
acted_in f faithful c stack m m' stack' a fits clean bytes s z e = acted_filling f faithful c stack m m' stack' [] a fits clean bytes s z e
