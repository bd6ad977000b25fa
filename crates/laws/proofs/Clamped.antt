-- Clamping changes no answer: every call gives one outcome for all numbers above 65,536, whatever else it is given.
-- Assumes nothing.
use mathlib.Core.Path.{◌≡◌, refl, sym, ap, ◌∙◌}
use mathlib.Core.Bool.{Bool, true, false}
use mathlib.Core.List.{List, [], ◌∷◌, ◌++◌}
use Prim.Native.Nat.{ℕ, zero, suc, ◌*◌, ◌^◌, ◌<◌}
use native.Mathlib.Decide.{dec_lt}
use native.Mathlib.Omega.{arith}
use lib.Dec.{eqb}
use lib.ListN.{length}
use borrow.Author.Tests.{le-leb, ne_eqb, eqb-true, eqb-false}
use Rattle.rules.specs.Tests.{pick}
use Rattle.rules.specs.Tables.{block_count}
use Rattle.rules.specs.Forms.{Form}
use Rattle.rules.specs.Planes.{planes}
use Rattle.rules.specs.Outcomes.{Heap, Outcome, only_refusal, leaves_with, unless_refused}
use Rattle.rules.specs.Refusals.{Test, test, first_of, good_shape, good_roots, good_lists, bad_shape, first_tests, heap_tests, outside, no_head, no_word, no_bytes, no_room, name_tests}
use Rattle.rules.specs.Calls.{init, allocate, free, is_no_way, way_of, reallocate, collect, survey, load, store, write_image, good_target, open_image}
use Rattle.rules.specs.Files.{section_tests, file_of, file_tests, fault_of, base_of, heap_of_file}
use Rattle.rules.specs.Runs.{Call, Init, Allocate, Free, Reallocate, Collect, Survey, Load, Store, WriteImage, OpenImage, step}
use Rattle.rules.specs.Memory.{Memory, result, perform, heap_in, fault_in, stack_for}
use Rattle.laws.specs.Meaning.{Passed, Named}
use Rattle.laws.specs.Clamped.{clamped}
use Rattle.laws.proofs.Refusals.{numbered, first_yes, first_no, first_more, first_less, refuses, passed, named, shape_not}
use Rattle.laws.proofs.Tables.{extent_of}
use Rattle.laws.proofs.Calls.{request_nowhere, request_no_way}
use Rattle.laws.proofs.Memory.{left_in}
use Rattle.laws.proofs.Planes.{length_entries_in}

-- what is the same for all numbers above 65,536 is the same for a number and for what it is clamped to
pub clamped_same : {A : Type 0} (g : ℕ → A) (all : A) → ((n : ℕ) → 65536 < n → g n ≡ all) → (n : ℕ) → g (clamped n) ≡ g n
clamped_same g all large n = go (dec_lt n (2 ^ 32))
  where
    go : Dec (n < 2 ^ 32) → g (clamped n) ≡ g n
    go (yes l) = let e : clamped n ≡ n = omega arith in ap g e
    go (no l) = large (clamped n) (omega arith) ∙ sym (large n (omega arith))

-- ---- tests behind others

-- they may be taken for tests that give the same number where the others pass
behind : (ts us vs : List Test) → numbered ts ≡ true → (first_of ts ≡ 0 → first_of us ≡ first_of vs) → first_of (ts ++ us) ≡ first_of (ts ++ vs)
behind ts us vs n same = go (first_of ts) refl
  where
    go : (r : ℕ) → first_of ts ≡ r → first_of (ts ++ us) ≡ first_of (ts ++ vs)
    go zero e = first_more ts us n e ∙ same e ∙ sym (first_more ts vs n e)
    go (suc r) e = first_less ts us (suc r) (omega arith) e ∙ sym (first_less ts vs (suc r) (omega arith) e)

-- behind all of them one that holds: some test does
first_some : (ts : List Test) (r : ℕ) → numbered ts ≡ true → 0 < r → 0 < first_of (ts ++ test r true ∷ [])
unfolding first_of
first_some ts r n p = go (first_of ts) refl
  where
    go : (q : ℕ) → first_of ts ≡ q → 0 < first_of (ts ++ test r true ∷ [])
    go zero e = rw (first_more ts (test r true ∷ []) n e) p
    go (suc q) e = rw (first_less ts (test r true ∷ []) (suc q) (omega arith) e) (omega arith)

-- ---- one number of a call is large

module _ (base : ℕ) (h : Heap) where
  abbrev heap_first : List Test
  heap_first = heap_tests base h

  abbrev refused : List Test → Outcome
  refused ts = leaves_with (only_refusal (first_of ts)) h []

  -- of the tests behind those of the heap
  behind_heap : (us vs : List Test) → (Passed base h → first_of us ≡ first_of vs) → first_of (heap_first ++ us) ≡ first_of (heap_first ++ vs)
  behind_heap us vs same = behind heap_first us vs refl (λ e. same (passed base h [] e))

  outside_all : (k : ℕ) (ts : List Test) → 65536 < k → Passed base h → first_of (outside h k ∷ ts) ≡ first_of (test 6 true ∷ [])
  outside_all k ts l p =
      first_yes (outside h k) ts (le-leb (length h.entries) k (omega (arith, p.shape.few, l))) ∙ sym (first_yes (test 6 true) [] refl)

  -- the pool of a heap that passes is shorter
  no_pool : (bytes : ℕ) → 65536 < bytes → Passed base h → length h.pool < bytes
  no_pool bytes l p = omega (arith, p.shape.pool, p.shape.few, l)

  some_bytes : (bytes : ℕ) (ts : List Test) → 65536 < bytes → first_of (no_bytes bytes ∷ ts) ≡ first_of ts
  some_bytes bytes ts l = first_no (no_bytes bytes) ts (ne_eqb bytes 0 (λ e. omega (arith, e, l)))

  free_large : (k : ℕ) → 65536 < k → free base h k ≡ refused (heap_first ++ test 6 true ∷ [])
  unfolding free
  free_large k l = refuses _ h [] _ (behind_heap _ _ (outside_all k (no_head h k ∷ []) l)) (first_some heap_first 6 refl (omega arith))

  -- the number of the tests of a word: of its block, and of its index
  word_block : (k i : ℕ) → 65536 < k → first_of (heap_first ++ name_tests h k ++ no_word h k i ∷ []) ≡ first_of (heap_first ++ test 6 true ∷ [])
  word_block k i l = behind_heap _ _ (outside_all k _ l)

  word_index : (k i : ℕ) → 65536 < i → first_of (heap_first ++ name_tests h k ++ no_word h k i ∷ []) ≡ first_of (heap_first ++ name_tests h k ++ test 8 true ∷ [])
  word_index k i l = behind_heap _ _ (λ p. behind (name_tests h k) _ _ refl (λ e. last p (named h k [] e)))
    where
      last : Passed base h → Named h k → first_of (no_word h k i ∷ []) ≡ first_of (test 8 true ∷ [])
      last p n = rw (le-leb (4 * block_count h.entries k) i (omega (arith, (extent_of h.entries k n.inside).room, p.shape.few, l)))

  load_block : (k i : ℕ) → 65536 < k → load base h k i ≡ refused (heap_first ++ test 6 true ∷ [])
  unfolding load
  load_block k i l = refuses _ h [] _ (word_block k i l) (first_some heap_first 6 refl (omega arith))

  load_index : (k i : ℕ) → 65536 < i → load base h k i ≡ refused (heap_first ++ name_tests h k ++ test 8 true ∷ [])
  unfolding load
  load_index k i l = refuses _ h [] _ (word_index k i l) (first_some (heap_first ++ name_tests h k) 8 refl (omega arith))

  store_block : (k i w : ℕ) → 65536 < k → store base h k i w ≡ refused (heap_first ++ test 6 true ∷ [])
  unfolding store
  store_block k i w l = refuses _ h [] _ (word_block k i l) (first_some heap_first 6 refl (omega arith))

  store_index : (k i w : ℕ) → 65536 < i → store base h k i w ≡ refused (heap_first ++ name_tests h k ++ test 8 true ∷ [])
  unfolding store
  store_index k i w l = refuses _ h [] _ (word_index k i l) (first_some (heap_first ++ name_tests h k) 8 refl (omega arith))

  allocate_large : (bytes : ℕ) → 65536 < bytes → allocate base h bytes ≡ refused (heap_first ++ test 9 true ∷ [])
  unfolding allocate
  allocate_large bytes l =
      refuses _ h [] _ (behind_heap _ _ (λ p. some_bytes bytes _ l ∙ rw (request_nowhere h.entries h.pool bytes p.shape.pool (no_pool bytes l p))))
      (first_some heap_first 9 refl (omega arith))

  reallocate_block : (k bytes : ℕ) → 65536 < k → reallocate base h k bytes ≡ refused (heap_first ++ no_bytes bytes ∷ test 6 true ∷ [])
  unfolding reallocate
  reallocate_block k bytes l =
      refuses _ h [] _ (behind_heap _ _ (λ p. behind (no_bytes bytes ∷ []) _ _ refl (λ e. outside_all k _ l p)))
      (first_some (heap_first ++ no_bytes bytes ∷ []) 6 refl (omega arith))

  reallocate_bytes : (k bytes : ℕ) → 65536 < bytes → reallocate base h k bytes ≡ refused (heap_first ++ name_tests h k ++ test 9 true ∷ [])
  unfolding reallocate
  reallocate_bytes k bytes l =
      refuses _ h [] _ (behind_heap _ _ (λ p. some_bytes bytes _ l ∙ behind (name_tests h k) _ _ refl (λ e. last p (named h k [] e))))
      (first_some (heap_first ++ name_tests h k) 9 refl (omega arith))
    where
      last : (p : Passed base h) → Named h k → first_of (no_room (is_no_way (way_of h k bytes)) ∷ []) ≡ first_of (test 9 true ∷ [])
      last p n = rw (request_no_way h.entries h.pool k bytes p.shape.pool (no_pool bytes l p) n.head)

-- ---- a call with its numbers clamped

abbrev pub clamped_call : Call → Call
clamped_call (Init base) = Init base
clamped_call (Allocate base bytes) = Allocate base (clamped bytes)
clamped_call (Free base k) = Free base (clamped k)
clamped_call (Reallocate base k bytes) = Reallocate base (clamped k) (clamped bytes)
clamped_call (Collect base roots) = Collect base roots
clamped_call (Survey base) = Survey base
clamped_call (Load base k i) = Load base (clamped k) (clamped i)
clamped_call (Store base k i w) = Store base (clamped k) (clamped i) w
clamped_call (WriteImage base roots room) = WriteImage base roots room
clamped_call (OpenImage image room) = OpenImage image room

step_clamped : (c : Call) (stack : List ℕ) (h : Heap) → step (clamped_call c) stack h ≡ step c stack h
unfolding step
step_clamped (Init base) stack h = refl
step_clamped (Allocate base bytes) stack h = clamped_same (allocate base h) _ (allocate_large base h) bytes
step_clamped (Free base k) stack h = clamped_same (free base h) _ (free_large base h) k
step_clamped (Reallocate base k bytes) stack h =
    clamped_same (λ (j : ℕ). reallocate base h j (clamped bytes)) _ (λ j. reallocate_block base h j (clamped bytes)) k
    ∙ clamped_same (reallocate base h k) _ (reallocate_bytes base h k) bytes
step_clamped (Collect base roots) stack h = refl
step_clamped (Survey base) stack h = refl
step_clamped (Load base k i) stack h =
    clamped_same (λ (j : ℕ). load base h j (clamped i)) _ (λ j. load_block base h j (clamped i)) k ∙ clamped_same (load base h k) _ (load_index base h k) i
step_clamped (Store base k i w) stack h =
    clamped_same (λ (j : ℕ). store base h j (clamped i) w) _ (λ j. store_block base h j (clamped i) w) k
    ∙ clamped_same (λ (j : ℕ). store base h k j w) _ (λ j. store_index base h k j w) i
step_clamped (WriteImage base roots room) stack h = refl
step_clamped (OpenImage image room) stack h = refl

numbers_clamped : (f : Form) (c : Call) (stack : List ℕ) (m : Memory) → perform f (clamped_call c) stack m ≡ perform f c stack m
unfolding perform
numbers_clamped f (Init base) stack m = refl
numbers_clamped f (Allocate base bytes) stack m = rw (step_clamped (Allocate base bytes) stack (heap_in f m))
numbers_clamped f (Free base k) stack m = rw (step_clamped (Free base k) stack (heap_in f m))
numbers_clamped f (Reallocate base k bytes) stack m = rw (step_clamped (Reallocate base k bytes) stack (heap_in f m))
numbers_clamped f (Collect base roots) stack m = refl
numbers_clamped f (Survey base) stack m = refl
numbers_clamped f (Load base k i) stack m = rw (step_clamped (Load base k i) stack (heap_in f m))
numbers_clamped f (Store base k i w) stack m = rw (step_clamped (Store base k i w) stack (heap_in f m))
numbers_clamped f (WriteImage base roots room) stack m = refl
numbers_clamped f (OpenImage image room) stack m = refl

-- ---- and with t clamped

-- a heap of more than 4,096 blocks is refused with 1 by every call whose file has no fault
too_many : (c : Call) (stack : List ℕ) (h : Heap) → 4096 < length h.entries → fault_in c ≡ 0 → (step c stack h).answer.refusal ≡ 1
unfolding step init allocate free reallocate collect survey load store write_image open_image good_target file_tests section_tests fault_of
too_many c stack h l = go c
  where
    bad : (base : ℕ) → good_shape base h ≡ false
    bad base = shape_not base h (λ s. omega (arith, s.few, l))

    first : (good : Bool) (ts : List Test) (s : List ℕ) (acted : Outcome) → good ≡ false → (unless_refused (first_of (bad_shape good ∷ ts)) h s acted).answer.refusal ≡ 1
    first good ts s acted e = ap (λ (o : Outcome). o.answer.refusal) (refuses 1 h s acted (first_yes (bad_shape good) ts (rw e)) (omega arith))

    go : (c : Call) → fault_in c ≡ 0 → (step c stack h).answer.refusal ≡ 1
    go (Init base) e = first _ _ _ _ (bad base)
    go (Allocate base bytes) e = first _ _ _ _ (bad base)
    go (Free base k) e = first _ _ _ _ (bad base)
    go (Reallocate base k bytes) e = first _ _ _ _ (bad base)
    go (Collect base roots) e = first (good_lists base h roots stack) _ _ _ (rw (bad base))
    go (Survey base) e = first _ _ _ _ (bad base)
    go (Load base k i) e = first _ _ _ _ (bad base)
    go (Store base k i w) e = first _ _ _ _ (bad base)
    go (WriteImage base roots room) e = first (good_roots base h roots) _ _ _ (rw (bad base))
    go (OpenImage image room) e =
        let next : List Test = first_tests (good_target (file_of image) h room) (heap_of_file (file_of image)) in
        let one : first_of (file_tests image ++ next) ≡ 1 = first_more (file_tests image) next refl e ∙ first_yes (bad_shape (good_target (file_of image) h room)) _ (rw (bad (base_of (file_of image)))) in
        ap (λ (o : Outcome). o.answer.refusal) (refuses 1 h [] _ (first_less (file_tests image ++ next) _ 1 (omega arith) one) (omega arith))

-- the refusal of every call where t is large
abbrev fault_or1 : Call → ℕ
fault_or1 c = pick (eqb (fault_in c) 0) 1 (fault_in c)

t_large : (c : Call) (stack : List ℕ) (m : Memory) (t : ℕ) → 65536 < t → perform (planes t) c stack m ≡ result (only_refusal (fault_or1 c)) m (stack_for c stack)
t_large c stack m t l = go (eqb (fault_in c) 0) refl
  where
    go : (b : Bool) → eqb (fault_in c) 0 ≡ b → perform (planes t) c stack m ≡ result (only_refusal (fault_or1 c)) m (stack_for c stack)
    go true e =
        let one = too_many c stack (heap_in (planes t) m) (omega (arith, length_entries_in t m.table, l)) (eqb-true _ _ e) in
        rw e (sym (left_in (planes t) c stack m 1 (first_no _ _ (rw e) ∙ first_yes _ _ (rw one)) (omega arith)))
    go false e = rw e (sym (left_in (planes t) c stack m (fault_in c) (first_yes _ _ (rw e)) (omega (arith, eqb-false (fault_in c) 0 e))))

pub t_clamped : (t : ℕ) (c : Call) (stack : List ℕ) (m : Memory) → perform (planes (clamped t)) c stack m ≡ perform (planes t) c stack m
t_clamped t c stack m = clamped_same (λ (u : ℕ). perform (planes u) c stack m) _ (t_large c stack m) t

-- a call with clamped numbers, on a heap with t clamped, gives what it gives with the numbers themselves
pub call_clamped : (t : ℕ) (c : Call) (stack : List ℕ) (m : Memory) → perform (planes (clamped t)) (clamped_call c) stack m ≡ perform (planes t) c stack m
call_clamped t c stack m = t_clamped t (clamped_call c) stack m ∙ numbers_clamped (planes t) c stack m
