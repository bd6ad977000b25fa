-- Each way a call can end, as the result that the rules give on lent memory: refused by a test, out of room, or done.
-- Assumes nothing.
use mathlib.Core.Path.{◌≡◌, refl, sym, ap, ◌∙◌}
use mathlib.Core.Bool.{true, false}
use mathlib.Core.List.{List, [], ◌∷◌, ◌++◌}
use mathlib.Core.Option.{some, none}
use Prim.Native.Nat.{ℕ, suc, ◌-◌, ◌<◌}
use native.Mathlib.Omega.{arith}
use lib.Dec.{ltb}
use borrow.Author.Tests.{ltb-true, le-ltb}
use lib.IntN.{ℤ, pos, neg_ℤ, sub_ℕ}
use Rattle.rules.specs.Tests.{is_none}
use Rattle.rules.specs.Tables.{block_count, first_fit, released}
use Rattle.laws.specs.Meaning.{AllBytes, Named}
use Rattle.rules.specs.Outcomes.{Heap, Outcome, change_from, only_refusal, placed_at}
use Rattle.rules.specs.Refusals.{Test, first_of, no_bytes, no_room, name_tests, request_tests, object_tests, resize_tests}
use Rattle.rules.specs.Planes.{planes_of, planes, entries_in, IsTable, Holds, heap_at}
use Rattle.rules.specs.Calls.{blocks_for, taken, placing, allocate, allocate_tests, free, freed as freed_heap, Way, stay, shrink, grow, move, no_way, is_no_way, way_of, along, reallocate, reallocate_tests}
use Rattle.rules.specs.Runs.{Allocate, Free, Reallocate, step}
use Rattle.rules.specs.Memory.{Memory, memory, Sound, perform}
use Rattle.laws.proofs.Planes.{planes_faithful, table_sound}
use Rattle.laws.proofs.Tables.{first_fits}
use Rattle.laws.proofs.Refusals.{refusal_is, true_not_false, both_left, both_right, numbered, first_yes, first_last, first_more, first_none, first_rest, accepts, asked, named_object}
use Rattle.laws.proofs.Calls.{blocks_some, allocate_change, free_change}
use Rattle.laws.proofs.Memory.{Ended, accepted, refused as refused_by, step_ended, refused_first_in}
use Rattle.checks.specs.Refusal.{refusal_by}
use Rattle.heap.proofs.Ends.{Checked, checked, refused, refused_own, acts}
use Rattle.objects.specs.declared.Placed.{Placed}
use Rattle.objects.specs.Answers.{place_of, placed_in}
use Rattle.allocator.specs.Answers.{placed}
use Rattle.heap.specs.Answers.{given}
use Rattle.std.specs.Prelude.{Result as Returned}
use Rattle.refusals.specs.declared.Refusal.{Refusal}

-- a difference from nothing
pub gained : (b : ℕ) → sub_ℕ b 0 ≡ pos b
gained b = let e : b - 0 ≡ b = omega arith in rw (le-ltb b 0 (omega arith), e)

-- the last test does not hold, if none does
last_none : (ts : List Test) (u : Test) → numbered ts ≡ true → 0 < u.number → first_of (ts ++ u ∷ []) ≡ 0 → u.holds ≡ false
last_none [] u n p e = (first_none u [] p e).0
last_none (t ∷ ts) u n p e =
    last_none ts u (both_right (ltb 0 t.number) (numbered ts) n) p (first_rest t (ts ++ u ∷ []) (ltb-true 0 t.number (both_left (ltb 0 t.number) (numbered ts) n)) e)

-- where there is a way to reallocate, it is no refusal
along_accepts : (w : Way) (h : Heap) (k b c : ℕ) → is_no_way w ≡ false → (along w h k b c).answer.refusal ≡ 0
unfolding along placing
along_accepts stay h k b c e = refl
along_accepts shrink h k b c e = refl
along_accepts grow h k b c e = refl
along_accepts (move s) h k b c e = refl
along_accepts no_way h k b c e = absurd (true_not_false refl e)

module _ (t base : ℕ) (pool table : List ℕ) where
  abbrev h : Heap
  h = heap_at t pool table

  abbrev m : Memory
  m = memory pool table

  -- ---- allocate

  module _ (bytes : ℕ) where
    abbrev room : Test
    room = no_room (is_none (first_fit (entries_in t table) (blocks_for bytes)))

    allocate_number : (allocate base h bytes).answer.refusal ≡ first_of (allocate_tests base h bytes)
    unfolding allocate placing
    allocate_number = refusal_is (first_of (allocate_tests base h bytes)) h [] _ (λ _. refl)

    pub allocate_refused : {r : ℕ} → r ≡ refusal_by t pool table (λ (g : Heap). request_tests base g bytes) → (r ≡ 0 → ⊥) → given (only_refusal r) pool table ≡ perform (planes t) (Allocate base bytes) [] m
    unfolding step
    allocate_refused test ne = refused t base pool table (Allocate base bytes) allocate_number (refused_first_in (planes t) m (request_tests base h bytes) (room ∷ []) refl refl test ne) ne

    module _ (test : 0 ≡ refusal_by t pool table (λ (g : Heap). request_tests base g bytes)) where
      pub allocate_checked : Checked t base pool table (no_bytes bytes ∷ [])
      allocate_checked = checked t base pool table (no_bytes bytes ∷ []) test

      pub allocate_asks : 0 < bytes
      allocate_asks = asked base h bytes [] allocate_checked.passes

      pub allocate_full : {r : ℕ} → first_fit (entries_in t table) (blocks_for bytes) ≡ none → r ≡ 9 → given (only_refusal r) pool table ≡ perform (planes t) (Allocate base bytes) [] m
      unfolding step
      allocate_full e nine =
          let k = allocate_checked in
          rw nine
          (refused_own t base pool table (Allocate base bytes) 9 k.sound
          (allocate_number ∙ first_more (request_tests base h bytes) _ refl k.passes ∙ first_yes (no_room _) [] (ap is_none e)) (omega arith))

      pub allocate_done : (k : ℕ) (z : ℤ) (pool' table' : List ℕ) → AllBytes table' → first_fit (entries_in t table) (blocks_for bytes) ≡ some k
          → IsTable t table' × (heap_at t pool' table' ≡ taken h k (blocks_for bytes)) → z ≡ pos (blocks_for bytes)
          → given (placed_at k z) pool' table' ≡ perform (planes t) (Allocate base bytes) [] m
      unfolding step allocate placing taken
      allocate_done k z pool' table' all found done change =
          let b = blocks_for bytes in
          let p = allocate_checked in
          let more = blocks_some bytes allocate_asks in
          let run = (first_fits (entries_in t table) b k more found).run in
          let change' = change ∙ sym (allocate_change (entries_in t table) k b more run) in
          acts t base pool table (Allocate base bytes) pool' table' (placed_at k z) p.sound all done.0 refl
          (rw (done.1, change', found) (sym (accepts _ _ _ (first_more (request_tests base h bytes) (no_room false ∷ []) refl p.passes ∙ first_last (no_room false) refl))))

  -- ---- free

  module _ (k : ℕ) where
    pub free_refused : {r : ℕ} → r ≡ refusal_by t pool table (λ (g : Heap). object_tests base g k) → (r ≡ 0 → ⊥) → given (only_refusal r) pool table ≡ perform (planes t) (Free base k) [] m
    unfolding step free placing
    free_refused test ne = refused t base pool table (Free base k) (refusal_is (first_of (object_tests base h k)) h [] _ (λ _. refl)) test ne

    module _ (test : 0 ≡ refusal_by t pool table (λ (g : Heap). object_tests base g k)) where
      pub free_checked : Checked t base pool table (name_tests h k)
      free_checked = checked t base pool table (name_tests h k) test

      pub free_named : Named h k
      free_named = named_object base h k [] free_checked.passes

      pub free_done : (z : ℤ) (table' : List ℕ) → AllBytes table' → Holds t (released (entries_in t table) k (block_count (entries_in t table) k)) table'
          → z ≡ neg_ℤ (pos (block_count (entries_in t table) k)) → given (placed_at 0 z) pool table' ≡ perform (planes t) (Free base k) [] m
      unfolding step free placing freed_heap
      free_done z table' all done change =
          let p = free_checked in
          let change' : z ≡ change_from (entries_in t table) (released (entries_in t table) k (block_count (entries_in t table) k)) =
          change ∙ sym (free_change (entries_in t table) k free_named.head) in
          acts t base pool table (Free base k) pool table' (placed_at 0 z) p.sound all done.is_table refl (rw (done.entries, change') (sym (accepts _ _ _ p.passes)))

  -- ---- reallocate

  module _ (k bytes : ℕ) where
    abbrev way : Test
    way = no_room (is_no_way (way_of h k bytes))

    reallocate_number : (reallocate base h k bytes).answer.refusal ≡ first_of (reallocate_tests base h k bytes)
    unfolding reallocate
    reallocate_number =
        refusal_is (first_of (reallocate_tests base h k bytes)) h [] _
        (λ z. along_accepts (way_of h k bytes) h k _ _ (last_none (resize_tests base h k bytes) way refl (omega arith) z))

    pub reallocate_refused : {r : ℕ} → r ≡ refusal_by t pool table (λ (g : Heap). resize_tests base g k bytes) → (r ≡ 0 → ⊥) → given (only_refusal r) pool table ≡ perform (planes t) (Reallocate base k bytes) [] m
    unfolding step
    reallocate_refused test ne = refused t base pool table (Reallocate base k bytes) reallocate_number (refused_first_in (planes t) m (resize_tests base h k bytes) (way ∷ []) refl refl test ne) ne

    module _ (test : 0 ≡ refusal_by t pool table (λ (g : Heap). resize_tests base g k bytes)) where
      pub reallocate_checked : Checked t base pool table (no_bytes bytes ∷ name_tests h k)
      reallocate_checked = checked t base pool table (no_bytes bytes ∷ name_tests h k) test

      -- no way, or done: the outcome is that of the rules. A heap that is left as it was is left in the same bytes
      pub reallocate_done : (a : Returned Placed Refusal) (pool' table' : List ℕ) → AllBytes table → AllBytes table' → IsTable t table'
          → placed_in a (heap_at t pool' table') ≡ reallocate base h k bytes → placed a pool' table' ≡ perform (planes t) (Reallocate base k bytes) [] m
      unfolding step
      reallocate_done a pool' table' all all' i e = go (step_ended (Reallocate base k bytes) [] h)
        where
          s : Sound (planes t) m
          s = reallocate_checked.sound

          kept : entries_in t table' ≡ entries_in t table → table' ≡ table
          kept q =
              let s' = table_sound t pool' table' i in
              sym ((planes_faithful t).write_read table' all' s'.fits s'.clean) ∙ ap (planes_of t) q ∙ (planes_faithful t).write_read table all s.fits s.clean

          go : Ended h [] (reallocate base h k bytes) → placed a pool' table' ≡ perform (planes t) (Reallocate base k bytes) [] m
          go (accepted z) = acts t base pool table (Reallocate base k bytes) pool' table' (place_of a) s all' i (ap (λ (o : Outcome). o.answer.refusal) e ∙ z) e
          go (refused_by n q) =
              let left = e ∙ q in
              let answer : place_of a ≡ only_refusal (suc n) = ap (λ (o : Outcome). o.answer) left in
              let bytes_same : pool' ≡ pool = ap (λ (o : Outcome). o.heap.pool) left in
              rw (answer, bytes_same, kept (ap (λ (o : Outcome). o.heap.entries) left))
              (refused_own t base pool table (Reallocate base k bytes) (suc n) s (ap (λ (o : Outcome). o.answer.refusal) q) (omega arith))
