-- How a call of the log ends that names an entry, as read and drop do: it is refused and leaves every byte, or it acts on the entry.
-- Assumes nothing.
use mathlib.Core.Path.{◌≡◌, refl, ap, sym, subst, ◌∙◌}
use mathlib.Core.Logic.{◌≢◌, ◌⊎◌, inl, inr, ⊎_elim}
use mathlib.Core.Bool.{true}
use mathlib.Core.List.{List, [], ◌∷◌, ◌++◌}
use mathlib.Core.Option.{Option, some, none}
use Prim.Native.Nat.{ℕ, zero, suc, ◌≤◌}
use native.Mathlib.Omega.{arith}
use lib.ListN.{length, length-append}
use Rattle.laws.specs.Meaning.{AllBytes, Passed}
use Rattle.rules.specs.Outcomes.{Heap}
use Rattle.rules.specs.Forms.{Form}
use Rattle.laws.specs.Faithful.{Faithful}
use Rattle.rules.specs.Memory.{Memory, memory, heap_in, Sound}
use Rattle.laws.proofs.Memory.{Written}
use Rattle.laws.proofs.Refusals.{true_not_false}
use Rattle.promises.specs.Conditions.{First}
use Rattle.programs.specs.Programs.{Program, Ran, ran, run}
use Rattle.programs.proofs.OnHeaps.{RanOn, run_on, RunsAs}
use Rattle.logs.specs.Log.{Reply, declined, at_index, on_log, checked}
use Rattle.loglaws.specs.Chains.{Entry, Chain, Log, heads}
use Rattle.loglaws.specs.Promises.{survey_in, NoEntry, of_read, Declined}
use Rattle.loglaws.proofs.Chaining.{chain_one}
use Rattle.loglaws.proofs.Calling.{resting, Followed, lost, found, followed}
use Rattle.loglaws.proofs.Checking.{Checks, torn, halted, passes, checks}

-- the same heap in tables that are what their entries are written as is the same memory
pub written_same : (f : Form) (m m' : Memory) → Written f m → Written f m' → heap_in f m ≡ heap_in f m' → m ≡ m'
written_same f m m' w w' e =
    let table : m.table ≡ m'.table = w ∙ ap (λ (h : Heap). f.write h.entries) e ∙ sym w' in
    λ i. memory (e i).pool (table i)

-- as the bytes of a table are that is as the form asks
pub written_of : (f : Form) → Faithful f → (m : Memory) → AllBytes m.table → Sound f m → Written f m
written_of f faithful m bytes s = sym (faithful.write_read m.table bytes s.fits s.clean)

-- a run that ended with a refusal on the heap
module _ (f : Form) (faithful : Faithful f) (m : Memory) (stack : List ℕ) (r : Ran Reply) where
  pub declined_run : (n : ℕ) → Sound f m → RunsAs f r (resting (declined n) (heap_in f m) stack) → (Written f m → Written f r.memory) → AllBytes m.table → Declined m stack r
  declined_run n s ran_as written bytes =
      record {
        reply = ran_as.0 ∙ ap declined (sym (ap (λ (x : Reply). x.refusal) ran_as.0));
        memory = let w = written_of f faithful m bytes s in written_same f r.memory m (written w) w ran_as.1;
        stack = ran_as.2;
      }

  -- or before it
  pub declined_ran : (n : ℕ) → r ≡ ran (declined n) m stack → Declined m stack r
  declined_ran n e = subst (Declined m stack) (sym e) (record { reply = refl; memory = refl; stack = refl })

-- ---- entries by their index

-- the entry at an index, and those around it
pub record At (es : List Entry) (i : ℕ) : Type 0 where
  pub before : List Entry
  pub entry : Entry
  pub after : List Entry
  pub long : length before ≡ i
  pub are : es ≡ before ++ entry ∷ after

-- there is an entry at the index, or the index is past the end
pub data Indexed (es : List Entry) (i : ℕ) : Type 0 where
  past : length es ≤ i → at_index (heads es) i ≡ none → Indexed es i
  inside : (x : At es i) → at_index (heads es) i ≡ some x.entry.head → Indexed es i

pub indexed : (es : List Entry) (i : ℕ) → Indexed es i
unfolding at_index
indexed [] i = past (omega arith) refl
indexed (e ∷ es) zero = inside (record { before = []; entry = e; after = es; long = refl; are = refl }) refl
indexed (e ∷ es) (suc i) = go (indexed es i)
  where
    go : Indexed es i → Indexed (e ∷ es) (suc i)
    go (past l q) = past (omega arith) q
    go (inside x q) =
        inside
        (record { before = e ∷ x.before; entry = x.entry; after = x.after; long = omega (arith, x.long); are = ap (λ (ds : List Entry). e ∷ ds) x.are })
        q

-- ---- a call that names an entry

-- `act` is what is done with the head of the entry, if there is one: if there is none it is refused by 19
module _ (f : Form) (faithful : Faithful f) (base first index : ℕ) (act : Option ℕ → Program Reply) (stack : List ℕ) (m : Memory)
    (nothing : run_on (act none) stack (heap_in f m) ≡ resting (declined 19) (heap_in f m) stack) where
  abbrev r : Ran Reply
  r = run f (checked base true (on_log base first (λ ks. act (at_index ks index)))) stack m

  pub data Ends : Type 0 where
    stops : (n : ℕ) → n ≢ 0 → First (of_read f base first index m) n → r.reply ≡ declined n → (AllBytes m.table → Declined m stack r) → Ends
    acts : (es : List Entry) → Chain base (heap_in f m) first es → (x : At es index) → First (of_read f base first index m) 0 → Passed base (heap_in f m) → Sound f m
        → RunsAs f r (run_on (act (some x.entry.head)) stack (heap_in f m)) → (Written f m → Written f r.memory) → Ends

  abbrev h : Heap
  h = heap_in f m

  -- with a log the number is that of the entry's test
  behind_log : (n : ℕ) → survey_in f base m ≡ 0 → Log base h first → (NoEntry base h first index × (n ≡ 19)) ⊎ (¬ NoEntry base h first index × (n ≡ 0)) → First (of_read f base first index m) n
  unfolding First of_read
  behind_log n e log last = inr (λ q. omega (arith, q, e), inr (λ q. omega (arith, q, e), inr (λ q. q log, last)))

  -- the run is that of the action on an entry, or on none
  as_act : (x : Option ℕ) (es : List Entry) → at_index (heads es) index ≡ x
      → RunsAs f r (run_on (on_log base first (λ ks. act (at_index ks index))) stack h) → run_on (on_log base first (λ ks. act (at_index ks index))) stack h ≡ run_on (act (at_index (heads es) index)) stack h
      → RunsAs f r (run_on (act x) stack h)
  as_act x es q ran_as e = subst (λ (o : RanOn Reply). RunsAs f r o) (e ∙ ap (λ (y : Option ℕ). run_on (act y) stack h) q) ran_as

  pub ended : Ends
  unfolding First of_read
  ended = go (checks f faithful base (on_log base first (λ ks. act (at_index ks index))) stack m true)
    where
      refused_by : (n : ℕ) → r ≡ ran (declined n) m stack → r.reply ≡ declined n
      refused_by n e = ap (λ (x : Ran Reply). x.reply) e

      one_log : Passed base h → (es : List Entry) → Chain base h first es → length es ≤ index → NoEntry base h first index
      one_log good es chain l ds other = subst (λ (xs : List Entry). length xs ≤ index) (chain_one base good.shape.above h chain other) l

      on_entry : (es : List Entry) → Chain base h first es → survey_in f base m ≡ 0 → Sound f m → Passed base h → RunsAs f r (run_on (on_log base first (λ ks. act (at_index ks index))) stack h)
          → (Written f m → Written f r.memory) → run_on (on_log base first (λ ks. act (at_index ks index))) stack h ≡ run_on (act (at_index (heads es) index)) stack h → Indexed es index → Ends
      on_entry es chain z s good ran_as written e (past l q) =
          let at_none : RunsAs f r (resting (declined 19) h stack) = subst (λ (o : RanOn Reply). RunsAs f r o) nothing (as_act none es q ran_as e) in
          stops 19 (λ w. omega (arith, w)) (behind_log 19 z (record { entries = es; chain = chain }) (inl (one_log good es chain l, refl))) at_none.0
          (declined_run f faithful m stack r 19 s at_none written)
      on_entry es chain z s good ran_as written e (inside x q) =
          acts es chain x
          (behind_log 0 z (record { entries = es; chain = chain }) (inr (λ no_entry. omega (arith, no_entry es chain, ap length x.are, length-append x.before (x.entry ∷ x.after), x.long), refl)))
          good s (as_act (some x.entry.head) es q ran_as e) written

      runs_on_log : survey_in f base m ≡ 0 → Sound f m → Passed base h → RunsAs f r (run_on (on_log base first (λ ks. act (at_index ks index))) stack h)
          → (Written f m → Written f r.memory) → Followed base first (λ ks. act (at_index ks index)) stack h → Ends
      runs_on_log z s good ran_as written (lost no_log e) =
          let at_none : RunsAs f r (resting (declined 18) h stack) = subst (λ (o : RanOn Reply). RunsAs f r o) e ran_as in
          stops 18 (λ w. omega (arith, w)) (inr (λ q. omega (arith, q, z), inr (λ q. omega (arith, q, z), inl (no_log, refl)))) at_none.0
          (declined_run f faithful m stack r 18 s at_none written)
      runs_on_log z s good ran_as written (found es chain e) = on_entry es chain z s good ran_as written e (indexed es index)

      go : Checks f faithful base (on_log base first (λ ks. act (at_index ks index))) stack m true → Ends
      go (torn e q) = absurd (true_not_false refl e)
      go (halted n q z number e) =
          ⊎_elim
          (λ one. stops n (λ w. omega (arith, w, one)) (inl (z ∙ one, one)) (refused_by n e) (λ bytes. declined_ran f faithful m stack r n e))
          (λ two. stops n (λ w. omega (arith, w, two)) (inr (λ w. omega (arith, w, z, two), inl (z ∙ two, two))) (refused_by n e) (λ bytes. declined_ran f faithful m stack r n e))
          number
      go (passes q z s good ran_as written) = runs_on_log z s good ran_as written (followed base first (λ ks. act (at_index ks index)) stack h good)
