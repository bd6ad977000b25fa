-- The tests that come first in each call of the log: 1 and 2, as a survey is refused. Once they have passed, the call is as on the heap in the memory.
-- Assumes nothing.
use mathlib.Core.Path.{◌≡◌, refl, ap, sym, subst, ◌∙◌}
use mathlib.Core.Logic.{◌⊎◌, inl, inr, ⊎_elim}
use mathlib.Core.Bool.{Bool, true, false}
use mathlib.Core.List.{List, []}
use Prim.Native.Nat.{ℕ, suc}
use native.Mathlib.Omega.{arith}
use lib.Dec.{eqb}
use borrow.Author.Tests.{ne_eqb}
use Rattle.rules.specs.Tests.{pick}
use Rattle.laws.specs.Meaning.{Passed}
use Rattle.rules.specs.Outcomes.{Heap, only_refusal}
use Rattle.rules.specs.Calls.{survey}
use Rattle.rules.specs.Runs.{Survey, step}
use Rattle.rules.specs.Forms.{Form}
use Rattle.laws.specs.Faithful.{Faithful}
use Rattle.rules.specs.Memory.{Memory, memory, heap_in, Sound, Result, result, perform}
use Rattle.laws.proofs.Memory.{Written, follows_accepted, accepted_sound, Performed, acted, left, performed}
use Rattle.promises.specs.Conditions.{First, of_survey}
use Rattle.promises.proofs.Promised.{promises}
use Rattle.promises.proofs.Bytes.{on_bytes}
use Rattle.programs.specs.Programs.{Program, Ran, ran, run}
use Rattle.programs.proofs.Stacks.{stack_unseen}
use Rattle.programs.proofs.OnHeaps.{RunsAs, run_on, run_on_heap, run_written}
use Rattle.logs.specs.Log.{Reply, declined, decline, checked}
use Rattle.loglaws.specs.Promises.{survey_in}
use Rattle.loglaws.proofs.Lasting.{survey_sound}

-- on a heap a survey is refused by 1 or by 2, or not
survey_number : (base : ℕ) (h : Heap) (n : ℕ) → (survey base h).answer.refusal ≡ suc n → (suc n ≡ 1) ⊎ (suc n ≡ 2)
unfolding First of_survey
survey_number base h n e =
    ⊎_elim (λ x. inl (sym e ∙ x.1)) (λ x. ⊎_elim (λ y. inr (sym e ∙ y.1)) (λ y. absurd (omega (arith, e, y.1))) x.1) (promises.survey_refusal base h)

-- and so in memory
pub survey_number_in : (f : Form) (base : ℕ) (m : Memory) (n : ℕ) → survey_in f base m ≡ suc n → (suc n ≡ 1) ⊎ (suc n ≡ 2)
unfolding First step
survey_number_in f base m n e =
    ⊎_elim (λ x. absurd (x.0 refl))
    (λ x. ⊎_elim (λ y. inl (sym e ∙ y.1))
    (λ y. ⊎_elim (λ z. inr (sym e ∙ z.1))
    (λ z. ⊎_elim (λ u. survey_number base (heap_in f m) n (sym u.1 ∙ e)) (λ u. absurd (omega (arith, e, u.1)))
    z.1) y.1) x.1) (on_bytes.number f (Survey base) [] m)

module _ (f : Form) (faithful : Faithful f) (base : ℕ) (next : Program Reply) (stack : List ℕ) (m : Memory) where
  abbrev asks : Bool → Ran Reply
  asks good = run f (checked base good next) stack m

  -- the call is refused by 1 or 2, or it goes on as on the heap
  pub data Checks (good : Bool) : Type 0 where
    torn : good ≡ false → asks good ≡ ran (declined 1) m stack → Checks good
    halted : (r : ℕ) → good ≡ true → survey_in f base m ≡ r → (r ≡ 1) ⊎ (r ≡ 2) → asks good ≡ ran (declined r) m stack → Checks good
    passes : good ≡ true → survey_in f base m ≡ 0 → Sound f m → Passed base (heap_in f m) → RunsAs f (asks good) (run_on next stack (heap_in f m))
        → (Written f m → Written f (asks good).memory) → Checks good

  -- what the survey's result leads to
  abbrev on : Result → Ran Reply
  on x = run f (pick (eqb x.answer.refusal 0) next (decline x.answer.refusal)) stack x.memory

  asks_on : asks true ≡ on (perform f (Survey base) [] m)
  unfolding checked run
  asks_on = ap on (stack_unseen f (Survey base) stack m refl)

  refused_on : (r : ℕ) → on (result (only_refusal (suc r)) m []) ≡ ran (declined (suc r)) m stack
  unfolding run
  refused_on r = rw (ne_eqb (suc r) 0 (λ e. omega (arith, e)))

  accepted_on : (x : Result) → x.answer.refusal ≡ 0 → on x ≡ run f next stack x.memory
  accepted_on x e = rw e

  pub checks : (good : Bool) → Checks good
  unfolding checked run step
  checks false = torn refl refl
  checks true = go (performed f (Survey base) [] m)
    where
      go : Performed m [] (perform f (Survey base) [] m) → Checks true
      go (left r e) =
          let n : survey_in f base m ≡ suc r = ap (λ (x : Result). x.answer.refusal) e in
          halted (suc r) refl n (survey_number_in f base m r n) (asks_on ∙ ap on e ∙ refused_on r)
      go (acted z) =
          let x : Result = perform f (Survey base) [] m in
          let s = accepted_sound f (Survey base) [] m refl z in
          let w = follows_accepted f faithful (Survey base) [] m z in
          let h : heap_in f x.memory ≡ heap_in f m = w.heap ∙ promises.survey_leaves base (heap_in f m) in
          let e : asks true ≡ run f next stack x.memory = asks_on ∙ accepted_on x z in
          passes refl z s (survey_sound f base m z).1
          (subst (λ (r : Ran Reply). RunsAs f r (run_on next stack (heap_in f m))) (sym e)
          (subst (λ (g : Heap). RunsAs f (run f next stack x.memory) (run_on next stack g)) h (run_on_heap f faithful next stack x.memory (w.sound z))))
          (λ written. subst (λ (r : Ran Reply). Written f r.memory) (sym e) (run_written f faithful next stack x.memory (w.sound z) (w.written z)))
