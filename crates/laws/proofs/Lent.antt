-- A call on all that is lent, where nothing beside the memory refuses it: the call on the memory, and what lies beside is as it was.
-- Assumes nothing.
use mathlib.Core.Path.{◌≡◌, refl, sym, ◌∙◌}
use mathlib.Core.Logic.{◌≢◌}
use mathlib.Core.Bool.{Bool, true, false, not}
use mathlib.Core.List.{List}
use Prim.Native.Nat.{ℕ, zero, suc}
use native.Mathlib.Decide.{ℕ_discrete}
use lib.Dec.{eqb}
use borrow.Author.Tests.{eqb-true, eqb-false, ne_eqb}
use Rattle.rules.specs.Tests.{pick, either}
use Rattle.rules.specs.Forms.{Form}
use Rattle.rules.specs.Outcomes.{Answer}
use Rattle.rules.specs.Refusals.{first_of}
use Rattle.rules.specs.Runs.{Call}
use Rattle.rules.specs.Memory.{Memory, Result, done_in, AcceptedIn, stack_for, fault_in, or_refused, perform}
use Rattle.rules.specs.Lent.{tests_beside, beside_after, Lent, lent, Served, served, or_unserved, serve_call}
use Rattle.laws.proofs.Memory.{Performed, acted, left, performed}

-- the fault of a file is the number of the call on any memory
fault_number : (f : Form) (c : Call) (stack : List ℕ) (m : Memory) → fault_in c ≢ 0 → (perform f c stack m).answer.refusal ≡ fault_in c
unfolding perform or_refused first_of
fault_number f c stack m ne = rw (ne_eqb (fault_in c) 0 ne) (go (fault_in c) ne)
  where
    go : (n : ℕ) → n ≢ 0 → (or_refused n m (stack_for c stack) (done_in f c stack m)).answer.refusal ≡ n
    go zero ne = absurd (ne refl)
    go (suc n) ne = refl

-- so an accepted call has none
pub no_fault : (f : Form) (c : Call) (stack : List ℕ) (m : Memory) → AcceptedIn (perform f c stack m) → fault_in c ≡ 0
no_fault f c stack m z = go (ℕ_discrete (fault_in c) 0)
  where
    go : Dec (fault_in c ≡ 0) → fault_in c ≡ 0
    go (yes e) = e
    go (no ne) = absurd (ne (sym (fault_number f c stack m ne) ∙ z))

-- the number that the call on the memory gives, where what lies beside adds none of its own
tests_alone : (c : Call) (r : ℕ) → (fault_in c ≢ 0 → r ≡ fault_in c)
    → pick (not (eqb (fault_in c) 0)) (fault_in c) (pick (either (eqb r 1) false) 1 (pick (eqb r 2) 2 (pick (not (eqb r 0)) r 0))) ≡ r
tests_alone c r fault = file (eqb (fault_in c) 0) refl
  where
    go : (a b z : Bool) → eqb r 1 ≡ a → eqb r 2 ≡ b → eqb r 0 ≡ z → pick (either a false) 1 (pick b 2 (pick (not z) r 0)) ≡ r
    go true b z p q s = sym (eqb-true r 1 p)
    go false true z p q s = sym (eqb-true r 2 q)
    go false false true p q s = sym (eqb-true r 0 s)
    go false false false p q s = refl

    file : (g : Bool) → eqb (fault_in c) 0 ≡ g → pick (not g) (fault_in c) (pick (either (eqb r 1) false) 1 (pick (eqb r 2) 2 (pick (not (eqb r 0)) r 0))) ≡ r
    file true q = go (eqb r 1) (eqb r 2) (eqb r 0) refl refl refl
    file false q = sym (fault (eqb-false (fault_in c) 0 q))

-- a result on the memory, with what lies beside as it was
abbrev pub alongside : Lent → Result → Served Answer
alongside l r = served r.answer (lent r.memory l.beside) r.stack r.filled

pub serve_call_is : (f : Form) (c : Call) (stack : List ℕ) (l : Lent) → serve_call f c stack l ≡ alongside l (perform f c stack l.memory)
unfolding serve_call or_unserved tests_beside beside_after first_of
serve_call_is f c stack l = rw (tests_alone c r.answer.refusal (fault_number f c stack l.memory)) (go r (performed f c stack l.memory))
  where
    r : Result
    r = perform f c stack l.memory

    go : (x : Result) → Performed l.memory (stack_for c stack) x → or_unserved x.answer.refusal l (stack_for c stack) (alongside l x) ≡ alongside l x
    go x (acted z) = rw z
    go x (left n e) = rw e
