-- Laws of lists and of programs: what no call tells apart no program does.
-- Assumes nothing.
use mathlib.Core.Path.{◌≡◌, refl}
use mathlib.Core.List.{List, ◌∷◌}
use Prim.Native.Nat.{ℕ}
use Rattle.rules.specs.Forms.{Form}
use Rattle.rules.specs.Planes.{planes}
use Rattle.rules.specs.Runs.{Call}
use Rattle.rules.specs.Memory.{Memory, perform}
use Rattle.laws.specs.Clamped.{clamped}
use Rattle.laws.proofs.Clamped.{t_clamped}
use Rattle.programs.specs.Programs.{Program, give, ask, run}

-- ---- lists

-- equal heads and equal tails
pub cons_same : {A : Type 0} {a b : A} {xs ys : List A} → a ≡ b → xs ≡ ys → a ∷ xs ≡ b ∷ ys
cons_same e d = cc

-- and back
pub heads_same : {A : Type 0} {a b : A} {xs ys : List A} → a ∷ xs ≡ b ∷ ys → a ≡ b
heads_same e = cc

pub tails_same : {A : Type 0} {a b : A} {xs ys : List A} → a ∷ xs ≡ b ∷ ys → xs ≡ ys
tails_same e = cc

-- ---- forms

-- forms that no call tells apart are told apart by no program
run_alike : {A : Type 0} (f g : Form) → ((c : Call) (stack : List ℕ) (m : Memory) → perform f c stack m ≡ perform g c stack m) → (p : Program A) (stack : List ℕ) (m : Memory)
    → run f p stack m ≡ run g p stack m
unfolding run
run_alike f g same (give a) stack m = refl
run_alike f g same (ask c go) stack m = rw (same c stack m) (run_alike f g same (go _) _ _)

-- a program with t clamped gives what it gives with t itself
pub run_clamped : {A : Type 0} (t : ℕ) (p : Program A) (stack : List ℕ) (m : Memory) → run (planes (clamped t)) p stack m ≡ run (planes t) p stack m
run_clamped t = run_alike (planes (clamped t)) (planes t) (t_clamped t)
