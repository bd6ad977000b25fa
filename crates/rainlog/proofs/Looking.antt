-- Programs that only look: a survey and loads leave the memory, so that such a program comes to what they answer.
-- Assumes nothing.
use mathlib.Core.Path.{◌≡◌, refl, sym, ap, ◌∙◌}
use mathlib.Core.Bool.{true}
use mathlib.Core.List.{List, []}
use mathlib.Core.Option.{Option, some, none}
use Prim.Native.Nat.{ℕ}
use borrow.Author.Tests.{eq-eqb, ne_eqb}
use Rattle.rules.specs.Tests.{pick}
use Rattle.rules.specs.Outcomes.{Answer}
use Rattle.rules.specs.Runs.{Survey, Load}
use Rattle.rules.specs.Forms.{Form}
use Rattle.laws.specs.Faithful.{Faithful}
use Rattle.laws.specs.Meaning.{AllBytes}
use Rattle.rules.specs.Memory.{Memory, AcceptedIn, perform}
use Rattle.keeping.specs.Keeping.{but_rescans}
use Rattle.programs.specs.Programs.{Program, ask, ran, run}
use Rattle.promises.proofs.Bytes.{on_bytes}
use Rattle.logs.specs.Log.{Reply, declined, decline, is_accepted, follow, on_log, checked}
use Rattle.loglaws.proofs.Following.{follow_by}
use Rattle.logs.specs.Heads.{Loads, heads_from}
use Rattle.appender.proofs.Asking.{asked}

module _ (f : Form) (faithful : Faithful f) (m : Memory) (bytes : AllBytes m.table) (base : ℕ) where
  abbrev loads : Loads
  loads k i = (perform f (Load base k i) [] m).answer

  -- a survey and a load leave every byte, and a program goes on by what they answer
  survey_run : {A : Type 0} (go : Answer → Program A) (stack : List ℕ) → run f (ask (Survey base) go) stack m ≡ run f (go (but_rescans (perform f (Survey base) [] m).answer)) stack m
  survey_run go stack =
      asked f (Survey base) go stack m _ refl refl
      ∙ ap (λ (n : Memory). run f (go (but_rescans (perform f (Survey base) [] m).answer)) stack n) (on_bytes.survey_bytes f faithful base m bytes)

  load_run : {A : Type 0} (k i : ℕ) (go : Answer → Program A) (stack : List ℕ) → run f (ask (Load base k i) go) stack m ≡ run f (go (but_rescans (loads k i))) stack m
  load_run k i go stack =
      asked f (Load base k i) go stack m _ refl refl
      ∙ ap (λ (n : Memory). run f (go (but_rescans (loads k i))) stack n) (on_bytes.load_bytes f faithful base k i m bytes)

  -- the chain is followed by the loads of the memory as it is
  follow_run : {A : Type 0} (n w : ℕ) (go : Option (List ℕ) → Program A) (stack : List ℕ) → run f (follow base n w go) stack m ≡ run f (go (heads_from loads base n w)) stack m
  follow_run n w go stack = follow_by (λ p. run f p stack m) base loads (λ k i then. load_run k i then stack) n w go

  -- ---- the tests that come first, and 18

  -- 1 or 2, if the survey says so
  pub checked_refused : (next : Program Reply) (stack : List ℕ) {r : ℕ} → r ≡ (perform f (Survey base) [] m).answer.refusal → (r ≡ 0 → ⊥)
      → ran (declined r) m stack ≡ run f (checked base true next) stack m
  unfolding checked run
  checked_refused next stack e ne =
      rw e (rw (ne_eqb _ 0 (λ z. ne (e ∙ z))) at (sym (survey_run (λ s. pick (is_accepted s) next (decline s.refusal)) stack)))

  pub checked_passed : (next : Program Reply) (stack : List ℕ) → AcceptedIn (perform f (Survey base) [] m) → run f next stack m ≡ run f (checked base true next) stack m
  unfolding checked
  checked_passed next stack z = rw (eq-eqb _ 0 z) at (sym (survey_run (λ s. pick (is_accepted s) next (decline s.refusal)) stack))

  -- goes on with the heads, if there are such
  pub runs_on_log : (first : ℕ) (go : List ℕ → Program Reply) (stack : List ℕ) (x : Option (List ℕ)) → heads_from loads base 4096 first ≡ x
      → run f (elim x [ none ↦ decline 18 | some ks ↦ go ks ]) stack m ≡ run f (on_log base first go) stack m
  unfolding on_log
  runs_on_log first go stack x e = rw (← e) (sym (follow_run 4096 first (λ y. elim y [ none ↦ decline 18 | some ks ↦ go ks ]) stack))
