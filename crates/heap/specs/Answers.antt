-- What each call answers and leaves, as a result on lent memory.
-- Assumes nothing.
use Rattle.std.specs.Prelude.{List, [], ℕ, eqb, Result as Returned, Ok, Err, Option as Maybe, Some, None}
use Rattle.std.proofs.Math.Option.{Option, some, none}
use Rattle.rules.specs.Tests.{pick, both}
use Rattle.rules.specs.Outcomes.{Answer, only_refusal, findings, reading}
use Rattle.rules.specs.Memory.{memory, Result, result}
use Rattle.refusals.specs.Codes.{code}
use Rattle.refusals.specs.declared.Refusal.{Refusal}
use Rattle.heap.specs.declared.Surveyed.{Surveyed}

-- an answer, and what pool and table then hold
abbrev pub given : Answer → List ℕ → List ℕ → Result
given a pool table = result a (memory pool table) []

-- what an accepted call says, or the number of the refusal alone
abbrev pub answer_of : {A : Type 0} → (A → Answer) → Returned A Refusal → Answer
answer_of said (Ok x) = said x
answer_of said (Err r) = only_refusal (code r)

-- the refusal number alone
abbrev pub status : Returned (Unit {0}) Refusal → List ℕ → List ℕ → Result
status r pool table = given (answer_of (λ _. only_refusal 0) r) pool table

-- used blocks, objects and the longest free run
abbrev pub surveyed : Returned Surveyed Refusal → List ℕ → List ℕ → Result
surveyed r pool table = given (answer_of (λ s. findings 0 s.used s.objects s.longest) r) pool table

-- a word
abbrev pub loaded : Returned ℕ Refusal → List ℕ → List ℕ → Result
loaded r pool table = given (answer_of (λ w. reading 0 w) r) pool table

-- the first word of an object of two blocks, if it is one
abbrev pub linked : Maybe ℕ → Option ℕ
linked (Some w) = some w
linked None = none

-- the same by what loads of its words answer: word 7 can be read, and word 8 is refused with 8
unfoldable pub next_by : (ℕ → Answer) → Option ℕ
next_by load = pick (both (eqb (load 7).refusal 0) (eqb (load 8).refusal 8)) (some (load 0).value) none
