-- The laws, used at variables: each is said anew from hypotheses that are written out, down to equations. A law that said less, or asked more, as a base or a number of roots, would not give it.
-- Assumes nothing.
use mathlib.Core.Path.{◌≡◌}
use mathlib.Core.Logic.{◌≢◌, ◌↔◌, ◌⊎◌}
use mathlib.Core.List.{List, [], ◌++◌, Memᴰ}
use Prim.Native.Nat.{ℕ, ◌/◌, ◌%◌, ◌≤◌}
use lib.IntN.{pos}
use lib.ListN.{length}
use Rattle.rules.specs.Tests.{pick}
use Rattle.rules.specs.Words.{words_of}
use Rattle.rules.specs.Entries.{HEAD}
use Rattle.rules.specs.Tables.{entry_at, is_free}
use Rattle.rules.specs.Forms.{Form}
use Rattle.laws.specs.Faithful.{Faithful}
use Rattle.rules.specs.Runs.{Free, Collect, Survey}
use Rattle.rules.specs.Memory.{Memory, Result, perform}
use Rattle.keeping.specs.Keeping.{but_rescans}
use Rattle.algebra.proofs.Algebra.{frees_commute, roots_are_a_set, roots_join, collect_idempotent}

-- two objects may be freed in either order
pub either_first : (f : Form) → Faithful f → (base j k : ℕ) (m : Memory) → (perform f (Survey base) [] m).answer.refusal ≡ 0
    → entry_at (f.read m.table) j ≡ HEAD → entry_at (f.read m.table) k ≡ HEAD → j ≢ k
    → let a : Result = perform f (Free base j) [] m in
    let b : Result = perform f (Free base k) [] a.memory in
    let a' : Result = perform f (Free base k) [] m in
    let b' : Result = perform f (Free base j) [] a'.memory in
    (a.answer.refusal ≡ 0) × (b.answer.refusal ≡ 0) × (a'.answer.refusal ≡ 0) × (b'.answer.refusal ≡ 0) × (b.memory ≡ b'.memory) × (a.answer ≡ b'.answer) × (a'.answer ≡ b.answer)
either_first f faithful base j k m usable one other different =
    let x = frees_commute f faithful base j k m usable one other different in
    (x.accepted.0, x.accepted.1, x.accepted.2, x.accepted.3, x.same, x.answers.0, x.answers.1)

module _ (f : Form) (base : ℕ) (roots roots' stack stack' : List ℕ) (m : Memory) where
  abbrev one : Result
  one = perform f (Collect base roots) stack m

  abbrev other : Result
  other = perform f (Collect base roots') stack' m

  -- roots with the same members keep the same
  pub members_keep : one.answer.refusal ≡ 0 → ((x : ℕ) → Memᴰ x (words_of roots) ↔ Memᴰ x (words_of roots'))
      → length roots' % 4 ≡ 0 → length roots' / 4 ≤ 4096 → length stack' % 4 ≡ 0 → length stack' / 4 ≤ 64
      → (other.answer.refusal ≡ 0) × (one.memory ≡ other.memory) × (but_rescans one.answer ≡ but_rescans other.answer)
  members_keep accepted members whole few whole' short =
      let x = roots_are_a_set f base roots roots' stack stack' m accepted members (record { whole = whole; few = few }) (record { whole = whole'; short = short }) in
      (x.accepted, x.same, x.answer)

  -- joined roots keep what one or the other keeps
  pub joined_keep : Faithful f → (stack'' : List ℕ) → one.answer.refusal ≡ 0 → other.answer.refusal ≡ 0 → length (roots ++ roots') / 4 ≤ 4096
      → length stack'' % 4 ≡ 0 → length stack'' / 4 ≤ 64
      → let joined : Result = perform f (Collect base (roots ++ roots')) stack'' m in
      (joined.answer.refusal ≡ 0)
      × ((o : ℕ) → (entry_at (f.read joined.memory.table) o ≡ HEAD) ↔ ((entry_at (f.read one.memory.table) o ≡ HEAD) ⊎ (entry_at (f.read other.memory.table) o ≡ HEAD)))
      × ((k : ℕ) → let e : ℕ = entry_at (f.read one.memory.table) k in entry_at (f.read joined.memory.table) k ≡ pick (is_free e) (entry_at (f.read other.memory.table) k) e)
  joined_keep faithful stack'' accepted accepted' few whole short =
      let x = roots_join f faithful base roots roots' stack stack' stack'' m accepted accepted' few (record { whole = whole; short = short }) in
      (x.accepted, x.kept, x.blocks)

  -- a second collection at once changes nothing
  pub again_nothing : Faithful f → one.answer.refusal ≡ 0 → length stack' % 4 ≡ 0 → length stack' / 4 ≤ 64
      → let again : Result = perform f (Collect base roots) stack' one.memory in
      (again.answer.refusal ≡ 0) × (again.memory ≡ one.memory) × (again.answer.kept ≡ one.answer.kept) × (again.answer.change ≡ pos 0)
  again_nothing faithful accepted whole short =
      let x = collect_idempotent f faithful base roots stack stack' m accepted (record { whole = whole; short = short }) in
      (x.accepted, x.same, x.kept, x.change)
