-- Order does not matter: frees commute, a collection sees its roots as a set, joined root lists keep what one or the other keeps, and collecting is idempotent.
-- Each law is said of calls on lent memory, in bytes, for every form of the table in which bytes and entries say the same, or for any at all. What a law asks stands in it.
-- Assumes nothing.
use Rattle.std.specs.Prelude.{◌≡◌, ◌≢◌, ◌↔◌, ◌⊎◌, ℕ, ◌/◌, ◌≤◌, pos, length}
use mathlib.Core.List.{List, [], ◌++◌, Memᴰ}
use Rattle.rules.specs.Tests.{pick}
use Rattle.rules.specs.Words.{words_of}
use Rattle.rules.specs.Entries.{HEAD}
use Rattle.rules.specs.Tables.{entry_at, is_free}
use Rattle.rules.specs.Forms.{Form}
use Rattle.laws.specs.Faithful.{Faithful}
use Rattle.rules.specs.Runs.{Free, Collect, Survey}
use Rattle.rules.specs.Memory.{Memory, Result, AcceptedIn, perform}
use Rattle.keeping.specs.Keeping.{but_rescans, GoodRoots, GoodStack}

-- ---- the calls, and what a table says

abbrev pub free_in : Form → ℕ → ℕ → Memory → Result
free_in f base k m = perform f (Free base k) [] m

abbrev pub collect_in : Form → ℕ → List ℕ → List ℕ → Memory → Result
collect_in f base roots stack m = perform f (Collect base roots) stack m

-- the calls take the base with the memory: a survey, which tests nothing else, is accepted
abbrev pub Usable : Form → ℕ → Memory → Type 0
Usable f base m = AcceptedIn (perform f (Survey base) [] m)

-- the entry of block k
abbrev pub entry_in : Form → Memory → ℕ → ℕ
entry_in f m k = entry_at (f.read m.table) k

-- block o is the head of an object
abbrev pub ObjectIn : Form → Memory → ℕ → Type 0
ObjectIn f m o = entry_in f m o ≡ HEAD

-- ---- two frees

-- One free and a second after it, and the same two the other way round.
pub record Commute (first second first' second' : Result) : Type 0 where
  -- all four are accepted
  pub accepted : AcceptedIn first × AcceptedIn second × AcceptedIn first' × AcceptedIn second'
  -- the memory is the same in the end, to the last byte
  pub same : second.memory ≡ second'.memory
  -- a free answers the same whether it comes first or second
  pub answers : (first.answer ≡ second'.answer) × (first'.answer ≡ second.answer)

-- Frees commute: of two different objects either may be freed first.
abbrev pub FreesCommute : Type 0
FreesCommute =
    (f : Form) → Faithful f → (base j k : ℕ) (m : Memory)
    → Usable f base m
    → ObjectIn f m j
    → ObjectIn f m k
    → j ≢ k
    → Commute
    (free_in f base j m) (free_in f base k (free_in f base j m).memory)
    (free_in f base k m) (free_in f base j (free_in f base k m).memory)

-- ---- collections from two root lists

-- the lists have the same members, in whatever order and however often
abbrev pub SameMembers : List ℕ → List ℕ → Type 0
SameMembers xs ys = (x : ℕ) → Memᴰ x xs ↔ Memᴰ x ys

-- Two collections of one memory, of which the first is accepted.
pub record SameCollection (one other : Result) : Type 0 where
  -- the other is accepted too
  pub accepted : AcceptedIn other
  -- the table is left the same, and the pool, to the last byte
  pub same : one.memory ≡ other.memory
  -- as many objects are kept, and every other part of the answer is the same but for the rescans
  pub answer : but_rescans one.answer ≡ but_rescans other.answer

-- Roots are a set: their order and their repetition do not matter, within 4,096, whatever the mark stacks. This holds of any form.
abbrev pub RootsAreASet : Type 0
RootsAreASet =
    (f : Form) (base : ℕ) (roots roots' stack stack' : List ℕ) (m : Memory)
    → AcceptedIn (collect_in f base roots stack m)
    → SameMembers (words_of roots) (words_of roots')
    → GoodRoots roots'
    → GoodStack stack'
    → SameCollection (collect_in f base roots stack m) (collect_in f base roots' stack' m)

-- the first entry, or where it is FREE the second
abbrev pub unless_free : ℕ → ℕ → ℕ
unless_free e e' = pick (is_free e) e' e

-- The collection from a joined root list, beside those from its two parts.
pub record Union (f : Form) (one other joined : Result) : Type 0 where
  pub accepted : AcceptedIn joined
  -- it keeps an object exactly if one or the other does
  pub kept : (o : ℕ) → ObjectIn f joined.memory o ↔ (ObjectIn f one.memory o ⊎ ObjectIn f other.memory o)
  -- and leaves each block as the one does, or where that leaves it FREE as the other does
  pub blocks : (k : ℕ) → entry_in f joined.memory k ≡ unless_free (entry_in f one.memory k) (entry_in f other.memory k)

-- Joined roots keep the union, within 4,096 in all.
abbrev pub RootsJoin : Type 0
RootsJoin =
    (f : Form) → Faithful f → (base : ℕ) (roots roots' stack stack' stack'' : List ℕ) (m : Memory)
    → AcceptedIn (collect_in f base roots stack m)
    → AcceptedIn (collect_in f base roots' stack' m)
    → length (roots ++ roots') / 4 ≤ 4096
    → GoodStack stack''
    → Union f (collect_in f base roots stack m) (collect_in f base roots' stack' m) (collect_in f base (roots ++ roots') stack'' m)

-- ---- a second collection at once

-- A collection that finds nothing more to free after the one before.
pub record NothingMore (first second : Result) : Type 0 where
  pub accepted : AcceptedIn second
  -- no byte of pool or table is changed
  pub same : second.memory ≡ first.memory
  pub kept : second.answer.kept ≡ first.answer.kept
  pub change : second.answer.change ≡ pos 0

-- Collecting is idempotent: a second collection with the same base and roots changes nothing, whatever the mark stacks.
abbrev pub CollectIdempotent : Type 0
CollectIdempotent =
    (f : Form) → Faithful f → (base : ℕ) (roots stack stack' : List ℕ) (m : Memory)
    → AcceptedIn (collect_in f base roots stack m)
    → GoodStack stack'
    → NothingMore (collect_in f base roots stack m) (collect_in f base roots stack' (collect_in f base roots stack m).memory)
