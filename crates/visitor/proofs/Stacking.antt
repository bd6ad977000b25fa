-- The lent stack: what a push and a pop do to the words that are in use, and what a push leaves.
-- Assumes nothing.
use mathlib.Core.Path.{◌≡◌, refl, sym, ap, ◌∙◌}
use mathlib.Core.Logic.{⊎_elim}
use mathlib.Core.List.{List, ◌∷◌}
use Prim.Native.Nat.{ℕ, zero, suc, ◌+◌, ◌-◌, ◌*◌, ◌/◌, ◌^◌, ◌≤◌, ◌<◌}
use native.Mathlib.Numerals.{add-one}
use native.Mathlib.Omega.{arith}
use lib.ListN.{length, set}
use borrow.Author.Tests.{lt-ltb, le-ltb}
use Rattle.rules.specs.Words.{word_at, with_word}
use Rattle.rules.specs.Entries.{HEAD, MARK}
use Rattle.rules.specs.Tables.{entry_at, start_of}
use Rattle.rules.specs.Planes.{entries_in, Holds}
use Rattle.rules.specs.Marking.{State, state, marked, pushed}
use Rattle.laws.proofs.Words.{length_with_word, word_at_with_word, word_at_other}
use Rattle.laws.proofs.Marks.{start_marked}
use Rattle.visitor.specs.declared.Marking.{Marking}
use Rattle.visitor.specs.Variables.{stacked, context_of, overflow_of, state_of, Knows, Pushes, Remembers, Came}

pub stacked_length : (stack : List ℕ) (d : ℕ) → length (stacked stack d) ≡ d
stacked_length stack zero = refl
stacked_length stack (suc d) = ap suc (stacked_length stack d)

-- a word at or above the depth is not in use
stacked_above : (stack : List ℕ) (i v d : ℕ) → d ≤ i → stacked (with_word stack i v) d ≡ stacked stack d
stacked_above stack i v zero h = refl
stacked_above stack i v (suc d) h =
    let e : word_at (with_word stack i v) d ≡ word_at stack d = word_at_other stack i d v (λ q. omega arith) in
    let r : stacked (with_word stack i v) d ≡ stacked stack d = stacked_above stack i v d (omega arith) in
    cc

pub stacked_push : (stack : List ℕ) (v d : ℕ) → 4 * d + 4 ≤ length stack → v < 2 ^ 32 → stacked (with_word stack d v) (d + 1) ≡ v ∷ stacked stack d
stacked_push stack v d r h = rw (add-one, word_at_with_word stack d v r h, stacked_above stack d v d (omega arith))

pub stacked_pop : (stack : List ℕ) (d : ℕ) → 0 < d → stacked stack d ≡ word_at stack (d - 1) ∷ stacked stack (d - 1)
stacked_pop stack zero h = absurd (omega arith)
stacked_pop stack (suc d) h = let e : suc d - 1 ≡ d = omega arith in rw e

-- what is remembered holds when a HEAD becomes MARK
knows_marked : (es es' : List ℕ) (k : ℕ) (m : Marking) → entry_at es k ≡ HEAD → es' ≡ set es k MARK → Knows es m → Knows es' m
knows_marked es es' k m h e q = q ∙ sym (rw e (start_marked es k m.last.0 h))

-- of two scans that hold, either may be remembered
pub knows_either : (es : List ℕ) (m r : Marking) (start k : ℕ) → Knows es m → start ≡ start_of es k → Remembers m start k r → Knows es r
knows_either es m r start k q e w = ⊎_elim (λ a. rw (a.0, a.1) q) (λ a. rw (a.0, a.1) e) w.scan

pub state_remembers : (t : ℕ) (table stack : List ℕ) (m r : Marking) (start k : ℕ) → Remembers m start k r → state_of t table stack r ≡ state_of t table stack m
state_remembers t table stack m r start k w = rw (w.depth, w.lost)

pub came_to : {t : ℕ} {x y : State} {table stack : List ℕ} {m : Marking} → Came t x table stack m → x ≡ y → Came t y table stack m
came_to c e = record { is_table = c.is_table; same = c.same ∙ e; deep = c.deep; knows = c.knows }

-- the two ends of a push
pub pushes_on : (stack : List ℕ) (m : Marking) (k : ℕ) {stack' : List ℕ} → k < 2 ^ 32 → m.depth < length stack / 4 → stack' ≡ with_word stack m.depth k
    → Pushes stack m k stack' (record { depth = m.depth + 1; lost = m.lost; first = m.first; last = m.last })
unfolding pushed
pushes_on stack m k b r f =
    record {
      same = λ base pool es. rw (stacked_length stack m.depth, lt-ltb m.depth (length stack / 4) r, f, stacked_push stack k m.depth (omega arith) b);
      deep = rw (f, length_with_word stack m.depth k) (omega arith);
      first = refl;
      last = refl;
    }

pub pushes_not : (stack : List ℕ) (m : Marking) (k : ℕ) → m.depth ≤ length stack / 4 → length stack / 4 ≤ m.depth
    → Pushes stack m k stack (record { depth = m.depth; lost = 1; first = m.first; last = m.last })
unfolding pushed
pushes_not stack m k deep r =
    record {
      same = λ base pool es. rw (stacked_length stack m.depth, le-ltb m.depth (length stack / 4) r);
      deep = deep;
      first = refl;
      last = refl;
    }

-- a HEAD is marked and pushed
pub came_pushed : (base t : ℕ) (pool table stack : List ℕ) (m : Marking) (k : ℕ) {table' stack' : List ℕ} {r : Marking} → Knows (entries_in t table) m → entry_at (entries_in t table) k ≡ HEAD
    → Holds t (set (entries_in t table) k MARK) table' → Pushes stack m k stack' r → Came t (pushed (context_of base pool stack) k (marked k (state_of t table stack m))) table' stack' r
came_pushed base t pool table stack m k {table' = table'} {stack' = stack'} {r = r} knows head holds pushes =
    record {
      is_table = holds.is_table;
      same = ap (λ (es : List ℕ). state es (stacked stack' r.depth) (overflow_of r)) holds.entries ∙ pushes.same base pool (set (entries_in t table) k MARK);
      deep = pushes.deep;
      knows = rw (pushes.first, pushes.last) (knows_marked (entries_in t table) (entries_in t table') k m head holds.entries knows);
    }

-- nothing is done, in a table with the same entries
pub came_same : (t : ℕ) (table stack : List ℕ) (m : Marking) {table' : List ℕ} → m.depth ≤ length stack / 4 → Knows (entries_in t table) m → Holds t (entries_in t table) table'
    → Came t (state_of t table stack m) table' stack m
came_same t table stack m deep knows holds =
    record { is_table = holds.is_table; same = ap (λ (es : List ℕ). state es (stacked stack m.depth) (overflow_of m)) holds.entries; deep = deep; knows = rw holds.entries knows }
