-- The collection cycle: marking from the roots with a bounded mark stack, rescans after an overflow, and the sweep.
-- This order fixes the number of rescans; that it keeps exactly the reachable objects is a theorem about it.
-- Two loops, drain_for and rescan_for, count down a number so that they are definitions. drain and rescan give them enough, and nobody
-- sees the number again: the stack is then empty (law drained) and the flag clear (law rescanned).
-- Assumes nothing.
use Rattle.std.specs.Prelude.{Bool, true, false, List, [], ◌∷◌, ℕ, zero, suc, ◌+◌, ◌*◌, eqb, ltb, length, set}
use Rattle.std.proofs.Math.Option.{Option, some, none}
use Rattle.rules.specs.Tests.{pick}
use Rattle.rules.specs.Words.{word_at}
use Rattle.rules.specs.Entries.{FREE, HEAD, TAIL, MARK}
use Rattle.rules.specs.Tables.{entry_at, is_head, objects, block_count}
use Rattle.rules.specs.Pointers.{leads_to}

-- what the marking reads and does not change: the base, the pool, and how many entries the mark stack has room for
pub record Context : Type 0 where
  pub base : ℕ
  pub pool : List ℕ
  pub room : ℕ

-- the entries, the mark stack with the last pushed first, and the overflow flag
pub record State : Type 0 where
  pub entries : List ℕ
  pub stack : List ℕ
  pub overflow : Bool

abbrev pub state : List ℕ → List ℕ → Bool → State
state es st o = record { entries = es; stack = st; overflow = o }

-- block k becomes MARK
abbrev pub marked : ℕ → State → State
marked k s = state (set s.entries k MARK) s.stack s.overflow

-- block k is pushed; if the stack is full, the flag is set instead
unfoldable pub pushed : Context → ℕ → State → State
pushed c k s =
    pick (ltb (length s.stack) c.room) (state s.entries (k ∷ s.stack) s.overflow) (state s.entries s.stack true)

-- a word of a walked object: if it leads to a HEAD, that becomes MARK and is pushed
unfoldable pub visit_to : Context → State → Option ℕ → State
visit_to c s none = s
visit_to c s (some k) = pick (is_head (entry_at s.entries k)) (pushed c k (marked k s)) s

unfoldable pub visit : Context → ℕ → State → State
visit c w s = visit_to c s (leads_to c.base s.entries w)

-- the n words of the pool from word `first` on, the last first
unfoldable pub walk_words : Context → ℕ → ℕ → State → State
walk_words c first zero s = s
walk_words c first (suc n) s = walk_words c first n (visit c (word_at c.pool (first + n)) s)

-- all the words of the object at block k, from the last to the first
unfoldable pub walk : Context → ℕ → State → State
walk c k s = walk_words c (4 * k) (4 * block_count s.entries k) s

-- the last pushed object is walked, until the stack is empty
unfoldable pub drain_for : ℕ → Context → State → State
drain_for zero c s = s
drain_for (suc n) c s = elim s.stack [ [] ↦ s | k ∷ st ↦ drain_for n c (walk c k (state s.entries st s.overflow)) ]

-- each walk takes one object from the stack, and each push costs a HEAD
unfoldable pub drain : Context → State → State
drain c s = drain_for (objects s.entries + length s.stack) c s

-- the object at block k is walked, and then what that pushed
unfoldable pub trace : Context → ℕ → State → State
trace c k s = drain c (walk c k s)

-- a root: if it leads to a HEAD, that becomes MARK and its subtree is walked at once
unfoldable pub root_to : Context → State → Option ℕ → State
root_to c s none = s
root_to c s (some k) = pick (is_head (entry_at s.entries k)) (trace c k (marked k s)) s

unfoldable pub mark_root : Context → ℕ → State → State
mark_root c w s = root_to c s (leads_to c.base s.entries w)

-- the roots in list order
unfoldable pub mark_roots : Context → List ℕ → State → State
mark_roots c [] s = s
mark_roots c (w ∷ ws) s = mark_roots c ws (mark_root c w s)

-- block k of a pass: it is walked if it is MARK when reached
unfoldable pub pass_block : Context → ℕ → State → State
pass_block c k s = pick (eqb (entry_at s.entries k) MARK) (trace c k s) s

-- the n blocks from k on, in rising order
unfoldable pub pass_from : Context → ℕ → ℕ → State → State
pass_from c k zero s = s
pass_from c k (suc n) s = pass_from c (suc k) n (pass_block c k s)

-- one rescan: the flag is cleared, and then all blocks are gone through
unfoldable pub pass : Context → State → State
pass c s = pass_from c 0 (length s.entries) (state s.entries s.stack false)

-- the state after marking, and the number of rescans
pub record Marked : Type 0 where
  pub last : State
  pub rescans : ℕ

abbrev pub marked_in : State → ℕ → Marked
marked_in s r = record { last = s; rescans = r }

-- rescans while the flag is set; r counts them
unfoldable pub rescan_for : ℕ → Context → State → ℕ → Marked
rescan_for zero c s r = marked_in s r
rescan_for (suc n) c s r = elim s.overflow [ true ↦ rescan_for n c (pass c s) (suc r) | false ↦ marked_in s r ]

-- a rescan that leaves the flag set has cost a HEAD
unfoldable pub rescan : Context → State → ℕ → Marked
rescan c s r = rescan_for (pick s.overflow (suc (objects s.entries)) 0) c s r

-- the marking of the entries es from the roots: the roots, then the rescans
unfoldable pub mark_all : Context → List ℕ → List ℕ → Marked
mark_all c roots es = rescan c (mark_roots c roots (state es [] false)) 0

-- the sweep: a HEAD and its TAILs become FREE, a MARK becomes HEAD and keeps its TAILs.
-- what an entry becomes, where `freeing` says whether TAILs are being freed
unfoldable pub swept_entry : Bool → ℕ → ℕ
swept_entry freeing e = pick (eqb e HEAD) FREE (pick (eqb e MARK) HEAD (pick (eqb e TAIL) (pick freeing FREE TAIL) FREE))

-- whether TAILs are being freed after the entry e
unfoldable pub freeing_after : Bool → ℕ → Bool
freeing_after freeing e = pick (eqb e HEAD) true (pick (eqb e MARK) false freeing)

-- whether TAILs are being freed at entry k, where `freeing` says it at entry 0
unfoldable pub freeing_at : Bool → (ℕ → ℕ) → ℕ → Bool
freeing_at freeing entry zero = freeing
freeing_at freeing entry (suc k) = freeing_after (freeing_at freeing entry k) (entry k)

unfoldable pub sweep_from : Bool → List ℕ → List ℕ
sweep_from freeing [] = []
sweep_from freeing (e ∷ es) = swept_entry freeing e ∷ sweep_from (freeing_after freeing e) es

unfoldable pub sweep : List ℕ → List ℕ
sweep es = sweep_from false es
