-- What the code's variables stand for in the rules: the context, the state of the marking, and what the functions ask and leave.
-- Assumes nothing.
use Rattle.std.specs.Prelude.{◌≡◌, ◌⊎◌, Bool, ℕ, zero, suc, ◌*◌, ◌/◌, ◌^◌, ◌≤◌, ◌<◌, ltb, length}
use mathlib.Core.List.{List, [], ◌∷◌, Memᴰ}
use Rattle.rules.specs.Words.{word_at}
use Rattle.rules.specs.Tables.{start_of}
use Rattle.rules.specs.Pointers.{address_of}
use Rattle.rules.specs.Marking.{Context, State, state, pushed}
use Rattle.rules.specs.Planes.{entries_in, IsTable}
use Rattle.visitor.specs.declared.Marking.{Marking}

-- the first d words of the lent stack, the last first
abbrev pub stacked : List ℕ → ℕ → List ℕ
stacked stack zero = []
stacked stack (suc d) = word_at stack d ∷ stacked stack d

-- the stack's length is the room
abbrev pub context_of : ℕ → List ℕ → List ℕ → Context
context_of base pool stack = record { base = base; pool = pool; room = length stack / 4 }

-- a block has been lost because the stack was full
abbrev pub overflow_of : Marking → Bool
overflow_of m = ltb 0 m.lost

-- what the lent stack holds from its depth on is not part of the state
abbrev pub state_of : ℕ → List ℕ → List ℕ → Marking → State
state_of t table stack m = state (entries_in t table) (stacked stack m.depth) (overflow_of m)

-- the state between walks: the mark stack is empty
abbrev pub idle : ℕ → List ℕ → Bool → State
idle t table overflow = state (entries_in t table) [] overflow

-- a pool of 16 bytes for each block of the table, and all of it in the address space
pub record Shape (base t : ℕ) (pool table : List ℕ) : Type 0 where
  pub is_table : IsTable t table
  pub whole : length pool ≡ 16 * length (entries_in t table)
  pub ends : address_of base (length (entries_in t table)) ≤ 2 ^ 32

-- what is remembered of a back scan holds: the object of block `last` starts at block `first`
abbrev pub Knows : List ℕ → Marking → Type 0
Knows es m = m.first.0 ≡ start_of es m.last.0

-- block k is pushed onto the lent stack, or the overflow is set, whatever the entries are; the depth is within the stack, and what is remembered stays
pub record Pushes (stack : List ℕ) (m : Marking) (k : ℕ) (stack' : List ℕ) (r : Marking) : Type 0 where
  pub same : (base : ℕ) (pool es : List ℕ) → state es (stacked stack' r.depth) (overflow_of r) ≡ pushed (context_of base pool stack) k (state es (stacked stack m.depth) (overflow_of m))
  pub deep : r.depth ≤ length stack' / 4
  pub first : r.first.0 ≡ m.first.0
  pub last : r.last.0 ≡ m.last.0

-- the scan from block k back to `start` is remembered, or that of before: which of them is a matter of time alone
pub record Remembers (m : Marking) (start k : ℕ) (r : Marking) : Type 0 where
  pub depth : r.depth ≡ m.depth
  pub lost : r.lost ≡ m.lost
  pub scan : ((r.first.0 ≡ m.first.0) × (r.last.0 ≡ m.last.0)) ⊎ ((r.first.0 ≡ start) × (r.last.0 ≡ k))

-- the variables stand for the state `to`, the depth is within the stack, and what is remembered holds
pub record Came (t : ℕ) (to : State) (table stack : List ℕ) (m : Marking) : Type 0 where
  pub is_table : IsTable t table
  pub same : state_of t table stack m ≡ to
  pub deep : m.depth ≤ length stack / 4
  pub knows : Knows (entries_in t table) m

-- what tracing asks: the words of the stack that are in use are blocks of the table
pub record CanTrace (base t : ℕ) (pool table stack : List ℕ) (m : Marking) : Type 0 where
  pub shape : Shape base t pool table
  pub deep : m.depth ≤ length stack / 4
  pub knows : Knows (entries_in t table) m
  pub below : (k : ℕ) → Memᴰ k (stacked stack m.depth) → k < length (entries_in t table)
