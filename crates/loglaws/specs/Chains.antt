-- What a log is, said of the heap: its entries, and the chain that leads to them.
-- Assumes nothing.
use Rattle.std.specs.Prelude.{◌≡◌, ℕ, ◌+◌, ◌*◌}
use mathlib.Core.List.{List, [], ◌∷◌, map, Memᴰ}
use Rattle.rules.specs.Words.{word_at}
use Rattle.rules.specs.Pointers.{address_of}
use Rattle.rules.specs.Outcomes.{Heap}
use Rattle.promises.specs.Promises.{Object, blocks_of}

-- an entry: the head of its object, the time and the tip count
pub record Entry : Type 0 where
  pub head : ℕ
  pub time : ℕ
  pub tips : ℕ

-- the entry in the object at block k: words 1 and 2 are the time and the tip count
abbrev pub entry_in : Heap → ℕ → Entry
entry_in h k = record { head = k; time = word_at h.pool (4 * k + 1); tips = word_at h.pool (4 * k + 2) }

-- A chain leads from the address w through these entries, the oldest first, to a next word of 0: each address is that of the head of an object of two blocks, whose word 0 is
-- the next address. That no entry comes twice is a law (no_repetition), since a chain that came back would not end
pub data Chain (base : ℕ) (h : Heap) : ℕ → List Entry → Type 0 where
  ends : Chain base h 0 []
  leads : {k : ℕ} {es : List Entry} → Object h k → blocks_of h k ≡ 2 → Chain base h (word_at h.pool (4 * k)) es
      → Chain base h (address_of base k) (entry_in h k ∷ es)

-- there is a log with this first address
pub record Log (base : ℕ) (h : Heap) (first : ℕ) : Type 0 where
  pub entries : List Entry
  pub chain : Chain base h first entries

-- the blocks of its heads
abbrev pub heads : List Entry → List ℕ
heads es = map (λ (e : Entry). e.head) es

-- no number comes twice
pub data Distinct : List ℕ → Type 0 where
  empty : Distinct []
  fresh : {k : ℕ} {ks : List ℕ} → (Memᴰ k ks → ⊥) → Distinct ks → Distinct (k ∷ ks)
