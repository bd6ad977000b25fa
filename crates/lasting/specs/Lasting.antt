-- The log lasts: no list of services changes it that leave its objects alone, and collect only with its first address among the roots. Services of other logs may be among them.
-- Assumes nothing.
use Rattle.std.specs.Prelude.{◌≡◌, ℕ, ◌*◌, ◌^◌, ◌<◌, length}
use mathlib.Core.List.{List, [], ◌∷◌, ◌++◌, Memᴰ}
use Rattle.rules.specs.Words.{bytes_of, words_of}
use Rattle.rules.specs.Planes.{planes}
use Rattle.rules.specs.Memory.{Memory, heap_in}
use Rattle.rules.specs.Lent.{Lent}
use Rattle.laws.specs.Meaning.{AllBytes}
use Rattle.promises.specs.Conditions.{NoFit}
use Rattle.loglaws.specs.Chains.{Entry, Chain}
use Rattle.loglaws.specs.Promises.{LastOf}
use Rattle.loglaws.specs.Lasting.{Apart, Spares as SparesByCall}
use Rattle.services.specs.Services.{Service, HeapCall, Append, Read, Drop, Asked, asked, served_to, lent_after}

-- A service spares the log with these entries, on the memory that it finds. Of a call of the heap: it stores into, frees and resizes none of the log's objects, it inits and opens nothing, and it
-- collects only on the log's base, with the first address among the roots. Of an append to another log: its time and tip count are words; where there is no room for two blocks, so that
-- it collects, it is on the log's base, with the first address among its roots; and the last entry of the other log, into which it stores, is none of this one's. Of a drop from another log: the first
-- entry of that one, which it frees, is none of this one's
unfoldable pub Spares : ℕ → ℕ → ℕ → List Entry → Memory → Service → Type 0
Spares t base first es m (HeapCall c) = SparesByCall base first es c
Spares t base first es m (Append b other time tips roots) =
    (time < 2 ^ 32) × (tips < 2 ^ 32)
    × (NoFit (heap_in (planes t) m) 2 → (b ≡ base) × Memᴰ first (words_of (bytes_of other ++ roots)))
    × ((ds : List Entry) → Chain b (heap_in (planes t) m) other ds → (o : ℕ) → LastOf ds o → Apart es o)
Spares t base first es m (Read b other index) = Unit {0}
Spares t base first es m (Drop b other) = (d : Entry) (ds : List Entry) → Chain b (heap_in (planes t) m) other (d ∷ ds) → Apart es d.head

-- all services that are given this t spare it, each on what it finds; of those that are given another nothing is required: they are refused
pub data AllSpare (t base first : ℕ) (es : List Entry) : List Asked → Lent → Type 0 where
  done : {l : Lent} → AllSpare t base first es [] l
  next : {x : Asked} {xs : List Asked} {l : Lent} → (x.t ≡ t → Spares t base first es l.memory x.service) → AllSpare t base first es xs (served_to x l).lent
      → AllSpare t base first es (x ∷ xs) l

-- the pool has the 64t bytes of 4t blocks, and the table is bytes, as all that is lent is
pub record LentFor (t : ℕ) (l : Lent) : Type 0 where
  pub long : length l.memory.pool ≡ 64 * t
  pub bytes : AllBytes l.memory.table

-- The heap has 4t blocks, and a log with these entries. After any services that spare it, refused ones among them, the chain is as it was; and it reads as before, at every index, those past its end too
pub record LogLasts : Type 0 where
  pub same_chain : (t base first : ℕ) (l : Lent) (es : List Entry) (xs : List Asked) → LentFor t l
      → Chain base (heap_in (planes t) l.memory) first es → AllSpare t base first es xs l
      → Chain base (heap_in (planes t) (lent_after xs l).memory) first es
  pub same_reading : (t base first : ℕ) (l : Lent) (es : List Entry) (xs : List Asked) → LentFor t l
      → Chain base (heap_in (planes t) l.memory) first es → AllSpare t base first es xs l
      → (index : ℕ) (stack : List ℕ) → (served_to (asked t (Read base first index) stack) (lent_after xs l)).reply ≡ (served_to (asked t (Read base first index) stack) l).reply
