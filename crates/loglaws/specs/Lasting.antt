-- Which calls of the heap spare a log. That it lasts through them is said of services, in crate lasting.
-- Assumes nothing.
use Rattle.std.specs.Prelude.{◌≡◌, ℕ}
use mathlib.Core.List.{List, Memᴰ}
use Rattle.rules.specs.Words.{words_of}
use Rattle.rules.specs.Runs.{Call, Init, Allocate, Free, Reallocate, Collect, Survey, Load, Store, WriteImage, OpenImage}
use Rattle.loglaws.specs.Chains.{Entry, heads}

-- Block k is no head of the log
abbrev pub Apart : List Entry → ℕ → Type 0
Apart es k = Memᴰ k (heads es) → ⊥

-- a call spares the log: it stores into, frees and resizes none of its objects, it inits and opens nothing, and it collects only on the log's base, with the first address among the roots
unfoldable pub Spares : ℕ → ℕ → List Entry → Call → Type 0
Spares base first es (Init b) = ⊥
Spares base first es (Allocate b bytes) = Unit {0}
Spares base first es (Free b k) = Apart es k
Spares base first es (Reallocate b k bytes) = Apart es k
Spares base first es (Collect b roots) = (b ≡ base) × Memᴰ first (words_of roots)
Spares base first es (Survey b) = Unit {0}
Spares base first es (Load b k i) = Unit {0}
Spares base first es (Store b k i w) = Apart es k
Spares base first es (WriteImage b roots room) = Unit {0}
Spares base first es (OpenImage image room) = ⊥
