-- A log of 4t blocks through services that may follow.
-- Assumes nothing.
use mathlib.Core.Path.{◌≡◌}
use mathlib.Core.List.{List}
use Prim.Native.Nat.{ℕ, ◌*◌}
use lib.ListN.{length}
use Rattle.rules.specs.Planes.{planes}
use Rattle.rules.specs.Memory.{heap_in}
use Rattle.rules.specs.Lent.{Lent}
use Rattle.laws.specs.Meaning.{AllBytes}
use Rattle.loglaws.specs.Chains.{Entry, Chain}
use Rattle.services.specs.Services.{Read, serve, Asked, lent_after}
use Rattle.lasting.specs.Lasting.{AllSpare}
use Rattle.lasting.proofs.Reading.{log_lasts}

-- after these services the chain is as it was, and each read of it replies as before
abbrev pub LastsThrough : (t base first : ℕ) (l : Lent) (es : List Entry) → List Asked → Type 0
LastsThrough t base first l es xs =
    Chain base (heap_in (planes t) (lent_after xs l).memory) first es
    × ((index : ℕ) (stack : List ℕ) → (serve t (Read base first index) stack (lent_after xs l)).reply ≡ (serve t (Read base first index) stack l).reply)

-- 4t blocks, and a log in them
module _ (t base first : ℕ) (l : Lent) (es : List Entry) (long : length l.memory.pool ≡ 64 * t) (bytes : AllBytes l.memory.table)
    (chain : Chain base (heap_in (planes t) l.memory) first es) where
  pub through : (xs : List Asked) → AllSpare t base first es xs l → LastsThrough t base first l es xs
  through xs spare = (
    log_lasts.same_chain t base first l es xs (record { long = long; bytes = bytes }) chain spare,
    log_lasts.same_reading t base first l es xs (record { long = long; bytes = bytes }) chain spare,
  )
