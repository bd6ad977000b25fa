-- The chain is as it was after services that spare it.
-- Assumes nothing.
use mathlib.Core.List.{List, [], ◌∷◌}
use Prim.Native.Nat.{ℕ}
use Rattle.rules.specs.Planes.{planes}
use Rattle.rules.specs.Memory.{heap_in}
use Rattle.rules.specs.Lent.{Lent}
use Rattle.loglaws.specs.Chains.{Entry, Chain}
use Rattle.services.specs.Services.{Asked, served_to, lent_after_by}
use Rattle.lasting.specs.Lasting.{AllSpare, done, next, LentFor}
use Rattle.lasting.proofs.Lasting.{lent_next, served_spares}

module _ (t base first : ℕ) (es : List Entry) where
  pub same_chain : (l : Lent) (xs : List Asked) → LentFor t l → Chain base (heap_in (planes t) l.memory) first es → AllSpare t base first es xs l
      → Chain base (heap_in (planes t) (lent_after_by served_to xs l).memory) first es
  unfolding lent_after_by
  same_chain l [] w chain done = chain
  same_chain l (x ∷ xs) w chain (next spares rest) = same_chain (served_to x l).lent xs (lent_next t base first es x l w) (served_spares t base first es x l w spares chain) rest
