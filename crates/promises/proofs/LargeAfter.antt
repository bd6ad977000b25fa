-- Large objects after lists of calls, in every form of the table.
-- Assumes nothing.
use mathlib.Core.Path.{◌≡◌}
use mathlib.Core.Logic.{◌≢◌, ⊎_elim}
use mathlib.Core.Bool.{true}
use mathlib.Core.List.{List, ◌∷◌}
use Prim.Native.Nat.{ℕ, ◌%◌, ◌≤◌}
use native.Mathlib.Omega.{arith}
use Rattle.rules.specs.Runs.{Turn, EveryFile, starts_anew}
use Rattle.rules.specs.Forms.{Form}
use Rattle.laws.specs.Faithful.{Faithful}
use Rattle.rules.specs.Memory.{Memory, heap_in, AcceptedIn, turn_in, after_in}
use Rattle.promises.specs.Promises.{Object, blocks_of}
use Rattle.promises.specs.Alignment.{FileAligned}
use Rattle.promises.proofs.Alignment.{new_objects_aligned, aligned_from_start}

-- from an accepted init or opening on, an object of four blocks or more starts at a block divisible by four
pub large_from_start : (f : Form) → Faithful f → (first : Turn) (ts : List Turn) → starts_anew first.call ≡ true → EveryFile FileAligned (first ∷ ts) → (m : Memory) → AcceptedIn (turn_in f first m)
    → let h = heap_in f (after_in f (first ∷ ts) m) in
    (o : ℕ) → Object h o → 4 ≤ blocks_of h o → o % 4 ≡ 0
large_from_start f faithful first ts anew files m accepted o head large =
    ⊎_elim (λ few. absurd (omega arith)) (λ e. e) (aligned_from_start f faithful first ts anew files m accepted o head)

-- one that starts elsewhere was there before the calls, with as many blocks or more
pub large_elsewhere : (f : Form) → Faithful f → (ts : List Turn) → EveryFile FileAligned ts → (m : Memory)
    → let h = heap_in f (after_in f ts m) in
    (o : ℕ) → Object h o → 4 ≤ blocks_of h o → o % 4 ≢ 0 → Object (heap_in f m) o × (blocks_of h o ≤ blocks_of (heap_in f m) o)
large_elsewhere f faithful ts files m o head large other =
    ⊎_elim
    (λ placed. absurd (⊎_elim (λ few. omega arith) other placed))
    (λ older. (older.head, older.blocks))
    (new_objects_aligned f faithful ts files m o head)
