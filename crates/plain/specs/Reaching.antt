-- Reachability in a plain list: a finite chain of words from a root. It does not mention the marking.
-- Assumes nothing.
use Rattle.std.specs.Prelude.{◌≡◌, ℕ}
use mathlib.Core.List.{List, Memᴰ}
use Rattle.std.proofs.Math.Option.{some}
use Rattle.plain.specs.Objects.{Object}
use Rattle.plain.specs.Tracing.{led_to}

-- an object is reachable: a root leads to it, or a word of a reachable object
pub data Reachable (base : ℕ) (os : List Object) (roots : List ℕ) : Object → Type 0 where
  root : {w : ℕ} {o : Object} → Memᴰ w roots → led_to base w os ≡ some o → Reachable base os roots o
  edge : {x : Object} {w : ℕ} {o : Object} → Reachable base os roots x → Memᴰ w x.words → led_to base w os ≡ some o → Reachable base os roots o

-- of the objects os, exactly those that are reachable are kept
pub record Keeps (base : ℕ) (os : List Object) (roots : List ℕ) (kept : List Object) : Type 0 where
  pub all : (o : Object) → Reachable base os roots o → Memᴰ o kept
  pub only : (o : Object) → Memᴰ o kept → Reachable base os roots o
