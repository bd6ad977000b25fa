-- `clear`: zero bytes hold zero entries, and have no spare bit.
-- Assumes nothing.
use mathlib.Core.Path.{◌≡◌, refl, sym, ◌∙◌}
use mathlib.Core.List.{List}
use Prim.Native.Nat.{ℕ, zero, suc, ◌+◌, ◌/◌, ◌%◌}
use native.Mathlib.Omega.{arith}
use lib.ListN.{length, get_or, replicate, length-replicate}
use Rattle.rules.specs.Planes.{plane_bytes, entry_in, entries_in, Sized, Holds}
use Rattle.laws.proofs.Bits.{bit_of_zero}
use Rattle.laws.proofs.Planes.{length_entries_in, holds_of}
use Rattle.entries.proofs.Holding.{entry_byte}
use Rattle.entries.proofs.clear.Goals as goal

-- zeros are read wherever
zeros : (n i : ℕ) → get_or {A = ℕ} (replicate n 0) i 0 ≡ 0
zeros zero i = refl
zeros (suc n) zero = refl
zeros (suc n) (suc i) = zeros n i

zero_entry : (t n k : ℕ) → entry_in t (replicate n 0) k ≡ 0
zero_entry t n k = entry_byte t (replicate n 0) k ∙ rw (zeros n (k / 8), zeros n (plane_bytes t + k / 8), bit_of_zero (k % 8)) (omega arith)

cleared : (t : ℕ) (table table' : List ℕ) → table' ≡ replicate (length table) 0 → Sized t table → Holds t (replicate (length (entries_in t table)) 0) table'
cleared t table table' e sized =
    rw e
    (holds_of t (replicate n 0) (replicate (length table) 0) (record { few = sized.few; long = length-replicate (length table) 0 ∙ sized.long })
    (length-replicate n 0 ∙ length_entries_in t table) (λ k h. zero_entry t (length table) k ∙ sym (zeros n k)))
  where
    n : ℕ
    n = length (entries_in t table)

pub returns : goal.returns
returns c = λ t sized. cleared t c.args.table.now _ c.clear.ensures sized
