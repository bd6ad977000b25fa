-- What is written is read, and two memories with the same bytes and entries hold the same.
-- Assumes nothing.
use mathlib.Core.Path.{◌≡◌, ap}
use mathlib.Core.List.{List}
use Prim.Native.Nat.{ℕ, ◌<◌}
use lib.ListN.{length, set, length-set}
use Rattle.rules.specs.Tables.{entry_at}
use Rattle.rules.specs.Forms.{Form}
use Rattle.laws.specs.Faithful.{Faithful}
use Rattle.rules.specs.Memory.{Memory, Sound}
use Rattle.laws.specs.Agreement.{with_entry, HoldSame}
use Rattle.laws.proofs.Memory.{table_fits}
use Rattle.laws.proofs.Lists.{bounded_set}

-- what is written is read, and as the form asks
pub written : (f : Form) → Faithful f → (m : Memory) (k e : ℕ) → Sound f m → e < 4
    → Sound f (with_entry f m k e) × (f.read (with_entry f m k e).table ≡ set (f.read m.table) k e)
written f faithful m k e s small =
    let es : List ℕ = set (f.read m.table) k e in
    let fits = table_fits f m s.fits in
    let long : length es ≡ length (f.read m.table) = length-set (f.read m.table) k e in (
      record { fits = faithful.write_fits m.table es fits long; clean = faithful.write_clean m.table es fits long },
      faithful.read_write m.table es fits long (bounded_set (f.read m.table) k e (faithful.small m.table) small),
    )

module _ (f g : Form) where
  pub hold_same : (m m' : Memory) → Sound f m → Sound g m' → m.pool ≡ m'.pool → f.read m.table ≡ g.read m'.table → HoldSame f g m m'
  hold_same m m' s s' p e = record { sound = s; sound' = s'; pool = p; blocks = ap length e; reading = λ k. ap (λ (es : List ℕ). entry_at es k) e }
