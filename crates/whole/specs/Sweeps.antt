-- The sweep of 32 entries at once, a bit of each in two numbers, and how far a table is swept.
-- Assumes nothing.
use Rattle.std.specs.Prelude.{◌≡◌, ℕ, suc, ◌+◌, ◌*◌, ◌<◌, ◌≤◌, false, List, ◌==◌}
use Rattle.rules.specs.Tests.{pick}
use Rattle.rules.specs.Bits.{bit_of}
use Rattle.rules.specs.Tables.{entry_at}
use Rattle.rules.specs.Marking.{swept_entry, freeing_at, sweep}
use Rattle.rules.specs.Planes.{plane_bytes, entry_in}
use Rattle.entries.specs.Groups.{lane}

-- low' and high' hold the swept entries, and `kept` a bit for each behind which TAILs are kept. `keeping` is 1 if they are kept at first, else 0
pub record SweptBits (low high keeping low' high' kept : ℕ) : Type 0 where
  pub entry : (j : ℕ) → j < 32 → lane low' high' j ≡ swept_entry (freeing_at (keeping == 0) (lane low high) j) (lane low high j)
  pub after : (j : ℕ) → j < 32 → bit_of kept j ≡ pick (freeing_at (keeping == 0) (lane low high) (suc j)) 0 1
  -- the numbers fit where those before did
  pub fits : (low' ≤ low) × (high' ≤ high)

-- Of a table with the entries es those in the first `at` bytes of each plane are swept and the others as they were. `keeping` is 1 if TAILs are kept there, else 0
pub record SweptTo (t : ℕ) (es table : List ℕ) (at keeping : ℕ) : Type 0 where
  pub done : (k : ℕ) → k < 8 * at → entry_in t table k ≡ entry_at (sweep es) k
  pub left : (k : ℕ) → 8 * at ≤ k → k < 8 * plane_bytes t → entry_in t table k ≡ entry_at es k
  pub keeps : keeping ≡ pick (freeing_at false (entry_at es) (8 * at)) 0 1

-- a table that is swept as far as byte `at` of each plane of `half` bytes is swept n bytes further
abbrev pub SweepsOn : ℕ → ℕ → ℕ → ℕ → ℕ → List ℕ → List ℕ → Type 0
SweepsOn half at n keeping keeping' before after = (t : ℕ) (es : List ℕ) → half ≡ plane_bytes t → SweptTo t es before at keeping → SweptTo t es after (at + n) keeping'
