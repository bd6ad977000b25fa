-- A block at which no entry has its head lies apart from the log.
-- Assumes nothing.
use mathlib.Core.Path.{◌≡◌, refl}
use mathlib.Core.Logic.{◌≢◌, ⊎_elim}
use mathlib.Core.List.Memᴰ
use mathlib.Core.List.{List, [], ◌∷◌, Memᴰ}
use Prim.Native.Nat.{ℕ}
use Rattle.loglaws.specs.Chains.{Entry, heads}
use Rattle.loglaws.specs.Lasting.{Apart}

-- a head is that of an entry
headed : (es : List Entry) (k : ℕ) → Memᴰ k (heads es) → (e : Entry) × Memᴰ e es × (k ≡ e.head)
headed [] k m = absurd (Memᴰ.not-nil m)
headed (e ∷ es) k m =
    ⊎_elim (λ at. (e, Memᴰ.head refl, at)) (λ n. let (d, among, at) = headed es k n in (d, Memᴰ.tail among, at)) (Memᴰ.cases_cons m)

-- a block at which no entry has its head lies apart from the log
pub beside : (es : List Entry) (k : ℕ) → ((e : Entry) → Memᴰ e es → k ≢ e.head) → Apart es k
beside es k no_entry among = let (e, there, at) = headed es k among in no_entry e there at
