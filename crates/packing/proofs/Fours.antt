-- A packed table is read from its front, a byte at a time: four entries, and those that are left.
-- Assumes nothing.
use mathlib.Core.Path.{◌≡◌}
use mathlib.Core.List.{List, [], ◌∷◌, ◌++◌}
use Prim.Native.Nat.{ℕ, suc, ◌+◌, ◌<◌}
use native.Mathlib.Omega.{arith}
use lib.ListN.{length, get_or, drop}
use lib.Seq.{drop-cons, drop-length}
use Rattle.rules.specs.Entries.{entry_of, entries_of}

-- the entries of a byte
abbrev pub four_of : ℕ → List ℕ
four_of b = entry_of b 0 ∷ entry_of b 1 ∷ entry_of b 2 ∷ entry_of b 3 ∷ []

-- the entries from byte i on
abbrev pub left : List ℕ → ℕ → List ℕ
left packed i = entries_of (drop i packed)

pub left_next : (packed : List ℕ) (i : ℕ) → i < length packed → left packed i ≡ four_of (get_or packed i 0) ++ left packed (i + 1)
unfolding entries_of
left_next packed i h =
    let e : i + 1 ≡ suc i = omega arith in
    rw (e, drop-cons packed i 0 h)

pub left_none : (packed : List ℕ) (i : ℕ) → i ≡ length packed → left packed i ≡ []
unfolding entries_of
left_none packed i e = rw (e, drop-length packed)
