-- A part of a list that is lent: which elements it has, and what the list is once the part comes back.
-- Assumes nothing.
use mathlib.Core.Path.{◌≡◌, refl, sym, ◌∙◌}
use mathlib.Core.List.{List, append_assoc}
use Prim.Native.Nat.{ℕ, ◌+◌, ◌≤◌, ◌<◌}
use native.Mathlib.Omega.{arith}
use lib.ListN.{length, get_or, drop, length-drop}
use Rattle.laws.proofs.Lists.{sets_all}
use lib.Seq.{sets, sets-eq, length-take-le, drop-drop, get_or-take, get_or-drop}
use borrow.Rule.Slice.PartMut.{mid_of, put_mid}

-- the part of n elements from a on
module _ (xs : List ℕ) (a n : ℕ) where
  -- element j of the part is element i of the list
  pub part_at : (i j : ℕ) → i ≡ a + j → j < n → get_or (mid_of a n xs) j 0 ≡ get_or xs i 0
  part_at i j e l = rw e (get_or-take n (drop a xs) j 0 l ∙ get_or-drop a xs j 0)

  module _ (room : a + n ≤ length xs) where
    pub part_length : length (mid_of a n xs) ≡ n
    part_length = length-take-le n (drop a xs) (simp length-drop (omega arith))

    module _ (vs : List ℕ) (all : length vs ≡ n) where
      -- what comes back in its place is a run of stores
      pub part_back : put_mid a n xs vs ≡ sets xs a vs
      part_back = rw drop-drop (sym (sets-eq vs xs a (rw all room) ∙ rw (all, append_assoc) refl))

      -- and so are stores into the whole part
      pub part_filled : put_mid a n xs (sets (mid_of a n xs) 0 vs) ≡ sets xs a vs
      part_filled = rw (sets_all (mid_of a n xs) vs (all ∙ sym part_length)) part_back
