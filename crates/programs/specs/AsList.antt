-- Programs on a plain list of objects.
-- Assumes nothing.
use Rattle.std.specs.Prelude.{List, ℕ}
use Rattle.keeping.specs.Keeping.{but_rescans}
use Rattle.plain.specs.Objects.{Plain}
use Rattle.plain.specs.Replies.{Reply, reply}
use Rattle.programs.specs.Programs.{Program, give, ask}

-- the reply, and the list that is left
pub record RanList (A : Type 0) : Type 0 where
  pub reply : A
  pub heap : Plain

-- a program on a plain list. Only the length of the mark stack counts, and no call changes that: so every call gets the stack as it was lent
unfoldable pub run_list : {A : Type 0} → Program A → List ℕ → Plain → RanList A
run_list (give a) stack p = record { reply = a; heap = p }
run_list (ask c go) stack p =
    let r : Reply = reply c stack p in
    run_list (go (but_rescans r.answer)) stack r.heap
