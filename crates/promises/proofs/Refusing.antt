-- The refusal of an opening is the number of the first condition that holds.
-- Assumes nothing.
use mathlib.Core.List.{List}
use Prim.Native.Nat.{ℕ}
use Rattle.rules.specs.Outcomes.{Heap}
use Rattle.rules.specs.Calls.{open_image}
use Rattle.promises.specs.Conditions.{First, of_open_image}
use Rattle.promises.proofs.Checked.{number, open_checked}
use Rattle.promises.proofs.Opening.{first_fault}

pub open_refusal : (h : Heap) (image : List ℕ) (room : ℕ) → First (of_open_image h image room) (open_image h image room).answer.refusal
open_refusal h image room = rw (number (open_checked h image room)) (first_fault image h room)
