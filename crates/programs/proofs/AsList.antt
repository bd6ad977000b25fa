-- A plain list looks at the length of a mark stack only.
-- Assumes nothing.
use mathlib.Core.Path.{◌≡◌, refl}
use mathlib.Core.List.{List}
use Prim.Native.Nat.{ℕ}
use lib.ListN.{length}
use Rattle.rules.specs.Refusals.{whole_words}
use Rattle.rules.specs.Runs.{Call, Init, Allocate, Free, Reallocate, Collect, Survey, Load, Store, WriteImage, OpenImage}
use Rattle.plain.specs.Objects.{Plain}
use Rattle.plain.specs.Replies.{reply}

pub reply_by_length : (c : Call) (stack stack' : List ℕ) (p : Plain) → length stack ≡ length stack' → reply c stack p ≡ reply c stack' p
unfolding reply whole_words
reply_by_length (Init base) stack stack' p l = refl
reply_by_length (Allocate base bytes) stack stack' p l = refl
reply_by_length (Free base k) stack stack' p l = refl
reply_by_length (Reallocate base k bytes) stack stack' p l = refl
reply_by_length (Collect base roots) stack stack' p l = rw l
reply_by_length (Survey base) stack stack' p l = refl
reply_by_length (Load base k i) stack stack' p l = refl
reply_by_length (Store base k i w) stack stack' p l = refl
reply_by_length (WriteImage base roots room) stack stack' p l = refl
reply_by_length (OpenImage image room) stack stack' p l = refl
