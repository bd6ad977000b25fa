-- What is remembered is the longer scan, or that of before.
-- Assumes nothing.
use mathlib.Core.Path.{refl}
use mathlib.Core.Logic.{inl, inr}
use Rattle.visitor.proofs.remember.Goals as goal

pub returns-then-until : goal.returns-then-until
returns-then-until c = record { depth = refl; lost = refl; scan = inr (refl, refl) }

pub returns-else-until : goal.returns-else-until
returns-else-until c = record { depth = refl; lost = refl; scan = inl (refl, refl) }
