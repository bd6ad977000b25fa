-- What a call answered, on the clamped numbers that it was handed, as the service that its caller asked for; and parts of answers.
-- Assumes nothing.
use mathlib.Core.Path.{◌≡◌, ap, ◌∙◌}
use mathlib.Core.List.{List}
use Prim.Native.Nat.{ℕ, ◌^◌, ◌<◌}
use native.Mathlib.Omega.{arith}
use Rattle.std.specs.Prelude.{Result as Returned, Ok, Err, IfOk}
use Rattle.rules.specs.Outcomes.{only_refusal}
use Rattle.rules.specs.Planes.{planes}
use Rattle.rules.specs.Runs.{Call}
use Rattle.rules.specs.Memory.{Memory, Result, with_buffer, perform}
use Rattle.rules.specs.Lent.{nothing, lent, into_buffer}
use Rattle.laws.specs.Clamped.{clamped}
use Rattle.laws.proofs.Clamped.{clamped_call, call_clamped}
use Rattle.services.specs.Services.{HeapCall, serve}
use Rattle.services.specs.OnMemory.{served_call}
use Rattle.services.proofs.Entries.{call_served, call_filled}
use Rattle.refusals.specs.Codes.{refused_by}
use Rattle.refusals.specs.declared.Refusal.{Refusal}
use Rattle.objects.specs.Answers.{place_of}
use Rattle.objects.specs.declared.Placed.{Placed}
use Rattle.heap.specs.Answers.{answer_of}

module _ (t : ℕ) (c : Call) (stack : List ℕ) {n : ℕ} {d : Call} (m : Memory) (r : Result) where
  pub by_call : r ≡ perform (planes n) d stack m → n ≡ clamped t → d ≡ clamped_call c → served_call (lent m nothing) r ≡ serve t (HeapCall c) stack (lent m nothing)
  by_call e p q = call_served t stack m c r (rw (p, q) at e ∙ call_clamped t c stack m)

  -- with the buffer that it fills
  pub by_filling : (buffer : List ℕ) → r ≡ with_buffer buffer (perform (planes n) d stack m) → n ≡ clamped t → d ≡ clamped_call c
      → served_call (lent m nothing) r ≡ into_buffer buffer (serve t (HeapCall c) stack (lent m nothing))
  by_filling buffer e p q = call_filled t stack m c buffer r (rw (p, q) at e ∙ ap (with_buffer buffer) (call_clamped t c stack m))

-- a refusal number that stands for an answer of nothing else
pub number_is : (r : Returned (Unit {0}) Refusal) {n : ℕ} → n ≡ refused_by r → only_refusal n ≡ answer_of (λ _. only_refusal 0) r
number_is (Ok u) e = ap only_refusal e
number_is (Err x) e = ap only_refusal e

-- an answered block that is small fits a word
pub fits_word : (r : Returned Placed Refusal) → (place_of r).block < 4096 → IfOk r (λ (p : Placed). p.block.0 < 2 ^ 32)
fits_word (Ok p) h = omega (arith, h)
fits_word (Err x) h = tt
