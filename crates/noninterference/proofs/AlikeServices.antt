-- Services that are alike: one more with any t and two mark stacks that count as the same; and they are the same but for their mark stacks.
-- Assumes nothing.
use mathlib.Core.Path.{◌≡◌, refl, ap}
use mathlib.Core.List.{List, [], ◌∷◌}
use Prim.Native.Nat.{ℕ}
use Rattle.unwinding.specs.Answers.{SameStacks}
use Rattle.services.specs.Services.{Service, Asked, asked}
use Rattle.noninterference.specs.Noninterference.{Alike, done, next}
use Rattle.noninterference.specs.Unseen.{without_stacks}

-- after a service with any t and two such mark stacks any services that are alike, whatever mark stacks these have
pub alike_next : (t : ℕ) (s : Service) {stack stack' : List ℕ} {xs ys : List Asked} → SameStacks stack stack' → Alike xs ys → Alike (asked t s stack ∷ xs) (asked t s stack' ∷ ys)
alike_next t s same r = next t s same r

-- services that are alike are the same but for their mark stacks
pub alike_services : {xs ys : List Asked} → Alike xs ys → without_stacks xs ≡ without_stacks ys
unfolding without_stacks
alike_services done = refl
alike_services (next t s same r) = ap (λ (xs : List Asked). asked t s [] ∷ xs) (alike_services r)
