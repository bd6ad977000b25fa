-- Tests that compute, and a choice by one.
-- Assumes nothing.
use Rattle.std.specs.Prelude.{Bool, true, false, List, [], ◌∷◌, ℕ, zero, suc}
use Rattle.std.proofs.Math.Option.{Option, some, none}

-- The first value if the test holds, else the second. Both are computed: a definition that calls itself in each takes twice as long with each element
abbrev pub pick : {A : Type 0} → Bool → A → A → A
pick true a b = a
pick false a b = b

abbrev pub both : Bool → Bool → Bool
both true b = b
both false b = false

abbrev pub either : Bool → Bool → Bool
either true b = true
either false b = b

abbrev pub is_none : {A : Type 0} → Option A → Bool
is_none none = true
is_none (some a) = false

-- the value that is there, or the other
abbrev pub or_else : {A : Type 0} → Option A → A → A
or_else none b = b
or_else (some a) b = a

-- one more if the test holds
abbrev pub more_if : Bool → ℕ → ℕ
more_if true n = suc n
more_if false n = n

-- how many elements pass the test
unfoldable pub count : (ℕ → Bool) → List ℕ → ℕ
count f [] = 0
count f (x ∷ xs) = more_if (f x) (count f xs)

-- how many elements at the front pass the test, up to the first that does not
unfoldable pub leading : (ℕ → Bool) → List ℕ → ℕ
leading f [] = 0
leading f (x ∷ xs) = pick (f x) (suc (leading f xs)) 0

-- f 0, f 1, .. , f (n - 1)
unfoldable pub tabulate : ℕ → (ℕ → ℕ) → List ℕ
tabulate zero f = []
tabulate (suc n) f = f 0 ∷ tabulate n (λ (k : ℕ). f (suc k))
