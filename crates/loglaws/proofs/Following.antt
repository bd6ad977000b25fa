-- The chain that a program of the log follows is what loads of its heap say: no heap call but these is made on the way.
-- Assumes nothing.
use mathlib.Core.Path.{◌≡◌, refl, ap, ◌∙◌}
use mathlib.Core.Bool.{Bool, true, false}
use mathlib.Core.List.{List, []}
use mathlib.Core.Option.{Option, some, none}
use Prim.Native.Nat.{ℕ, zero, suc}
use lib.Dec.{eqb}
use Rattle.rules.specs.Tests.{pick}
use Rattle.rules.specs.Pointers.{target_of}
use Rattle.rules.specs.Outcomes.{Heap, Answer}
use Rattle.rules.specs.Calls.{load}
use Rattle.rules.specs.Runs.{Load, step}
use Rattle.keeping.specs.Keeping.{but_rescans}
use Rattle.promises.proofs.Promised.{promises}
use Rattle.programs.specs.Programs.{Program, ask}
use Rattle.programs.proofs.OnHeaps.{run_on}
use Rattle.logs.specs.Log.{Link, link_in, link_to, link_at, prepended, follow}
use Rattle.logs.specs.Heads.{Loads, link_from, heads_from}

-- ---- wherever a program is run

-- `at` runs a program on what a load leaves as it is
module _ {A B : Type 0} (at : Program A → B) (base : ℕ) (load : Loads)
    (asks : (k i : ℕ) (go : Answer → Program A) → at (ask (Load base k i) go) ≡ at (go (but_rescans (load k i)))) where
  -- the rescans are not among what a link is made of
  link_by : (x : Option ℕ) (go : Option Link → Program A) → at (link_to base x go) ≡ at (go (link_from load x))
  unfolding link_to link_from link_in
  link_by none go = refl
  link_by (some k) go =
      asks k 7 (λ a. ask (Load base k 8) (λ b. ask (Load base k 0) (λ c. go (link_in k a b c))))
      ∙ asks k 8 (λ b. ask (Load base k 0) (λ c. go (link_in k (load k 7) b c)))
      ∙ asks k 0 (λ c. go (link_in k (load k 7) (load k 8) c))

  -- it goes on from a link with n entries more
  abbrev Rest : ℕ → (Option (List ℕ) → Program A) → Type 0
  Rest n go = (l : Link) → at (follow base n l.next (λ ks. go (prepended l.head ks))) ≡ at (go (prepended l.head (heads_from load base n l.next)))

  -- a chain is followed by what loads answer
  pub follow_by : (n w : ℕ) (go : Option (List ℕ) → Program A) → at (follow base n w go) ≡ at (go (heads_from load base n w))
  unfolding follow link_at heads_from
  follow_by zero w go = refl
  follow_by (suc n) w go = to (λ l. follow_by n l.next (λ ks. go (prepended l.head ks))) (eqb w 0)
    where
      rest : Option Link → Program A
      rest x = elim x [ none ↦ go none | some l ↦ follow base n l.next (λ ks. go (prepended l.head ks)) ]

      found : Option Link → Option (List ℕ)
      found x = elim x [ none ↦ none | some l ↦ prepended l.head (heads_from load base n l.next) ]

      on : Rest n go → (x : Option Link) → at (rest x) ≡ at (go (found x))
      on more none = refl
      on more (some l) = more l

      to : Rest n go → (b : Bool) → at (pick b (go (some [])) (link_to base (target_of base 4096 w) rest)) ≡ at (go (pick b (some []) (found (link_from load (target_of base 4096 w)))))
      to more true = refl
      to more false = link_by (target_of base 4096 w) rest ∙ on more (link_from load (target_of base 4096 w))

-- ---- on a heap

-- what a load of word i of block k answers
abbrev pub looks : ℕ → Heap → Loads
looks base h k i = (load base h k i).answer

module _ (base : ℕ) (stack : List ℕ) (h : Heap) where
  -- a load leaves the heap, and the program goes on by its answer
  pub load_on : {A : Type 0} (k i : ℕ) (go : Answer → Program A) → run_on (ask (Load base k i) go) stack h ≡ run_on (go (but_rescans (looks base h k i))) stack h
  unfolding run_on step
  load_on k i go = ap (run_on (go (but_rescans (looks base h k i))) stack) (promises.load_leaves base h k i)

  pub follow_on : {A : Type 0} (n w : ℕ) (go : Option (List ℕ) → Program A)
      → run_on (follow base n w go) stack h ≡ run_on (go (heads_from (looks base h) base n w)) stack h
  follow_on n w go = follow_by (λ p. run_on p stack h) base (looks base h) (load_on) n w go
