-- Laws of lists: a run of stores, a part of a list, elements below a bound, a count, how many at the front pass a test, a table of values.
-- Assumes nothing.
use mathlib.Core.Path.{◌≡◌, refl, sym, ap, ◌∙◌}
use mathlib.Core.Bool.{Bool, true, false}
use mathlib.Core.List.{List, [], ◌∷◌, ◌++◌, append-nil}
use Prim.Native.Nat.{ℕ, zero, suc, ◌+◌, ◌≤◌, ◌<◌}
use native.Mathlib.Decide.{ℕ_discrete, dec_lt}
use native.Mathlib.Omega.{arith}
use lib.ListN.{length, get_or, set, take, drop, replicate, length-set}
use lib.Seq.{sets, sets-eq, set-set, set_comm, get_or-set_same, get_or-set_other, set_out, drop-cons, drop-length, get_or-drop}
use Rattle.rules.specs.Tests.{pick, more_if, count, leading, tabulate}

-- ---- a run of stores

-- an element before the run stays
pub sets_before : (l : List ℕ) (at : ℕ) (vs : List ℕ) (i d : ℕ) → i < at → get_or (sets l at vs) i d ≡ get_or l i d
sets_before l at [] i d h = refl
sets_before l at (v ∷ vs) i d h =
    sets_before (set l at v) (suc at) vs i d (omega arith) ∙ get_or-set_other l at i v d (λ e. omega arith)

-- an element after the run stays
pub sets_after : (l : List ℕ) (at : ℕ) (vs : List ℕ) (i d : ℕ) → at + length vs ≤ i → get_or (sets l at vs) i d ≡ get_or l i d
sets_after l at [] i d h = refl
sets_after l at (v ∷ vs) i d h =
    sets_after (set l at v) (suc at) vs i d (omega arith) ∙ get_or-set_other l at i v d (λ e. omega arith)

-- an element of the run is what was stored
pub sets_in : (l : List ℕ) (at : ℕ) (vs : List ℕ) (j d : ℕ) → j < length vs → at + length vs ≤ length l → get_or (sets l at vs) (at + j) d ≡ get_or vs j d
sets_in l at [] j d h r = absurd (omega arith)
sets_in l at (v ∷ vs) zero d h r =
    let e : at + 0 ≡ at = omega arith in
    rw e (sets_before (set l at v) (suc at) vs at d (omega arith) ∙ get_or-set_same l at v d (omega arith))
sets_in l at (v ∷ vs) (suc j) d h r =
    let e : at + suc j ≡ suc at + j = omega arith in
    rw e (sets_in (set l at v) (suc at) vs j d (omega arith) (rw length-set (omega arith)))

-- an element outside the run stays
pub sets_out : (l : List ℕ) (at : ℕ) (vs : List ℕ) (i d : ℕ) → (at ≤ i → i < at + length vs → ⊥) → get_or (sets l at vs) i d ≡ get_or l i d
sets_out l at vs i d out = go (dec_lt i at) (dec_lt i (at + length vs))
  where
    go : Dec (i < at) → Dec (i < at + length vs) → get_or (sets l at vs) i d ≡ get_or l i d
    go (yes h) _ = sets_before l at vs i d h
    go (no h) (no r) = sets_after l at vs i d (omega arith)
    go (no h) (yes r) = absurd (out (omega arith) r)

-- a run of stores below the first element
pub sets_cons : (x : ℕ) (l : List ℕ) (at : ℕ) (vs : List ℕ) → sets (x ∷ l) (suc at) vs ≡ x ∷ sets l at vs
sets_cons x l at [] = refl
sets_cons x l at (v ∷ vs) = sets_cons x (set l at v) (suc at) vs

-- a run of stores in two parts
pub sets_append : (l : List ℕ) (at : ℕ) (vs ws : List ℕ) → sets l at (vs ++ ws) ≡ sets (sets l at vs) (at + length vs) ws
sets_append l at [] ws = let e : at + 0 ≡ at = omega arith in rw e
sets_append l at (v ∷ vs) ws =
    let e : at + suc (length vs) ≡ suc at + length vs = omega arith in
    rw e (sets_append (set l at v) (suc at) vs ws)

-- a run of stores behind another is one
pub sets_next : (l : List ℕ) (at to : ℕ) (vs ws : List ℕ) → to ≡ at + length vs → sets (sets l at vs) to ws ≡ sets l at (vs ++ ws)
sets_next l at to vs ws e = rw e (sym (sets_append l at vs ws))

-- one store more at the end of the run
pub sets_snoc : (l : List ℕ) (at : ℕ) (vs : List ℕ) (v : ℕ) → sets l at (vs ++ (v ∷ [])) ≡ set (sets l at vs) (at + length vs) v
sets_snoc l at vs v = sets_append l at vs (v ∷ [])

-- all is stored
pub sets_all : (l vs : List ℕ) → length vs ≡ length l → sets l 0 vs ≡ vs
sets_all l vs e =
    let end : 0 + length vs ≡ length vs = omega arith in
    sets-eq vs l 0 (omega arith) ∙ rw (end, e, drop-length l) (append-nil vs)

-- a store before a run of stores
set_sets : (l : List ℕ) (i v at : ℕ) (vs : List ℕ) → i < at → set (sets l at vs) i v ≡ sets (set l i v) at vs
set_sets l i v at [] h = refl
set_sets l i v at (w ∷ ws) h = set_sets (set l at w) i v (suc at) ws (omega arith) ∙ rw (set_comm l at i w v (λ e. omega arith))

-- a run of stores over the first part of another
pub sets_over : (l : List ℕ) (at : ℕ) (us vs ws : List ℕ) → length us ≡ length vs → sets (sets l at (us ++ ws)) at vs ≡ sets l at (vs ++ ws)
sets_over l at [] [] ws e = refl
sets_over l at [] (v ∷ vs) ws e = absurd (omega arith)
sets_over l at (u ∷ us) [] ws e = absurd (omega arith)
sets_over l at (u ∷ us) (v ∷ vs) ws e = rw (set_sets (set l at u) at v (suc at) (us ++ ws) (omega arith), set-set l at u v) (sets_over (set l at v) (suc at) us vs ws (omega arith))

pub replicate_snoc : (n v : ℕ) → replicate (suc n) v ≡ replicate n v ++ (v ∷ [])
replicate_snoc zero v = refl
replicate_snoc (suc n) v = ap (λ (l : List ℕ). v ∷ l) (replicate_snoc n v)

-- ---- a part of a list

-- the elements from a on, of which the first are given
pub drop_part : (xs : List ℕ) (a : ℕ) (vs : List ℕ) (d : ℕ) → a + length vs ≤ length xs → ((i : ℕ) → i < length vs → get_or xs (a + i) d ≡ get_or vs i d)
    → drop a xs ≡ vs ++ drop (a + length vs) xs
drop_part xs a [] d room same = let e : a + 0 ≡ a = omega arith in rw e
drop_part xs a (v ∷ vs) d room same =
    let e : a + 0 ≡ a = omega arith in
    let f : a + suc (length vs) ≡ suc a + length vs = omega arith in
    let first : get_or xs a d ≡ v = rw e at (same 0 (omega arith)) in
    let rest = drop_part xs (suc a) vs d (omega arith) (λ i h. let g : suc a + i ≡ a + suc i = omega arith in rw g (same (suc i) (omega arith))) in
    rw (drop-cons xs a d (omega arith), first, rest, f)

-- ---- elements below a bound

-- every element is below n
abbrev pub Bounded : ℕ → List ℕ → Type 0
Bounded n xs = (i : ℕ) → get_or xs i 0 < n

-- stores and parts of such lists are so too
module _ {n : ℕ} where
  pub bounded_set : (xs : List ℕ) (k v : ℕ) → Bounded n xs → v < n → Bounded n (set xs k v)
  bounded_set xs k v b h i = go (ℕ_discrete i k) (dec_lt k (length xs))
    where
      go : Dec (i ≡ k) → Dec (k < length xs) → get_or (set xs k v) i 0 < n
      go (yes q) (yes l) = rw (q, get_or-set_same xs k v 0 l) h
      go (yes q) (no l) = rw (set_out xs k v (omega arith)) (b i)
      go (no q) _ = rw (get_or-set_other xs k i v 0 q) (b i)

  pub bounded_sets : (xs : List ℕ) (at : ℕ) (vs : List ℕ) → Bounded n xs → Bounded n vs → Bounded n (sets xs at vs)
  bounded_sets xs at [] b h = b
  bounded_sets xs at (v ∷ vs) b h = bounded_sets (set xs at v) (suc at) vs (bounded_set xs at v b (h 0)) (λ i. h (suc i))

  pub bounded_replicate : (m v : ℕ) → v < n → Bounded n (replicate m v)
  bounded_replicate zero v h i = omega arith
  bounded_replicate (suc m) v h zero = h
  bounded_replicate (suc m) v h (suc i) = bounded_replicate m v h i

  pub bounded_append : (xs ys : List ℕ) → Bounded n xs → Bounded n ys → Bounded n (xs ++ ys)
  bounded_append [] ys b c i = c i
  bounded_append (x ∷ xs) ys b c zero = b 0
  bounded_append (x ∷ xs) ys b c (suc i) = bounded_append xs ys (λ j. b (suc j)) c i

  pub bounded_take : (m : ℕ) (xs : List ℕ) → Bounded n xs → Bounded n (take m xs)
  bounded_take zero xs b i = omega (arith, b 0)
  bounded_take (suc m) [] b i = b i
  bounded_take (suc m) (x ∷ xs) b zero = b 0
  bounded_take (suc m) (x ∷ xs) b (suc i) = bounded_take m xs (λ j. b (suc j)) i

  pub bounded_drop : (m : ℕ) (xs : List ℕ) → Bounded n xs → Bounded n (drop m xs)
  bounded_drop m xs b i = rw (get_or-drop m xs i 0) (b (m + i))

-- ---- how many elements pass a test

abbrev pub one : Bool → ℕ
one true = 1
one false = 0

pub one_lt : (b : Bool) → one b < 2
one_lt true = omega arith
one_lt false = omega arith

pub count_le : (f : ℕ → Bool) (xs : List ℕ) → count f xs ≤ length xs
unfolding count
count_le f [] = omega arith
count_le f (x ∷ xs) = go (f x) (count_le f xs)
  where
    go : (b : Bool) → count f xs ≤ length xs → more_if b (count f xs) ≤ suc (length xs)
    go true h = omega arith
    go false h = omega arith

pub count_cons : (f : ℕ → Bool) (x : ℕ) (xs : List ℕ) → count f (x ∷ xs) ≡ one (f x) + count f xs
unfolding count
count_cons f x xs = go (f x)
  where
    go : (b : Bool) → more_if b (count f xs) ≡ one b + count f xs
    go true = omega arith
    go false = omega arith

pub count_append : (f : ℕ → Bool) (xs ys : List ℕ) → count f (xs ++ ys) ≡ count f xs + count f ys
unfolding count
count_append f [] ys = omega arith
count_append f (x ∷ xs) ys = omega (arith, count_cons f x (xs ++ ys), count_cons f x xs, count_append f xs ys)

pub count_all : (f : ℕ → Bool) (n v : ℕ) → f v ≡ true → count f (replicate n v) ≡ n
unfolding count
count_all f zero v t = refl
count_all f (suc n) v t = rw t (ap suc (count_all f n v t))

pub count_none : (f : ℕ → Bool) (n v : ℕ) → f v ≡ false → count f (replicate n v) ≡ 0
unfolding count
count_none f zero v t = refl
count_none f (suc n) v t = rw t (count_none f n v t)

-- none is counted if none passes the test, and only then
pub count_no : (f : ℕ → Bool) (xs : List ℕ) (i d : ℕ) → count f xs ≡ 0 → i < length xs → f (get_or xs i d) ≡ false
count_no f [] i d z h = absurd (omega arith)
count_no f (x ∷ xs) zero d z h = go (f x) (omega (arith, z, count_cons f x xs))
  where
    go : (b : Bool) → one b ≡ 0 → b ≡ false
    go true e = absurd (omega arith)
    go false e = refl
count_no f (x ∷ xs) (suc i) d z h = count_no f xs i d (omega (arith, z, count_cons f x xs)) (omega arith)

pub no_count : (f : ℕ → Bool) (xs : List ℕ) (d : ℕ) → ((i : ℕ) → i < length xs → f (get_or xs i d) ≡ false) → count f xs ≡ 0
unfolding count
no_count f [] d h = refl
no_count f (x ∷ xs) d h = rw (h 0 (omega arith)) (no_count f xs d (λ i l. h (suc i) (omega arith)))

-- a store counts as its value, and no longer as what stood there
pub count_set : (f : ℕ → Bool) (xs : List ℕ) (k v d : ℕ) → k < length xs → count f (set xs k v) + one (f (get_or xs k d)) ≡ count f xs + one (f v)
count_set f [] k v d h = absurd (omega arith)
count_set f (x ∷ xs) zero v d h = omega (arith, count_cons f v xs, count_cons f x xs)
count_set f (x ∷ xs) (suc k) v d h = omega (arith, count_cons f x (set xs k v), count_cons f x xs, count_set f xs k v d (omega arith))

-- a run of stores over elements that all fail the test adds the run's count
pub count_sets_fresh : (f : ℕ → Bool) (l : List ℕ) (at : ℕ) (vs : List ℕ) (d : ℕ) → at + length vs ≤ length l
    → ((j : ℕ) → j < length vs → f (get_or l (at + j) d) ≡ false) → count f (sets l at vs) ≡ count f l + count f vs
unfolding count
count_sets_fresh f l at [] d r none = omega arith
count_sets_fresh f l at (v ∷ vs) d r none =
    let e : at + 0 ≡ at = omega arith in
    let z : one (f (get_or l at d)) ≡ 0 = ap one (rw e at (none 0 (omega arith))) in
    let rest = count_sets_fresh f (set l at v) (suc at) vs d (rw length-set (omega arith))
    (λ j h. let g : suc at + j ≡ at + suc j = omega arith in
    rw (g, get_or-set_other l at (at + suc j) v d (λ q. omega arith)) (none (suc j) (omega arith))) in
    omega (arith, rest, z, count_set f l at v d (omega arith), count_cons f v vs)

-- a run of stores of values that all fail the test over elements that all pass takes the run's length away
pub count_sets_gone : (f : ℕ → Bool) (l : List ℕ) (at n v d : ℕ) → f v ≡ false → at + n ≤ length l
    → ((j : ℕ) → j < n → f (get_or l (at + j) d) ≡ true) → count f (sets l at (replicate n v)) + n ≡ count f l
count_sets_gone f l at zero v d fv r all = omega arith
count_sets_gone f l at (suc n) v d fv r all =
    let e : at + 0 ≡ at = omega arith in
    let y : one (f (get_or l at d)) ≡ 1 = ap one (rw e at (all 0 (omega arith))) in
    let z : one (f v) ≡ 0 = ap one fv in
    let rest = count_sets_gone f (set l at v) (suc at) n v d fv (rw length-set (omega arith))
    (λ j h. let g : suc at + j ≡ at + suc j = omega arith in
    rw (g, get_or-set_other l at (at + suc j) v d (λ q. omega arith)) (all (suc j) (omega arith))) in
    omega (arith, rest, y, z, count_set f l at v d (omega arith))

-- ---- how many at the front pass a test

pub leading_le : (f : ℕ → Bool) (xs : List ℕ) → leading f xs ≤ length xs
unfolding leading
leading_le f [] = omega arith
leading_le f (x ∷ xs) = go (f x) (leading_le f xs)
  where
    go : (b : Bool) → leading f xs ≤ length xs → pick b (suc (leading f xs)) 0 ≤ suc (length xs)
    go true h = omega arith
    go false h = omega arith

-- each of them passes
pub leading_pass : (f : ℕ → Bool) (xs : List ℕ) (i d : ℕ) → i < leading f xs → f (get_or xs i d) ≡ true
unfolding leading
leading_pass f [] i d h = absurd (omega arith)
leading_pass f (x ∷ xs) i d h = go (f x) refl i h (λ j. leading_pass f xs j d)
  where
    go : (b : Bool) → f x ≡ b → (i : ℕ) → i < pick b (suc (leading f xs)) 0 → ((j : ℕ) → j < leading f xs → f (get_or xs j d) ≡ true) → f (get_or (x ∷ xs) i d) ≡ true
    go true e zero h r = e
    go true e (suc j) h r = r j (omega arith)
    go false e i h r = absurd (omega arith)

-- the next does not
pub leading_stop : (f : ℕ → Bool) (xs : List ℕ) (d : ℕ) → leading f xs < length xs → f (get_or xs (leading f xs) d) ≡ false
unfolding leading
leading_stop f [] d h = absurd (omega arith)
leading_stop f (x ∷ xs) d h = go (f x) refl h (leading_stop f xs d)
  where
    go : (b : Bool) → f x ≡ b → pick b (suc (leading f xs)) 0 < suc (length xs) → (leading f xs < length xs → f (get_or xs (leading f xs) d) ≡ false)
        → f (get_or (x ∷ xs) (pick b (suc (leading f xs)) 0) d) ≡ false
    go true e h r = r (omega arith)
    go false e h r = e

-- as many as all pass are counted
pub leading_more : (f : ℕ → Bool) (xs : List ℕ) (n d : ℕ) → n ≤ length xs → ((i : ℕ) → i < n → f (get_or xs i d) ≡ true) → n ≤ leading f xs
unfolding leading
leading_more f xs zero d h all = omega arith
leading_more f [] (suc n) d h all = absurd (omega arith)
leading_more f (x ∷ xs) (suc n) d h all = go (all 0 (omega arith)) (leading_more f xs n d (omega arith) (λ i l. all (suc i) (omega arith)))
  where
    go : f x ≡ true → n ≤ leading f xs → suc n ≤ leading f (x ∷ xs)
    go e r = rw e (omega arith)

-- n at the front pass, and the next fails or is not there
pub leading_is : (f : ℕ → Bool) (xs : List ℕ) (n d : ℕ) → n ≤ length xs → ((i : ℕ) → i < n → f (get_or xs i d) ≡ true) → (n < length xs → f (get_or xs n d) ≡ false)
    → leading f xs ≡ n
leading_is f xs n d h all stop = go (leading_more f xs n d h all) (ℕ_discrete (leading f xs) n)
  where
    go : n ≤ leading f xs → Dec (leading f xs ≡ n) → leading f xs ≡ n
    go le (yes e) = e
    go le (no ne) =
        let t : f (get_or xs n d) ≡ true = leading_pass f xs n d (omega arith) in
        let l = leading_le f xs in
        let z : f (get_or xs n d) ≡ false = stop (omega arith) in
        let q : ◌≡◌ {A = ℕ} 1 0 = ap one (sym t ∙ z) in
        absurd (omega arith)

-- ---- a table of values

pub length_tabulate : (n : ℕ) (f : ℕ → ℕ) → length (tabulate n f) ≡ n
unfolding tabulate
length_tabulate zero f = refl
length_tabulate (suc n) f = ap suc (length_tabulate n (λ (k : ℕ). f (suc k)))

pub get_d_tabulate : (n : ℕ) (f : ℕ → ℕ) (i d : ℕ) → i < n → get_or (tabulate n f) i d ≡ f i
unfolding tabulate
get_d_tabulate zero f i d h = absurd (omega arith)
get_d_tabulate (suc n) f zero d h = refl
get_d_tabulate (suc n) f (suc i) d h = get_d_tabulate n (λ (k : ℕ). f (suc k)) i d (omega arith)
