-- A table of pairs: its blocks, two by two, are FREE or an object of two blocks. So two blocks find room unless all blocks are used, and a new object is again such a pair.
-- Assumes nothing.
use mathlib.Core.Path.{◌≡◌, refl, ap, ◌∙◌}
use mathlib.Core.Logic.{◌≢◌, ◌⊎◌, inl, inr, ⊎_elim}
use mathlib.Core.Bool.{Bool, true, false}
use mathlib.Core.List.{List, [], ◌∷◌}
use mathlib.Core.Option.{some}
use Prim.Native.Nat.{ℕ, zero, suc, ◌+◌, ◌*◌, ◌/◌, ◌%◌, ◌≤◌, ◌<◌}
use native.Mathlib.Decide.{ℕ_discrete}
use native.Mathlib.Omega.{arith}
use lib.ListN.{length}
use borrow.Author.Tests.{eqb-true}
use Rattle.rules.specs.Entries.{FREE, HEAD, TAIL}
use Rattle.rules.specs.Tables.{entry_at, is_free, is_used, block_count, used}
use Rattle.laws.specs.Meaning.{Fits, Lowest}
use Rattle.laws.proofs.Lists.{one, count_cons}
use Rattle.laws.proofs.Tables.{entry_inside, extent_of, used_le}
use Rattle.promises.specs.Promises.{Among}

-- ---- used blocks, and all

-- one entry more
used_cons : (e : ℕ) (es : List ℕ) → used (e ∷ es) ≡ one (is_used e) + used es
unfolding used
used_cons e es = count_cons is_used e es

-- a FREE block of the table
pub record Gap (es : List ℕ) : Type 0 where
  pub block : ℕ
  pub inside : block < length es
  pub free : entry_at es block ≡ FREE

-- if fewer blocks are used than there are, one is FREE
pub some_free : (es : List ℕ) → used es < length es → Gap es
unfolding used
some_free [] l = absurd (omega (arith, l))
some_free (e ∷ es) l = go (is_free e) refl (some_free es)
  where
    go : (b : Bool) → is_free e ≡ b → (used es < length es → Gap es) → Gap (e ∷ es)
    go true q rest = record { block = 0; inside = omega arith; free = eqb-true _ _ q }
    go false q rest =
        let more : used (e ∷ es) ≡ 1 + used es = rw q at (used_cons e es) in
        let g = rest (omega (arith, l, more)) in
        record { block = suc g.block; inside = omega (arith, g.inside); free = g.free }

-- if all are used, none is FREE
pub none_free : (es : List ℕ) → used es ≡ length es → (i : ℕ) → i < length es → entry_at es i ≢ FREE
none_free [] e i l free = omega (arith, l)
none_free (x ∷ es) e zero l free =
    let nothing : one (is_used x) ≡ 0 = ap (λ (y : ℕ). one (is_used y)) free in
    omega (arith, e, nothing, used_cons x es, used_le es)
none_free (x ∷ es) e (suc i) l free = none_free es (rest (is_used x) (used_cons x es)) i (omega arith) free
  where
    rest : (b : Bool) → used (x ∷ es) ≡ one b + used es → used es ≡ length es
    rest true q = omega (arith, e, q)
    rest false q = absurd (omega (arith, e, q, used_le es))

-- ---- pairs

-- blocks 2j and 2j + 1 are FREE, or an object
abbrev pub PairAt : List ℕ → ℕ → Type 0
PairAt es j = ((entry_at es (2 * j) ≡ FREE) × (entry_at es (2 * j + 1) ≡ FREE)) ⊎ ((entry_at es (2 * j) ≡ HEAD) × (entry_at es (2 * j + 1) ≡ TAIL))

abbrev pub Paired : List ℕ → Type 0
Paired es = (j : ℕ) → PairAt es j

module _ (es : List ℕ) (paired : Paired es) where
  -- two FREE blocks are room for two
  two_fit : (j : ℕ) → 2 * j + 2 ≤ length es → entry_at es (2 * j) ≡ FREE → entry_at es (2 * j + 1) ≡ FREE → Fits es 2 (2 * j)
  two_fit j room one other = record { aligned = inl (omega arith); run = record { room = room; free = free } }
    where
      free : (i : ℕ) → i < 2 → entry_at es (2 * j + i) ≡ FREE
      free zero l = let e : 2 * j + 0 ≡ 2 * j = omega arith in rw e one
      free (suc zero) l = other
      free (suc (suc i)) l = absurd (omega (arith, l))

  -- a FREE block is one of two
  pair_free : (k : ℕ) → entry_at es k ≡ FREE → (entry_at es (2 * (k / 2)) ≡ FREE) × (entry_at es (2 * (k / 2) + 1) ≡ FREE)
  pair_free k free = ⊎_elim (λ x. x) (λ x. absurd (used_both x (ℕ_discrete (k % 2) 0))) (paired (k / 2))
    where
      used_both : (entry_at es (2 * (k / 2)) ≡ HEAD) × (entry_at es (2 * (k / 2) + 1) ≡ TAIL) → Dec (k % 2 ≡ 0) → ⊥
      used_both x (yes z) = let e : 2 * (k / 2) ≡ k = omega arith in let head : entry_at es k ≡ HEAD = rw e at x.0 in omega (arith, head, free)
      used_both x (no z) = let e : 2 * (k / 2) + 1 ≡ k = omega arith in let tail : entry_at es k ≡ TAIL = rw e at x.1 in omega (arith, tail, free)

  -- a HEAD is the first of two
  pub head_even : (k : ℕ) → entry_at es k ≡ HEAD → 2 * (k / 2) ≡ k
  head_even k head = go (ℕ_discrete (k % 2) 0)
    where
      go : Dec (k % 2 ≡ 0) → 2 * (k / 2) ≡ k
      go (yes z) = omega arith
      go (no z) =
          let e : 2 * (k / 2) + 1 ≡ k = omega arith in
          let here : entry_at es (2 * (k / 2) + 1) ≡ HEAD = rw e head in
          absurd (⊎_elim (λ x. omega (arith, x.1, here)) (λ x. omega (arith, x.1, here)) (paired (k / 2)))

  -- there is room for two where there is a FREE block
  pub gap_fits : length es % 2 ≡ 0 → (g : Gap es) → Fits es 2 (2 * (g.block / 2))
  gap_fits even g =
      let f = pair_free g.block g.free in
      two_fit (g.block / 2) (omega (arith, g.inside, even)) f.0 f.1

  -- the lowest two that are FREE are a pair
  pub start_even : (k : ℕ) → Lowest es 2 (some k) → 2 * (k / 2) ≡ k
  unfolding Lowest
  start_even k low = go (ℕ_discrete (k % 2) 0)
    where
      free : entry_at es k ≡ FREE
      free = let e : k + 0 ≡ k = omega arith in rw e at (low.0.run.free 0 (omega arith))

      go : Dec (k % 2 ≡ 0) → 2 * (k / 2) ≡ k
      go (yes z) = omega arith
      go (no z) =
          let f = pair_free k free in
          absurd (low.1 (2 * (k / 2)) (omega arith) (two_fit (k / 2) (omega (arith, low.0.run.room)) f.0 f.1))

-- where all blocks are used, there is no room
pub full_none : (es : List ℕ) → used es ≡ length es → (s : ℕ) → ¬ Fits es 2 s
full_none es full s fits = none_free es full (s + 0) (omega (arith, fits.run.room)) (fits.run.free 0 (omega arith))

-- a table in which every block is FREE
pub free_paired : (es : List ℕ) → ((i : ℕ) → entry_at es i ≡ FREE) → Paired es
free_paired es free j = inl (free (2 * j), free (2 * j + 1))

-- ---- a pair that changes

module _ (es es' : List ℕ) (k : ℕ) (even : 2 * (k / 2) ≡ k) (others : (i : ℕ) → ¬ Among k 2 i → entry_at es' i ≡ entry_at es i) where
  -- every other pair is as it was
  other_pair : (j : ℕ) → j ≢ k / 2 → PairAt es j → PairAt es' j
  other_pair j other p =
      let one : entry_at es' (2 * j) ≡ entry_at es (2 * j) = others (2 * j) (λ a. other (omega (arith, a.0, a.1, even))) in
      let two : entry_at es' (2 * j + 1) ≡ entry_at es (2 * j + 1) = others (2 * j + 1) (λ a. other (omega (arith, a.0, a.1, even))) in
      ⊎_elim (λ x. inl (one ∙ x.0, two ∙ x.1)) (λ x. inr (one ∙ x.0, two ∙ x.1)) p

  -- so where this one is FREE, or an object, the table is again one of pairs
  pub changed_paired : ((entry_at es' k ≡ FREE) × (entry_at es' (k + 1) ≡ FREE)) ⊎ ((entry_at es' k ≡ HEAD) × (entry_at es' (k + 1) ≡ TAIL)) → Paired es → Paired es'
  changed_paired here paired j = go (ℕ_discrete j (k / 2))
    where
      go : Dec (j ≡ k / 2) → PairAt es' j
      go (yes e) = let at : 2 * j ≡ k = omega (arith, e, even) in rw at here
      go (no other) = other_pair j other (paired j)

-- behind the head of an object of two blocks is a TAIL
pub second_tail : (es : List ℕ) (k : ℕ) → entry_at es k ≡ HEAD → block_count es k ≡ 2 → entry_at es (k + 1) ≡ TAIL
second_tail es k head two = (extent_of es k (entry_inside es k (λ free. omega (arith, free, head)))).tail 1 (omega arith) (omega (arith, two))
