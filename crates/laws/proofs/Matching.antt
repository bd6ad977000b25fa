-- Two pools under one table that match in every allocated block. A store of the same bytes at the same place keeps this, as long as
-- a block that is newly allocated is stored to.
-- Assumes nothing.
use mathlib.Core.Path.{◌≡◌, sym, ◌∙◌}
use mathlib.Core.Logic.{◌≢◌, ◌⊎◌, inl, inr}
use mathlib.Core.List.{List, [], ◌∷◌}
use Prim.Native.Nat.{ℕ, suc, ◌+◌, ◌*◌, ◌/◌, ◌≤◌, ◌<◌}
use native.Mathlib.Omega.{arith}
use native.Mathlib.Decide.{ℕ_discrete, dec_lt}
use lib.ListN.{length, get_or, set, replicate, length-set, length-replicate, get_or-eq_default}
use lib.Seq.{sets, length-sets, get_or-set_same, get_or-set_other}
use Rattle.rules.specs.Entries.{FREE}
use Rattle.rules.specs.Tables.{entry_at}
use Rattle.rules.specs.Outcomes.{cleared_blocks}

-- byte i of two pools is the same
abbrev pub SameByte : List ℕ → List ℕ → ℕ → Type 0
SameByte p q i = get_or p i 0 ≡ get_or q i 0

-- the same byte is stored at the same place of both
set_alike : (p q : List ℕ) (at v : ℕ) → length p ≡ length q → SameByte (set p at v) (set q at v) at
set_alike p q at v l = go (dec_lt at (length p))
  where
    go : Dec (at < length p) → SameByte (set p at v) (set q at v) at
    go (yes h) = get_or-set_same p at v 0 h ∙ sym (get_or-set_same q at v 0 (omega arith))
    go (no h) =
        get_or-eq_default (set p at v) 0 (simp length-set (omega arith))
        ∙ sym (get_or-eq_default (set q at v) 0 (simp length-set (omega arith)))

-- the same bytes are stored: what matched still matches, and what is stored to matches
sets_alike : (p q : List ℕ) (at : ℕ) (vs : List ℕ) (i : ℕ) → length p ≡ length q → SameByte p q i ⊎ ((at ≤ i) × (i < at + length vs))
    → SameByte (sets p at vs) (sets q at vs) i
sets_alike p q at [] i l (inl e) = e
sets_alike p q at [] i l (inr r) = absurd (omega (arith, r.0, r.1))
sets_alike p q at (v ∷ vs) i l d = sets_alike (set p at v) (set q at v) (suc at) vs i (simp length-set l) (go (ℕ_discrete i at) d)
  where
    go : Dec (i ≡ at) → SameByte p q i ⊎ ((at ≤ i) × (i < at + suc (length vs)))
        → SameByte (set p at v) (set q at v) i ⊎ ((suc at ≤ i) × (i < suc at + length vs))
    go (yes e) _ = inl (rw e (set_alike p q at v l))
    go (no e) (inl same) = inl (get_or-set_other p at i v 0 e ∙ same ∙ sym (get_or-set_other q at i v 0 e))
    go (no e) (inr r) = inr (omega (arith, r.0, r.1), omega (arith, r.0, r.1))

-- pools equally long, with the same in byte i if its block, block i / 16, is allocated
pub record Matching (es p q : List ℕ) : Type 0 where
  pub long : length p ≡ length q
  pub bytes : (i : ℕ) → entry_at es (i / 16) ≢ FREE → SameByte p q i

-- the same bytes are stored, and the table changes
pub match_sets : {es p q : List ℕ} (es' : List ℕ) (at : ℕ) (vs : List ℕ) → Matching es p q
    → ((i : ℕ) → entry_at es' (i / 16) ≢ FREE → (entry_at es (i / 16) ≢ FREE) ⊎ ((at ≤ i) × (i < at + length vs)))
    → Matching es' (sets p at vs) (sets q at vs)
match_sets {es} {p} {q} es' at vs a f =
    record {
      long = length-sets p at vs ∙ a.long ∙ sym (length-sets q at vs);
      bytes = λ i u. sets_alike p q at vs i a.long (go i (f i u));
    }
  where
    go : (i : ℕ) → (entry_at es (i / 16) ≢ FREE) ⊎ ((at ≤ i) × (i < at + length vs)) → SameByte p q i ⊎ ((at ≤ i) × (i < at + length vs))
    go i (inl u) = inl (a.bytes i u)
    go i (inr r) = inr r

-- b blocks from s on are stored to, and the table changes there alone
pub match_run : {es p q : List ℕ} (es' : List ℕ) (s b : ℕ) (vs : List ℕ) → Matching es p q → 16 * b ≤ length vs
    → ((k : ℕ) → (s ≤ k → k < s + b → ⊥) → entry_at es' k ≡ entry_at es k) → Matching es' (sets p (16 * s) vs) (sets q (16 * s) vs)
match_run {es} es' s b vs a l out = match_sets es' (16 * s) vs a (λ i u. go i u (dec_lt (i / 16) s) (dec_lt (i / 16) (s + b)))
  where
    go : (i : ℕ) → entry_at es' (i / 16) ≢ FREE → Dec (i / 16 < s) → Dec (i / 16 < s + b) → (entry_at es (i / 16) ≢ FREE) ⊎ ((16 * s ≤ i) × (i < 16 * s + length vs))
    go i u (yes x) y = inl (λ e. u (out (i / 16) (λ m n. omega arith) ∙ e))
    go i u (no x) (yes y) = inr (omega arith, omega arith)
    go i u (no x) (no y) = inl (λ e. u (out (i / 16) (λ m n. omega arith) ∙ e))

-- the same, where they are cleared
pub match_cleared : {es p q : List ℕ} (es' : List ℕ) (s b : ℕ) → Matching es p q
    → ((k : ℕ) → (s ≤ k → k < s + b → ⊥) → entry_at es' k ≡ entry_at es k) → Matching es' (cleared_blocks p s b) (cleared_blocks q s b)
unfolding cleared_blocks
match_cleared es' s b a out = match_run es' s b (replicate (16 * b) 0) a (omega (arith, length-replicate {A = ℕ} (16 * b) 0)) out

-- no byte is stored, and no block is newly allocated
pub match_fewer : {es p q : List ℕ} (es' : List ℕ) → Matching es p q → ((k : ℕ) → entry_at es k ≡ FREE → entry_at es' k ≡ FREE) → Matching es' p q
match_fewer es' a f = match_sets es' 0 [] a (λ i u. inl (λ e. u (f (i / 16) e)))

-- the same bytes are stored, and the table stays
pub match_same : {es p q : List ℕ} (at : ℕ) (vs : List ℕ) → Matching es p q → Matching es (sets p at vs) (sets q at vs)
match_same {es} at vs a = match_sets es at vs a (λ i u. inl u)
