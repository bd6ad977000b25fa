-- Laws of the calls' acts: the change in used blocks of each, how many blocks a request takes, the ways to reallocate and what each leaves.
-- Assumes nothing.
use mathlib.Core.Path.{◌≡◌, refl, sym, ap, ◌∙◌}
use mathlib.Core.Logic.{◌⊎◌, inl, inr, ⊎_elim}
use mathlib.Core.Bool.{Bool, true, false}
use mathlib.Core.List.{List, [], ◌∷◌, ◌++◌}
use mathlib.Core.Option.{Option, some, none}
use Prim.Native.Nat.{ℕ, zero, suc, ◌+◌, ◌-◌, ◌*◌, ◌≤◌, ◌<◌}
use native.Mathlib.Decide.{ℕ_discrete, dec_lt}
use native.Mathlib.Omega.{arith}
use lib.IntN.{pos, neg_ℤ, sub_ℕ, ◌+ℤ◌}
use lib.ListN.{length}
use borrow.Author.Tests.{lt-ltb, le-ltb, eq-eqb, ne_eqb}
use Rattle.rules.specs.Tests.{pick}
use Rattle.rules.specs.Entries.{HEAD}
use Rattle.rules.specs.Tables.{entry_at, block_count, first_fit, grows_in_place, placed, released, extended, used}
use Rattle.rules.specs.Outcomes.{Heap, only_refusal, change_from, leaves, unless_refused}
use Rattle.laws.specs.Meaning.{Run, Lowest, GrowsInPlace}
use Rattle.rules.specs.Refusals.{Test, first_of, heap_tests, no_bytes, outside, no_head, no_room}
use Rattle.rules.specs.Calls.{Way, stay, shrink, grow, move, no_way, moves_to, way_to_grow, way_to, blocks_for, placing, shrunk, grown, is_no_way, along, reallocate}
use Rattle.laws.proofs.Tables.{entry_inside, extent_of, run_apart, grows_of, grows_says, first_lowest, first_is, none_first}
use Rattle.laws.proofs.Refusals.{true_not_false, first_yes, first_last, first_more, refused_first, refuses, accepts}
use Rattle.laws.proofs.Changes.{placed_used, extended_used, freed_used, shrunk_used, moved_used}

-- ---- differences

-- two differences are the same if the sums crosswise are
pub sub_same : (a b c d : ℕ) → a + d ≡ c + b → sub_ℕ a b ≡ sub_ℕ c d
sub_same a b c d e = go (dec_lt a b)
  where
    go : Dec (a < b) → sub_ℕ a b ≡ sub_ℕ c d
    go (yes l) = let n : b - suc a ≡ d - suc c = omega arith in rw (lt-ltb a b l, lt-ltb c d (omega arith), n)
    go (no l) = let n : a - b ≡ c - d = omega arith in rw (le-ltb a b (omega arith), le-ltb c d (omega arith), n)

pub sub_more : (a b : ℕ) → sub_ℕ (a + b) a ≡ pos b
sub_more a b = let n : a + b - a ≡ b = omega arith in rw (le-ltb (a + b) a (omega arith), n)

pub sub_less : (a b : ℕ) → sub_ℕ a (a + b) ≡ neg_ℤ (pos b)
sub_less a zero = let n : a + 0 ≡ a = omega arith in let z : a - a ≡ 0 = omega arith in rw (n, le-ltb a a (omega arith), z)
sub_less a (suc b) = let n : a + suc b - suc a ≡ b = omega arith in rw (lt-ltb a (a + suc b) (omega arith), n)

-- a difference added to what it was taken from
pub sub_add : (a b : ℕ) → pos b +ℤ sub_ℕ a b ≡ pos a
sub_add a b = go (dec_lt a b)
  where
    go : Dec (a < b) → pos b +ℤ sub_ℕ a b ≡ pos a
    go (yes l) =
        let e : b - suc (b - suc a) ≡ a = omega arith in
        rw (lt-ltb a b l, le-ltb b (suc (b - suc a)) (omega arith), e)
    go (no l) = let e : b + (a - b) ≡ a = omega arith in rw (le-ltb a b (omega arith), e)

-- ---- the change in used blocks

pub allocate_change : (es : List ℕ) (s b : ℕ) → 0 < b → Run es b s → change_from es (placed es s b) ≡ pos b
unfolding change_from
allocate_change es s b h run = rw (placed_used es s b h run) (sub_more (used es) b)

pub free_change : (es : List ℕ) (k : ℕ) → entry_at es k ≡ HEAD → change_from es (released es k (block_count es k)) ≡ neg_ℤ (pos (block_count es k))
unfolding change_from
free_change es k head = rw (← freed_used es k head) (sub_less (used (released es k (block_count es k))) (block_count es k))

pub shrink_change : (es : List ℕ) (k c : ℕ) → entry_at es k ≡ HEAD → 0 < c → c ≤ block_count es k
    → change_from es (released es (k + c) (block_count es k - c)) ≡ sub_ℕ c (block_count es k)
unfolding change_from
shrink_change es k c head h fewer =
    sub_same (used (released es (k + c) (block_count es k - c))) (used es) c (block_count es k) (omega (arith, shrunk_used es k head c h fewer))

pub grow_change : (es : List ℕ) (k b c : ℕ) → b ≤ c → Run es (c - b) (k + b) → change_from es (extended es (k + b) (c - b)) ≡ sub_ℕ c b
unfolding change_from
grow_change es k b c more run =
    sub_same (used (extended es (k + b) (c - b))) (used es) c b (omega (arith, extended_used es (k + b) (c - b) run))

pub move_change : (es : List ℕ) (k c s : ℕ) → entry_at es k ≡ HEAD → 0 < c → Run es c s
    → change_from es (released (placed es s c) k (block_count es k)) ≡ sub_ℕ c (block_count es k)
unfolding change_from
move_change es k c s head h run =
    sub_same (used (released (placed es s c) k (block_count es k))) (used es) c (block_count es k) (omega (arith, moved_used es k head c s h run))

-- no more blocks are used than before
pub collect_change : (es after : List ℕ) → used after ≤ used es → change_from es after ≡ neg_ℤ (pos (used es - used after))
unfolding change_from
collect_change es after fewer =
    let e : used after + (used es - used after) ≡ used es = omega arith in
    rw e at (sub_less (used after) (used es - used after))

-- ---- how many blocks a request takes

pub blocks_some : (bytes : ℕ) → 0 < bytes → 0 < blocks_for bytes
unfolding blocks_for
blocks_some bytes h = omega arith

-- enough for the bytes, and no block too many
pub blocks_enough : (bytes : ℕ) → bytes ≤ 16 * blocks_for bytes
unfolding blocks_for
blocks_enough bytes = omega arith

pub blocks_least : (bytes n : ℕ) → bytes ≤ 16 * n → blocks_for bytes ≤ n
unfolding blocks_for
blocks_least bytes n h = omega arith

pub blocks_more : (bytes n : ℕ) → 16 * n < bytes → n < blocks_for bytes
unfolding blocks_for
blocks_more bytes n h = omega arith

-- ---- the ways to reallocate

-- what each way to c blocks, for the object of b blocks at k, says
pub data Ways (es : List ℕ) (k b c : ℕ) : Way → Type 0 where
  stays : c ≡ b → Ways es k b c stay
  shrinks : c < b → Ways es k b c shrink
  grows : b < c → GrowsInPlace es k b c → Ways es k b c grow
  moves : {s : ℕ} → b < c → (GrowsInPlace es k b c → ⊥) → Lowest es c (some s) → Ways es k b c (move s)
  stuck : b < c → (GrowsInPlace es k b c → ⊥) → Lowest es c none → Ways es k b c no_way

module _ (es : List ℕ) (k b c : ℕ) where
  pub way_stay : c ≡ b → way_to es k b c ≡ stay
  unfolding way_to
  way_stay e = rw (eq-eqb c b e)

  pub way_shrink : c < b → way_to es k b c ≡ shrink
  unfolding way_to
  way_shrink l = rw (ne_eqb c b (λ e. omega arith), lt-ltb c b l)

  -- more blocks are wanted
  way_more : b < c → way_to es k b c ≡ way_to_grow es k b c
  unfolding way_to
  way_more l = rw (ne_eqb c b (λ e. omega arith), le-ltb c b (omega arith))

  pub way_grow : b < c → GrowsInPlace es k b c → way_to es k b c ≡ grow
  unfolding way_to_grow
  way_grow l g = rw (way_more l, grows_of es k b c g)

  module _ (inside : k + b ≤ length es) where
    -- it may not grow where it is
    pub way_elsewhere : b < c → (GrowsInPlace es k b c → ⊥) → way_to es k b c ≡ moves_to (first_fit es c)
    unfolding way_to_grow
    way_elsewhere l full = rw (way_more l) (go (grows_in_place es k b c) refl)
      where
        go : (v : Bool) → grows_in_place es k b c ≡ v → pick v grow (moves_to (first_fit es c)) ≡ moves_to (first_fit es c)
        go true e = absurd (full (grows_says es k b c inside e))
        go false e = refl

    pub way_says : 0 < c → Ways es k b c (way_to es k b c)
    unfolding moves_to
    way_says h = go (ℕ_discrete c b) (dec_lt c b)
      where
        found : b < c → (GrowsInPlace es k b c → ⊥) → (o : Option ℕ) → Lowest es c o → Ways es k b c (moves_to o)
        found l full none low = stuck l full low
        found l full (some s) low = moves l full low

        more : b < c → (v : Bool) → grows_in_place es k b c ≡ v → Ways es k b c (way_to es k b c)
        more l true e = let g = grows_says es k b c inside e in rw (way_grow l g) (grows l g)
        more l false e =
            let full : GrowsInPlace es k b c → ⊥ = λ g. true_not_false (grows_of es k b c g) e in
            rw (way_elsewhere l full) (found l full (first_fit es c) (first_lowest es c h))

        go : Dec (c ≡ b) → Dec (c < b) → Ways es k b c (way_to es k b c)
        go (yes e) _ = rw (way_stay e) (stays e)
        go (no e) (yes l) = rw (way_shrink l) (shrinks l)
        go (no e) (no l) = more (omega arith) (grows_in_place es k b c) refl

    pub way_is : 0 < c → (w : Way) → Ways es k b c w → way_to es k b c ≡ w
    unfolding moves_to
    way_is h stay (stays e) = way_stay e
    way_is h shrink (shrinks l) = way_shrink l
    way_is h grow (grows l g) = way_grow l g
    way_is h (move s) (moves l full low) = way_elsewhere l full ∙ ap moves_to (first_is es c (some s) h low)
    way_is h no_way (stuck l full low) = way_elsewhere l full ∙ ap moves_to (first_is es c none h low)

-- ---- a request larger than the pool finds no room

pub request_nowhere : (es pool : List ℕ) (bytes : ℕ) → length pool ≡ 16 * length es → length pool < bytes → first_fit es (blocks_for bytes) ≡ none
request_nowhere es pool bytes e l =
    none_first es (blocks_for bytes) (blocks_some bytes (omega arith)) (λ s f. omega (arith, f.run.room, blocks_more bytes (length es) (omega arith)))

pub request_no_way : (es pool : List ℕ) (k bytes : ℕ) → length pool ≡ 16 * length es → length pool < bytes → entry_at es k ≡ HEAD
    → way_to es k (block_count es k) (blocks_for bytes) ≡ no_way
unfolding moves_to
request_no_way es pool k bytes e l head =
    let x = extent_of es k (entry_inside es k (λ f. omega arith)) in
    let more = blocks_more bytes (length es) (omega arith) in
    way_elsewhere es k (block_count es k) (blocks_for bytes) x.room (omega (arith, x.room)) (λ g. omega (arith, g.run.room))
    ∙ ap moves_to (request_nowhere es pool bytes e l)

-- ---- a run and an object do not meet

pub run_beside : (es : List ℕ) (c s k : ℕ) → 0 < c → Run es c s → entry_at es k ≡ HEAD → (s + c ≤ k) ⊎ (k + block_count es k ≤ s)
run_beside es c s k h run head =
    ⊎_elim inr inl (run_apart es k (block_count es k) s c (extent_of es k (entry_inside es k (λ f. omega arith))) h run head)

-- ---- reallocate

-- the tests of a reallocation that come before the room
abbrev resizes : ℕ → Heap → ℕ → ℕ → List Test
resizes base h k bytes = heap_tests base h ++ no_bytes bytes ∷ outside h k ∷ no_head h k ∷ []

module _ (base : ℕ) (h : Heap) (k bytes : ℕ) where
  -- one of them holds
  pub reallocate_refused : {r : ℕ} → r ≡ first_of (resizes base h k bytes) → (r ≡ 0 → ⊥) → leaves (only_refusal r) h ≡ reallocate base h k bytes
  unfolding reallocate
  reallocate_refused {r} e ne = sym (refuses r h [] _ (sym (refused_first (resizes base h k bytes) _ e ne)) (omega arith))

  -- none does: the way decides, and no way is refusal 9
  reallocate_goes : first_of (resizes base h k bytes) ≡ 0
      → along (way_to h.entries k (block_count h.entries k) (blocks_for bytes)) h k (block_count h.entries k) (blocks_for bytes) ≡ reallocate base h k bytes
  unfolding reallocate along
  reallocate_goes e =
      sym (rw (first_more (resizes base h k bytes) _ refl e) (go (way_to h.entries k (block_count h.entries k) (blocks_for bytes)) (block_count h.entries k) (blocks_for bytes)))
    where
      go : (w : Way) (b c : ℕ) → unless_refused (first_of (no_room (is_no_way w) ∷ [])) h [] (along w h k b c) ≡ along w h k b c
      go stay b c = accepts _ _ _ (first_last _ refl)
      go shrink b c = accepts _ _ _ (first_last _ refl)
      go grow b c = accepts _ _ _ (first_last _ refl)
      go (move s) b c = accepts _ _ _ (first_last _ refl)
      go no_way b c = refuses 9 _ _ _ (first_yes _ _ refl) (omega arith)

  module _ (e : first_of (resizes base h k bytes) ≡ 0) where
    pub reallocate_stuck : way_to h.entries k (block_count h.entries k) (blocks_for bytes) ≡ no_way → leaves (only_refusal 9) h ≡ reallocate base h k bytes
    unfolding along
    reallocate_stuck w = ap (λ (way : Way). along way h k (block_count h.entries k) (blocks_for bytes)) (sym w) ∙ reallocate_goes e

    -- from b blocks to c
    module _ (b c : ℕ) (old : b ≡ block_count h.entries k) (new : c ≡ blocks_for bytes) where
      goes : {w : Way} → way_to h.entries k b c ≡ w → along w h k b c ≡ reallocate base h k bytes
      goes p = ap (λ (w : Way). along w h k b c) (sym p) ∙ rw (old, new) (reallocate_goes e)

      -- no blocks given back is no change
      pub reallocate_shrinks : c ≤ b → placing h k (shrunk h k b c) ≡ reallocate base h k bytes
      unfolding along shrunk released
      reallocate_shrinks l = go (ℕ_discrete c b)
        where
          go : Dec (c ≡ b) → placing h k (shrunk h k b c) ≡ reallocate base h k bytes
          go (yes s) = let z : b - c ≡ 0 = omega arith in rw z (goes (way_stay h.entries k b c s))
          go (no s) = goes (way_shrink h.entries k b c (omega arith))

      pub reallocate_grows : b < c → GrowsInPlace h.entries k b c → placing h k (grown h k b c) ≡ reallocate base h k bytes
      unfolding along
      reallocate_grows l g = goes (way_grow h.entries k b c l g)

      pub reallocate_moves : k + b ≤ length h.entries → b < c → (GrowsInPlace h.entries k b c → ⊥)
          → along (moves_to (first_fit h.entries c)) h k b c ≡ reallocate base h k bytes
      reallocate_moves inside l full = goes (way_elsewhere h.entries k b c inside l full)
