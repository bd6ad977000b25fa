-- Deeds that are refused on a log's way, over variables: a drop of the empty log, and appends with bad lists. Each tells its number and no change, and what follows is as if it had not been.
-- Assumes nothing.
use mathlib.Core.Path.{◌≡◌, refl, ap, sym, ◌∙◌}
use mathlib.Core.Logic.{◌≢◌}
use mathlib.Core.List.{List, [], ◌∷◌, map}
use Prim.Native.Nat.{ℕ, ◌/◌, ◌%◌, ◌^◌, ◌≤◌, ◌<◌}
use native.Mathlib.Omega.{arith}
use lib.IntN.{pos}
use lib.ListN.{length}
use borrow.Author.Tests.{eq-eqb, ne_eqb, le-leb, lt-leb, lt-ltb}
use Rattle.rules.specs.Refusals.{first_of, whole_words}
use Rattle.rules.specs.Planes.{planes}
use Rattle.rules.specs.Runs.{Init}
use Rattle.rules.specs.Memory.{Memory, AcceptedIn, perform}
use Rattle.programs.specs.Programs.{run}
use Rattle.logs.specs.Log.{read}
use Rattle.loglaws.specs.Pairs.{Pair, read_pairs}
use Rattle.loglaws.specs.Cycle.{Deed, Append, Drop, replies_to, first_after, memory_after, Told, told, refused_on, told_by, pairs_after, room_in, InWords, AllInWords, next, LogIsList}
use Rattle.loglaws.proofs.Cycle.{log_is_list}

-- what a refused deed tells
abbrev pub unmoved : ℕ → Told
unmoved n = record { refusal = n; change = pos 0 }

-- a deed that is refused is told, and skipped
module _ (room n : ℕ) (d : Deed) (ds : List Deed) (ps : List Pair) (some_number : n ≢ 0) (number : refused_on room d ps ≡ n) where
  skips_told : told_by room (d ∷ ds) ps ≡ unmoved n ∷ told_by room ds ps
  unfolding told_by
  skips_told = rw (number, ne_eqb n 0 some_number) refl

  skips_pairs : pairs_after room (d ∷ ds) ps ≡ pairs_after room ds ps
  unfolding pairs_after
  skips_pairs = rw (number, ne_eqb n 0 some_number) refl

-- ---- the numbers

module _ (time tips : ℕ) (roots stack : List ℕ) (room : ℕ) (ps : List Pair) where
  abbrev refused : ℕ
  refused = refused_on room (Append time tips roots stack) ps

  torn_roots : length roots % 4 ≢ 0 → refused ≡ 1
  unfolding refused_on first_of whole_words
  torn_roots torn = rw (ne_eqb (length roots % 4) 0 torn) refl

  module _ (whole : length roots % 4 ≡ 0) where
    torn_stack : length stack % 4 ≢ 0 → refused ≡ 1
    unfolding refused_on first_of whole_words
    torn_stack torn = rw (eq-eqb (length roots % 4) 0 whole, ne_eqb (length stack % 4) 0 torn) refl

    module _ (stacked : length stack % 4 ≡ 0) where
      many_roots : 4096 ≤ length roots / 4 → refused ≡ 3
      unfolding refused_on first_of whole_words
      many_roots many = rw (eq-eqb (length roots % 4) 0 whole, eq-eqb (length stack % 4) 0 stacked, le-leb 4096 (length roots / 4) many) refl

      long_stack : length roots / 4 < 4096 → 64 < length stack / 4 → refused ≡ 4
      unfolding refused_on first_of whole_words
      long_stack few long =
          rw (eq-eqb (length roots % 4) 0 whole, eq-eqb (length stack % 4) 0 stacked, lt-leb 4096 (length roots / 4) few, lt-ltb 64 (length stack / 4) long) refl

empty_drop : (room : ℕ) → refused_on room Drop [] ≡ 19
unfolding refused_on first_of
empty_drop room = refl

-- A drop of the empty log, and four appends: one with roots and one with a mark stack that are not whole words, one with too many roots even if its mark stack is too long, and one with a mark
-- stack that is. They tell 19, 1, 1, 3 and 4; then any deeds tell what they tell without them, and the log reads as without them. The lists are any such.
pub refused_first : (t base : ℕ) (m : Memory) (time tips : ℕ) (torn roots torn' many any roots' long list : List ℕ) (ds : List Deed)
    → time < 2 ^ 32 → tips < 2 ^ 32 → AllInWords ds → AcceptedIn (perform (planes t) (Init base) [] m)
    → length torn % 4 ≢ 0
    → length roots % 4 ≡ 0 → length torn' % 4 ≢ 0
    → length many % 4 ≡ 0 → length any % 4 ≡ 0 → 4096 ≤ length many / 4
    → length roots' % 4 ≡ 0 → length long % 4 ≡ 0 → length roots' / 4 < 4096 → 64 < length long / 4
    → let m₀ : Memory = (perform (planes t) (Init base) [] m).memory in
    let all : List Deed = Drop ∷ Append time tips torn list ∷ Append time tips roots torn' ∷ Append time tips many any ∷ Append time tips roots' long ∷ ds in
    (map told (replies_to (planes t) base all 0 m₀) ≡ unmoved 19 ∷ unmoved 1 ∷ unmoved 1 ∷ unmoved 3 ∷ unmoved 4 ∷ map told (replies_to (planes t) base ds 0 m₀))
    × ((index : ℕ) → (run (planes t) (read base (first_after (planes t) base all 0 m₀) index) [] (memory_after (planes t) base all 0 m₀)).reply
    ≡ (run (planes t) (read base (first_after (planes t) base ds 0 m₀) index) [] (memory_after (planes t) base ds 0 m₀)).reply)
unfolding LogIsList InWords
refused_first t base m time tips torn roots torn' many any roots' long list ds small small' rest accepted bad whole bad' whole' stacked lots whole'' stacked' few deep =
    let room : ℕ = room_in t in
    let a : Deed = Append time tips torn list in
    let b : Deed = Append time tips roots torn' in
    let c : Deed = Append time tips many any in
    let d : Deed = Append time tips roots' long in
    let x = log_is_list t base m (Drop ∷ a ∷ b ∷ c ∷ d ∷ ds) (next tt (next (small, small') (next (small, small') (next (small, small') (next (small, small') rest))))) accepted in
    let y = log_is_list t base m ds rest accepted in
    let zero_drop = empty_drop room in
    let of_a = torn_roots time tips torn list room [] bad in
    let of_b = torn_stack time tips roots torn' room [] whole bad' in
    let of_c = many_roots time tips many any room [] whole' stacked lots in
    let of_d = long_stack time tips roots' long room [] whole'' stacked' few deep in (
      x.0
          ∙ skips_told room 19 Drop (a ∷ b ∷ c ∷ d ∷ ds) [] (λ e. omega (arith, e)) zero_drop
          ∙ ap (λ (xs : List Told). unmoved 19 ∷ xs) (skips_told room 1 a (b ∷ c ∷ d ∷ ds) [] (λ e. omega (arith, e)) of_a)
          ∙ ap (λ (xs : List Told). unmoved 19 ∷ unmoved 1 ∷ xs) (skips_told room 1 b (c ∷ d ∷ ds) [] (λ e. omega (arith, e)) of_b)
          ∙ ap (λ (xs : List Told). unmoved 19 ∷ unmoved 1 ∷ unmoved 1 ∷ xs) (skips_told room 3 c (d ∷ ds) [] (λ e. omega (arith, e)) of_c)
          ∙ ap (λ (xs : List Told). unmoved 19 ∷ unmoved 1 ∷ unmoved 1 ∷ unmoved 3 ∷ xs) (skips_told room 4 d ds [] (λ e. omega (arith, e)) of_d)
          ∙ ap (λ (xs : List Told). unmoved 19 ∷ unmoved 1 ∷ unmoved 1 ∷ unmoved 3 ∷ unmoved 4 ∷ xs) (sym y.0),
      λ index.
          x.1 index
          ∙ ap (λ (ps : List Pair). read_pairs ps index)
          (skips_pairs room 19 Drop (a ∷ b ∷ c ∷ d ∷ ds) [] (λ e. omega (arith, e)) zero_drop
          ∙ skips_pairs room 1 a (b ∷ c ∷ d ∷ ds) [] (λ e. omega (arith, e)) of_a
          ∙ skips_pairs room 1 b (c ∷ d ∷ ds) [] (λ e. omega (arith, e)) of_b
          ∙ skips_pairs room 3 c (d ∷ ds) [] (λ e. omega (arith, e)) of_c
          ∙ skips_pairs room 4 d ds [] (λ e. omega (arith, e)) of_d)
          ∙ sym (y.1 index),
    )
