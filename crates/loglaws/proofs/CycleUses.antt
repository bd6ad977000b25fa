-- A log that is filled to the last pair, over variables: a law that asked for more would not give this one.
-- Assumes nothing.
use mathlib.Core.Path.{◌≡◌, refl, ap, ap₂, sym, ◌∙◌}
use mathlib.Core.List.{List, [], ◌∷◌, ◌++◌, map, append_assoc, append-nil}
use Prim.Native.Nat.{ℕ, ◌+◌, ◌*◌, ◌/◌, ◌%◌, ◌≤◌, ◌<◌}
use native.Mathlib.Omega.{arith}
use lib.Dec.{leb}
use lib.IntN.{pos, neg_ℤ}
use lib.ListN.{length, length-append}
use borrow.Author.Tests.{eq-eqb, le-leb, lt-leb, le-ltb}
use Rattle.rules.specs.Tests.{pick}
use Rattle.rules.specs.Refusals.{first_of, whole_words}
use Rattle.rules.specs.Planes.{planes}
use Rattle.rules.specs.Runs.{Init}
use Rattle.rules.specs.Memory.{Memory, AcceptedIn, perform}
use Rattle.keeping.specs.Keeping.{GoodStack}
use Rattle.programs.specs.Programs.{run}
use Rattle.logs.specs.Log.{read}
use Rattle.loglaws.specs.Pairs.{Pair, read_pairs}
use Rattle.loglaws.specs.Cycle.{Deed, Append, Drop, replies_to, first_after, memory_after, Told, told, refused_on, done_on, told_on, pairs_on, told_by, pairs_after, AllInWords, LogIsList}
use Rattle.loglaws.proofs.Cycle.{log_is_list}

-- the caller's roots and the mark stack are as they should be
pub record Lists (roots stack : List ℕ) : Type 0 where
  pub whole : length roots % 4 ≡ 0
  pub few : length roots / 4 < 4096
  pub stacked : GoodStack stack

-- what an accepted append tells
abbrev pub added : Told
added = record { refusal = 0; change = pos 2 }

module _ (roots stack : List ℕ) (good : Lists roots stack) (time tips : ℕ) where
  -- of an append only room is asked
  asks_room : (room : ℕ) (ps : List Pair) → refused_on room (Append time tips roots stack) ps ≡ pick (leb room (length ps)) 9 0
  unfolding refused_on first_of whole_words
  asks_room room ps =
      rw (
        eq-eqb (length roots % 4) 0 good.whole,
        eq-eqb (length stack % 4) 0 good.stacked.whole,
        lt-leb 4096 (length roots / 4) good.few,
        le-ltb 64 (length stack / 4) good.stacked.short,
      ) refl

  -- with room for one pair more it is accepted
  adds : (room : ℕ) (ps : List Pair) → length ps < room → pairs_on room (Append time tips roots stack) ps ≡ ps ++ record { time = time; tips = tips } ∷ []
  unfolding done_on
  adds room ps l = rw (asks_room room ps, lt-leb room (length ps) l) refl

  adds_told : (room : ℕ) (ps : List Pair) → length ps < room → told_on room (Append time tips roots stack) ps ≡ added
  adds_told room ps l = rw (asks_room room ps, lt-leb room (length ps) l) refl

  -- without it is refused by 9
  stays : (room : ℕ) (ps : List Pair) → room ≤ length ps → pairs_on room (Append time tips roots stack) ps ≡ ps
  unfolding done_on
  stays room ps l = rw (asks_room room ps, le-leb room (length ps) l) refl

  stays_told : (room : ℕ) (ps : List Pair) → room ≤ length ps → told_on room (Append time tips roots stack) ps ≡ record { refusal = 9; change = pos 0 }
  stays_told room ps l = rw (asks_room room ps, le-leb room (length ps) l) refl

-- one append for each pair, with the same lists
abbrev pub appends : List ℕ → List ℕ → List Pair → List Deed
appends roots stack ps = map (λ (p : Pair). Append p.time p.tips roots stack) ps

-- as long as there is room, the list gets the pairs, in their order
module _ (roots stack : List ℕ) (good : Lists roots stack) (room : ℕ) (ds : List Deed) where
  appends_pairs : (ps qs : List Pair) → length qs + length ps ≤ room → pairs_after room (appends roots stack ps ++ ds) qs ≡ pairs_after room ds (qs ++ ps)
  unfolding pairs_after
  appends_pairs [] qs l = ap (pairs_after room ds) (sym (append-nil qs))
  appends_pairs (p ∷ ps) qs l =
      ap (pairs_after room (appends roots stack ps ++ ds)) (adds roots stack good p.time p.tips room qs (omega arith))
      ∙ appends_pairs ps (qs ++ p ∷ []) (omega (arith, length-append qs (p ∷ []))) ∙ ap (pairs_after room ds) (append_assoc qs (p ∷ []) ps)

  appends_told : (ps qs : List Pair) → length qs + length ps ≤ room
      → told_by room (appends roots stack ps ++ ds) qs ≡ map (λ (p : Pair). added) ps ++ told_by room ds (qs ++ ps)
  unfolding told_by
  appends_told [] qs l = ap (told_by room ds) (sym (append-nil qs))
  appends_told (p ∷ ps) qs l =
      let rest = appends_told ps (qs ++ p ∷ []) (omega (arith, length-append qs (p ∷ []))) in
      ap₂ ◌∷◌ (adds_told roots stack good p.time p.tips room qs (omega arith))
      (ap (told_by room (appends roots stack ps ++ ds)) (adds roots stack good p.time p.tips room qs (omega arith))
      ∙ rest ∙ ap (λ (xs : List Pair). map (λ (p : Pair). added) ps ++ told_by room ds xs) (append_assoc qs (p ∷ []) ps))

-- a drop takes the first pair away
drops : (room : ℕ) (p : Pair) (ps : List Pair) → pairs_on room Drop (p ∷ ps) ≡ ps
unfolding refused_on first_of done_on
drops room p ps = rw (lt-leb (length (p ∷ ps)) 0 (omega arith)) refl

drops_told : (room : ℕ) (p : Pair) (ps : List Pair) → told_on room Drop (p ∷ ps) ≡ record { refusal = 0; change = neg_ℤ (pos 2) }
unfolding refused_on first_of
drops_told room p ps = rw (lt-leb (length (p ∷ ps)) 0 (omega arith)) refl

-- As many appends as there is room for, one more, and a drop: the one more is refused by 9 and changes nothing, all others are accepted, and then the log is read as the pairs behind the
-- first. The pairs, the bytes of memory and of each list, and t are any.
pub filled : (t base : ℕ) (m : Memory) (p : Pair) (ps : List Pair) (roots stack roots' stack' : List ℕ) (time tips : ℕ) → Lists roots stack → Lists roots' stack'
    → AllInWords (appends roots stack (p ∷ ps) ++ Append time tips roots' stack' ∷ Drop ∷ []) → length (p ∷ ps) ≡ 2 * t → AcceptedIn (perform (planes t) (Init base) [] m)
    → let m₀ : Memory = (perform (planes t) (Init base) [] m).memory in
    let ds : List Deed = appends roots stack (p ∷ ps) ++ Append time tips roots' stack' ∷ Drop ∷ [] in
    (map told (replies_to (planes t) base ds 0 m₀)
    ≡ map (λ (q : Pair). added) (p ∷ ps) ++ record { refusal = 9; change = pos 0 } ∷ record { refusal = 0; change = neg_ℤ (pos 2) } ∷ [])
    × ((index : ℕ) → (run (planes t) (read base (first_after (planes t) base ds 0 m₀) index) [] (memory_after (planes t) base ds 0 m₀)).reply ≡ read_pairs ps index)
unfolding LogIsList told_by pairs_after
filled t base m p ps roots stack roots' stack' time tips good good' small long accepted =
    let last : List Deed = Append time tips roots' stack' ∷ Drop ∷ [] in
    let x = log_is_list t base m (appends roots stack (p ∷ ps) ++ last) small accepted in
    let full : 2 * t ≤ length (p ∷ ps) = omega (arith, long) in
    let same = stays roots' stack' good' time tips (2 * t) (p ∷ ps) full in (
      x.0 ∙ appends_told roots stack good (2 * t) last (p ∷ ps) [] (omega (arith, long))
          ∙ ap (λ (xs : List Told). map (λ (q : Pair). added) (p ∷ ps) ++ xs)
          (ap₂ ◌∷◌ (stays_told roots' stack' good' time tips (2 * t) (p ∷ ps) full) (ap (told_by (2 * t) (Drop ∷ [])) same ∙ ap (λ (y : Told). y ∷ []) (drops_told (2 * t) p ps))),
      λ index.
          x.1 index
          ∙ ap (λ (qs : List Pair). read_pairs qs index)
          (appends_pairs roots stack good (2 * t) last (p ∷ ps) [] (omega (arith, long)) ∙ ap (pairs_after (2 * t) (Drop ∷ [])) same ∙ drops (2 * t) p ps),
    )
