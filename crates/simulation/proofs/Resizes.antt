-- Reallocate agrees with the plain list, each of its ways by itself: as it is, fewer blocks, more in place, a move, no room.
-- Assumes nothing.
use mathlib.Core.Path.{◌≡◌, refl, sym, ◌∙◌}
use mathlib.Core.Logic.{◌≢◌}
use mathlib.Core.Bool.{Bool, true, false}
use mathlib.Core.List.{List, [], ◌∷◌, ◌++◌}
use mathlib.Core.Option.{Option, some, none}
use Prim.Native.Nat.{ℕ, ◌+◌, ◌-◌, ◌*◌, ◌≤◌, ◌<◌}
use native.Mathlib.Decide.{dec_lt}
use native.Mathlib.Omega.{arith}
use lib.Dec.{eqb, leb, ltb}
use lib.ListN.{length, get_or, take, drop, replicate, length-drop, length-replicate}
use lib.Seq.{sets, length-sets, length-take-le, get_or-take}
use borrow.Author.Tests.{ne_eqb, le-leb, lt-leb, leb-true, ltb-true, ltb-false, eqb-false}
use Rattle.rules.specs.Tests.{pick, both}
use Rattle.rules.specs.Words.{word_at}
use Rattle.rules.specs.Entries.{TAIL}
use Rattle.rules.specs.Tables.{entry_at, free_from, first_fit, grows_in_place, placed, released, extended}
use Rattle.laws.specs.Meaning.{Extent, Run}
use Rattle.rules.specs.Outcomes.{Heap, unless_refused, cleared_blocks}
use Rattle.rules.specs.Refusals.{first_of, no_bytes, no_room}
use Rattle.rules.specs.Calls.{blocks_for, Way, stay, shrink, grow, is_no_way, shrunk, grown, moved, moves_to, way_to_grow, way_to, along, reallocate}
use Rattle.rules.specs.Runs.{Reallocate}
use Rattle.laws.proofs.Refusals.{both_right}
use Rattle.laws.proofs.Tables.{count_is, first_fits}
use Rattle.laws.proofs.Changes.{placed_length, released_length, extended_length, released_in, released_out, extended_in, extended_out}
use Rattle.plain.specs.Objects.{Object, object, Plain, end, padded, find, place_from, lowest_gap, next_start, insert, remove, replace}
use Rattle.plain.specs.Replies.{Reply, places, moved_into, resized, reply}
use Rattle.simulation.proofs.Laid.{Clear, Lies, Laid}
use Rattle.simulation.proofs.Gaps.{place_own, Gap, gap_free, next_gap}
use Rattle.simulation.proofs.Words.{words_out, words_in, word_zero, word_front, word_behind, word_part, padded_front, padded_rest, padded_length}
use Rattle.simulation.proofs.Edits.{Edit, laid_lower, laid_raise, laid_kept, laid_replace}
use Rattle.simulation.proofs.Agrees.{Represents, represents_other, Agrees, agree_refused, agree_test, agree_heap, agree_named, agree_placing}
use Rattle.simulation.proofs.Places.{release_laid, put_laid, low}

-- an object put elsewhere does not hide another
find_insert : (x : Object) (k : ℕ) → x.start ≢ k → (os : List Object) → find k (insert x os) ≡ find k os
unfolding find insert
find_insert x k n [] = rw (ne_eqb x.start k n)
find_insert x k n (o ∷ os) = go (ltb x.start o.start) (find_insert x k n os)
  where
    go : (t : Bool) → find k (insert x os) ≡ find k os → find k (pick t (x ∷ o ∷ os) (o ∷ insert x os)) ≡ find k (o ∷ os)
    go true i = rw (ne_eqb x.start k n)
    go false i = rw i

-- an object of a laid list
module _ (pool es : List ℕ) (sized : length pool ≡ 16 * length es) (o : Object) (y : Lies pool es o) (room : end o ≤ length es) (c : ℕ) where
  -- ---- fewer blocks

  module _ (some_block : 0 < c) (fewer : c < o.blocks) where
    abbrev cut : List ℕ
    cut = released es (o.start + c) (o.blocks - c)

    shrink_edit : Edit pool es pool cut o.start o.blocks
    shrink_edit = record {
      long = released_length es (o.start + c) (o.blocks - c);
      entries = λ k out. released_out es (o.start + c) (o.blocks - c) k (λ l u. out (omega arith) (omega arith));
      words = λ i out. refl;
    }

    shrink_lies : Lies pool cut (object o.start c (take (4 * c) o.words))
    shrink_lies =
        let l = y.words.long in
        record {
          some_block = some_block;
          head = released_out es (o.start + c) (o.blocks - c) o.start (λ l u. omega arith) ∙ y.head;
          tails = λ k l u. released_out es (o.start + c) (o.blocks - c) k (λ p q. omega arith) ∙ y.tails k l (omega arith);
          words = record {
            long = length-take-le (4 * c) o.words (omega arith);
            at = λ j u. get_or-take (4 * c) o.words j 0 u ∙ y.words.at j (omega arith);
          };
        }

    shrink_tail : (os : List Object) → Laid pool es (end o) os → Laid pool cut (o.start + c) os
    shrink_tail os t =
        laid_lower (laid_kept shrink_edit t (omega arith)) (o.start + c) (omega arith)
        (λ k l u. let e : o.start + c + (k - (o.start + c)) ≡ k = omega arith in
        rw e at (released_in es (o.start + c) (o.blocks - c) (k - (o.start + c)) (omega arith) (omega arith)))

    pub shrink_laid : {os : List Object} → Laid pool es 0 os → find o.start os ≡ some o → Laid pool cut 0 (replace (object o.start c (take (4 * c) o.words)) os)
    shrink_laid d q = laid_replace shrink_edit o (object o.start c (take (4 * c) o.words)) refl refl shrink_lies shrink_tail d q

  -- ---- more blocks

  module _ (more : o.blocks < c) where
    pad_long : length (padded o c) ≡ 4 * c
    pad_long = padded_length o.words (4 * o.blocks) (4 * (c - o.blocks)) (4 * c) y.words.long (omega arith)

    -- in place
    module _ (clear : Clear es (end o) (o.start + c)) (fits : o.start + c ≤ length es) where
      abbrev zeros : List ℕ
      zeros = replicate (16 * (c - o.blocks)) 0

      abbrev wiped : List ℕ
      wiped = sets pool (16 * (end o)) zeros

      wiped_at : wiped ≡ sets pool (4 * (4 * end o)) zeros
      wiped_at = let e : 16 * (end o) ≡ 4 * (4 * end o) = omega arith in rw e

      zeros_long : length zeros ≡ 4 * (4 * (c - o.blocks))
      zeros_long = length-replicate (16 * (c - o.blocks)) 0 ∙ omega arith

      wiped_out : (i : ℕ) → (4 * end o ≤ i → i < 4 * (o.start + c) → ⊥) → word_at wiped i ≡ word_at pool i
      wiped_out i out = rw wiped_at (words_out pool zeros (4 * end o) (4 * (c - o.blocks)) zeros_long i (λ l u. out l (omega arith)))

      wiped_in : (j : ℕ) → j < 4 * (c - o.blocks) → word_at wiped (4 * end o + j) ≡ 0
      wiped_in j u = rw wiped_at (words_in pool zeros (4 * end o) (4 * (c - o.blocks)) zeros_long (omega arith) j u ∙ word_zero (16 * (c - o.blocks)) j)

      grow_edit : Edit pool es wiped (extended es (end o) (c - o.blocks)) o.start c
      grow_edit = record {
        long = extended_length es (end o) (c - o.blocks);
        entries = λ k out. extended_out es (end o) (c - o.blocks) k (λ l u. out (omega arith) (omega arith));
        words = λ i out. wiped_out i (λ l u. out (omega arith) (omega arith));
      }

      grow_tails : (k : ℕ) → o.start < k → k < o.start + c → Dec (k < end o) → entry_at (extended es (end o) (c - o.blocks)) k ≡ TAIL
      grow_tails k l u (yes h) = extended_out es (end o) (c - o.blocks) k (λ p q. omega arith) ∙ y.tails k l h
      grow_tails k l u (no h) =
          let e : end o + (k - end o) ≡ k = omega arith in
          rw e at (extended_in es (end o) (c - o.blocks) (k - end o) (omega arith) (omega arith))

      grow_words : (j : ℕ) → j < 4 * c → Dec (j < 4 * o.blocks) → get_or (padded o c) j 0 ≡ word_at wiped (4 * o.start + j)
      grow_words j l (yes h) =
          padded_front o.words (4 * o.blocks) (4 * (c - o.blocks)) j y.words.long h ∙ y.words.at j h
          ∙ sym (wiped_out (4 * o.start + j) (λ p q. omega arith))
      grow_words j l (no h) =
          let e : 4 * o.start + j ≡ 4 * end o + (j - 4 * o.blocks) = omega arith in
          padded_rest o.words (4 * o.blocks) (4 * (c - o.blocks)) j y.words.long (omega arith)
          ∙ rw e (sym (wiped_in (j - 4 * o.blocks) (omega arith)))

      grow_lies : Lies wiped (extended es (end o) (c - o.blocks)) (object o.start c (padded o c))
      grow_lies =
          let b = y.some_block in
          record {
            some_block = omega arith;
            head = extended_out es (end o) (c - o.blocks) o.start (λ p q. omega arith) ∙ y.head;
            tails = λ k l u. grow_tails k l u (dec_lt k (end o));
            words = record { long = pad_long; at = λ j l. grow_words j l (dec_lt j (4 * o.blocks)) };
          }

      grow_tail : (os : List Object) → Laid pool es (end o) os → Laid wiped (extended es (end o) (c - o.blocks)) (o.start + c) os
      grow_tail os t = laid_kept grow_edit (laid_raise t (o.start + c) (omega arith) fits clear) (omega arith)

      pub grow_laid : {os : List Object} → Laid pool es 0 os → find o.start os ≡ some o
          → Laid wiped (extended es (end o) (c - o.blocks)) 0 (replace (object o.start c (padded o c)) os)
      grow_laid d q = laid_replace grow_edit o (object o.start c (padded o c)) refl refl grow_lies grow_tail d q

    -- by a move
    module _ (s : ℕ) (run : Run es c s) where
      abbrev front : List ℕ
      front = take (16 * o.blocks) (drop (16 * o.start) pool)

      abbrev copied : List ℕ
      copied = front ++ replicate (16 * (c - o.blocks)) 0

      front_long : length front ≡ 16 * o.blocks
      front_long = length-take-le (16 * o.blocks) (drop (16 * o.start) pool) (simp length-drop (omega arith))

      copied_long : length copied ≡ 16 * c
      copied_long = padded_length front (16 * o.blocks) (16 * (c - o.blocks)) (16 * c) front_long (omega arith)

      front_words : (j : ℕ) → j < 4 * o.blocks → word_at front j ≡ word_at pool (4 * o.start + j)
      front_words j h =
          let e : 16 * o.blocks ≡ 4 * (4 * o.blocks) = omega arith in
          let f : 16 * o.start ≡ 4 * (4 * o.start) = omega arith in
          rw (e, f) (word_part pool (4 * o.start) (4 * o.blocks) j h)

      move_words : (j : ℕ) → j < 4 * c → Dec (j < 4 * o.blocks) → get_or (padded o c) j 0 ≡ word_at copied j
      move_words j l (yes h) =
          padded_front o.words (4 * o.blocks) (4 * (c - o.blocks)) j y.words.long h ∙ y.words.at j h ∙ sym (front_words j h)
          ∙ sym (word_front front (replicate (16 * (c - o.blocks)) 0) (4 * o.blocks) j (front_long ∙ omega arith) h)
      move_words j l (no h) =
          let e : j ≡ 4 * o.blocks + (j - 4 * o.blocks) = omega arith in
          let w = word_behind front (replicate (16 * (c - o.blocks)) 0) (4 * o.blocks) (j - 4 * o.blocks) (front_long ∙ omega arith) in
          padded_rest o.words (4 * o.blocks) (4 * (c - o.blocks)) j y.words.long (omega arith)
          ∙ sym ((rw (← e) at w) ∙ word_zero (16 * (c - o.blocks)) (j - 4 * o.blocks))

      apart : s ≢ o.start
      apart e =
          let f : s + 0 ≡ s = omega arith in
          let h = y.head in
          omega (arith, rw (f, e) at (run.free 0 (omega arith)))

      pub move_laid : {os : List Object} → Laid pool es 0 os → find o.start os ≡ some o
          → Laid (sets pool (16 * s) copied) (released (placed es s c) o.start o.blocks) 0 (remove o.start (insert (object s c (padded o c)) os))
      move_laid {os} d q =
          release_laid (sets pool (16 * s) copied) (placed es s c) o (rw (placed_length es s c) room)
          (put_laid pool es s c copied sized copied_long (omega arith) run (padded o c) pad_long (λ j l. move_words j l (dec_lt j (4 * o.blocks))) d)
          (find_insert (object s c (padded o c)) o.start apart os ∙ q)

-- ---- the ways

leb_same : (a b c d : ℕ) → (a ≤ b → c ≤ d) → (c ≤ d → a ≤ b) → leb a b ≡ leb c d
leb_same a b c d f g = go (dec_lt b a)
  where
    go : Dec (b < a) → leb a b ≡ leb c d
    go (yes h) = lt-leb a b h ∙ sym (lt-leb c d (to (dec_lt d c)))
      where
        to : Dec (d < c) → d < c
        to (yes l) = l
        to (no l) = absurd (omega (arith, g (omega arith)))
    go (no h) = le-leb a b (omega arith) ∙ sym (le-leb c d (f (omega arith)))

module _ {p : Plain} {h : Heap} (r : Represents p h) (o : Object) (q : find o.start p.objects ≡ some o) (y : Lies h.pool h.entries o)
    (x : Extent h.entries o.start o.blocks) (c : ℕ) where
  -- the call takes this way
  abbrev Goes : Reply → Way → Type 0
  Goes a w = Agrees a (unless_refused (first_of (no_room (is_no_way w) ∷ [])) h [] (along w h o.start o.blocks c))

  abbrev as_it_is : Reply
  as_it_is = places p o.start p.objects

  abbrev cut_back : Reply
  cut_back = places p o.start (replace (object o.start c (take (4 * c) o.words)) p.objects)

  abbrev extended_by : Reply
  extended_by = places p o.start (replace (object o.start c (padded o c)) p.objects)

  abbrev moved_away : Reply
  moved_away = moved_into p o c (lowest_gap p.size c 0 p.objects)

  abbrev room_after : Bool
  room_after = leb (o.start + c) (next_start p.size o.start p.objects)

  abbrev may_grow : Bool
  may_grow = both (eqb (place_from c o.start) o.start) room_after

  goes_stay : Goes as_it_is stay
  unfolding unless_refused first_of along
  goes_stay = agree_placing r o.start p.objects h r

  goes_shrink : 0 < c → c < o.blocks → Goes cut_back shrink
  unfolding unless_refused first_of along shrunk
  goes_shrink l u =
      agree_placing r o.start _ (shrunk h o.start o.blocks c)
      (represents_other r _ _ refl (released_length h.entries (o.start + c) (o.blocks - c))
      (shrink_laid h.pool h.entries r.pool o y x.room c l u r.laid q))

  -- more blocks in place if the gap after the object has room
  gap : Gap h.entries (end o) (next_start p.size o.start p.objects)
  gap = rw r.size (next_gap r.laid o q)

  gap_test : o.blocks < c → leb (c - o.blocks) (free_from h.entries (end o)) ≡ room_after
  gap_test u =
      let f = gap_free h.entries (end o) (next_start p.size o.start p.objects) gap in
      let g = gap.from in
      leb_same (c - o.blocks) (free_from h.entries (end o)) (o.start + c) (next_start p.size o.start p.objects) (λ i. omega arith) (λ i. omega arith)

  grow_test : o.blocks < c → grows_in_place h.entries o.start o.blocks c ≡ may_grow
  unfolding grows_in_place
  grow_test u = rw (gap_test u, place_own c o.start)

  goes_grow : o.blocks < c → o.start + c ≤ next_start p.size o.start p.objects → Goes extended_by grow
  unfolding unless_refused first_of along grown cleared_blocks
  goes_grow u l =
      let g = gap.room in
      agree_placing r o.start _ (grown h o.start o.blocks c)
      (represents_other r _ _ (length-sets h.pool (16 * end o) (replicate (16 * (c - o.blocks)) 0)) (extended_length h.entries (end o) (c - o.blocks))
      (grow_laid h.pool h.entries r.pool o y x.room c u (λ k i j. gap.clear k i (omega arith)) (omega arith) r.laid q))

  goes_move : o.blocks < c → (start : Option ℕ) → first_fit h.entries c ≡ start → Goes (moved_into p o c start) (moves_to start)
  unfolding unless_refused first_of along moved moved_into moves_to
  goes_move u none e = agree_refused r 9 []
  goes_move u (some s) e =
      agree_placing r s _ (moved h o.start o.blocks c s)
      (represents_other r _ _ (length-sets h.pool (16 * s) (take (16 * o.blocks) (drop (16 * o.start) h.pool) ++ replicate (16 * (c - o.blocks)) 0)) (released_length (placed h.entries s c) o.start o.blocks ∙ placed_length h.entries s c)
      (move_laid h.pool h.entries r.pool o y x.room c u s (first_fits h.entries c s (omega arith) e).run r.laid q))

  goes_further : o.blocks < c → (t : Bool) → may_grow ≡ t → Goes (pick t extended_by moved_away) (pick t grow (moves_to (first_fit h.entries c)))
  goes_further u true e = goes_grow u (leb-true _ _ (both_right (eqb (place_from c o.start) o.start) room_after e))
  goes_further u false e = rw (low r c (omega arith)) (goes_move u (first_fit h.entries c) refl)

  pub resize_agrees : 0 < c → Goes (resized p o c) (way_to h.entries o.start o.blocks c)
  unfolding resized way_to way_to_grow
  resize_agrees l = same (eqb c o.blocks) refl
    where
      more : o.blocks < c → Goes (pick may_grow extended_by moved_away) (way_to_grow h.entries o.start o.blocks c)
      more u = rw (grow_test u) (goes_further u may_grow refl)

      fewer : c ≢ o.blocks → (t : Bool) → ltb c o.blocks ≡ t
          → Goes (pick t cut_back (pick may_grow extended_by moved_away)) (pick t shrink (way_to_grow h.entries o.start o.blocks c))
      fewer n true e = goes_shrink l (ltb-true _ _ e)
      fewer n false e = let u = ltb-false c o.blocks e in more (omega arith)

      same : (t : Bool) → eqb c o.blocks ≡ t
          → Goes (pick t as_it_is (pick (ltb c o.blocks) cut_back (pick may_grow extended_by moved_away)))
          (pick t stay (pick (ltb c o.blocks) shrink (way_to_grow h.entries o.start o.blocks c)))
      same true e = goes_stay
      same false e = fewer (eqb-false _ _ e) (ltb c o.blocks) refl

module _ {p : Plain} {h : Heap} (r : Represents p h) where
  pub reallocate_agrees : (base k bytes : ℕ) (stack : List ℕ) → Agrees (reply (Reallocate base k bytes) stack p) (reallocate base h k bytes)
  unfolding reply reallocate blocks_for
  reallocate_agrees base k bytes stack =
      agree_heap r base _ [] _ _
      (agree_test r (no_bytes bytes) _ (eqb bytes 0) [] _ _ (omega arith) refl
      (λ e. agree_named r k _ _ (λ o. resized p o (blocks_for bytes))
      (λ o q s y x. rw (count_is h.entries k o.blocks x, ← s)
      (resize_agrees r o (rw (← s) at q) y (rw (← s) at x) (blocks_for bytes) (go (eqb-false bytes 0 e))))))
    where
      go : bytes ≢ 0 → 0 < blocks_for bytes
      go n = omega arith
