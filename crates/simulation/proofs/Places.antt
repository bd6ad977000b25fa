-- Free and allocate agree with the plain list: an object removed, or put into a gap.
-- Assumes nothing.
use mathlib.Core.Path.{◌≡◌, refl, sym, ap, ◌∙◌}
use mathlib.Core.Logic.{◌≢◌}
use mathlib.Core.List.{List, [], ◌∷◌}
use mathlib.Core.Option.{Option, some, none}
use Prim.Native.Nat.{ℕ, ◌+◌, ◌-◌, ◌*◌, ◌≤◌, ◌<◌}
use native.Mathlib.Omega.{arith}
use lib.Dec.{eqb}
use lib.ListN.{length, get_or, replicate, length-replicate}
use lib.Seq.{sets, length-sets}
use borrow.Author.Tests.{eqb-false}
use Rattle.rules.specs.Tests.{is_none, or_else}
use Rattle.rules.specs.Words.{word_at}
use Rattle.rules.specs.Tables.{block_count, first_fit, placed, released}
use Rattle.laws.specs.Meaning.{Run}
use Rattle.rules.specs.Outcomes.{Heap, unless_refused, cleared_blocks}
use Rattle.rules.specs.Refusals.{first_of, no_bytes, outside, no_head, no_room}
use Rattle.rules.specs.Calls.{blocks_for, taken, placing, allocate, freed, free}
use Rattle.rules.specs.Runs.{Allocate, Free}
use Rattle.laws.proofs.Tables.{count_is, first_fits}
use Rattle.laws.proofs.Changes.{placed_length, released_length, placed_head, placed_tail, placed_out, released_in, released_out}
use Rattle.plain.specs.Objects.{Object, object, Plain, end, find, lowest_gap, insert, remove}
use Rattle.plain.specs.Replies.{places, allocated_at, reply}
use Rattle.simulation.proofs.Laid.{Clear, Lies, Laid}
use Rattle.simulation.proofs.Gaps.{laid_lowest}
use Rattle.simulation.proofs.Words.{words_out, words_in, zero_at, word_zero}
use Rattle.simulation.proofs.Edits.{Edit, laid_insert, laid_remove}
use Rattle.simulation.proofs.Agrees.{Represents, represents_other, Agrees, agree_refused, agree_test, agree_heap, agree_named, agree_placing}

-- ---- free

-- an object's blocks released
module _ (pool es : List ℕ) (o : Object) (room : end o ≤ length es) where
  release_edit : Edit pool es pool (released es o.start o.blocks) o.start o.blocks
  release_edit = record {
    long = released_length es o.start o.blocks;
    entries = λ k out. released_out es o.start o.blocks k out;
    words = λ i out. refl;
  }

  release_clear : Clear (released es o.start o.blocks) o.start (o.start + o.blocks)
  release_clear k l u =
      let e : o.start + (k - o.start) ≡ k = omega arith in
      rw e at (released_in es o.start o.blocks (k - o.start) room (omega arith))

  pub release_laid : {os : List Object} → Laid pool es 0 os → find o.start os ≡ some o → Laid pool (released es o.start o.blocks) 0 (remove o.start os)
  release_laid d q = laid_remove release_edit o refl refl release_clear d q

module _ {p : Plain} {h : Heap} (r : Represents p h) where
  pub free_agrees : (base k : ℕ) (stack : List ℕ) → Agrees (reply (Free base k) stack p) (free base h k)
  unfolding reply free freed unless_refused first_of
  free_agrees base k stack =
      agree_heap r base (outside h k ∷ no_head h k ∷ []) [] _ _
      (agree_named r k [] _ (λ o. places p 0 (remove k p.objects))
      (λ o q s y x. let b = count_is h.entries k o.blocks x in
      let u = x.room in
      agree_placing r 0 (remove k p.objects) (freed h k)
      (represents_other r (freed h k) (remove k p.objects) refl (released_length h.entries k (block_count h.entries k))
      (rw (b, ← s) (release_laid h.pool h.entries o (omega arith) r.laid (rw (← s) at q))))))

-- ---- a new object

-- b blocks from s on taken, and these bytes stored there
module _ (pool es : List ℕ) (s b : ℕ) (vs : List ℕ) (sized : length pool ≡ 16 * length es) (whole : length vs ≡ 16 * b) (some_block : 0 < b) (run : Run es b s) where
  stored_at : sets pool (16 * s) vs ≡ sets pool (4 * (4 * s)) vs
  stored_at = let e : 16 * s ≡ 4 * (4 * s) = omega arith in rw e

  put_edit : Edit pool es (sets pool (16 * s) vs) (placed es s b) s b
  put_edit = record {
    long = placed_length es s b;
    entries = λ k out. placed_out es s b k some_block out;
    words = λ i out. rw stored_at (words_out pool vs (4 * s) (4 * b) (omega arith) i (λ l u. out (omega arith) (omega arith)));
  }

  put_lies : (ws : List ℕ) → length ws ≡ 4 * b → ((j : ℕ) → j < 4 * b → get_or ws j 0 ≡ word_at vs j) → Lies (sets pool (16 * s) vs) (placed es s b) (object s b ws)
  put_lies ws long at =
      let m = run.room in
      record {
        some_block = some_block;
        head = placed_head es s b some_block run.room;
        tails = λ k l u. let e : s + (k - s) ≡ k = omega arith in rw e at (placed_tail es s b (k - s) run.room (omega arith) (omega arith));
        words = record {
          long = long;
          at = λ j l. at j l ∙ rw stored_at (sym (words_in pool vs (4 * s) (4 * b) (omega arith) (omega arith) j l));
        };
      }

  pub put_laid : (ws : List ℕ) → length ws ≡ 4 * b → ((j : ℕ) → j < 4 * b → get_or ws j 0 ≡ word_at vs j)
      → {os : List Object} → Laid pool es 0 os → Laid (sets pool (16 * s) vs) (placed es s b) 0 (insert (object s b ws) os)
  put_laid ws long at d = laid_insert put_edit (object s b ws) refl refl run (put_lies ws long at) d (omega arith)

module _ {p : Plain} {h : Heap} (r : Represents p h) where
  pub low : (b : ℕ) → 0 < b → lowest_gap p.size b 0 p.objects ≡ first_fit h.entries b
  low b l = ap (λ (n : ℕ). lowest_gap n b 0 p.objects) r.size ∙ sym (laid_lowest b l r.laid)

  alloc_agrees : (b : ℕ) → 0 < b → (start : Option ℕ) → first_fit h.entries b ≡ start
      → Agrees (allocated_at p b start) (unless_refused (first_of (no_room (is_none start) ∷ [])) h [] (placing h (or_else start 0) (taken h (or_else start 0) b)))
  unfolding allocated_at unless_refused first_of taken cleared_blocks
  alloc_agrees b l none q = agree_refused r 9 []
  alloc_agrees b l (some s) q =
      agree_placing r s _ (taken h s b)
      (represents_other r (taken h s b) _ (length-sets h.pool (16 * s) (replicate (16 * b) 0)) (placed_length h.entries s b)
      (put_laid h.pool h.entries s b (replicate (16 * b) 0) r.pool (length-replicate (16 * b) 0) l (first_fits h.entries b s l q).run
      (replicate (4 * b) 0) (length-replicate (4 * b) 0) (λ j u. zero_at (4 * b) j ∙ sym (word_zero (16 * b) j)) r.laid))

  pub allocate_agrees : (base bytes : ℕ) (stack : List ℕ) → Agrees (reply (Allocate base bytes) stack p) (allocate base h bytes)
  unfolding reply allocate blocks_for
  allocate_agrees base bytes stack =
      agree_heap r base _ [] _ _
      (agree_test r (no_bytes bytes) _ (eqb bytes 0) [] _ _ (omega arith) refl
      (λ e. let l : 0 < blocks_for bytes = go (eqb-false bytes 0 e) in
      rw (low (blocks_for bytes) l) (alloc_agrees (blocks_for bytes) l (first_fit h.entries (blocks_for bytes)) refl)))
    where
      go : bytes ≢ 0 → 0 < blocks_for bytes
      go n = omega arith
