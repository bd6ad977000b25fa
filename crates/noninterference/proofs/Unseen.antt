-- Dead bytes are not seen: the same services are alike, the collection is accepted on both, and mark stacks of the same lengths leave no room for other rescans. With other mark stacks they are not
-- seen either, but for the rescans of collections.
-- Assumes nothing.
use mathlib.Core.Path.{◌≡◌, refl}
use mathlib.Core.Bool.{false}
use mathlib.Core.List.{List, [], ◌∷◌, map}
use Prim.Native.Nat.{ℕ}
use lib.ListN.{length}
use Rattle.rules.specs.Words.{words_of}
use Rattle.rules.specs.Planes.{planes}
use Rattle.rules.specs.Runs.{Collect}
use Rattle.rules.specs.Memory.{heap_in}
use Rattle.rules.specs.Lent.{Lent}
use Rattle.keeping.specs.Keeping.{Agree}
use Rattle.unwinding.specs.Answers.{SameStacks}
use Rattle.services.specs.Services.{HeapCall, Append, Response, refusal_of, Asked, asked, served_to, responses, responses_by}
use Rattle.noninterference.specs.Noninterference.{SameResponses, next, SameButPools, Indistinct}
use Rattle.noninterference.specs.Unseen.{stack_lengths, Unseen}
use Rattle.noninterference.proofs.Noninterference.{noninterference}
use Rattle.noninterference.proofs.AlikeServices.{alike_next}
use Rattle.noninterference.proofs.Hypotheses.{stacks_long, Paired, alike_paired, alike_long, also_accepted}
use Rattle.noninterference.proofs.Conclusions.{not_rescans, is_collection, response_other, same_but_rescans, same_lists, same_buffers, same_tables, same_beside, same_words}

pub unseen : Unseen
unfolding stack_lengths
unseen t base roots stack stack' l l' xs ys table beside long agree services lengths x =
    let e : length stack ≡ length stack' = cc in
    let f : stack_lengths xs ≡ stack_lengths ys = cc in
    let s = stacks_long stack stack' e in
    let but : SameButPools l l' = record { table = table; beside = beside } in
    let x' = also_accepted t base roots stack stack' l l' long but s x in
    let same = noninterference t base roots stack stack' l l' xs ys but agree (alike_next t (HeapCall (Collect base roots)) s (alike_long xs ys services f)) x x' in
    record { lists = same_lists same lengths; filled = same_buffers same; table = same_tables same; beside = same_beside same; words = same_words same }

-- ---- any services, each with any t and its own mark stacks

-- the second of two responses, where it is not to a collection
second_same : {x y x' y' : Asked} {a b c d : Response} → SameResponses (x ∷ y ∷ []) (x' ∷ y' ∷ []) (a ∷ b ∷ []) (c ∷ d ∷ []) → is_collection y.service ≡ false → b ≡ d
second_same (next _ (next r _)) e = response_other r e

module _ (t base : ℕ) (roots stack stack' : List ℕ) (l l' : Lent) (long : length l.memory.pool ≡ length l'.memory.pool) (but : SameButPools l l')
    (agree : Agree base (words_of roots) (heap_in (planes t) l.memory) (heap_in (planes t) l'.memory)) (same : SameStacks stack stack')
    (x : refusal_of (served_to (asked t (HeapCall (Collect base roots)) stack) l).reply ≡ 0) where
  -- the collection, and then the services
  abbrev pub ours : List Paired → List Asked
  ours ps = asked t (HeapCall (Collect base roots)) stack ∷ map (λ (p : Paired). asked p.t p.service p.stack) ps

  abbrev pub theirs : List Paired → List Asked
  theirs ps = asked t (HeapCall (Collect base roots)) stack' ∷ map (λ (p : Paired). asked p.t p.service p.stack') ps

  pub paired_indistinct : (ps : List Paired) → Indistinct t (ours ps) (theirs ps) l l'
  paired_indistinct ps =
      noninterference t base roots stack stack' l l' _ _ but agree (alike_next t (HeapCall (Collect base roots)) same (alike_paired ps)) x
      (also_accepted t base roots stack stack' l l' long but same x)

  -- every part of the responses but the rescans
  pub paired_responses : (ps : List Paired) → map not_rescans (responses (ours ps) l) ≡ map not_rescans (responses (theirs ps) l')
  paired_responses ps = same_but_rescans (paired_indistinct ps)

  -- an append is replied alike, each with its own mark stack, though it may collect
  pub append_unseen : (t' b first time tips : ℕ) (words s s' : List ℕ) → SameStacks s s'
      → (served_to (asked t' (Append b first time tips words) s) (served_to (asked t (HeapCall (Collect base roots)) stack) l).lent).reply
      ≡ (served_to (asked t' (Append b first time tips words) s') (served_to (asked t (HeapCall (Collect base roots)) stack') l').lent).reply
  unfolding responses_by
  append_unseen t' b first time tips words s s' like =
      second_same (paired_indistinct (record { t = t'; service = Append b first time tips words; stack = s; stack' = s'; same = like } ∷ [])).same_responses refl
