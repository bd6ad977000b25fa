-- What is computed on the sample heap, and what a collection of it does with no mark stack.
-- Assumes nothing.
use mathlib.Core.Path.{◌≡◌, refl, ap}
use mathlib.Core.List.{[], ◌∷◌}
use mathlib.Core.Option.{some}
use lib.IntN.{pos, neg_ℤ}
use Rattle.rules.specs.Tests.{count, leading, tabulate}
use Rattle.rules.specs.Bits.{bit_of, bit_at}
use Rattle.rules.specs.Words.{number, bytes_of, word_at, with_word, words_of}
use Rattle.rules.specs.Tables.{may_follow, well_after, well_formed, block_count, start_of, used, objects}
use Rattle.rules.specs.Planes.{plane_bytes, entry_in, entries_in, planes}
use Rattle.rules.specs.Pointers.{address_of, good_base, target_of, heads_object, head_at, leads_to}
use Rattle.rules.specs.Outcomes.{Answer, change_from, collected_to, unless_refused}
use Rattle.rules.specs.Refusals.{first_of, good_shape, whole_words}
use Rattle.rules.specs.Marking.{pushed, visit_to, visit, walk_words, walk, drain_for, drain, trace, root_to, mark_root, mark_roots, pass_block, pass_from, pass, rescan_for, rescan, mark_all, swept_entry, freeing_after, sweep_from, sweep}
use Rattle.rules.specs.Calls.{collecting, collect}
use Rattle.laws.specs.Meaning.{Accepted}
use Rattle.laws.proofs.Planes.{planes_faithful}
use Rattle.keeping.specs.Keeping.{Collected}
use Rattle.keeping.specs.Samples.{sample_base, address_at, sample_pool, sample_memory, sample_heap, sample_roots, sample_with}
use Rattle.keeping.proofs.Collections.{keeps_exactly}

-- what is computed
pub record Computed : Type 0 where
  -- with no mark stack four objects are kept, and two rescans are needed
  pub answer : (sample_with 0).answer ≡ collected_to 4 2 (neg_ℤ (pos 5))
  pub table : (sample_with 0).heap.entries ≡ entries_in 3 (81 ∷ 1 ∷ 32 ∷ 2 ∷ [])
  -- a stack of three entries is accepted
  pub accepted : Accepted (sample_with 3)
  -- the roots, what the second of them and the two pointers lead to, and how many blocks C and E have
  pub roots : words_of sample_roots ≡ address_at 0 ∷ address_at 4 ∷ []
  pub to_c : leads_to sample_base sample_heap.entries (address_at 4) ≡ some 4
  pub to_e : leads_to sample_base sample_heap.entries (word_at sample_pool 23) ≡ some 8
  pub to_d : leads_to sample_base sample_heap.entries (word_at sample_pool 32) ≡ some 6
  pub c_blocks : block_count sample_heap.entries 4 ≡ 2
  pub e_blocks : block_count sample_heap.entries 8 ≡ 2

pub computed : Computed
unfolding sample_with count leading tabulate number bytes_of word_at with_word words_of bit_of bit_at plane_bytes entry_in entries_in may_follow well_after well_formed block_count start_of used objects address_of good_base target_of heads_object head_at leads_to change_from unless_refused first_of good_shape whole_words pushed visit_to visit walk_words walk drain_for drain trace root_to mark_root mark_roots pass_block pass_from pass rescan_for rescan mark_all swept_entry freeing_after sweep_from sweep collecting collect
computed =
    record { answer = refl; table = refl; accepted = refl; roots = refl; to_c = refl; to_e = refl; to_d = refl; c_blocks = refl; e_blocks = refl }

-- ---- with no mark stack

pub none_accepted : Accepted (sample_with 0)
none_accepted = ap (λ (a : Answer). a.refusal) computed.answer

pub none_lent : Collected sample_base sample_heap sample_roots [] (sample_with 0)
unfolding sample_with
none_lent = keeps_exactly (planes 3) (planes_faithful 3) sample_base sample_memory sample_roots [] none_accepted
