-- The order of the marking, by four computed collections with a mark stack of one or two entries, whose number of rescans depends on it.
-- Heaps of 8 blocks at base 4,096, in which every object has one block.
-- Assumes nothing.
use Rattle.std.specs.Prelude.{◌≡◌, refl, List, [], ◌∷◌, ◌++◌, map, ℕ, ◌+◌, ◌*◌, pos, length, replicate}
use Rattle.rules.specs.Tests.{count, leading, tabulate}
use Rattle.rules.specs.Words.{number, bytes_of, word_at, with_word, words_of}
use Rattle.rules.specs.Entries.{entry_of, entries_of, table_of}
use Rattle.rules.specs.Tables.{may_follow, well_after, well_formed, block_count, start_of, used, objects}
use Rattle.rules.specs.Pointers.{address_of, good_base, target_of, heads_object, head_at, leads_to}
use Rattle.rules.specs.Outcomes.{Heap, heap_of, change_from, collected_to, unless_refused}
use Rattle.rules.specs.Refusals.{first_of, good_shape, whole_words}
use Rattle.rules.specs.Marking.{pushed, visit_to, visit, walk_words, walk, drain_for, drain, trace, root_to, mark_root, mark_roots, pass_block, pass_from, pass, rescan_for, rescan, mark_all, swept_entry, freeing_after, sweep_from, sweep}
use Rattle.rules.specs.Calls.{collecting, collect}
use Rattle.rules.specs.Examples.{Example, collects, zeros, sevens, minus}

-- a word to be stored, and where
pub record Place : Type 0 where
  pub word : ℕ
  pub value : ℕ

-- word i of block k holds the address of block j
abbrev pub points : ℕ → ℕ → ℕ → Place
points k i j = record { word = 4 * k + i; value = 4096 + 16 * j }

-- a pool of zeros but for these pointers
abbrev pub pool_of : List Place → List ℕ
pool_of [] = replicate 128 0
pool_of (p ∷ ps) = with_word (pool_of ps) p.word p.value

-- Block 0 points to 1 and 2, block 1 to 3 and 4. Its last word first, block 0 pushes 2, and 1 finds the stack full; the first rescan walks 1, which pushes 4,
-- and 3 finds the stack full again; the second finds nothing new. Words from the first to the last, or a flag that is cleared after the pass, give one rescan.
abbrev pub last_word_first : Heap
last_word_first = heap_of (pool_of (points 0 0 1 ∷ points 0 1 2 ∷ points 1 0 3 ∷ points 1 1 4 ∷ [])) (85 ∷ 1 ∷ [])

-- Block 2 points to 5, 4 and 0, block 4 to 6 and 7, block 5 to 6. Passes through the blocks from the last to the first give one rescan.
abbrev pub lowest_block_first : Heap
lowest_block_first =
    heap_of (pool_of (points 2 1 5 ∷ points 2 2 4 ∷ points 2 3 0 ∷ points 4 2 6 ∷ points 4 3 7 ∷ points 5 1 6 ∷ [])) (85 ∷ 85 ∷ [])

-- Block 3 points to 2 and 5, block 2 to 1 and 4; the roots are 3 and 4, with room for two entries. Block 3 pushes 5 and then 2; 2 is walked first and pushes 4, and
-- 1 finds the stack full; the rescan finds nothing new. Roots from the last to the first (the last example), or the first pushed walked first, give none.
abbrev pub roots_in_order : Heap
roots_in_order = heap_of (pool_of (points 3 0 2 ∷ points 3 2 5 ∷ points 2 1 1 ∷ points 2 3 4 ∷ [])) (85 ∷ 85 ∷ [])

-- kept objects, rescans and change
unfoldable pub orders : List Example
orders =
    collects (collect 4096 last_word_first (bytes_of 4096) (sevens 4)) (collected_to 5 2 (pos 0)) (85 ∷ 1 ∷ []) last_word_first.pool (zeros 4)
    ∷ collects (collect 4096 lowest_block_first (bytes_of 4128) (sevens 4)) (collected_to 6 2 (minus 2)) (17 ∷ 85 ∷ []) lowest_block_first.pool (zeros 4)
    ∷ collects (collect 4096 roots_in_order (bytes_of 4144 ++ bytes_of 4160) (sevens 8)) (collected_to 5 1 (minus 3)) (84 ∷ 5 ∷ []) roots_in_order.pool (zeros 8)
    ∷ collects (collect 4096 roots_in_order (bytes_of 4160 ++ bytes_of 4144) (sevens 8)) (collected_to 5 0 (minus 3)) (84 ∷ 5 ∷ []) roots_in_order.pool (zeros 8)
    ∷ []

-- there are so many
pub orders_number : length orders ≡ 4
unfolding orders
orders_number = refl

pub orders_hold : map (λ (x : Example). x.is) orders ≡ map (λ (x : Example). x.ought) orders
unfolding orders count leading tabulate number bytes_of word_at with_word words_of entry_of entries_of table_of may_follow well_after well_formed block_count start_of used objects address_of good_base target_of heads_object head_at leads_to change_from unless_refused first_of good_shape whole_words pushed visit_to visit walk_words walk drain_for drain trace root_to mark_root mark_roots pass_block pass_from pass rescan_for rescan mark_all swept_entry freeing_after sweep_from sweep collecting collect
orders_hold = refl
