-- The theorems of this crate, used on the sample heap: the collection is computed with no mark stack, and what it does with a stack of three entries follows.
-- Assumes nothing.
use mathlib.Core.Path.{◌≡◌, refl, ap, ◌∙◌}
use mathlib.Core.Logic.{◌≢◌}
use mathlib.Core.List.Memᴰ
use mathlib.Core.List.{[], ◌∷◌}
use Prim.Native.Nat.{ℕ, ◌<◌}
use native.Mathlib.Omega.{arith}
use lib.IntN.{pos, neg_ℤ}
use lib.ListN.{length, replicate}
use Rattle.rules.specs.Tests.{tabulate}
use Rattle.rules.specs.Bits.{bit_of, bit_at}
use Rattle.rules.specs.Words.{words_of}
use Rattle.rules.specs.Entries.{HEAD, TAIL, MARK}
use Rattle.rules.specs.Tables.{entry_at, block_count}
use Rattle.rules.specs.Planes.{plane_bytes, entry_in, entries_in, planes}
use Rattle.rules.specs.Outcomes.{Heap, Answer, collected_to}
use Rattle.rules.specs.Reach.{Reachable, root, edge}
use Rattle.laws.proofs.Tables.{well_says}
use Rattle.laws.proofs.Planes.{planes_faithful}
use Rattle.keeping.specs.Keeping.{Collected, but_rescans}
use Rattle.keeping.specs.Samples.{sample_base, address_at, sample_pool, sample_memory, sample_heap, sample_roots, sample_with}
use Rattle.keeping.proofs.Collections.{keeps_exactly, any_stack}
use Rattle.keeping.proofs.Determined.{answer_parts, none_beside}
use Rattle.keeping.proofs.Computed.{computed, none_accepted, none_lent}

-- E is kept, so a chain leads to it
pub e_reached : Reachable sample_base sample_heap (words_of sample_roots) 8
unfolding bit_of bit_at plane_bytes entry_in entries_in tabulate
e_reached = none_lent.table.only 8 (rw computed.table refl)

-- B is not kept, so none leads to it
pub b_unreached : ¬ Reachable sample_base sample_heap (words_of sample_roots) 1
unfolding bit_of bit_at plane_bytes entry_in entries_in tabulate
b_unreached r = let e : 0 ≡ HEAD = rw computed.table at (none_lent.table.kept 1 r) in absurd (omega arith)

-- ---- with a mark stack of three entries, as many as the kept objects less one

three_lent : Collected sample_base sample_heap sample_roots (replicate 12 7) (sample_with 3)
unfolding sample_with
three_lent = keeps_exactly (planes 3) (planes_faithful 3) sample_base sample_memory sample_roots (replicate 12 7) computed.accepted

same : ((sample_with 3).heap ≡ (sample_with 0).heap) × (but_rescans (sample_with 3).answer ≡ but_rescans (sample_with 0).answer)
unfolding sample_with
same = any_stack (planes 3) sample_base sample_memory sample_roots (replicate 12 7) [] computed.accepted none_accepted

-- the whole answer: no rescan is needed, and the rest is as it was
pub three_answer : (sample_with 3).answer ≡ collected_to 4 0 (neg_ℤ (pos 5))
three_answer = answer_parts _ _ (same.1 ∙ ap but_rescans computed.answer) (none_beside (rw four at three_lent.few))
  where
    four : (sample_with 3).answer.kept ≡ 4
    four = ap (λ (a : Answer). a.kept) (same.1 ∙ ap but_rescans computed.answer)

-- the whole memory
pub three_table : (sample_with 3).heap.entries ≡ entries_in 3 (81 ∷ 1 ∷ 32 ∷ 2 ∷ [])
three_table = ap (λ (h : Heap). h.entries) same.0 ∙ computed.table

pub three_pool : (sample_with 3).heap.pool ≡ sample_pool
three_pool = three_lent.pool

pub three_stack : (sample_with 3).stack ≡ replicate 12 0
three_stack = three_lent.stack

-- D is kept: a chain of two words leads to it from the second root
d_reached : Reachable sample_base sample_heap (words_of sample_roots) 6
d_reached =
    edge (edge (root {w = address_at 4} (rw computed.roots (Memᴰ.tail (Memᴰ.head refl))) computed.to_c)
    (record { word = 7; inside = rw computed.c_blocks (omega arith); leads = computed.to_e }))
    (record { word = 0; inside = rw computed.e_blocks (omega arith); leads = computed.to_d })

pub d_kept : entry_at (sample_with 3).heap.entries 6 ≡ HEAD
d_kept = three_lent.table.kept 6 d_reached

-- E has its two blocks, and the second is TAIL
pub e_count : block_count (sample_with 3).heap.entries 8 ≡ 2
e_count = three_lent.table.count 8 e_reached ∙ computed.e_blocks

pub e_tail : entry_at (sample_with 3).heap.entries 9 ≡ TAIL
unfolding bit_of bit_at plane_bytes entry_in entries_in tabulate
e_tail = three_lent.table.whole 9 (record { object = 8; reachable = e_reached; owns = record { head = refl; from = omega arith; to = rw computed.e_blocks (omega arith) } })

-- no MARK is left
pub no_mark : (k : ℕ) → k < length (sample_with 3).heap.entries → entry_at (sample_with 3).heap.entries k ≢ MARK
no_mark = (well_says (sample_with 3).heap.entries three_lent.table.proper.well).no_mark
