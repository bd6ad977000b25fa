-- `heap::word_index` meets its contract: the sum is below the number of words in the pool. Assumes nothing.
use mathlib.Core.Path.{sym}
use native.Mathlib.Omega.{arith}
use Rattle.laws.proofs.Widths.{in_32_bits}
use Rattle.heap.proofs.Ends.{word_below}
use Rattle.heap.proofs.word_index.Goals as goal

pub first_word-requires : goal.first_word-requires
first_word-requires c = let w = word_below _ _ _ _ c.requires (sym (rw c.new.ensures at c.in_ok-object_word.ensures)) in omega arith

pub overflow_add-result : goal.overflow_add-result
overflow_add-result c = let w = word_below _ _ _ _ c.requires (sym (rw c.new.ensures at c.in_ok-object_word.ensures)) in in_32_bits (omega arith)
