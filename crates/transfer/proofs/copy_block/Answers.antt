-- `copy_block`: a block is its four words, and each is stored as the bytes that it was read from.
-- Assumes nothing.
use mathlib.Core.Path.{◌≡◌, sym, ◌∙◌}
use mathlib.Core.List.{List}
use Prim.Native.Nat.{ℕ}
use lib.ListN.{length}
use lib.Seq.{sets}
use Rattle.rules.specs.Words.{bytes_of, word_at}
use Rattle.laws.specs.Meaning.{AllBytes}
use Rattle.laws.proofs.Lists.{sets_all}
use Rattle.transfer.proofs.Copying.{four_words}
use Rattle.transfer.proofs.copy_block.Goals as goal

-- the target holds the block then
copied : (block to last : List ℕ) → AllBytes block → length block ≡ 16 → length to ≡ 16
    → last ≡ sets (sets (sets (sets to 0 (bytes_of (word_at block 0))) 4 (bytes_of (word_at block 1))) 8 (bytes_of (word_at block 2))) 12 (bytes_of (word_at block 3)) → last ≡ block
copied block to last bytes long room stored = stored ∙ four_words block bytes long to ∙ sets_all to block (long ∙ sym room)

pub returns : goal.returns
returns c =
    copied c.args.block.now c.args.to.now _ (λ i. (c.shared_slice_known-1.given i).fits) c.requires.0 c.requires.1
    (c.set_four_bytes-4.ensures
    ∙ rw (c.set_four_bytes-3.ensures, c.set_four_bytes-2.ensures, c.set_four_bytes.ensures, c.word-d.ensures, c.word-c.ensures, c.word-b.ensures, c.word-a.ensures))
