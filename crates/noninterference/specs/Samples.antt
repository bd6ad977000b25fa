-- Three heaps of 12 blocks at base 0x20000000, whose tables are the same, two planes of two bytes each. A number is a block, an arrow a word that holds an address:
--
--     0     1  2     3     4      5  6     7     8     9 10 11
--    [a]   [b  b]   [c]   free   [d  d]   [e]   [f]   [g  g  g]      roots: d, c
--                                                                    d → a, d → g, g → f; the last word of g is 0xDEADBEEF
--
-- So b and e are unreachable. In the first heap they hold zeros, as block 4 does. In the second b and e point to each other, and block 4 is
-- full of ones. The third is the first with another top byte in the last word of g, the last live byte of the pool.
-- Assumes nothing.
use Rattle.std.specs.Prelude.{List, [], ◌∷◌, ◌++◌, ℕ, set, replicate}
use Rattle.std.proofs.lemmas.List.Edits.{sets}
use Rattle.rules.specs.Words.{bytes_of, with_word}
use Rattle.rules.specs.Pointers.{address_of}
use Rattle.rules.specs.Runs.{Allocate, Free, Collect, Survey, Load, WriteImage, OpenImage}
use Rattle.rules.specs.Lent.{Lent, lending}
use Rattle.services.specs.Services.{HeapCall, Append, Read, Drop, Asked, asked}

abbrev pub sample_base : ℕ
sample_base = 0x2000_0000

-- HEAD HEAD TAIL HEAD FREE HEAD TAIL HEAD, HEAD HEAD TAIL TAIL: the low bits of the first eight blocks and of the last four, then the high bits
abbrev pub sample_table : List ℕ
sample_table = 171 ∷ 3 ∷ 68 ∷ 12 ∷ []

abbrev pub sample_roots : List ℕ
sample_roots = bytes_of (address_of sample_base 5) ++ bytes_of (address_of sample_base 3)

-- words 20 and 27 are the first and the last of d, words 36 and 47 those of g
abbrev pub first_pool : List ℕ
first_pool =
    with_word (with_word (with_word (with_word (replicate 192 0) 20 (address_of sample_base 9)) 27 (address_of sample_base 0)) 36 (address_of sample_base 8)) 47 0xDEAD_BEEF

-- word 4 is the first of b, word 31 the last of e
abbrev pub second_pool : List ℕ
second_pool = with_word (with_word (sets first_pool 64 (replicate 16 255)) 4 (address_of sample_base 7)) 31 (address_of sample_base 1)

abbrev pub third_pool : List ℕ
third_pool = set first_pool 191 0

abbrev pub first_lent : Lent
first_lent = lending first_pool sample_table

abbrev pub second_lent : Lent
second_lent = lending second_pool sample_table

abbrev pub third_lent : Lent
third_lent = lending third_pool sample_table

-- of the objects that the first collection keeps, only those that d leads to
abbrev pub fewer_roots : List ℕ
fewer_roots = bytes_of 0x2000_0050

-- the first collection and the services after it, with this mark stack for it and for the appends that collect. Three are given another t than 3
abbrev pub earlier_services : List ℕ → List ℕ → List Asked
earlier_services stack torn =
    asked 3 (HeapCall (Collect sample_base sample_roots)) stack
    -- b is no object any more
    ∷ asked 3 (HeapCall (Free sample_base 1)) []
    ∷ asked 4 (HeapCall (Load sample_base 9 11)) []
    -- the mark stack is no whole number of entries
    ∷ asked 3 (HeapCall (Collect sample_base sample_roots)) torn
    -- the last word of the last object
    ∷ asked 3 (HeapCall (Load sample_base 9 11)) []
    -- where b was, behind a and before c
    ∷ asked 3 (Append sample_base 0 10 1 fewer_roots) []
    ∷ asked 2 (Append sample_base 0x2000_0010 15 1 fewer_roots) stack
    -- no two blocks are left: the collection frees c, and with block 4 there is room
    ∷ asked 3 (Append sample_base 0x2000_0010 20 2 fewer_roots) stack
    -- where e was
    ∷ asked 3 (HeapCall (Allocate sample_base 16)) []
    -- the collection frees that, and there is still no room
    ∷ asked 3 (Append sample_base 0x2000_0010 30 3 fewer_roots) stack
    ∷ asked 3 (Read sample_base 0x2000_0010 1) []
    ∷ asked 3 (Drop sample_base 0x2000_0010) []
    -- a file that ends within its first section
    ∷ asked 5 (HeapCall (OpenImage (1 ∷ 0 ∷ 7 ∷ []) 8)) []
    -- two blocks, where the oldest entry was, and their last word
    ∷ asked 3 (HeapCall (Allocate sample_base 17)) []
    ∷ asked 3 (HeapCall (Load sample_base 1 7)) []
    ∷ []

-- the image: the base; 12 entries in three packed bytes; the nine blocks of a, of the entry that is left, where c was, and of d, f and g; two roots
abbrev pub sample_image : List ℕ
sample_image =
    1 ∷ 0 ∷ bytes_of sample_base
    ++ 3 ∷ 0 ∷ 65 ∷ 38 ∷ 165 ∷ 9 ∷ 0 ∷ replicate 20 0
    ++ bytes_of 20 ++ bytes_of 2 ++ replicate 20 0
    ++ bytes_of (address_of sample_base 9) ++ replicate 24 0 ++ bytes_of (address_of sample_base 0)
    ++ replicate 16 0
    ++ bytes_of (address_of sample_base 8) ++ replicate 40 0 ++ bytes_of 0xDEAD_BEEF
    ++ 2 ∷ 0 ∷ sample_roots

-- then a last collection, to which the new object is unreachable, and an image of what is left, which is opened
abbrev pub last_services : List ℕ → List Asked
last_services stack =
    asked 3 (HeapCall (Collect sample_base sample_roots)) stack
    ∷ asked 3 (HeapCall (Survey sample_base)) []
    ∷ asked 3 (HeapCall (WriteImage sample_base sample_roots 167)) []
    ∷ asked 3 (HeapCall (OpenImage sample_image 8)) []
    ∷ []

-- on the first heap no mark stack at first, and one entry at last: neither is enough for d and g. On the second three entries, and two at last.
-- Whatever the mark stacks hold, they hold different bytes
abbrev pub first_services : List Asked
first_services = earlier_services [] (1 ∷ 2 ∷ 3 ∷ []) ++ last_services (bytes_of 7)

abbrev pub second_services : List Asked
second_services = earlier_services (replicate 12 9) (253 ∷ 254 ∷ 255 ∷ []) ++ last_services (replicate 8 8)

-- a collection, and then the last word of the last object
abbrev pub loading_services : List Asked
loading_services = asked 3 (HeapCall (Collect sample_base sample_roots)) [] ∷ asked 3 (HeapCall (Load sample_base 9 11)) [] ∷ []
