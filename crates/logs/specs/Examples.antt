-- Logs in heaps of 4 and 8 blocks at base 4,096, call by call: the reply of each, and every byte that it leaves of the pool, the table and the mark stack. That each is so is computed (proofs/Examples).
-- Assumes nothing.
use Rattle.std.specs.Prelude.{List, [], ◌∷◌, ◌++◌, map, ℕ, pos, neg_ℤ, replicate}
use Rattle.std.proofs.Math.Option.{Option}
use Rattle.rules.specs.Words.{bytes_of}
use Rattle.rules.specs.Planes.{planes}
use Rattle.rules.specs.Memory.{Memory, memory}
use Rattle.programs.specs.Programs.{Program, give, Ran, ran, run}
use Rattle.logs.specs.Log.{Reply, logged, readout, declined, follow, append, read, drop}

-- what is left of a call, and what it should be
pub record LogExample : Type 0 where
  pub is : Ran Reply
  pub ought : Ran Reply

-- a call on lent memory with t, and with a mark stack
pub record Made : Type 0 where
  pub t : ℕ
  pub program : Program Reply
  pub stack : List ℕ
  pub memory : Memory

abbrev pub ran_from : Made → Ran Reply
ran_from c = run (planes c.t) c.program c.stack c.memory

-- it gives this reply, and leaves this
abbrev pub leads : Made → Reply → List ℕ → List ℕ → List ℕ → LogExample
leads c r pool table stack = record { is = ran_from c; ought = ran r (memory pool table) stack }

-- it gives this reply, and leaves all as it was
abbrev pub leaves : Made → Reply → LogExample
leaves c r = record { is = ran_from c; ought = ran r c.memory c.stack }

abbrev pub zeros : ℕ → List ℕ
zeros n = replicate n 0

abbrev pub sevens : ℕ → List ℕ
sevens n = replicate n 7

-- ---- entries

-- the 32 bytes of an entry: next address, time, tip count, and words that are 0
abbrev pub entry : ℕ → ℕ → ℕ → List ℕ
entry next time tips = bytes_of next ++ bytes_of time ++ bytes_of tips ++ zeros 20

-- the same with sevens in its words 3 to 7
abbrev pub stained : ℕ → ℕ → ℕ → List ℕ
stained next time tips = bytes_of next ++ bytes_of time ++ bytes_of tips ++ sevens 20

-- ---- heaps. The planes of a table of 4 or of 8 blocks are one byte each: the low bits of the entries, then the high ones

-- 4 FREE blocks
abbrev pub free4 : Memory
free4 = memory (sevens 64) (0 ∷ 0 ∷ [])

-- a log of one entry, at block 0; and one of two, the second at block 2
abbrev pub single : Memory
single = memory (entry 0 10 1 ++ sevens 32) (1 ∷ 2 ∷ [])

abbrev pub double : Memory
double = memory (entry 4128 10 1 ++ entry 0 20 2) (5 ∷ 10 ∷ [])

-- two such objects with this next word in the first, and this one in the second
abbrev pub linked : ℕ → ℕ → Memory
linked first second = memory (entry first 10 1 ++ entry second 20 2) (5 ∷ 10 ∷ [])

-- the log's entry is at block 2. Block 0 has an object of two blocks, block 4 one of one and block 5 one of three
abbrev pub crowded : Memory
crowded = memory (sevens 32 ++ entry 0 30 3 ++ zeros 64) (53 ∷ 202 ∷ [])

-- the same with two objects in place of that at block 0
abbrev pub packed : Memory
packed = memory (zeros 32 ++ entry 0 30 3 ++ zeros 64) (55 ∷ 200 ∷ [])

abbrev pub appends : ℕ → Memory → ℕ → ℕ → ℕ → List ℕ → List ℕ → Made
appends t m first time tips roots stack = record { t = t; program = append 4096 first time tips roots stack; stack = stack; memory = m }

abbrev pub reads : ℕ → Memory → ℕ → ℕ → Made
reads t m first index = record { t = t; program = read 4096 first index; stack = sevens 8; memory = m }

abbrev pub drops : ℕ → Memory → ℕ → Made
drops t m first = record { t = t; program = drop 4096 first; stack = sevens 8; memory = m }

-- ---- the walk

-- the heads of the chain from block 0 on, if it ends after at most n entries. A call follows 4,096; here are few, as in these heaps:
--
--     double   0 → 2        linked 4128 4096   0 → 2 → 0 → ..
abbrev pub walked : ℕ → Memory → Option (List ℕ)
walked n m = (run (planes 1) (follow 4096 n 4096 (λ ks. give ks)) [] m).reply

-- ---- the calls

unfoldable pub accepted : List LogExample
accepted =
    -- the first entry, byte by byte, and the mark stack as it was lent
    leads (appends 1 free4 0 0x01020304 5 [] (sevens 8)) (logged 0 4096 (pos 2)) (0 ∷ 0 ∷ 0 ∷ 0 ∷ 4 ∷ 3 ∷ 2 ∷ 1 ∷ 5 ∷ 0 ∷ 0 ∷ 0 ∷ zeros 20 ++ sevens 32) (1 ∷ 2 ∷ []) (sevens 8)
    -- the second: the first entry's next word is its address, 4,128, and no other byte of that is changed
    ∷ leads (appends 1 single 4096 20 2 [] []) (logged 0 4096 (pos 2)) (32 ∷ 16 ∷ 0 ∷ 0 ∷ 10 ∷ 0 ∷ 0 ∷ 0 ∷ 1 ∷ 0 ∷ 0 ∷ 0 ∷ zeros 20 ++ entry 0 20 2) (5 ∷ 10 ∷ []) []
    -- the third: the second entry's next word is its address
    ∷ leads (appends 2 (memory (entry 4128 10 1 ++ entry 0 20 2 ++ sevens 64) (5 ∷ 10 ∷ [])) 4096 40 4 [] []) (logged 0 4096 (pos 2)) (entry 4128 10 1 ++ entry 4160 20 2 ++ entry 0 40 4 ++ sevens 32) (21 ∷ 42 ∷ []) []
    -- the largest time and tip count, behind a last entry that has a higher block
    ∷ leads (appends 1 (memory (sevens 32 ++ stained 0 10 1) (4 ∷ 8 ∷ [])) 4128 0xffffffff 0xffffffff [] []) (logged 0 4128 (pos 2)) (entry 0 0xffffffff 0xffffffff ++ stained 4096 10 1) (5 ∷ 10 ∷ []) []
    -- the entries are read in their order, words 3 to 7 not being looked at
    ∷ leaves (reads 1 double 4096 0) (readout 0 10 1)
    ∷ leaves (reads 1 double 4096 1) (readout 0 20 2)
    ∷ leaves (reads 1 (memory (stained 0 10 1 ++ stained 4096 20 2) (5 ∷ 10 ∷ [])) 4128 1) (readout 0 10 1)
    -- the oldest is dropped, and then the next, which leaves the empty log. No byte of the pool is changed
    ∷ leads (drops 1 double 4096) (logged 0 4128 (neg_ℤ (pos 2))) (entry 4128 10 1 ++ entry 0 20 2) (4 ∷ 8 ∷ []) (sevens 8)
    ∷ leads (drops 1 (memory (entry 4128 10 1 ++ entry 0 20 2) (4 ∷ 8 ∷ [])) 4128) (logged 0 0 (neg_ℤ (pos 2))) (entry 4128 10 1 ++ entry 0 20 2) (0 ∷ 0 ∷ []) (sevens 8)
    -- a collection from the log and the object at block 5 frees three blocks, two of them for the new entry; the mark stack is then zero
    ∷ leads (appends 2 crowded 4128 40 4 (bytes_of 4176) (sevens 8)) (logged 0 4128 (neg_ℤ (pos 1))) (entry 0 40 4 ++ entry 4096 30 3 ++ zeros 64) (37 ∷ 202 ∷ []) (zeros 8)
    -- without roots it keeps the log's entries alone, the second one too, and frees the object of four blocks behind them
    ∷ leads (appends 2 (memory (entry 4128 10 1 ++ entry 0 20 2 ++ sevens 64) (21 ∷ 234 ∷ [])) 4096 40 4 [] (sevens 4)) (logged 0 4096 (neg_ℤ (pos 2))) (entry 4128 10 1 ++ entry 4160 20 2 ++ entry 0 40 4 ++ sevens 32) (21 ∷ 42 ∷ []) (zeros 4)
    -- and of the empty log it frees all
    ∷ leads (appends 2 crowded 0 40 4 [] []) (logged 0 4096 (neg_ℤ (pos 6))) (entry 0 40 4 ++ entry 0 30 3 ++ zeros 64) (1 ∷ 2 ∷ []) []
    -- 4,095 roots, and a mark stack of 64 entries, where there is room
    ∷ leads (appends 1 free4 0 10 1 (zeros 16380) (sevens 256)) (logged 0 4096 (pos 2)) (entry 0 10 1 ++ sevens 32) (1 ∷ 2 ∷ []) (sevens 256)
    ∷ []

unfoldable pub refused : List LogExample
refused =
    -- 9, where the collection has freed the blocks 0 and 4, which are no run of two: it stands
    leads (appends 2 packed 4128 40 4 (bytes_of 4112 ++ bytes_of 4176) (sevens 8)) (logged 9 0 (neg_ℤ (pos 2))) (zeros 32 ++ entry 0 30 3 ++ zeros 64) (38 ∷ 200 ∷ []) (zeros 8)
    -- and where it has freed nothing
    ∷ leads (appends 1 double 4096 40 4 [] (sevens 8)) (logged 9 0 (pos 0)) (entry 4128 10 1 ++ entry 0 20 2) (5 ∷ 10 ∷ []) (zeros 8)
    -- 19: past the last entry, and of the empty log
    ∷ leaves (reads 1 double 4096 2) (declined 19)
    ∷ leaves (reads 1 double 0 0) (declined 19)
    ∷ leaves (drops 1 double 0) (declined 19)
    -- 18: a TAIL, a FREE block, no block's address, one with a word that has more than 32 bits, one beyond the heap and one below it
    ∷ leaves (reads 1 single 4112 0) (declined 18)
    ∷ leaves (reads 1 single 4128 0) (declined 18)
    ∷ leaves (reads 1 single 4100 0) (declined 18)
    ∷ leaves (reads 1 single 0x1_0000_1000 0) (declined 18)
    ∷ leaves (reads 1 single 4160 0) (declined 18)
    ∷ leaves (reads 1 single 4080 0) (declined 18)
    -- an object of one block, and one of three
    ∷ leaves (drops 1 (memory (zeros 64) (1 ∷ 0 ∷ [])) 4096) (declined 18)
    ∷ leaves (drops 1 (memory (zeros 64) (1 ∷ 6 ∷ [])) 4096) (declined 18)
    -- a next word that leads to no entry, though the one that is asked for comes before it
    ∷ leaves (reads 1 (linked 4112 0) 4096 0) (declined 18)
    ∷ leaves (drops 1 (linked 4128 1) 4096) (declined 18)
    ∷ leaves (appends 2 (memory (entry 4128 10 1 ++ entry 4160 20 2 ++ zeros 64) (5 ∷ 10 ∷ [])) 4096 40 4 [] []) (declined 18)
    -- the order of append: roots or a mark stack that are not whole words are 1, before a spare bit, which is 2
    ∷ leaves (appends 1 (memory (zeros 64) (16 ∷ 0 ∷ [])) 0 10 1 (sevens 5) []) (declined 1)
    ∷ leaves (appends 1 (memory (zeros 64) (16 ∷ 0 ∷ [])) 0 10 1 [] (sevens 6)) (declined 1)
    ∷ leaves (appends 2 (memory (zeros 64) (16 ∷ 0 ∷ [])) 0 10 1 [] []) (declined 1)
    -- 2 before 3, 3 before 4, 4 before 18, and 18 before 9
    ∷ leaves (appends 1 (memory (zeros 64) (16 ∷ 0 ∷ [])) 0 10 1 (zeros 16384) (sevens 260)) (declined 2)
    ∷ leaves (appends 1 double 0 10 1 (zeros 16384) (sevens 260)) (declined 3)
    ∷ leaves (appends 1 double 4112 10 1 (zeros 16380) (sevens 260)) (declined 4)
    ∷ leaves (appends 1 double 4112 10 1 (zeros 16380) (sevens 256)) (declined 18)
    -- the order of read and of drop: 1 before 2, 2 before 18, and 18 before 19
    ∷ leaves (reads 2 (memory (zeros 64) (16 ∷ 0 ∷ [])) 4100 9) (declined 1)
    ∷ leaves (reads 1 (memory (zeros 64) (16 ∷ 0 ∷ [])) 4100 9) (declined 2)
    ∷ leaves (drops 1 (memory (zeros 64) (16 ∷ 0 ∷ [])) 4100) (declined 2)
    ∷ leaves (reads 1 double 4100 9) (declined 18)
    ∷ []

-- what they leave, and what they should
abbrev pub found : List LogExample → List (Ran Reply)
found xs = map (λ (x : LogExample). x.is) xs

abbrev pub expected : List LogExample → List (Ran Reply)
expected xs = map (λ (x : LogExample). x.ought) xs
