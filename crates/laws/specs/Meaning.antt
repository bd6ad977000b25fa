-- What the computed definitions mean, in plain sentences. The laws of proofs/ show that each definition matches its sentence.
-- Assumes nothing.
use Rattle.std.specs.Prelude.{◌≡◌, ◌≢◌, ◌⊎◌, true, List, ℕ, suc, ◌+◌, ◌-◌, ◌*◌, ◌/◌, ◌%◌, ◌^◌, ◌≤◌, ◌<◌, length, get_or}
use Rattle.std.proofs.Math.Option.{Option, some, none}
use Rattle.rules.specs.Entries.{FREE, HEAD, TAIL, MARK, entries_of}
use Rattle.rules.specs.Tables.{entry_at, well_formed, block_count}
use Rattle.rules.specs.Pointers.{address_of}
use Rattle.rules.specs.Outcomes.{Heap, Outcome}

-- every element is a byte
abbrev pub AllBytes : List ℕ → Type 0
AllBytes bs = (i : ℕ) → get_or bs i 0 < 256

-- a packed table, as in a heap image, is its entries: what the rules say of entries is said of every byte of it
abbrev pub TableIsEntries : Type 0
TableIsEntries = (t u : List ℕ) → AllBytes t → AllBytes u → entries_of t ≡ entries_of u → t ≡ u

-- the target of the word w, where there are n blocks at the base: the block whose address w is. It has none if it is no block's address
unfoldable pub Points : ℕ → ℕ → ℕ → Option ℕ → Type 0
Points base n w (some k) = (k < n) × (w ≡ address_of base k)
Points base n w none = (k : ℕ) → k < n → w ≢ address_of base k

-- block k is the head of an object, which is MARK while the object is marked
abbrev pub Heads : List ℕ → ℕ → Type 0
Heads es k = (entry_at es k ≡ HEAD) ⊎ (entry_at es k ≡ MARK)

-- the word w is the address of a block of the object with head k: of the head, or of one of the TAILs directly after it
pub record PointsInto (base : ℕ) (es : List ℕ) (w k : ℕ) : Type 0 where
  pub head : Heads es k
  pub block : ℕ
  pub from : k ≤ block
  pub to : block < k + block_count es k
  pub address : w ≡ address_of base block

-- the object that the word w leads to: the one with a block that has w as its address. It leads to none if no block of an object has
unfoldable pub Leads : ℕ → List ℕ → ℕ → Option ℕ → Type 0
Leads base es w (some k) = PointsInto base es w k
Leads base es w none = (k : ℕ) → PointsInto base es w k → ⊥

-- the table is well-formed
pub record Well (es : List ℕ) : Type 0 where
  -- no block is MARK
  pub no_mark : (k : ℕ) → k < length es → entry_at es k ≢ MARK
  -- block 0 is no TAIL
  pub first : 0 < length es → entry_at es 0 ≢ TAIL
  -- no TAIL follows a FREE
  pub after : (k : ℕ) → suc k < length es → entry_at es (suc k) ≡ TAIL → entry_at es k ≢ FREE

-- b blocks, from block k on, are the block k and all the TAILs directly after it
pub record Extent (es : List ℕ) (k b : ℕ) : Type 0 where
  -- block k is one of them
  pub some_block : 0 < b
  -- they are blocks of the table
  pub room : k + b ≤ length es
  -- each but block k is TAIL
  pub tail : (j : ℕ) → 0 < j → j < b → entry_at es (k + j) ≡ TAIL
  -- the next block, if there is one, is no TAIL
  pub next : entry_at es (k + b) ≢ TAIL

-- the object of block k starts at block s
pub record Start (es : List ℕ) (k s : ℕ) : Type 0 where
  pub from : s ≤ k
  -- the blocks after s up to k are TAILs
  pub tails : (j : ℕ) → s < j → j ≤ k → entry_at es j ≡ TAIL
  -- and s is none, unless it is block 0
  pub first : 0 < s → entry_at es s ≢ TAIL

-- a run of FREE blocks
pub record Run (es : List ℕ) (b s : ℕ) : Type 0 where
  -- the b blocks from s on are blocks of the table
  pub room : s + b ≤ length es
  -- and FREE
  pub free : (j : ℕ) → j < b → entry_at es (s + j) ≡ FREE

-- b blocks are aligned at block s: there are fewer than four, or s is divisible by four
abbrev pub Aligned : ℕ → ℕ → Type 0
Aligned b s = (b < 4) ⊎ (s % 4 ≡ 0)

-- b blocks may start at block s
pub record Fits (es : List ℕ) (b s : ℕ) : Type 0 where
  -- they are aligned there
  pub aligned : Aligned b s
  -- and they are a run of FREE blocks
  pub run : Run es b s

-- what the answer of a search says: the lowest block at which b blocks may start, or that there is none
unfoldable pub Lowest : List ℕ → ℕ → Option ℕ → Type 0
Lowest es b (some s) = Fits es b s × ((q : ℕ) → q < s → Fits es b q → ⊥)
Lowest es b none = (q : ℕ) → Fits es b q → ⊥

-- the object of b blocks at k may get more, c in all, where it is
pub record GrowsInPlace (es : List ℕ) (k b c : ℕ) : Type 0 where
  -- c blocks are aligned there
  pub aligned : Aligned c k
  -- and those that join it, directly after it, are a run of FREE blocks
  pub run : Run es (c - b) (k + b)

-- l is the length of the longest run of FREE blocks
pub record Longest (es : List ℕ) (l : ℕ) : Type 0 where
  -- there is one of l blocks
  pub start : ℕ
  pub run : Run es l start
  -- and none of more
  pub most : (b s : ℕ) → Run es b s → b ≤ l

-- the shape of a heap: the base, the number of blocks and the pool suit each other
pub record Shape (base : ℕ) (h : Heap) : Type 0 where
  pub some : 1 ≤ length h.entries
  pub few : length h.entries ≤ 4096
  pub pool : length h.pool ≡ 16 * length h.entries
  pub aligned : base % 16 ≡ 0
  pub above : 16 ≤ base
  pub below : base + 16 * length h.entries ≤ 2 ^ 32

-- the same in bytes: t is from 1 to 1,024; the table has two planes of ⌈t/2⌉ bytes, so twice ⌈t/2⌉, and rules 4t blocks, which are 64t bytes
pub record ShapeInBytes (base t : ℕ) (pool table : List ℕ) : Type 0 where
  pub some : 1 ≤ t
  pub few : t ≤ 1024
  pub planes : length table ≡ 2 * ((t + 1) / 2)
  pub size : length pool ≡ 64 * t
  pub aligned : base % 16 ≡ 0
  pub above : 16 ≤ base
  pub below : base + 64 * t ≤ 2 ^ 32

-- what every call but init and an opening knows of its heap once it is not refused
pub record Passed (base : ℕ) (h : Heap) : Type 0 where
  pub shape : Shape base h
  pub well : well_formed h.entries ≡ true

-- what a call that names an object knows of it: block k is a HEAD of the table
pub record Named (h : Heap) (k : ℕ) : Type 0 where
  pub inside : k < length h.entries
  pub head : entry_at h.entries k ≡ HEAD

-- the call is accepted
abbrev pub Accepted : Outcome → Type 0
Accepted r = r.answer.refusal ≡ 0
