-- Images on another host. A heap that is written and then opened is the same but for its FREE blocks, which are zero; a file that is opened and then written is the same file, byte by byte;
-- and a file can be opened exactly if it is the image of a heap. So a heap with its roots has one file, and a file says one heap.
-- Assumes nothing.
use Rattle.std.specs.Prelude.{◌≡◌, ◌≢◌, ◌↔◌, List, [], ◌++◌, ℕ, ◌+◌, ◌*◌, ◌/◌, ◌%◌, ◌≤◌, ◌<◌, length, get_or, take, drop}
use Rattle.rules.specs.Entries.{FREE}
use Rattle.rules.specs.Tables.{entry_at}
use Rattle.laws.specs.Meaning.{AllBytes}
use Rattle.rules.specs.Outcomes.{opened_at, written_to}
use Rattle.rules.specs.Planes.{plane_bytes, entries_in, planes}
use Rattle.rules.specs.Runs.{WriteImage, OpenImage}
use Rattle.rules.specs.Memory.{Memory, Result, filling, with_buffer, AcceptedIn, perform}

-- the heap in the memory m and these roots, at this base, are opened elsewhere: r is the result with all of the root list that was lent
pub record BroughtOver (t base : ℕ) (roots : List ℕ) (m : Memory) (list : List ℕ) (r : Result) : Type 0 where
  -- it answers the base, and how many roots there are
  pub answer : r.answer ≡ opened_at base (length roots / 4)
  -- the table is the same, byte by byte
  pub table : r.memory.table ≡ m.table
  -- so is every byte of a used block, and every other byte is zero
  pub size : length r.memory.pool ≡ length m.pool
  pub used_bytes : (k : ℕ) → entry_at (entries_in t m.table) k ≢ FREE → (j : ℕ) → j < 16 → get_or r.memory.pool (16 * k + j) 0 ≡ get_or m.pool (16 * k + j) 0
  pub free_bytes : (k : ℕ) → entry_at (entries_in t m.table) k ≡ FREE → (j : ℕ) → j < 16 → get_or r.memory.pool (16 * k + j) 0 ≡ 0
  -- the roots are the same, and behind them the root list is as it was
  pub root_list : r.filled ≡ roots ++ drop (length roots) list

-- Writing and then opening: in any memory of the same lengths, whatever it held, with a root list of whole words that is long enough.
abbrev pub WriteThenOpen : Type 0
WriteThenOpen =
    (t base room : ℕ) (roots list : List ℕ) (m m' : Memory) → AllBytes m.table
    → length m'.pool ≡ length m.pool → length m'.table ≡ length m.table → length list % 4 ≡ 0 → length roots ≤ length list
    → let w : Result = perform (planes t) (WriteImage base roots room) [] m in
    AcceptedIn w → BroughtOver t base roots m list (with_buffer list (perform (planes t) (OpenImage w.filled (length list)) [] m'))

-- Opening and then writing: with the base that was answered and as many roots from the front of the list as were answered, into a buffer that is long enough.
abbrev pub OpenThenWrite : Type 0
OpenThenWrite =
    (t room : ℕ) (image list : List ℕ) (m : Memory) → AllBytes image
    → let r : Result = perform (planes t) (OpenImage image (length list)) [] m in
    let roots : List ℕ = take (4 * r.answer.roots) (with_buffer list r).filled in
    AcceptedIn r → length image ≤ room
    → perform (planes t) (WriteImage r.answer.base roots room) [] r.memory ≡ filling (written_to (length image)) r.memory image

-- the file is an image: a heap that is not refused, so well-formed, of this t and with at most 4,096 roots, is written as these bytes. A root list of so many bytes has room for its roots
pub record IsImage (t room : ℕ) (image : List ℕ) : Type 0 where
  pub base : ℕ
  pub roots : List ℕ
  pub memory : Memory
  pub accepted : AcceptedIn (perform (planes t) (WriteImage base roots (length image)) [] memory)
  pub bytes : (perform (planes t) (WriteImage base roots (length image)) [] memory).filled ≡ image
  pub enough : length roots ≤ room

-- what is lent has the lengths that t asks for, and the root list is whole words
pub record Lends (t room : ℕ) (m : Memory) : Type 0 where
  pub pool : length m.pool ≡ 64 * t
  pub table : length m.table ≡ 2 * plane_bytes t
  pub words : room % 4 ≡ 0

-- A file can be opened exactly if it is an image and such is lent.
abbrev pub OpensExactly : Type 0
OpensExactly =
    (t room : ℕ) (image : List ℕ) (m : Memory) → AllBytes image
    → AcceptedIn (perform (planes t) (OpenImage image room) [] m) ↔ (IsImage t room image × Lends t room m)

-- No two files open alike.
abbrev pub OneFile : Type 0
OneFile =
    (t t' room room' : ℕ) (image image' : List ℕ) (m m' : Memory) → AllBytes image → AllBytes image'
    → let r : Result = perform (planes t) (OpenImage image room) [] m in
    let r' : Result = perform (planes t') (OpenImage image' room') [] m' in
    AcceptedIn r → r ≡ r' → image ≡ image'
