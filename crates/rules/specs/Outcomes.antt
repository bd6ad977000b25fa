-- A heap, an answer, and the outcome of a call.
-- Assumes nothing.
use Rattle.std.specs.Prelude.{List, [], ℕ, zero, suc, ◌*◌, ℤ, pos, replicate}
use Rattle.std.proofs.Math.IntN.{sub_ℕ}
use Rattle.std.proofs.lemmas.List.Edits.{sets}
use Rattle.rules.specs.Entries.{entries_of}
use Rattle.rules.specs.Tables.{used}

-- what the rules speak of: the pool's bytes and the table's entries. What the caller lends is all bytes (Memory)
pub record Heap : Type 0 where
  pub pool : List ℕ
  pub entries : List ℕ

-- the heap in a pool and a packed table, as the examples write it. The heap in lent bytes is heap_in (Memory), and in two planes heap_at (Planes)
abbrev pub heap_of : List ℕ → List ℕ → Heap
heap_of pool table = record { pool = pool; entries = entries_of table }

-- the refusal number, 0 if accepted, and every other part that some call answers; a part that a call does not answer is zero
pub record Answer : Type 0 where
  pub refusal : ℕ
  pub block : ℕ
  pub change : ℤ
  pub kept : ℕ
  pub rescans : ℕ
  pub used : ℕ
  pub objects : ℕ
  pub longest : ℕ
  pub value : ℕ
  pub length : ℕ
  pub base : ℕ
  pub roots : ℕ

-- the answer, and what the lent memory then holds
pub record Outcome : Type 0 where
  pub answer : Answer
  pub heap : Heap
  -- the mark stack; a call that takes none has an empty one
  pub stack : List ℕ
  -- what the call wrote, from the front on, into a buffer that was lent for it to fill; nothing if it takes none
  pub filled : List ℕ

-- the answer of a call that answers a block and the change
abbrev pub placement : ℕ → ℕ → ℤ → Answer
placement r k d = record { refusal = r; block = k; change = d; kept = 0; rescans = 0; used = 0; objects = 0; longest = 0; value = 0; length = 0; base = 0; roots = 0 }

-- of a collection: the kept objects, the rescans and the change
abbrev pub collection : ℕ → ℕ → ℕ → ℤ → Answer
collection r n s d = record { refusal = r; block = 0; change = d; kept = n; rescans = s; used = 0; objects = 0; longest = 0; value = 0; length = 0; base = 0; roots = 0 }

-- of a survey: used blocks, objects, the longest free run
abbrev pub findings : ℕ → ℕ → ℕ → ℕ → Answer
findings r u n l = record { refusal = r; block = 0; change = pos 0; kept = 0; rescans = 0; used = u; objects = n; longest = l; value = 0; length = 0; base = 0; roots = 0 }

-- of a load: the word
abbrev pub reading : ℕ → ℕ → Answer
reading r w = record { refusal = r; block = 0; change = pos 0; kept = 0; rescans = 0; used = 0; objects = 0; longest = 0; value = w; length = 0; base = 0; roots = 0 }

-- of an image that was written: its length
abbrev pub writing : ℕ → ℕ → Answer
writing r n = record { refusal = r; block = 0; change = pos 0; kept = 0; rescans = 0; used = 0; objects = 0; longest = 0; value = 0; length = n; base = 0; roots = 0 }

-- of an image that was opened: its base, and how many roots it has
abbrev pub opening : ℕ → ℕ → ℕ → Answer
opening r b n = record { refusal = r; block = 0; change = pos 0; kept = 0; rescans = 0; used = 0; objects = 0; longest = 0; value = 0; length = 0; base = b; roots = n }

-- only a refusal number, all other parts zero
abbrev pub only_refusal : ℕ → Answer
only_refusal r = placement r 0 (pos 0)

-- the change in used blocks from one table to another
unfoldable pub change_from : List ℕ → List ℕ → ℤ
change_from before after = sub_ℕ (used after) (used before)

-- accepted, with the parts that the call answers
abbrev pub placed_at : ℕ → ℤ → Answer
placed_at k d = placement 0 k d

abbrev pub collected_to : ℕ → ℕ → ℤ → Answer
collected_to n s d = collection 0 n s d

abbrev pub surveyed : ℕ → ℕ → ℕ → Answer
surveyed u n l = findings 0 u n l

abbrev pub loaded : ℕ → Answer
loaded w = reading 0 w

abbrev pub written_to : ℕ → Answer
written_to n = writing 0 n

abbrev pub opened_at : ℕ → ℕ → Answer
opened_at b n = opening 0 b n

-- a call leaves this
abbrev pub leaves_with : Answer → Heap → List ℕ → Outcome
leaves_with a h stack = record { answer = a; heap = h; stack = stack; filled = [] }

-- and this, if it takes no mark stack
abbrev pub leaves : Answer → Heap → Outcome
leaves a h = leaves_with a h []

-- and this, if it writes these bytes into a buffer
abbrev pub fills : Answer → Heap → List ℕ → Outcome
fills a h bytes = record { answer = a; heap = h; stack = []; filled = bytes }

-- on a refusal nothing but the number is answered and nothing is changed; else the call acts
unfoldable pub unless_refused : ℕ → Heap → List ℕ → Outcome → Outcome
unless_refused zero h stack acted = acted
unless_refused (suc r) h stack acted = leaves_with (only_refusal (suc r)) h stack

-- the pool with the bytes of the b blocks from s on as zero
unfoldable pub cleared_blocks : List ℕ → ℕ → ℕ → List ℕ
cleared_blocks pool s b = sets pool (16 * s) (replicate (16 * b) 0)
