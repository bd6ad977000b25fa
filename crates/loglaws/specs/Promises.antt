-- What follows from the definitions of the log's calls, in plain sentences: for every memory and every argument.
-- Assumes nothing.
use Rattle.std.specs.Prelude.{◌≡◌, ◌≢◌, ◌⊎◌, List, [], ◌∷◌, ◌++◌, ℕ, ◌+◌, ◌*◌, ◌/◌, ◌%◌, ◌^◌, ◌≤◌, ◌<◌, ℤ, pos, neg_ℤ, ◌+ℤ◌, length}
use Rattle.std.proofs.Math.Option.{some}
use Rattle.rules.specs.Words.{bytes_of, word_at}
use Rattle.rules.specs.Entries.{FREE}
use Rattle.rules.specs.Tables.{entry_at, used}
use Rattle.laws.specs.Meaning.{AllBytes, Lowest, Passed}
use Rattle.rules.specs.Outcomes.{Heap}
use Rattle.rules.specs.Forms.{Form}
use Rattle.laws.specs.Faithful.{Faithful}
use Rattle.rules.specs.Runs.{Collect, Survey}
use Rattle.rules.specs.Memory.{Memory, Result, heap_in, Sound, perform}
use Rattle.promises.specs.Conditions.{Condition, when, First, NoFit}
use Rattle.promises.specs.Promises.{byte_at, Among, Within}
use Rattle.programs.specs.Programs.{Ran, run}
use Rattle.logs.specs.Log.{Reply, logged, readout, declined, append, read, drop}
use Rattle.loglaws.specs.Chains.{Entry, Chain, Log}

-- ---- refusals, those of each call in their order. The first that holds gives the number

-- by which number a survey is refused: 1 or 2, or 0
abbrev pub survey_in : Form → ℕ → Memory → ℕ
survey_in f base m = (perform f (Survey base) [] m).answer.refusal

-- append's collection, from the log's first address and the caller's roots
abbrev pub collection_in : Form → ℕ → ℕ → List ℕ → List ℕ → Memory → Result
collection_in f base first roots stack m = perform f (Collect base (bytes_of first ++ roots)) stack m

-- 9 is for no run of two FREE blocks, and none even after the collection
unfoldable pub of_append : Form → ℕ → ℕ → List ℕ → List ℕ → Memory → List Condition
of_append f base first roots stack m =
    when 1 (¬ ((length roots % 4 ≡ 0) × (length stack % 4 ≡ 0)) ⊎ (survey_in f base m ≡ 1)) ∷ when 2 (survey_in f base m ≡ 2)
    ∷ when 3 (4096 ≤ length roots / 4) ∷ when 4 (64 < length stack / 4)
    ∷ when 18 (¬ Log base (heap_in f m) first)
    ∷ when 9 (NoFit (heap_in f m) 2 × NoFit (heap_in f (collection_in f base first roots stack m).memory) 2) ∷ []

-- the log with that first address has no entry at this index
abbrev pub NoEntry : ℕ → Heap → ℕ → ℕ → Type 0
NoEntry base h first index = (es : List Entry) → Chain base h first es → length es ≤ index

unfoldable pub of_read : Form → ℕ → ℕ → ℕ → Memory → List Condition
of_read f base first index m =
    when 1 (survey_in f base m ≡ 1) ∷ when 2 (survey_in f base m ≡ 2) ∷ when 18 (¬ Log base (heap_in f m) first)
    ∷ when 19 (NoEntry base (heap_in f m) first index) ∷ []

unfoldable pub of_drop : Form → ℕ → ℕ → Memory → List Condition
of_drop f base first m = of_read f base first 0 m

-- ---- what each call does

-- a refused call: only the number is answered, and every byte that was lent is as it was
pub record Declined (m : Memory) (lent : List ℕ) (r : Ran Reply) : Type 0 where
  pub reply : r.reply ≡ declined r.reply.refusal
  pub memory : r.memory ≡ m
  pub stack : r.stack ≡ lent

-- block o is the head of the log's last entry
abbrev pub LastOf : List Entry → ℕ → Type 0
LastOf es o = (front : List Entry) × (e : Entry) × (es ≡ front ++ e ∷ []) × (o ≡ e.head)

-- The heap `after` is the heap `before`, in which the log has the entries es, with one entry more: time and tips, in a new object at block k. Nothing else is changed.
pub record Longer (base old : ℕ) (before : Heap) (es : List Entry) (k time tips : ℕ) (after : Heap) (new : ℕ) : Type 0 where
  -- the log then has the old entries and the new one, at the end
  pub chain : Chain base after new (es ++ record { head = k; time = time; tips = tips } ∷ [])
  -- with the same first address, if there were any
  pub first : es ≢ [] → new ≡ old
  -- the new object is at the lowest block at which two could start, and its words behind the tip count are 0
  pub start : Lowest before.entries 2 (some k)
  pub rest : (i : ℕ) → 3 ≤ i → i < 8 → word_at after.pool (4 * k + i) ≡ 0
  -- every other entry of the table is as before
  pub entries : (i : ℕ) → ¬ Among k 2 i → entry_at after.entries i ≡ entry_at before.entries i
  -- so that two blocks more are used
  pub more_used : used after.entries ≡ used before.entries + 2
  -- and every other byte, but for word 0 of the last entry
  pub bytes : (i : ℕ) → ¬ Within k 2 i → ((o : ℕ) → LastOf es o → ¬ ((16 * o ≤ i) × (i < 16 * o + 4))) → byte_at after i ≡ byte_at before i

-- An accepted append: the heap before, the heap after and the reply. The change is that of a collection before it, d, and of two blocks more
pub record Appended (base old time tips : ℕ) (before : Heap) (d : ℤ) (after : Heap) (r : Reply) : Type 0 where
  -- the block of the new object
  pub block : ℕ
  pub longer : (es : List Entry) → Chain base before old es → Longer base old before es block time tips after r.first
  pub reply : r ≡ logged 0 r.first (d +ℤ pos 2)
  -- the shape is good and the table well-formed
  pub good : Passed base after

-- an accepted drop of the entry e, which the entries es follow
pub record Dropped (base : ℕ) (before : Heap) (e : Entry) (es : List Entry) (after : Heap) (r : Reply) : Type 0 where
  -- the log then has those
  pub chain : Chain base after r.first es
  -- the object is freed
  pub free : (i : ℕ) → Among e.head 2 i → entry_at after.entries i ≡ FREE
  -- every other entry of the table, and every byte, is as before
  pub entries : (i : ℕ) → ¬ Among e.head 2 i → entry_at after.entries i ≡ entry_at before.entries i
  pub bytes : after.pool ≡ before.pool
  -- two blocks fewer are used
  pub fewer_used : used after.entries + 2 ≡ used before.entries
  pub reply : r ≡ logged 0 r.first (neg_ℤ (pos 2))
  -- the shape is good and the table well-formed
  pub good : Passed base after

-- ---- the promises

pub record LogPromises : Type 0 where
  -- the refusal number of each call is that of the first of its conditions that holds
  pub append_refusal : (f : Form) → Faithful f → (base first time tips : ℕ) (roots stack : List ℕ) (m : Memory)
      → First (of_append f base first roots stack m) (run f (append base first time tips roots stack) stack m).reply.refusal
  pub read_refusal : (f : Form) → Faithful f → (base first index : ℕ) (stack : List ℕ) (m : Memory)
      → First (of_read f base first index m) (run f (read base first index) stack m).reply.refusal
  pub drop_refusal : (f : Form) → Faithful f → (base first : ℕ) (stack : List ℕ) (m : Memory)
      → First (of_drop f base first m) (run f (drop base first) stack m).reply.refusal
  -- a call that is refused does nothing
  pub read_declined : (f : Form) → Faithful f → (base first index : ℕ) (stack : List ℕ) (m : Memory) → AllBytes m.table
      → let r : Ran Reply = run f (read base first index) stack m in
      r.reply.refusal ≢ 0 → Declined m stack r
  pub drop_declined : (f : Form) → Faithful f → (base first : ℕ) (stack : List ℕ) (m : Memory) → AllBytes m.table
      → let r : Ran Reply = run f (drop base first) stack m in
      r.reply.refusal ≢ 0 → Declined m stack r
  pub append_declined : (f : Form) → Faithful f → (base first time tips : ℕ) (roots stack : List ℕ) (m : Memory) → AllBytes m.table
      → let r : Ran Reply = run f (append base first time tips roots stack) stack m in
      r.reply.refusal ≢ 0 → r.reply.refusal ≢ 9 → Declined m stack r
  -- but for append's 9: the collection stands, with all that it wrote, and its change is answered; and the log is as it was
  pub append_no_room : (f : Form) → Faithful f → (base first time tips : ℕ) (roots stack : List ℕ) (m : Memory) → AllBytes m.table
      → let r : Ran Reply = run f (append base first time tips roots stack) stack m in
      let c : Result = collection_in f base first roots stack m in
      r.reply.refusal ≡ 9
      → (r.reply ≡ logged 9 0 c.answer.change) × (r.memory ≡ c.memory) × (r.stack ≡ c.stack)
      × ((es : List Entry) → Chain base (heap_in f m) first es → Chain base (heap_in f r.memory) first es)
  -- a call that is accepted does what its record says, and leaves a table that is as its form asks. Where there is room for two blocks append collects nothing, and the mark stack is not touched
  pub appended : (f : Form) → Faithful f → (base first time tips : ℕ) (roots stack : List ℕ) (m : Memory) → time < 2 ^ 32 → tips < 2 ^ 32
      → let r : Ran Reply = run f (append base first time tips roots stack) stack m in
      r.reply.refusal ≡ 0 → ¬ NoFit (heap_in f m) 2
      → Appended base first time tips (heap_in f m) (pos 0) (heap_in f r.memory) r.reply × (r.stack ≡ stack) × Sound f r.memory
  -- and where there is none, it does so on what the collection leaves, in which the log is as it was
  pub appended_after : (f : Form) → Faithful f → (base first time tips : ℕ) (roots stack : List ℕ) (m : Memory) → time < 2 ^ 32 → tips < 2 ^ 32
      → let r : Ran Reply = run f (append base first time tips roots stack) stack m in
      let c : Result = collection_in f base first roots stack m in
      r.reply.refusal ≡ 0 → NoFit (heap_in f m) 2
      → Appended base first time tips (heap_in f c.memory) c.answer.change (heap_in f r.memory) r.reply × (r.stack ≡ c.stack)
      × ((es : List Entry) → Chain base (heap_in f m) first es → Chain base (heap_in f c.memory) first es) × Sound f r.memory
  pub was_read : (f : Form) → Faithful f → (base first index : ℕ) (stack : List ℕ) (m : Memory) → AllBytes m.table
      → let r : Ran Reply = run f (read base first index) stack m in
      r.reply.refusal ≡ 0
      → (before : List Entry) (e : Entry) (after : List Entry) → length before ≡ index → Chain base (heap_in f m) first (before ++ e ∷ after)
      → (r.reply ≡ readout 0 e.time e.tips) × (r.memory ≡ m) × (r.stack ≡ stack)
  pub dropped : (f : Form) → Faithful f → (base first : ℕ) (stack : List ℕ) (m : Memory)
      → let r : Ran Reply = run f (drop base first) stack m in
      r.reply.refusal ≡ 0
      → (e : Entry) (es : List Entry) → Chain base (heap_in f m) first (e ∷ es)
      → Dropped base (heap_in f m) e es (heap_in f r.memory) r.reply × (r.stack ≡ stack) × Sound f r.memory
