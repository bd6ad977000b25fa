-- Read and drop: by which number they are refused, and what they do otherwise.
-- Assumes nothing.
use mathlib.Core.Path.{◌≡◌, refl, ap, ap₂, sym, subst, ◌∙◌}
use mathlib.Core.Logic.{◌≢◌, inr, ⊎_elim}
use mathlib.Core.List.{List, [], ◌∷◌, ◌++◌}
use mathlib.Core.Option.{some, none}
use Prim.Native.Nat.{ℕ, zero, suc, ◌+◌, ◌*◌, ◌≤◌, ◌<◌}
use native.Mathlib.Omega.{arith}
use lib.IntN.{ℤ, pos, neg_ℤ, ◌+ℤ◌, nat_abs, -ℤ-+ℤ_cancel}
use lib.ListN.{length}
use Rattle.rules.specs.Words.{word_at}
use Rattle.rules.specs.Tables.{used}
use Rattle.rules.specs.Pointers.{address_of}
use Rattle.laws.specs.Meaning.{AllBytes, Passed, Accepted}
use Rattle.rules.specs.Outcomes.{Heap, Answer}
use Rattle.rules.specs.Calls.{free}
use Rattle.rules.specs.Forms.{Form}
use Rattle.laws.specs.Faithful.{Faithful}
use Rattle.rules.specs.Memory.{Memory, heap_in, Sound}
use Rattle.laws.proofs.Tables.{entry_inside, well_says}
use Rattle.promises.specs.Conditions.{First, of_free}
use Rattle.promises.specs.Promises.{Object, blocks_of}
use Rattle.promises.proofs.Promised.{promises}
use Rattle.promises.proofs.Observed.{free_number, load_inside}
use Rattle.programs.specs.Programs.{Ran, run}
use Rattle.programs.proofs.Laws.{heads_same, tails_same}
use Rattle.programs.proofs.OnHeaps.{RanOn, run_on, RunsAs}
use Rattle.logs.specs.Log.{Reply, logged, readout, declined, read_from, read, drop_from, drop}
use Rattle.loglaws.specs.Chains.{Entry, Chain}
use Rattle.loglaws.specs.Pairs.{pairs, read_pairs}
use Rattle.loglaws.specs.Promises.{survey_in, of_read, of_drop, Declined, Dropped}
use Rattle.loglaws.proofs.Chaining.{Front, chain_front, chain_one, chain_apart, distinct_front}
use Rattle.loglaws.proofs.Distinct.{no_repetition}
use Rattle.loglaws.proofs.Following.{looks}
use Rattle.loglaws.proofs.Calling.{resting, read_none, read_some, drop_none, drop_some}
use Rattle.loglaws.proofs.Ending.{written_same, written_of, Ends, stops, acts, ended}

-- ---- entries of a chain

-- an entry in a chain leads to the chain behind it
pub chain_at : (base : ℕ) (h : Heap) {w : ℕ} (before : List Entry) {e : Entry} {after : List Entry} → Chain base h w (before ++ e ∷ after) → Front base h (address_of base e.head) e after
chain_at base h [] c = let x = chain_front base h c in record { address = refl; object = x.object; blocks = x.blocks; entry = x.entry; rest = x.rest }
chain_at base h {w = w} (d ∷ before) {e = e} {after = after} c = chain_at base h {w = word_at h.pool (4 * d.head)} before (chain_front base h c).rest

-- two lists that are one, with an entry after as many, have one entry there
pub split_same : (xs ys : List Entry) (d e : Entry) (ds es : List Entry) → length xs ≡ length ys → xs ++ d ∷ ds ≡ ys ++ e ∷ es → d ≡ e
split_same [] [] d e ds es l q = heads_same q
split_same [] (y ∷ ys) d e ds es l q = absurd (omega arith)
split_same (x ∷ xs) [] d e ds es l q = absurd (omega arith)
split_same (x ∷ xs) (y ∷ ys) d e ds es l q = split_same xs ys d e ds es (omega arith) (tails_same q)

-- the pair at an index, and past the end
pub pairs_at : (before : List Entry) (e : Entry) (after : List Entry) (i : ℕ) → length before ≡ i → read_pairs (pairs (before ++ e ∷ after)) i ≡ readout 0 e.time e.tips
unfolding read_pairs
pairs_at [] e after zero l = refl
pairs_at [] e after (suc i) l = absurd (omega arith)
pairs_at (d ∷ before) e after zero l = absurd (omega arith)
pairs_at (d ∷ before) e after (suc i) l = pairs_at before e after i (omega arith)

pub pairs_past : (es : List Entry) (i : ℕ) → length es ≤ i → read_pairs (pairs es) i ≡ declined 19
unfolding read_pairs
pairs_past [] i l = refl
pairs_past (e ∷ es) zero l = absurd (omega arith)
pairs_past (e ∷ es) (suc i) l = pairs_past es i (omega arith)

-- a word of an object, where it was loaded
looked : (base : ℕ) (h : Heap) → Passed base h → (k i : ℕ) → Object h k → i < 4 * blocks_of h k → (looks base h k i).value ≡ word_at h.pool (4 * k + i)
looked base h good k i head l = ap (λ (a : Answer). a.value) (load_inside base h good k i head l)

-- ---- read

module _ (f : Form) (faithful : Faithful f) (base first index : ℕ) (stack : List ℕ) (m : Memory) where
  abbrev r : Ran Reply
  r = run f (read base first index) stack m

  read_ended : Ends f faithful base first index (read_from base) stack m (read_none base stack (heap_in f m) none refl)
  read_ended = ended f faithful base first index (read_from base) stack m (read_none base stack (heap_in f m) none refl)

  abbrev ReadEnds : Type 0
  ReadEnds = Ends f faithful base first index (read_from base) stack m (read_none base stack (heap_in f m) none refl)

  -- what an accepted read runs as
  as_read : (k : ℕ) → RunsAs f r (run_on (read_from base (some k)) stack (heap_in f m))
      → RunsAs f r (resting (readout 0 (looks base (heap_in f m) k 1).value (looks base (heap_in f m) k 2).value) (heap_in f m) stack)
  as_read k x = subst (λ (o : RanOn Reply). RunsAs f r o) (read_some base stack (heap_in f m) k) x

  pub read_refusal : First (of_read f base first index m) r.reply.refusal
  unfolding read
  read_refusal = go read_ended
    where
      go : ReadEnds → First (of_read f base first index m) r.reply.refusal
      go (stops n other first_is e declines) = subst (First (of_read f base first index m)) (sym (ap (λ (y : Reply). y.refusal) e)) first_is
      go (acts es chain x first_is good s ran_as written) =
          subst (First (of_read f base first index m)) (sym (ap (λ (y : Reply). y.refusal) (as_read x.entry.head ran_as).0)) first_is

  pub read_declined : AllBytes m.table → r.reply.refusal ≢ 0 → Declined m stack r
  unfolding read
  read_declined bytes some_number = go read_ended
    where
      go : ReadEnds → Declined m stack r
      go (stops n other first_is e declines) = declines bytes
      go (acts es chain x first_is good s ran_as written) =
          absurd (some_number (ap (λ (y : Reply). y.refusal) (as_read x.entry.head ran_as).0))

  pub was_read : AllBytes m.table → r.reply.refusal ≡ 0
      → (before : List Entry) (e : Entry) (after : List Entry) → length before ≡ index → Chain base (heap_in f m) first (before ++ e ∷ after)
      → (r.reply ≡ readout 0 e.time e.tips) × (r.memory ≡ m) × (r.stack ≡ stack)
  unfolding read
  was_read bytes accepted before e after long chain = go read_ended
    where
      go : ReadEnds → (r.reply ≡ readout 0 e.time e.tips) × (r.memory ≡ m) × (r.stack ≡ stack)
      go (stops n other first_is q declines) = absurd (other (sym (ap (λ (y : Reply). y.refusal) q) ∙ accepted))
      go (acts es chain' x first_is good s ran_as written) =
          let h : Heap = heap_in f m in
          let same : x.entry ≡ e = split_same x.before before x.entry e x.after after (x.long ∙ sym long) (sym x.are ∙ chain_one base good.shape.above h chain' chain) in
          let at = chain_at base h before chain in
          let here = as_read x.entry.head ran_as in
          let k : ℕ = e.head in
          let time : (looks base h x.entry.head 1).value ≡ e.time = ap (λ (y : Entry). (looks base h y.head 1).value) same ∙ looked base h good k 1 at.object (omega (arith, at.blocks)) ∙ sym (ap (λ (y : Entry). y.time) at.entry) in
          let tips : (looks base h x.entry.head 2).value ≡ e.tips = ap (λ (y : Entry). (looks base h y.head 2).value) same ∙ looked base h good k 2 at.object (omega (arith, at.blocks)) ∙ sym (ap (λ (y : Entry). y.tips) at.entry) in
          (here.0 ∙ ap₂ (readout 0) time tips, let w = written_of f faithful m bytes s in written_same f r.memory m (written w) w here.1, here.2)

-- ---- the plain list

module _ (f : Form) (faithful : Faithful f) (base first index : ℕ) (stack : List ℕ) (m : Memory) where
  -- a log is read as the plain list of its pairs
  pub read_as : survey_in f base m ≡ 0 → (es : List Entry) → Chain base (heap_in f m) first es → (run f (read base first index) stack m).reply ≡ read_pairs (pairs es) index
  unfolding read First of_read
  read_as z es chain = go (read_ended f faithful base first index stack m)
    where
      h : Heap
      h = heap_in f m

      go : ReadEnds f faithful base first index stack m → (r f faithful base first index stack m).reply ≡ read_pairs (pairs es) index
      go (stops n other first_is e declines) =
          ⊎_elim (λ x. absurd (omega (arith, x.0, z)))
          (λ x. ⊎_elim (λ y. absurd (omega (arith, y.0, z)))
          (λ y. ⊎_elim (λ u. absurd (u.0 (record { entries = es; chain = chain })))
          (λ u. ⊎_elim (λ v. e ∙ ap declined v.1 ∙ sym (pairs_past es index (v.0 es chain))) (λ v. absurd (other v.1))
          u.1) y.1) x.1) first_is
      go (acts ds chain' x first_is good s ran_as written) =
          let at = chain_at base h x.before (subst (Chain base h first) x.are chain') in
          let here = as_read f faithful base first index stack m x.entry.head ran_as in
          let k : ℕ = x.entry.head in
          let time : (looks base h k 1).value ≡ x.entry.time = looked base h good k 1 at.object (omega (arith, at.blocks)) ∙ sym (ap (λ (y : Entry). y.time) at.entry) in
          let tips : (looks base h k 2).value ≡ x.entry.tips = looked base h good k 2 at.object (omega (arith, at.blocks)) ∙ sym (ap (λ (y : Entry). y.tips) at.entry) in
          here.0 ∙ ap₂ (readout 0) time tips
          ∙ sym (ap (λ (xs : List Entry). read_pairs (pairs xs) index) (chain_one base good.shape.above h chain chain' ∙ x.are) ∙ pairs_at x.before x.entry x.after index x.long)

-- ---- drop

-- the object of an entry can be freed
pub free_accepted : (base : ℕ) (h : Heap) → Passed base h → (k : ℕ) → Object h k → Accepted (free base h k)
unfolding First of_free
free_accepted base h good k head =
    free_number base h k 0
    (inr (
      λ bad. bad good.shape,
      inr (
        λ bad. bad (well_says h.entries good.well),
        inr (λ out. omega (arith, entry_inside h.entries k (λ f. omega arith)), inr (λ other. other head, refl)),
      ),
    ))

-- a sum with a negative change
used_back : (before after b : ℕ) → b ≡ 2 → pos after ≡ pos before +ℤ neg_ℤ (pos b) → after + 2 ≡ before
used_back before after b two e =
    let back : after + b ≡ before = ap nat_abs (ap (λ (y : ℤ). y +ℤ pos b) e ∙ -ℤ-+ℤ_cancel (pos before) (pos b)) in
    omega (arith, back, two)

-- where the object of the first entry is freed, the log has the others
freed_first : (base : ℕ) (h : Heap) → Passed base h → {w : ℕ} (e : Entry) (es : List Entry) → Chain base h w (e ∷ es)
    → Dropped base h e es (free base h e.head).heap (logged 0 (looks base h e.head 0).value (free base h e.head).answer.change)
freed_first base h good e es chain =
    let k : ℕ = e.head in
    let x = chain_front base h chain in
    let p = promises.freed base h k (free_accepted base h good k x.object) in
    let here : 4 * k + 0 ≡ 4 * k = omega arith in
    let next : (looks base h k 0).value ≡ word_at h.pool (4 * k) = rw here at (looked base h good k 0 x.object (omega (arith, x.blocks))) in
    let other = (distinct_front (no_repetition base good.shape.above h chain)).0 in
    record {
      chain = subst (λ (w : ℕ). Chain base (free base h k).heap w es) (sym next) (chain_apart base h (free base h k).heap x.rest k other p.others);
      free = rw x.blocks at p.free;
      entries = rw x.blocks at p.entries;
      bytes = p.bytes;
      fewer_used = used_back (used h.entries) (used (free base h k).heap.entries) (blocks_of h k) x.blocks (p.counts.sum ∙ ap (λ (y : ℤ). pos (used h.entries) +ℤ y) p.change);
      reply = ap (logged 0 (looks base h k 0).value) (p.change ∙ ap (λ (b : ℕ). neg_ℤ (pos b)) x.blocks);
      good = p.good;
    }

module _ (f : Form) (faithful : Faithful f) (base first : ℕ) (stack : List ℕ) (m : Memory) where
  abbrev d : Ran Reply
  d = run f (drop base first) stack m

  abbrev DropEnds : Type 0
  DropEnds = Ends f faithful base first 0 (drop_from base) stack m (drop_none base stack (heap_in f m) none refl)

  drop_ended : DropEnds
  drop_ended = ended f faithful base first 0 (drop_from base) stack m (drop_none base stack (heap_in f m) none refl)

  -- what an accepted drop runs as
  as_drop : (k : ℕ) → RunsAs f d (run_on (drop_from base (some k)) stack (heap_in f m))
      → RunsAs f d (resting (logged 0 (looks base (heap_in f m) k 0).value (free base (heap_in f m) k).answer.change) (free base (heap_in f m) k).heap stack)
  as_drop k x = subst (λ (o : RanOn Reply). RunsAs f d o) (drop_some base stack (heap_in f m) k) x

  pub drop_refusal : First (of_drop f base first m) d.reply.refusal
  unfolding drop of_drop
  drop_refusal = go drop_ended
    where
      go : DropEnds → First (of_read f base first 0 m) d.reply.refusal
      go (stops n other first_is e declines) = subst (First (of_read f base first 0 m)) (sym (ap (λ (y : Reply). y.refusal) e)) first_is
      go (acts es chain x first_is good s ran_as written) = subst (First (of_read f base first 0 m)) (sym (ap (λ (y : Reply). y.refusal) (as_drop x.entry.head ran_as).0)) first_is

  pub drop_declined : AllBytes m.table → d.reply.refusal ≢ 0 → Declined m stack d
  unfolding drop
  drop_declined bytes some_number = go drop_ended
    where
      go : DropEnds → Declined m stack d
      go (stops n other first_is e declines) = declines bytes
      go (acts es chain x first_is good s ran_as written) = absurd (some_number (ap (λ (y : Reply). y.refusal) (as_drop x.entry.head ran_as).0))

  pub dropped : d.reply.refusal ≡ 0 → (e : Entry) (es : List Entry) → Chain base (heap_in f m) first (e ∷ es)
      → Dropped base (heap_in f m) e es (heap_in f d.memory) d.reply × (d.stack ≡ stack) × Sound f d.memory
  unfolding drop
  dropped accepted e es chain = go drop_ended
    where
      h : Heap
      h = heap_in f m

      go : DropEnds → Dropped base h e es (heap_in f d.memory) d.reply × (d.stack ≡ stack) × Sound f d.memory
      go (stops n other first_is q declines) = absurd (other (sym (ap (λ (y : Reply). y.refusal) q) ∙ accepted))
      go (acts ds chain' x first_is good s ran_as written) =
          let same : x.entry ≡ e = split_same x.before [] x.entry e x.after es x.long (sym x.are ∙ chain_one base good.shape.above h chain' chain) in
          let here = as_drop x.entry.head ran_as in
          let freed = subst (λ (y : Entry). Dropped base h e es (free base h y.head).heap (logged 0 (looks base h y.head 0).value (free base h y.head).answer.change)) (sym same)
          (freed_first base h good e es chain) in
          (subst (λ (g : Heap). Dropped base h e es g d.reply) (sym here.1) (subst (Dropped base h e es (free base h x.entry.head).heap) (sym here.0) freed), here.2, here.3)
