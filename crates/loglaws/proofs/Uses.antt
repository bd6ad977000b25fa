-- What the promises of the log come to, over variables: an accepted append or drop has one outcome, and what a caller sees of each call through later ones.
-- Each field of the promises is used here, at variables: one that said less, or asked for more, would not give these laws.
-- Assumes nothing.
use mathlib.Core.Path.{◌≡◌, refl, ap, sym, subst, ◌∙◌}
use mathlib.Core.Logic.{◌≢◌, ◌↔◌, ◌⊎◌, inl, inr, ⊎_elim}
use mathlib.Core.List.{List, [], ◌∷◌, ◌++◌, append_assoc, Memᴰ}
use mathlib.Core.Option.{Option, some, none}
use Prim.Native.Nat.{ℕ, zero, suc, ◌+◌, ◌*◌, ◌-◌, ◌/◌, ◌%◌, ◌^◌, ◌≤◌, ◌<◌}
use native.Mathlib.Decide.{dec_lt, ℕ_discrete}
use native.Mathlib.Omega.{arith}
use lib.IntN.{ℤ, pos, neg_ℤ, ◌+ℤ◌, +ℤ_idr, +ℤ_assoc, pos-+ℤ-pos}
use lib.ListN.{length, get_or, replicate, length-append}
use Rattle.rules.specs.Tests.{count, leading, tabulate}
use Rattle.rules.specs.Bits.{bit_of, bit_at, byte_of}
use Rattle.rules.specs.Words.{number, bytes_of, word_at, words_of}
use Rattle.rules.specs.Entries.{TAIL}
use Rattle.rules.specs.Tables.{entry_at, may_follow, well_after, well_formed, used, objects, longest, first_fit}
use Rattle.rules.specs.Pointers.{address_of, good_base}
use Rattle.rules.specs.Planes.{plane_bytes, entry_in, entries_in, spare, spare_free, plane, planes_of, planes}
use Rattle.laws.specs.Meaning.{AllBytes, Extent, Lowest, Passed, Accepted}
use Rattle.rules.specs.Outcomes.{Heap, Answer, unless_refused}
use Rattle.rules.specs.Refusals.{first_of, good_shape}
use Rattle.rules.specs.Calls.{collect, survey}
use Rattle.rules.specs.Forms.{Form}
use Rattle.laws.specs.Faithful.{Faithful}
use Rattle.rules.specs.Runs.{Collect, step}
use Rattle.rules.specs.Memory.{Memory, Result, heap_in, Sound, AcceptedIn, or_refused, perform, after_in}
use Rattle.laws.proofs.Words.{word_at_same}
use Rattle.laws.proofs.Tables.{entry_inside, extent_of, extent_used, count_is, run_apart, objects_apart, first_lowest}
use Rattle.laws.proofs.Planes.{planes_faithful}
use Rattle.laws.proofs.Memory.{Follows, follows_sound}
use Rattle.keeping.specs.Keeping.{GoodStack}
use Rattle.keeping.proofs.Collections.{keeps_exactly}
use Rattle.promises.specs.Conditions.{Condition, when, First, NoFit}
use Rattle.promises.specs.Promises.{Object, blocks_of, Among, Same}
use Rattle.promises.proofs.Promised.{promises}
use Rattle.promises.proofs.Bytes.{on_bytes, first_past}
use Rattle.promises.proofs.Determined.{first_one, start_one}
use Rattle.programs.specs.Programs.{Ran, ran, run}
use Rattle.logs.specs.Log.{Reply, logged, declined, append, read, drop}
use Rattle.loglaws.specs.Chains.{Entry, Chain, ends, leads, Log}
use Rattle.loglaws.specs.Pairs.{Pair, pairs, read_pairs}
use Rattle.loglaws.specs.Lasting.{Spares}
use Rattle.loglaws.specs.Promises.{survey_in, collection_in, of_append, NoEntry, of_read, of_drop, Declined, LastOf, Longer, Appended, Dropped}
use Rattle.logs.specs.Examples.{ran_from, reads, linked, sevens}
use Rattle.loglaws.proofs.Chaining.{Front, address_one, address_some, chain_front, chain_none, chain_one}
use Rattle.loglaws.proofs.Lasting.{lasts_once, survey_sound, sound_survey, passes_after}
use Rattle.loglaws.proofs.Calling.{kept_accepted}
use Rattle.loglaws.proofs.Ending.{Indexed, past, inside, indexed}
use Rattle.loglaws.proofs.Reading.{chain_at, split_same, pairs_at, pairs_past, read_as}
use Rattle.loglaws.proofs.Promised.{log_promises}

-- ---- one outcome

-- two heaps have the same entries in their tables, and the same words in their pools
pub record Alike (h h' : Heap) : Type 0 where
  pub entries : (i : ℕ) → entry_at h.entries i ≡ entry_at h'.entries i
  pub words : (i : ℕ) → word_at h.pool i ≡ word_at h'.pool i

-- chains of the same entries lead from one address, in whatever heaps
chain_from : (base : ℕ) (h h' : Heap) {v w : ℕ} {es ds : List Entry} → es ≡ ds → Chain base h v es → Chain base h' w ds → v ≡ w
chain_from base h h' e ends c = sym (chain_none base h' (subst (Chain base h' _) (sym e) c))
chain_from base h h' e (leads head two c) d =
    sym (chain_front base h' (subst (Chain base h' _) (sym e) d)).address

-- every place is the first or the second of two, or another
two_places : (P : ℕ → Type 0) (k : ℕ) → P k → P (k + 1) → ((i : ℕ) → ¬ Among k 2 i → P i) → (i : ℕ) → P i
two_places P k here after other i = go (ℕ_discrete i k) (ℕ_discrete i (k + 1))
  where
    go : Dec (i ≡ k) → Dec (i ≡ k + 1) → P i
    go (yes e) d = subst P (sym e) here
    go (no a) (yes e) = subst P (sym e) after
    go (no a) (no b) = other i (λ x. omega (arith, x.0, x.1))

-- the second block of an object of two
second : (h : Heap) (k : ℕ) → Object h k → blocks_of h k ≡ 2 → entry_at h.entries (k + 1) ≡ TAIL
second h k head two = (extent_of h.entries k (entry_inside h.entries k (λ e. omega arith))).tail 1 (omega arith) (omega arith)

-- some entries have a last one, or there are none
data Final (es : List Entry) : Type 0 where
  nothing : es ≡ [] → Final es
  final : (front : List Entry) (e : Entry) → es ≡ front ++ e ∷ [] → Final es

final_of : (es : List Entry) → Final es
final_of [] = nothing refl
final_of (e ∷ es) = go (final_of es)
  where
    go : Final es → Final (e ∷ es)
    go (nothing q) = final [] e (ap (λ (ds : List Entry). e ∷ ds) q)
    go (final front d q) = final (e ∷ front) d (ap (λ (ds : List Entry). e ∷ ds) q)

-- and one only
last_one : (xs ys : List Entry) (d e : Entry) → xs ++ d ∷ [] ≡ ys ++ e ∷ [] → d ≡ e
last_one xs ys d e q = split_same xs ys d e [] [] (omega (arith, ap length q, length-append xs (d ∷ []), length-append ys (e ∷ []))) q

no_last : (o : ℕ) → LastOf [] o → ⊥
no_last o (front, e, are, at) = omega (arith, ap length are, length-append front (e ∷ []))

-- the words of an object that holds the last entry
unfoldable word_of : ℕ → ℕ → ℕ → ℕ
word_of time tips zero = 0
word_of time tips (suc zero) = time
word_of time tips (suc (suc zero)) = tips
word_of time tips (suc (suc (suc i))) = 0

-- what a longer log says of its words
module _ (base old : ℕ) (before : Heap) (es : List Entry) (k time tips : ℕ) (after : Heap) (new : ℕ) (l : Longer base old before es k time tips after new) where
  abbrev entry : Entry
  entry = record { head = k; time = time; tips = tips }

  joined : Front base after (address_of base k) entry []
  joined = chain_at base after es l.chain

  -- all eight of the new object
  new_word : (i : ℕ) → i < 8 → word_at after.pool (4 * k + i) ≡ word_of time tips i
  unfolding word_of
  new_word zero few = let e : 4 * k + 0 ≡ 4 * k = omega arith in rw e (chain_none base after joined.rest)
  new_word (suc zero) few = sym (ap (λ (e : Entry). e.time) joined.entry)
  new_word (suc (suc zero)) few = sym (ap (λ (e : Entry). e.tips) joined.entry)
  new_word (suc (suc (suc i))) few = l.rest (suc (suc (suc i))) (omega arith) few

  -- the last entry's word 0
  last_word : (front : List Entry) (e : Entry) → es ≡ front ++ e ∷ [] → word_at after.pool (4 * e.head) ≡ address_of base k
  last_word front e are =
      let c : Chain base after new (front ++ e ∷ entry ∷ []) = subst (Chain base after new) (ap (λ (ds : List Entry). ds ++ entry ∷ []) are ∙ append_assoc front (e ∷ []) (entry ∷ [])) l.chain in
      (chain_front base after (chain_at base after front c).rest).address

  -- a word of neither is as before
  other_word : (i : ℕ) → ¬ ((4 * k ≤ i) × (i < 4 * k + 8)) → ((o : ℕ) → LastOf es o → i ≢ 4 * o) → word_at after.pool i ≡ word_at before.pool i
  other_word i out other =
      word_at_same after.pool before.pool i i
      (λ j few. l.bytes (4 * i + j) (λ x. out (omega (arith, x.0), omega (arith, x.1))) (λ o last x. other o last (omega (arith, x.0, x.1))))

-- A log is made longer in one way: the same block, the same first address, the same entries and the same words
pub longer_one : (base old : ℕ) (before : Heap) (es : List Entry) (k k' time tips : ℕ) (after after' : Heap) (new new' : ℕ)
    → Longer base old before es k time tips after new → Longer base old before es k' time tips after' new' → (k ≡ k') × (new ≡ new') × Alike after after'
longer_one base old before es k k' time tips after after' new new' l l' = (same, chain_from base after after' refl l.chain there.chain, record { entries = entries; words = words })
  where
    same : k ≡ k'
    same = start_one before.entries 2 k k' l.start l'.start

    there : Longer base old before es k time tips after' new'
    there = subst (λ (j : ℕ). Longer base old before es j time tips after' new') (sym same) l'

    -- one of the two, and the other
    x : Front base after (address_of base k) (record { head = k; time = time; tips = tips }) []
    x = joined base old before es k time tips after new l

    y : Front base after' (address_of base k) (record { head = k; time = time; tips = tips }) []
    y = joined base old before es k time tips after' new' there

    entries : (i : ℕ) → entry_at after.entries i ≡ entry_at after'.entries i
    entries =
        two_places (λ (i : ℕ). entry_at after.entries i ≡ entry_at after'.entries i) k (x.object ∙ sym y.object)
        (second after k x.object x.blocks ∙ sym (second after' k y.object y.blocks))
        (λ i out. l.entries i out ∙ sym (there.entries i out))

    -- where both are as before
    others : (i : ℕ) → ¬ ((4 * k ≤ i) × (i < 4 * k + 8)) → ((o : ℕ) → LastOf es o → i ≢ 4 * o) → word_at after.pool i ≡ word_at after'.pool i
    others i out other = other_word base old before es k time tips after new l i out other ∙ sym (other_word base old before es k time tips after' new' there i out other)

    outside : (i : ℕ) → ¬ ((4 * k ≤ i) × (i < 4 * k + 8)) → Final es → word_at after.pool i ≡ word_at after'.pool i
    outside i out (nothing none-there) = others i out (λ o last. absurd (no_last o (subst (λ (ds : List Entry). LastOf ds o) none-there last)))
    outside i out (final front e are) = at (ℕ_discrete i (4 * e.head))
      where
        at : Dec (i ≡ 4 * e.head) → word_at after.pool i ≡ word_at after'.pool i
        at (yes q) = rw q (last_word base old before es k time tips after new l front e are ∙ sym (last_word base old before es k time tips after' new' there front e are))
        at (no other) = others i out (λ o (front', d, are', at_d) q. other (q ∙ ap (λ (j : ℕ). 4 * j) (at_d ∙ ap (λ (c : Entry). c.head) (last_one front' front d e (sym are' ∙ are)))))

    words : (i : ℕ) → word_at after.pool i ≡ word_at after'.pool i
    words i = go (dec_lt i (4 * k)) (dec_lt i (4 * k + 8))
      where
        go : Dec (i < 4 * k) → Dec (i < 4 * k + 8) → word_at after.pool i ≡ word_at after'.pool i
        go (yes low) d = outside i (λ z. omega (arith, z.0)) (final_of es)
        go (no from) (no beyond) = outside i (λ z. beyond z.1) (final_of es)
        go (no from) (yes to) =
            let e : 4 * k + (i - 4 * k) ≡ i = omega arith in
            subst (λ (j : ℕ). word_at after.pool j ≡ word_at after'.pool j) e
            (new_word base old before es k time tips after new l (i - 4 * k) (omega arith) ∙ sym (new_word base old before es k time tips after' new' there (i - 4 * k) (omega arith)))

-- and an entry is dropped in one way
pub dropped_one : (base : ℕ) (before : Heap) (e : Entry) (es : List Entry) (after after' : Heap) (r r' : Reply)
    → Dropped base before e es after r → Dropped base before e es after' r' → (r ≡ r') × Alike after after'
dropped_one base before e es after after' r r' d d' = (
  d.reply ∙ ap (λ (w : ℕ). logged 0 w (neg_ℤ (pos 2))) (chain_from base after after' refl d.chain d'.chain) ∙ sym d'.reply,
  record {
    entries =
        two_places (λ (i : ℕ). entry_at after.entries i ≡ entry_at after'.entries i) e.head (freed e.head (omega arith, omega arith)) (freed (e.head + 1) (omega arith, omega arith))
        (λ i out. d.entries i out ∙ sym (d'.entries i out));
    words = λ i. ap (λ (pool : List ℕ). word_at pool i) (d.bytes ∙ sym d'.bytes);
  },
)
  where
    freed : (i : ℕ) → Among e.head 2 i → entry_at after.entries i ≡ entry_at after'.entries i
    freed i among = d.free i among ∙ sym (d'.free i among)

-- ---- the numbers

module _ (f : Form) (faithful : Faithful f) (base first time tips : ℕ) (roots stack : List ℕ) (m : Memory) where
  abbrev r : Ran Reply
  r = run f (append base first time tips roots stack) stack m

  append_number : (n : ℕ) → First (of_append f base first roots stack m) n → r.reply.refusal ≡ n
  append_number n = first_one (of_append f base first roots stack m) _ n (log_promises.append_refusal f faithful base first time tips roots stack m)

  -- a list that is not whole words is refused by 1, whatever the heap is
  pub append_torn : (length roots % 4 ≢ 0) ⊎ (length stack % 4 ≢ 0) → r.reply.refusal ≡ 1
  unfolding First of_append
  append_torn torn = append_number 1 (inl (inl (λ x. ⊎_elim (λ bad. bad x.0) (λ bad. bad x.1) torn), refl))

  -- else 1 and 2 are those of a survey
  pub append_surveyed : (length roots % 4 ≡ 0) → (length stack % 4 ≡ 0) → (n : ℕ) → (n ≡ 1) ⊎ (n ≡ 2) → survey_in f base m ≡ n → r.reply.refusal ≡ n
  unfolding First of_append
  append_surveyed a b n number z =
      ⊎_elim (λ one. append_number n (inl (inr (z ∙ one), one)))
      (λ two. append_number n (inr (⊎_elim (λ bad. bad (a, b)) (λ q. omega (arith, q, z, two)), inl (z ∙ two, two)))) number

  module _ (surveyed : survey_in f base m ≡ 0) (whole : length roots % 4 ≡ 0) (whole_stack : length stack % 4 ≡ 0) where
    not_one : ¬ (¬ ((length roots % 4 ≡ 0) × (length stack % 4 ≡ 0)) ⊎ (survey_in f base m ≡ 1))
    not_one = ⊎_elim (λ bad. bad (whole, whole_stack)) (λ q. omega (arith, q, surveyed))

    -- from 4,096 roots on it is 3, even if the mark stack is too long and there is no log
    pub append_three : 4096 ≤ length roots / 4 → r.reply.refusal ≡ 3
    unfolding First of_append
    append_three many = append_number 3 (inr (not_one, inr (λ q. omega (arith, q, surveyed), inl (many, refl))))

    module _ (few : length roots / 4 < 4096) where
      pub append_four : 64 < length stack / 4 → r.reply.refusal ≡ 4
      unfolding First of_append
      append_four long = append_number 4 (inr (not_one, inr (λ q. omega (arith, q, surveyed), inr (λ q. omega (arith, q, few), inl (long, refl)))))

      module _ (short : length stack / 4 ≤ 64) where
        -- the tests that are left
        abbrev rest : List Condition
        rest = when 18 (¬ Log base (heap_in f m) first) ∷ when 9 (NoFit (heap_in f m) 2 × NoFit (heap_in f (collection_in f base first roots stack m).memory) 2) ∷ []

        to_rest : First rest r.reply.refusal
        unfolding of_append
        to_rest =
            first_past _ _ _
            (first_past _ _ _ (first_past _ _ _ (first_past _ _ _ (log_promises.append_refusal f faithful base first time tips roots stack m) not_one) (λ q. omega (arith, q, surveyed))) (λ q. omega (arith, q, few)))
            (λ q. omega (arith, q, short))

        from_rest : (n : ℕ) → First rest n → r.reply.refusal ≡ n
        unfolding First of_append
        from_rest n x = append_number n (inr (not_one, inr (λ q. omega (arith, q, surveyed), inr (λ q. omega (arith, q, few), inr (λ q. omega (arith, q, short), x)))))

        -- 18 exactly if there is no log
        pub append_eighteen : (r.reply.refusal ≡ 18) ↔ (¬ Log base (heap_in f m) first)
        unfolding First
        append_eighteen = (λ e log. ⊎_elim (λ x. x.0 log) (λ x. ⊎_elim (λ y. omega (arith, e, y.1)) (λ y. omega (arith, e, y.1)) x.1) to_rest, λ no_log. from_rest 18 (inl (no_log, refl)))

        -- and of a log 9 exactly if there is no room, not even after the collection
        pub append_nine : Log base (heap_in f m) first
            → (r.reply.refusal ≡ 9) ↔ (NoFit (heap_in f m) 2 × NoFit (heap_in f (collection_in f base first roots stack m).memory) 2)
        unfolding First
        append_nine log = (
          λ e. ⊎_elim (λ x. absurd (x.0 log)) (λ x. ⊎_elim (λ y. y.0) (λ y. absurd (omega (arith, e, y.1))) x.1) to_rest,
          λ full. from_rest 9 (inr (λ no_log. no_log log, inl (full, refl))),
        )

        -- else it is accepted
        pub append_accepts : Log base (heap_in f m) first → ¬ (NoFit (heap_in f m) 2 × NoFit (heap_in f (collection_in f base first roots stack m).memory) 2) → r.reply.refusal ≡ 0
        unfolding First
        append_accepts log room = from_rest 0 (inr (λ no_log. no_log log, inr (room, refl)))

-- ---- read and drop

-- a run, by its parts
pub ran_of : (r : Ran Reply) (a : Reply) (m : Memory) (stack : List ℕ) → r.reply ≡ a → r.memory ≡ m → r.stack ≡ stack → r ≡ ran a m stack
ran_of r a m stack p q s = λ i. ran (p i) (q i) (s i)

module _ (f : Form) (faithful : Faithful f) (base first : ℕ) (stack : List ℕ) (m : Memory) where
  read_number : (index n : ℕ) → First (of_read f base first index m) n → (run f (read base first index) stack m).reply.refusal ≡ n
  read_number index n = first_one (of_read f base first index m) _ n (log_promises.read_refusal f faithful base first index stack m)

  drop_number : (n : ℕ) → First (of_drop f base first m) n → (run f (drop base first) stack m).reply.refusal ≡ n
  drop_number n = first_one (of_drop f base first m) _ n (log_promises.drop_refusal f faithful base first stack m)

  declined_is : (r : Ran Reply) → Declined m stack r → (n : ℕ) → r.reply.refusal ≡ n → r ≡ ran (declined n) m stack
  declined_is r d n e = ran_of r (declined n) m stack (d.reply ∙ ap declined e) d.memory d.stack

  -- a drop is refused as a read of entry 0 is, by the same number and with all as it was
  pub drop_as_read : (run f (drop base first) stack m).reply.refusal ≡ (run f (read base first 0) stack m).reply.refusal
  unfolding of_drop
  drop_as_read = drop_number (run f (read base first 0) stack m).reply.refusal (log_promises.read_refusal f faithful base first 0 stack m)

  pub drop_refused_as_read : AllBytes m.table → (run f (read base first 0) stack m).reply.refusal ≢ 0 → run f (drop base first) stack m ≡ run f (read base first 0) stack m
  drop_refused_as_read bytes some_number =
      declined_is (run f (drop base first) stack m) (log_promises.drop_declined f faithful base first stack m bytes (λ e. some_number (sym drop_as_read ∙ e))) (run f (read base first 0) stack m).reply.refusal drop_as_read
      ∙ sym (declined_is (run f (read base first 0) stack m) (log_promises.read_declined f faithful base first 0 stack m bytes some_number) (run f (read base first 0) stack m).reply.refusal refl)

  -- 18 exactly if there is no log
  pub read_eighteen : (index : ℕ) → survey_in f base m ≡ 0 → ((run f (read base first index) stack m).reply.refusal ≡ 18) ↔ (¬ Log base (heap_in f m) first)
  unfolding First of_read
  read_eighteen index z = (
    λ e log.
        ⊎_elim (λ a. omega (arith, e, a.1))
        (λ a. ⊎_elim (λ b. omega (arith, e, b.1))
        (λ b. ⊎_elim (λ c. c.0 log)
        (λ c. ⊎_elim (λ d. omega (arith, e, d.1)) (λ d. omega (arith, e, d.1)) c.1) b.1) a.1) (log_promises.read_refusal f faithful base first index stack m),
    λ no_log. read_number index 18 (inr (λ q. omega (arith, q, z), inr (λ q. omega (arith, q, z), inl (no_log, refl)))),
  )

  -- behind the tests of the heap and of the log
  at_entry : (index n : ℕ) → survey_in f base m ≡ 0 → Log base (heap_in f m) first
      → (NoEntry base (heap_in f m) first index × (n ≡ 19)) ⊎ (¬ NoEntry base (heap_in f m) first index × (n ≡ 0)) → First (of_read f base first index m) n
  unfolding First of_read
  at_entry index n z log last = inr (λ q. omega (arith, q, z), inr (λ q. omega (arith, q, z), inr (λ no_log. no_log log, last)))

  -- a read is that of the plain list of pairs, at every index, and leaves all as it was
  pub reads_pairs : (index : ℕ) → AllBytes m.table → survey_in f base m ≡ 0 → (es : List Entry) → Chain base (heap_in f m) first es
      → run f (read base first index) stack m ≡ ran (read_pairs (pairs es) index) m stack
  reads_pairs index bytes z es chain = go (indexed es index)
    where
      r : Ran Reply
      r = run f (read base first index) stack m

      log : Log base (heap_in f m) first
      log = record { entries = es; chain = chain }

      only : (ds : List Entry) → Chain base (heap_in f m) first ds → es ≡ ds
      only ds other = chain_one base (survey_sound f base m z).1.shape.above (heap_in f m) chain other

      go : Indexed es index → r ≡ ran (read_pairs (pairs es) index) m stack
      go (past l q) =
          let no_entry : NoEntry base (heap_in f m) first index = λ ds other. subst (λ (xs : List Entry). length xs ≤ index) (only ds other) l in
          let n : r.reply.refusal ≡ 19 = read_number index 19 (at_entry index 19 z log (inl (no_entry, refl))) in
          declined_is r (log_promises.read_declined f faithful base first index stack m bytes (λ e. omega (arith, e, n))) 19 n
          ∙ ap (λ (a : Reply). ran a m stack) (sym (pairs_past es index l))
      go (inside x q) =
          let long : length es ≡ index + suc (length x.after) = ap length x.are ∙ length-append x.before (x.entry ∷ x.after) ∙ ap (λ (n : ℕ). n + suc (length x.after)) x.long in
          let n : r.reply.refusal ≡ 0 = read_number index 0 (at_entry index 0 z log (inr (λ no_entry. omega (arith, no_entry es chain, long), refl))) in
          let w = log_promises.was_read f faithful base first index stack m bytes n x.before x.entry x.after x.long (subst (Chain base (heap_in f m) first) x.are chain) in
          ran_of r (read_pairs (pairs es) index) m stack
          (w.0 ∙ sym (ap (λ (ds : List Entry). read_pairs (pairs ds) index) x.are ∙ pairs_at x.before x.entry x.after index x.long)) w.1 w.2

  -- a log with an entry is dropped
  pub drop_accepts : survey_in f base m ≡ 0 → (e : Entry) (es : List Entry) → Chain base (heap_in f m) first (e ∷ es) → (run f (drop base first) stack m).reply.refusal ≡ 0
  unfolding of_drop
  drop_accepts z e es chain =
      drop_number 0 (at_entry 0 0 z (record { entries = e ∷ es; chain = chain }) (inr (λ no_entry. omega (arith, no_entry (e ∷ es) chain), refl)))

-- ---- a refused append

module _ (f : Form) (faithful : Faithful f) (base first : ℕ) (stack : List ℕ) (m : Memory) where
  -- a refused append leaves all as it was, but for its 9, which leaves what the collection left
  pub append_refused : AllBytes m.table → (time tips : ℕ) (roots : List ℕ) (n : ℕ) → n ≢ 0 → n ≢ 9
      → (run f (append base first time tips roots stack) stack m).reply.refusal ≡ n → run f (append base first time tips roots stack) stack m ≡ ran (declined n) m stack
  append_refused bytes time tips roots n some_number no_nine e =
      declined_is f faithful base first stack m (run f (append base first time tips roots stack) stack m)
      (log_promises.append_declined f faithful base first time tips roots stack m bytes (λ z. some_number (sym e ∙ z)) (λ z. no_nine (sym e ∙ z))) n e

  pub append_refused_nine : AllBytes m.table → (time tips : ℕ) (roots : List ℕ) → (run f (append base first time tips roots stack) stack m).reply.refusal ≡ 9
      → let c : Result = collection_in f base first roots stack m in
      run f (append base first time tips roots stack) stack m ≡ ran (logged 9 0 c.answer.change) c.memory c.stack
  append_refused_nine bytes time tips roots nine =
      let c : Result = collection_in f base first roots stack m in
      let x = log_promises.append_no_room f faithful base first time tips roots stack m bytes nine in
      ran_of _ (logged 9 0 c.answer.change) c.memory c.stack x.0 x.1 x.2

-- ---- the next call

-- there is room for two blocks, or there is none
pub fit_or_not : (h : Heap) → NoFit h 2 ⊎ (¬ NoFit h 2)
unfolding Lowest
fit_or_not h = go (first_fit h.entries 2) (first_lowest h.entries 2 (omega arith))
  where
    go : (x : Option ℕ) → Lowest h.entries 2 x → NoFit h 2 ⊎ (¬ NoFit h 2)
    go none low = inl low
    go (some s) low = inr (λ no-fit. no-fit s low.0)

pairs_append : (es ds : List Entry) → pairs (es ++ ds) ≡ pairs es ++ pairs ds
pairs_append [] ds = refl
pairs_append (e ∷ es) ds = ap (λ (ps : List Pair). record { time = e.time; tips = e.tips } ∷ ps) (pairs_append es ds)

module _ (f : Form) (faithful : Faithful f) (base first : ℕ) (stack : List ℕ) (m : Memory) (surveyed : survey_in f base m ≡ 0) where
  -- After an accepted append the log reads as the old list with the new pair at its end, whether there was room or a collection made it
  pub append_then_read : (time tips : ℕ) (roots : List ℕ) → time < 2 ^ 32 → tips < 2 ^ 32
      → let r : Ran Reply = run f (append base first time tips roots stack) stack m in
      r.reply.refusal ≡ 0 → (es : List Entry) → Chain base (heap_in f m) first es
      → (index : ℕ) (lent : List ℕ) → (run f (read base r.reply.first index) lent r.memory).reply ≡ read_pairs (pairs es ++ record { time = time; tips = tips } ∷ []) index
  append_then_read time tips roots small small' accepted es chain index lent = ⊎_elim (λ no-fit. at_last no-fit) (λ fit. at_once fit) (fit_or_not (heap_in f m))
    where
      r : Ran Reply
      r = run f (append base first time tips roots stack) stack m

      reads : (k : ℕ) → Sound f r.memory → Passed base (heap_in f r.memory) → Chain base (heap_in f r.memory) r.reply.first (es ++ record { head = k; time = time; tips = tips } ∷ [])
          → (run f (read base r.reply.first index) lent r.memory).reply ≡ read_pairs (pairs es ++ record { time = time; tips = tips } ∷ []) index
      reads k sound good longer =
          read_as f faithful base r.reply.first index lent r.memory (sound_survey f faithful base r.memory sound good) _ longer
          ∙ ap (λ (ps : List Pair). read_pairs ps index) (pairs_append es (record { head = k; time = time; tips = tips } ∷ []))

      at_once : ¬ NoFit (heap_in f m) 2 → (run f (read base r.reply.first index) lent r.memory).reply ≡ read_pairs (pairs es ++ record { time = time; tips = tips } ∷ []) index
      at_once fit =
          let x = log_promises.appended f faithful base first time tips roots stack m small small' accepted fit in
          reads x.0.block x.2 x.0.good (x.0.longer es chain).chain

      at_last : NoFit (heap_in f m) 2 → (run f (read base r.reply.first index) lent r.memory).reply ≡ read_pairs (pairs es ++ record { time = time; tips = tips } ∷ []) index
      at_last no-fit =
          let x = log_promises.appended_after f faithful base first time tips roots stack m small small' accepted no-fit in
          reads x.0.block x.3 x.0.good (x.0.longer es (x.2 es chain)).chain

  -- the first address of a log with an entry stays
  pub append_keeps_first : (time tips : ℕ) (roots : List ℕ) → time < 2 ^ 32 → tips < 2 ^ 32
      → let r : Ran Reply = run f (append base first time tips roots stack) stack m in
      r.reply.refusal ≡ 0 → (e : Entry) (es : List Entry) → Chain base (heap_in f m) first (e ∷ es) → r.reply.first ≡ first
  append_keeps_first time tips roots small small' accepted e es chain =
      ⊎_elim
      (λ no-fit. let x = log_promises.appended_after f faithful base first time tips roots stack m small small' accepted no-fit in (x.0.longer (e ∷ es) (x.2 (e ∷ es) chain)).first some_entry)
      (λ fit. ((log_promises.appended f faithful base first time tips roots stack m small small' accepted fit).0.longer (e ∷ es) chain).first some_entry)
      (fit_or_not (heap_in f m))
    where
      some_entry : e ∷ es ≢ []
      some_entry q = omega (arith, ap length q)

  -- After an accepted drop each entry is read one place earlier
  pub drop_then_read : let r : Ran Reply = run f (drop base first) stack m in
      (e : Entry) (es : List Entry) → Chain base (heap_in f m) first (e ∷ es)
      → (index : ℕ) (lent : List ℕ) → (run f (read base r.reply.first index) lent r.memory).reply ≡ (run f (read base first (suc index)) lent m).reply
  unfolding read_pairs
  drop_then_read e es chain index lent =
      let r : Ran Reply = run f (drop base first) stack m in
      let (d, left, sound) = log_promises.dropped f faithful base first stack m (drop_accepts f faithful base first stack m surveyed e es chain) e es chain in
      read_as f faithful base r.reply.first index lent r.memory (sound_survey f faithful base r.memory sound d.good) es d.chain ∙ sym (read_as f faithful base first (suc index) lent m surveyed (e ∷ es) chain)

  -- After append's 9 it reads as before; and so does every other log whose first address is a root, by whatever word
  pub nine_then_read : AllBytes m.table → (time tips : ℕ) (roots : List ℕ)
      → let r : Ran Reply = run f (append base first time tips roots stack) stack m in
      r.reply.refusal ≡ 9 → (es : List Entry) → Chain base (heap_in f m) first es
      → (index : ℕ) (lent : List ℕ) → (run f (read base first index) lent r.memory).reply ≡ (run f (read base first index) lent m).reply
  unfolding after_in
  nine_then_read bytes time tips roots nine es chain index lent =
      let r : Ran Reply = run f (append base first time tips roots stack) stack m in
      let x = log_promises.append_no_room f faithful base first time tips roots stack m bytes nine in
      let z : survey_in f base r.memory ≡ 0 = subst (λ (n : Memory). survey_in f base n ≡ 0) (sym x.1) (passes_after f faithful base (record { call = Collect base (bytes_of first ++ roots); stack = stack } ∷ []) m surveyed) in
      read_as f faithful base first index lent r.memory z es (x.3 es chain) ∙ sym (read_as f faithful base first index lent m surveyed es chain)

  pub nine_then_others : AllBytes m.table → (time tips : ℕ) (roots : List ℕ)
      → let r : Ran Reply = run f (append base first time tips roots stack) stack m in
      r.reply.refusal ≡ 9 → (other : ℕ) (es : List Entry) → Chain base (heap_in f m) other es → Memᴰ other (words_of (bytes_of first ++ roots))
      → (index : ℕ) → (run f (read base other index) [] r.memory).reply ≡ (run f (read base other index) [] m).reply
  unfolding Spares after_in
  nine_then_others bytes time tips roots nine other es chain among index =
      let n : Memory = (collection_in f base first roots stack m).memory in
      let z : survey_in f base n ≡ 0 = passes_after f faithful base (record { call = Collect base (bytes_of first ++ roots); stack = stack } ∷ []) m surveyed in
      ap (λ (n : Memory). (run f (read base other index) [] n).reply) (log_promises.append_no_room f faithful base first time tips roots stack m bytes nine).1
      ∙ read_as f faithful base other index [] n z es (lasts_once f faithful base other es (Collect base (bytes_of first ++ roots)) stack m (refl, among) chain)
      ∙ sym (read_as f faithful base other index [] m surveyed es chain)

-- numbers that are known only not to be otherwise
surely : (a b : ℕ) → ¬ (a ≡ b → ⊥) → a ≡ b
surely a b twice = go (ℕ_discrete a b)
  where
    go : Dec (a ≡ b) → a ≡ b
    go (yes e) = e
    go (no e) = absurd (twice e)

-- Where append is refused by 9 its collection was accepted, as nothing is amiss with the lists. So the mark stack is then zero, all of it
pub nine_collected : (f : Form) → Faithful f → (base first time tips : ℕ) (roots stack : List ℕ) (m : Memory) → survey_in f base m ≡ 0 → AllBytes m.table
    → let r : Ran Reply = run f (append base first time tips roots stack) stack m in
    r.reply.refusal ≡ 9 → AcceptedIn (collection_in f base first roots stack m) × (r.stack ≡ replicate (length stack) 0)
unfolding First of_append step
nine_collected f faithful base first time tips roots stack m surveyed bytes nine =
    ⊎_elim (λ x. absurd (omega (arith, nine, x.1)))
    (λ x. ⊎_elim (λ y. absurd (omega (arith, nine, y.1)))
    (λ y. ⊎_elim (λ z. absurd (omega (arith, nine, z.1)))
    (λ z. ⊎_elim (λ u. absurd (omega (arith, nine, u.1)))
    (λ u.
    go
    (kept_accepted f faithful base first time tips roots stack m good.1 (surely _ _ (λ torn. x.0 (inl (λ whole. torn whole.0)))) (below z.0)
    (record { whole = surely _ _ (λ torn. x.0 (inl (λ whole. torn whole.1))); short = within u.0 })))
    z.1) y.1) x.1) (log_promises.append_refusal f faithful base first time tips roots stack m)
  where
    good : Sound f m × Passed base (heap_in f m)
    good = survey_sound f base m surveyed

    below : ¬ (4096 ≤ length roots / 4) → length roots / 4 < 4096
    below few = omega arith

    within : ¬ (64 < length stack / 4) → length stack / 4 ≤ 64
    within short = omega arith

    go : Accepted (collect base (heap_in f m) (bytes_of first ++ roots) stack)
        → AcceptedIn (collection_in f base first roots stack m) × ((run f (append base first time tips roots stack) stack m).stack ≡ replicate (length stack) 0)
    go accepted =
        let there : Follows f (collection_in f base first roots stack m) (collect base (heap_in f m) (bytes_of first ++ roots) stack) = follows_sound f faithful (Collect base (bytes_of first ++ roots)) stack m good.0 in (
          ap (λ (a : Answer). a.refusal) there.answer ∙ accepted,
          (log_promises.append_no_room f faithful base first time tips roots stack m bytes nine).2 ∙ there.stack ∙ (keeps_exactly f faithful base m (bytes_of first ++ roots) stack accepted).stack,
        )

-- ---- what lies beside the log

-- where the blocks of an object have the entries that they had, and what follows it is no TAIL, it has as many blocks
blocks_stay : (h h' : Heap) (o : ℕ) → Object h o → ((j : ℕ) → j < blocks_of h o → entry_at h'.entries (o + j) ≡ entry_at h.entries (o + j)) → entry_at h'.entries (o + blocks_of h o) ≢ TAIL
    → Object h' o × (blocks_of h' o ≡ blocks_of h o)
blocks_stay h h' o head kept behind = (
  let e : o + 0 ≡ o = omega arith in rw e at (kept 0 x.some_block ∙ ap (entry_at h.entries) e ∙ head),
  count_is h'.entries o b
      (record {
        some_block = x.some_block;
        room =
            let last : o + (b - 1) < length h'.entries =
            entry_inside h'.entries (o + (b - 1)) (λ e. extent_used h.entries o b x (λ q. omega (arith, q, head)) (b - 1) (omega (arith, x.some_block)) (sym (kept (b - 1) (omega (arith, x.some_block))) ∙ e)) in
            omega (arith, last, x.some_block);
        tail = λ j some_tail few. kept j few ∙ x.tail j some_tail few;
        next = behind;
      }),
)
  where
    b : ℕ
    b = blocks_of h o

    x : Extent h.entries o b
    x = extent_of h.entries o (entry_inside h.entries o (λ e. omega (arith, e, head)))

-- the last entry is at the head of an object of two blocks
last_object : (base : ℕ) (h : Heap) {w : ℕ} {es : List Entry} → Chain base h w es → (o : ℕ) → LastOf es o → Object h o × (blocks_of h o ≡ 2)
last_object base h c o (front, e, are, at) = let x = chain_at base h front (subst (Chain base h _) are c) in rw at (x.object, x.blocks)

-- An append leaves every object but the last entry's, with all its bytes
pub longer_others : (base old : ℕ) (before : Heap) (es : List Entry) (k time tips : ℕ) (after : Heap) (new : ℕ) → Chain base before old es → Longer base old before es k time tips after new
    → (o : ℕ) → Object before o → (LastOf es o → ⊥) → Same before after o
unfolding Lowest
longer_others base old before es k time tips after new chain l o head other =
    let stays = blocks_stay before after o head kept behind in
    record {
      head = stays.0;
      blocks = stays.1;
      bytes = λ i few.
          l.bytes (16 * o + i) (λ w. ⊎_elim (λ a. omega (arith, a, w.0, few)) (λ a. omega (arith, a, w.1)) apart)
          (λ p last w.
          let (object, two) = last_object base before chain p last in
          let y = extent_of before.entries p (entry_inside before.entries p (λ e. omega (arith, e, object))) in
          ⊎_elim (λ a. omega (arith, a, w.0, few)) (λ a. omega (arith, a, w.1, two))
          (objects_apart before.entries o b p (blocks_of before p) x y head object (λ e. other (subst (LastOf es) (sym e) last))));
    }
  where
    b : ℕ
    b = blocks_of before o

    x : Extent before.entries o b
    x = extent_of before.entries o (entry_inside before.entries o (λ e. omega (arith, e, head)))

    apart : (o + b ≤ k) ⊎ (k + 2 ≤ o)
    apart = run_apart before.entries o b k 2 x (omega arith) l.start.0.run head

    kept : (j : ℕ) → j < b → entry_at after.entries (o + j) ≡ entry_at before.entries (o + j)
    kept j few = l.entries (o + j) (λ w. ⊎_elim (λ a. omega (arith, a, w.0, few)) (λ a. omega (arith, a, w.1)) apart)

    -- it is followed by what followed it, or by the new object
    behind : entry_at after.entries (o + b) ≢ TAIL
    behind = go (ℕ_discrete (o + b) k)
      where
        go : Dec (o + b ≡ k) → entry_at after.entries (o + b) ≢ TAIL
        go (yes e) q = omega (arith, q, ap (entry_at after.entries) e, (joined base old before es k time tips after new l).object)
        go (no off) q = x.next (sym (l.entries (o + b) (λ w. ⊎_elim (λ a. off (omega (arith, a, w.0))) (λ a. omega (arith, a, w.1)) apart)) ∙ q)

-- and so does a drop: every object but the one that it frees stays as it was
pub dropped_others : (base : ℕ) (before : Heap) (first : ℕ) (e : Entry) (es : List Entry) (after : Heap) (r : Reply) → Chain base before first (e ∷ es) → Dropped base before e es after r
    → (o : ℕ) → Object before o → o ≢ e.head → Same before after o
dropped_others base before first e es after r chain d o head other =
    let stays = blocks_stay before after o head kept behind in
    record { head = stays.0; blocks = stays.1; bytes = λ i few. ap (λ (pool : List ℕ). get_or pool (16 * o + i) 0) d.bytes }
  where
    k : ℕ
    k = e.head

    b : ℕ
    b = blocks_of before o

    x : Extent before.entries o b
    x = extent_of before.entries o (entry_inside before.entries o (λ q. omega (arith, q, head)))

    y : Front base before first e es
    y = chain_front base before chain

    apart : (o + b ≤ k) ⊎ (k + 2 ≤ o)
    apart =
        subst (λ (n : ℕ). (o + b ≤ k) ⊎ (k + n ≤ o)) y.blocks
        (objects_apart before.entries o b k (blocks_of before k) x (extent_of before.entries k (entry_inside before.entries k (λ q. omega (arith, q, y.object)))) head y.object other)

    kept : (j : ℕ) → j < b → entry_at after.entries (o + j) ≡ entry_at before.entries (o + j)
    kept j few = d.entries (o + j) (λ w. ⊎_elim (λ a. omega (arith, a, w.0, few)) (λ a. omega (arith, a, w.1)) apart)

    behind : entry_at after.entries (o + b) ≢ TAIL
    behind = go (ℕ_discrete (o + b) k)
      where
        go : Dec (o + b ≡ k) → entry_at after.entries (o + b) ≢ TAIL
        go (yes at) q = omega (arith, q, d.free (o + b) (omega (arith, at), omega (arith, at)))
        go (no off) q = x.next (sym (d.entries (o + b) (λ w. ⊎_elim (λ a. off (omega (arith, a, w.0))) (λ a. omega (arith, a, w.1)) apart)) ∙ q)

-- ---- append and drop

-- An entry that is appended to the empty log, where there is room, and dropped again: the log is empty, and the table and the used blocks are as they were
pub append_then_drop : (f : Form) → Faithful f → (base time tips : ℕ) (roots stack lent : List ℕ) (m : Memory) → survey_in f base m ≡ 0 → time < 2 ^ 32 → tips < 2 ^ 32
    → let r : Ran Reply = run f (append base 0 time tips roots stack) stack m in
    let d : Ran Reply = run f (drop base r.reply.first) lent r.memory in
    r.reply.refusal ≡ 0 → ¬ NoFit (heap_in f m) 2
    → (r.reply.change ≡ pos 2) × (r.stack ≡ stack) × (d.reply ≡ logged 0 0 (neg_ℤ (pos 2))) × (d.stack ≡ lent)
    × ((i : ℕ) → entry_at (heap_in f d.memory).entries i ≡ entry_at (heap_in f m).entries i) × (used (heap_in f d.memory).entries ≡ used (heap_in f m).entries)
unfolding Lowest
append_then_drop f faithful base time tips roots stack lent m surveyed small small' accepted fit =
    let r : Ran Reply = run f (append base 0 time tips roots stack) stack m in
    let (a, untouched, sound) = log_promises.appended f faithful base 0 time tips roots stack m small small' accepted fit in
    let l = a.longer [] ends in
    let z : survey_in f base r.memory ≡ 0 = sound_survey f faithful base r.memory sound a.good in
    let e : Entry = record { head = a.block; time = time; tips = tips } in
    let (d, left, clean) = log_promises.dropped f faithful base r.reply.first lent r.memory (drop_accepts f faithful base r.reply.first lent r.memory z e [] l.chain) e [] l.chain in
    let free = l.start.0.run.free in
    let e0 : a.block + 0 ≡ a.block = omega arith in (
      ap (λ (y : Reply). y.change) a.reply,
      untouched,
      d.reply ∙ ap (λ (w : ℕ). logged 0 w (neg_ℤ (pos 2))) (chain_none base _ d.chain),
      left,
      two_places _ a.block (d.free a.block (omega arith, omega arith) ∙ sym (rw e0 at (free 0 (omega arith)))) (d.free (a.block + 1) (omega arith, omega arith) ∙ sym (free 1 (omega arith)))
          (λ i out. d.entries i out ∙ l.entries i out),
      omega (arith, d.fewer_used, l.more_used),
    )

-- The change that append answers is that of the used blocks, whether it has collected or not; and the mark stack is as the collection left it, or as it was lent
pub append_sums : (f : Form) → Faithful f → (base first time tips : ℕ) (roots stack : List ℕ) (m : Memory) → survey_in f base m ≡ 0 → length roots % 4 ≡ 0 → length roots / 4 < 4096 → GoodStack stack
    → time < 2 ^ 32 → tips < 2 ^ 32 → Log base (heap_in f m) first
    → let r : Ran Reply = run f (append base first time tips roots stack) stack m in
    let c : Result = collection_in f base first roots stack m in
    r.reply.refusal ≡ 0
    → (pos (used (heap_in f r.memory).entries) ≡ pos (used (heap_in f m).entries) +ℤ r.reply.change) × ((NoFit (heap_in f m) 2 × (r.stack ≡ c.stack)) ⊎ (¬ NoFit (heap_in f m) 2 × (r.stack ≡ stack)))
unfolding step
append_sums f faithful base first time tips roots stack m surveyed whole few stacked small small' log accepted =
    ⊎_elim
    (λ no-fit.
    let x = log_promises.appended_after f faithful base first time tips roots stack m small small' accepted no-fit in
    (sums (heap_in f c.memory) c.answer.change x.0 (x.2 log.entries log.chain) collected, inl (no-fit, x.1)))
    (λ fit.
    let x = log_promises.appended f faithful base first time tips roots stack m small small' accepted fit in
    (sums (heap_in f m) (pos 0) x.0 log.chain (sym (+ℤ_idr _)), inr (fit, x.1)))
    (fit_or_not (heap_in f m))
  where
    r : Ran Reply
    r = run f (append base first time tips roots stack) stack m

    c : Result
    c = collection_in f base first roots stack m

    good : Sound f m × Passed base (heap_in f m)
    good = survey_sound f base m surveyed

    collected : pos (used (heap_in f c.memory).entries) ≡ pos (used (heap_in f m).entries) +ℤ c.answer.change
    collected =
        let on = on_bytes.as_on_heap f faithful (Collect base (bytes_of first ++ roots)) stack m good.0 in
        ap (λ (h : Heap). pos (used h.entries)) on.heap
        ∙ (promises.reclaimed f faithful base m (bytes_of first ++ roots) stack (kept_accepted f faithful base first time tips roots stack m good.1 whole few stacked)).counts.sum
        ∙ ap (λ (a : Answer). pos (used (heap_in f m).entries) +ℤ a.change) (sym on.answer)

    -- two blocks more than there were before the entry was made
    sums : (g : Heap) (d : ℤ) → Appended base first time tips g d (heap_in f r.memory) r.reply → Chain base g first log.entries → pos (used g.entries) ≡ pos (used (heap_in f m).entries) +ℤ d
        → pos (used (heap_in f r.memory).entries) ≡ pos (used (heap_in f m).entries) +ℤ r.reply.change
    sums g d a chain e =
        ap pos (a.longer log.entries chain).more_used ∙ sym (pos-+ℤ-pos (used g.entries) 2) ∙ ap (λ (z : ℤ). z +ℤ pos 2) e ∙ +ℤ_assoc (pos (used (heap_in f m).entries)) d (pos 2)
        ∙ ap (λ (y : Reply). pos (used (heap_in f m).entries) +ℤ y.change) (sym a.reply)

-- ---- a chain that comes back

module _ (f : Form) (faithful : Faithful f) (base : ℕ) (m : Memory) (surveyed : survey_in f base m ≡ 0) where
  abbrev h : Heap
  h = heap_in f m

  abbrev next_of : ℕ → ℕ
  next_of o = word_at m.pool (4 * o)

  high : 16 ≤ base
  high = (survey_sound f base m surveyed).1.shape.above

  -- the chain behind a next word is one entry shorter
  step_on : (k j : ℕ) → next_of k ≡ address_of base j → (es : List Entry) → Chain base h (address_of base k) es → (ds : List Entry) × Chain base h (address_of base j) ds × (length es ≡ suc (length ds))
  step_on k j on [] c = absurd (address_some base k high (chain_none base h c))
  step_on k j on (e ∷ es) c =
      let x = chain_front base h c in
      (es, subst (λ (w : ℕ). Chain base h w es) (ap next_of (sym (address_one base k e.head x.address)) ∙ on) x.rest, refl)

  -- where it comes back after one entry, or after two, there is no log
  pub cycle_one : (k : ℕ) → next_of k ≡ address_of base k → ¬ Log base h (address_of base k)
  cycle_one k back log =
      let (ds, c, longer) = step_on k k back log.entries log.chain in
      omega (arith, longer, ap length (chain_one base high h c log.chain))

  pub cycle_two : (k j : ℕ) → next_of k ≡ address_of base j → next_of j ≡ address_of base k → ¬ Log base h (address_of base k)
  cycle_two k j out back log =
      let (ds, c, longer) = step_on k j out log.entries log.chain in
      let (cs, b, longer') = step_on j k back ds c in
      omega (arith, longer, longer', ap length (chain_one base high h b log.chain))

  -- nor is there one whose next word leads to none
  pub no_log_before : (k j : ℕ) → next_of k ≡ address_of base j → ¬ Log base h (address_of base j) → ¬ Log base h (address_of base k)
  no_log_before k j on no_log log = let (ds, c, longer) = step_on k j on log.entries log.chain in no_log (record { entries = ds; chain = c })

-- Chains that come back, to their first entry or to their second: 18. To follow one takes more steps than a check may, so the number is these laws'
pub cycles_refused : ((ran_from (reads 1 (linked 4096 0) 4096 0)).reply.refusal ≡ 18)
    × ((ran_from (reads 1 (linked 4128 4096) 4096 1)).reply.refusal ≡ 18)
    × ((ran_from (reads 1 (linked 4128 4128) 4096 0)).reply.refusal ≡ 18)
unfolding address_of word_at number bytes_of first_of good_base plane_bytes entry_in entries_in spare spare_free plane planes_of bit_of bit_at byte_of tabulate may_follow well_after well_formed used objects longest leading count good_shape unless_refused survey step or_refused perform
cycles_refused = (
  by_none (linked 4096 0) 0 refl (cycle_one (planes 1) (planes_faithful 1) 4096 (linked 4096 0) refl 0 refl),
  by_none (linked 4128 4096) 1 refl (cycle_two (planes 1) (planes_faithful 1) 4096 (linked 4128 4096) refl 0 2 refl refl),
  by_none (linked 4128 4128) 0 refl
      (no_log_before (planes 1) (planes_faithful 1) 4096 (linked 4128 4128) refl 0 2 refl (cycle_one (planes 1) (planes_faithful 1) 4096 (linked 4128 4128) refl 2 refl)),
)
  where
    by_none : (m : Memory) (index : ℕ) → survey_in (planes 1) 4096 m ≡ 0 → ¬ Log 4096 (heap_in (planes 1) m) 4096 → (ran_from (reads 1 m 4096 index)).reply.refusal ≡ 18
    by_none m index z no_log = (read_eighteen (planes 1) (planes_faithful 1) 4096 4096 (sevens 8) m index z).1 no_log
