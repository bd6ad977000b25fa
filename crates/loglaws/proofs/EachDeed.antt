-- The log is a plain list of pairs: what holds of the heap after an init and after every deed, and that each deed keeps it. Only promises are used, never how a call is defined.
-- Here each deed for itself.
-- Assumes nothing.
use mathlib.Core.Path.{◌≡◌, refl, ap, sym, subst, ◌∙◌}
use mathlib.Core.Logic.{◌≢◌, inl, inr, ⊎_elim}
use mathlib.Core.Bool.{Bool, true, false, not}
use mathlib.Core.List.Memᴰ
use mathlib.Core.List.{List, [], ◌∷◌, ◌++◌, map-append, Memᴰ}
use Prim.Native.Nat.{ℕ, ◌+◌, ◌-◌, ◌*◌, ◌/◌, ◌^◌, ◌≤◌, ◌<◌}
use native.Mathlib.Decide.{ℕ_discrete}
use native.Mathlib.Omega.{arith}
use lib.Dec.{leb, ltb}
use lib.IntN.{pos, neg_ℤ}
use lib.ListN.{length, length-append, length-map}
use borrow.Author.Tests.{leb-true, leb-false, ltb-true, ltb-false, not-true, not-false, le-leb, eq-eqb, ne_eqb}
use Rattle.rules.specs.Tests.{pick, both}
use Rattle.rules.specs.Words.{bytes_of, words_of}
use Rattle.rules.specs.Entries.{HEAD, TAIL}
use Rattle.rules.specs.Tables.{entry_at, used}
use Rattle.laws.specs.Meaning.{AllBytes, Lowest, Passed, Accepted}
use Rattle.rules.specs.Outcomes.{Heap, Answer, Outcome}
use Rattle.rules.specs.Refusals.{first_of, whole_words}
use Rattle.rules.specs.Reach.{Reachable}
use Rattle.rules.specs.Calls.{collect}
use Rattle.rules.specs.Forms.{Form}
use Rattle.laws.specs.Faithful.{Faithful}
use Rattle.rules.specs.Planes.{planes}
use Rattle.rules.specs.Runs.{Collect, step}
use Rattle.rules.specs.Memory.{Memory, Result, heap_in, Sound}
use Rattle.laws.proofs.Words.{length_bytes_of}
use Rattle.laws.proofs.Planes.{length_entries_in, planes_faithful, planes_bytes}
use Rattle.laws.proofs.Tables.{used_le}
use Rattle.laws.proofs.Memory.{Written, follows_accepted, Performed, acted, left, performed}
use Rattle.keeping.specs.Keeping.{Keeps, Proper}
use Rattle.keeping.proofs.Owners.{owner, reachable_head}
use Rattle.keeping.proofs.Same.{keeps_one}
use Rattle.keeping.proofs.Collections.{collect_asks, keeps_exactly}
use Rattle.promises.specs.Conditions.{Condition, when, First, NoFit}
use Rattle.promises.specs.Promises.{Object, Among}
use Rattle.promises.proofs.Promised.{promises}
use Rattle.promises.proofs.Bytes.{on_bytes, first_past}
use Rattle.programs.specs.Programs.{Program, Ran, run}
use Rattle.programs.proofs.OnHeaps.{run_on_heap, run_written}
use Rattle.logs.specs.Log.{Reply, append, drop}
use Rattle.loglaws.specs.Chains.{Entry, Chain, heads}
use Rattle.loglaws.specs.Pairs.{Pair, pairs}
use Rattle.loglaws.specs.Promises.{survey_in, collection_in, of_append, NoEntry, of_read, of_drop, Longer, Dropped}
use Rattle.loglaws.specs.Cycle.{Deed, Append, Drop, program_of, stack_of, ran_to, first_by, told, refused_on, done_on, change_of, told_on, pairs_on, room_in}
use Rattle.loglaws.proofs.Chaining.{chain_one, chain_front, chain_object, chain_blocks, chain_reachable}
use Rattle.loglaws.proofs.Lasting.{sound_survey}
use Rattle.loglaws.proofs.Calling.{first_among}
use Rattle.loglaws.proofs.Appending.{whole_words_are, torn_words}
use Rattle.loglaws.proofs.Promised.{log_promises}
use Rattle.loglaws.proofs.Paired.{Paired, some_free, head_even, gap_fits, start_even, full_none, changed_paired, second_tail}

-- ---- a collection of what is all reachable

module _ (f : Form) (faithful : Faithful f) (base : ℕ) (m : Memory) (roots stack : List ℕ) (accepted : Accepted (collect base (heap_in f m) roots stack))
    (all : (o : ℕ) → Object (heap_in f m) o → Reachable base (heap_in f m) (words_of roots) o) where
  abbrev kept : Outcome
  kept = collect base (heap_in f m) roots stack

  proper : Proper (f.read m.table)
  proper = record { well = (collect_asks base (heap_in f m) roots stack accepted).passed.well; small = faithful.small m.table }

  -- the table may stay as it is
  stays : Keeps base (heap_in f m) (words_of roots) (f.read m.table)
  stays = record {
    long = refl;
    kept = reachable_head base (heap_in f m) (words_of roots) proper.well;
    only = all;
    count = λ o reached. refl;
    whole = λ k held. refl;
    rest = λ k some_block. let w = owner (f.read m.table) proper k some_block in record { object = w.object; reachable = all w.object w.owns.head; owns = w.owns };
    proper = proper;
  }

  -- so it does
  entries_kept : kept.heap.entries ≡ f.read m.table
  entries_kept = keeps_one (keeps_exactly f faithful base m roots stack accepted).table stays

  heap_kept : kept.heap ≡ heap_in f m
  heap_kept = let pool = (promises.reclaimed f faithful base m roots stack accepted).bytes in λ i. record { pool = pool i; entries = entries_kept i }

  no_change : kept.answer.change ≡ pos 0
  no_change =
      let same : used (f.read m.table) - used kept.heap.entries ≡ 0 = omega (arith, ap used entries_kept) in
      (promises.reclaimed f faithful base m roots stack accepted).change ∙ ap (λ (n : ℕ). neg_ℤ (pos n)) same

-- ---- the heap that a log of pairs is all of

-- The heap holds a log with these pairs, and nothing else: every object is in it, and each is an even block with the next
pub record Only (base : ℕ) (h : Heap) (first : ℕ) (ps : List Pair) : Type 0 where
  pub good : Passed base h
  pub entries : List Entry
  pub chain : Chain base h first entries
  pub all : (o : ℕ) → Object h o → Memᴰ o (heads entries)
  pub paired : Paired h.entries
  pub counted : used h.entries ≡ 2 * length entries
  pub are : pairs entries ≡ ps

-- as many pairs as entries
length_pairs : (es : List Entry) (ps : List Pair) → pairs es ≡ ps → length ps ≡ length es
length_pairs es ps e = sym (ap length e) ∙ length-map es (λ (x : Entry). record { time = x.time; tips = x.tips })

-- the list without its first pair
behind_first : (e : Entry) (es : List Entry) (ps : List Pair) → pairs (e ∷ es) ≡ ps → done_on Drop ps ≡ pairs es
unfolding done_on
behind_first e es ps q = sym (ap (done_on Drop) q)

-- a block that is neither of two
neither : (k i : ℕ) → i ≢ k → i ≢ k + 1 → ¬ Among k 2 i
neither k i other other' a = omega (arith, a.0, a.1)

module _ (base : ℕ) (h h'' : Heap) (first : ℕ) (ps : List Pair) (s : Only base h first ps) where
  -- a new entry
  only_longer : (k time tips new : ℕ) → Longer base first h s.entries k time tips h'' new → Passed base h'' → Only base h'' new (ps ++ record { time = time; tips = tips } ∷ [])
  only_longer k time tips new l good =
      record {
        good = good;
        entries = s.entries ++ e ∷ [];
        chain = l.chain;
        all = λ o object. all o object (ℕ_discrete o k) (ℕ_discrete o (k + 1));
        paired = changed_paired h.entries h''.entries k (start_even h.entries s.paired k l.start) l.entries (inr (head, tail)) s.paired;
        counted = omega (arith, l.more_used, s.counted, length-append s.entries (e ∷ []));
        are = map-append (λ (x : Entry). record { time = x.time; tips = x.tips }) s.entries (e ∷ []) ∙ ap (λ (qs : List Pair). qs ++ record { time = time; tips = tips } ∷ []) s.are;
      }
    where
      e : Entry
      e = record { head = k; time = time; tips = tips }

      blocks : heads (s.entries ++ e ∷ []) ≡ heads s.entries ++ k ∷ []
      blocks = map-append (λ (x : Entry). x.head) s.entries (e ∷ [])

      last : Memᴰ k (heads (s.entries ++ e ∷ []))
      last = subst (Memᴰ k) (sym blocks) (Memᴰ.append_right (heads s.entries) (Memᴰ.head refl))

      head : Object h'' k
      head = chain_object base h'' l.chain k last

      tail : entry_at h''.entries (k + 1) ≡ TAIL
      tail = second_tail h''.entries k head (chain_blocks base h'' l.chain k last)

      all : (o : ℕ) → Object h'' o → Dec (o ≡ k) → Dec (o ≡ k + 1) → Memᴰ o (heads (s.entries ++ e ∷ []))
      all o object (yes here) x = Memᴰ.cast here last
      all o object (no other) (yes behind) =
          let next : entry_at h''.entries (k + 1) ≡ HEAD = rw behind at object in
          absurd (omega (arith, next, tail))
      all o object (no other) (no other') = subst (Memᴰ o) (sym blocks) (Memᴰ.append_left (k ∷ []) (s.all o (sym (l.entries o (neither k o other other')) ∙ object)))

  -- the first entry less
  only_shorter : (e : Entry) (es : List Entry) (r : Reply) → s.entries ≡ e ∷ es → Dropped base h e es h'' r → Only base h'' r.first (pairs es)
  only_shorter e es r these d =
      let k : ℕ = e.head in
      let chain : Chain base h first (e ∷ es) = subst (Chain base h first) these s.chain in
      let even = head_even h.entries s.paired k (chain_front base h chain).object in
      record {
        good = d.good;
        entries = es;
        chain = d.chain;
        all = λ o object. all o object (ℕ_discrete o k) (ℕ_discrete o (k + 1));
        paired = changed_paired h.entries h''.entries k even d.entries (inl (d.free k (omega arith, omega arith), d.free (k + 1) (omega arith, omega arith))) s.paired;
        counted = omega (arith, d.fewer_used, s.counted, ap length these);
        are = refl;
      }
    where
      all : (o : ℕ) → Object h'' o → Dec (o ≡ e.head) → Dec (o ≡ e.head + 1) → Memᴰ o (heads es)
      all o object (yes here) x = absurd (omega (arith, object, d.free o (omega (arith, here), omega (arith, here))))
      all o object (no other) (yes behind) = absurd (omega (arith, object, d.free o (omega (arith, behind), omega (arith, behind))))
      all o object (no other) (no other') =
          ⊎_elim (λ here. absurd (other here)) (λ among. among)
          (Memᴰ.cases_cons (subst (λ (xs : List Entry). Memᴰ o (heads xs)) these (s.all o (sym (d.entries o (neither e.head o other other')) ∙ object))))

-- two blocks have room exactly if the list is not full
module _ (t base : ℕ) (h : Heap) (first : ℕ) (ps : List Pair) (s : Only base h first ps) (long : length h.entries ≡ 4 * t) where
  no_room : room_in t ≤ length ps → NoFit h 2
  no_room l = full_none h.entries (omega (arith, s.counted, long, used_le h.entries, l, length_pairs s.entries ps s.are))

  some_room : length ps < room_in t → ¬ NoFit h 2
  some_room l none_fits =
      let g = some_free h.entries (omega (arith, s.counted, long, l, length_pairs s.entries ps s.are)) in
      none_fits _ (gap_fits h.entries s.paired (omega (arith, long)) g)

-- ---- the lent memory

-- it holds such a heap, and its table is as its form asks
pub record Logged (t base : ℕ) (m : Memory) (first : ℕ) (ps : List Pair) : Type 0 where
  pub sound : Sound (planes t) m
  pub written : Written (planes t) m
  pub only : Only base (heap_in (planes t) m) first ps

-- which number the first of some tests gives
module _ {P : Type 0} where
  by_test : (b : Bool) (r n x : ℕ) (cs : List Condition) → (b ≡ true → P) → (b ≡ false → ¬ P) → First (when r P ∷ cs) n → (First cs n → n ≡ x) → n ≡ pick b r x
  unfolding First
  by_test true r n x cs says denies f rest = ⊎_elim (λ y. y.1) (λ y. absurd (y.0 (says refl))) f
  by_test false r n x cs says denies f rest = ⊎_elim (λ y. absurd (denies refl y.0)) (λ y. rest y.1) f

by_none : (n : ℕ) → First [] n → n ≡ 0
unfolding First
by_none n f = f

module _ (t base : ℕ) (m : Memory) (first : ℕ) (ps : List Pair) (l : Logged t base m first ps) where
  abbrev f : Form
  f = planes t

  abbrev faithful : Faithful f
  faithful = planes_faithful t

  abbrev h : Heap
  h = heap_in f m

  abbrev es : List Entry
  es = l.only.entries

  high : 16 ≤ base
  high = l.only.good.shape.above

  surveys : survey_in f base m ≡ 0
  surveys = sound_survey f faithful base m l.sound l.only.good

  bytes : AllBytes m.table
  bytes = subst AllBytes (sym l.written) (planes_bytes t (f.read m.table))

  long : length h.entries ≡ 4 * t
  long = length_entries_in t m.table

  -- what a deed leaves, told by the heap
  module _ (d : Deed) where
    abbrev r : Ran Reply
    r = ran_to f base d first m

    -- the table stays as its form asks
    left_logged : (new : ℕ) (qs : List Pair) → Only base (heap_in f r.memory) new qs → Logged t base r.memory new qs
    left_logged new qs o =
        let p : Program Reply = program_of base first d in
        record { sound = (run_on_heap f faithful p (stack_of d) m l.sound).3; written = run_written f faithful p (stack_of d) m l.sound l.written; only = o }

    -- what each deed has to show: its number; what it leaves if that is 0; and else that nothing has changed
    pub record Does : Type 0 where
      number : r.reply.refusal ≡ refused_on (room_in t) d ps
      acts : r.reply.refusal ≡ 0 → Only base (heap_in f r.memory) r.reply.first (done_on d ps) × (r.reply.change ≡ change_of d)
      idles : r.reply.refusal ≢ 0 → (heap_in f r.memory ≡ h) × (r.reply.change ≡ pos 0)

    -- so it is as on the list
    pub as_on_list : Does → Logged t base r.memory (first_by first r.reply) (pairs_on (room_in t) d ps) × (told r.reply ≡ told_on (room_in t) d ps)
    as_on_list x = go (ℕ_discrete r.reply.refusal 0)
      where
        go : Dec (r.reply.refusal ≡ 0) → Logged t base r.memory (first_by first r.reply) (pairs_on (room_in t) d ps) × (told r.reply ≡ told_on (room_in t) d ps)
        go (yes z) =
            let zero_too : refused_on (room_in t) d ps ≡ 0 = sym x.number ∙ z in
            rw (eq-eqb r.reply.refusal 0 z, eq-eqb (refused_on (room_in t) d ps) 0 zero_too)
            (left_logged r.reply.first (done_on d ps) (x.acts z).0, λ i. record { refusal = x.number i; change = (x.acts z).1 i })
        go (no z) =
            let other_too : refused_on (room_in t) d ps ≢ 0 = λ e. z (x.number ∙ e) in
            rw (ne_eqb r.reply.refusal 0 z, ne_eqb (refused_on (room_in t) d ps) 0 other_too)
            (left_logged first ps (subst (λ (g : Heap). Only base g first ps) (sym (x.idles z).0) l.only), λ i. record { refusal = x.number i; change = (x.idles z).1 i })

  -- ---- append

  module _ (time tips : ℕ) (roots stack : List ℕ) (small : time < 2 ^ 32) (small' : tips < 2 ^ 32) where
    abbrev a : Ran Reply
    a = run f (append base first time tips roots stack) stack m

    abbrev lists : List ℕ
    lists = bytes_of first ++ roots

    abbrev c : Result
    c = collection_in f base first roots stack m

    -- its collection changes nothing, refused or not
    idle : (heap_in f c.memory ≡ h) × (c.answer.change ≡ pos 0)
    unfolding step
    idle = go (performed f (Collect base lists) stack m)
      where
        go : Performed m stack c → (heap_in f c.memory ≡ h) × (c.answer.change ≡ pos 0)
        go (left n e) = (ap (λ (x : Result). heap_in f x.memory) e, ap (λ (x : Result). x.answer.change) e)
        go (acted z) =
            let accepted : Accepted (collect base h lists stack) = (on_bytes.accepted_bytes f (Collect base lists) stack m z).0 in
            let asked = collect_asks base h lists stack accepted in
            let size : length lists ≡ 4 + length roots = length-append (bytes_of first) roots ∙ ap (λ (n : ℕ). n + length roots) (length_bytes_of first) in
            let member = first_among f faithful base first time tips roots stack m l.only.good (omega (arith, size, asked.good_roots.whole)) (omega (arith, size, asked.good_roots.few)) asked.good_stack l.only.chain in
            let reach : (o : ℕ) → Object h o → Reachable base h (words_of lists) o = λ o object. chain_reachable base h (words_of lists) l.only.chain member o (l.only.all o object) in
            let follows = follows_accepted f faithful (Collect base lists) stack m z in
            (follows.heap ∙ heap_kept f faithful base m lists stack accepted reach, ap (λ (x : Answer). x.change) follows.answer ∙ no_change f faithful base m lists stack accepted reach)

    append_number : a.reply.refusal ≡ refused_on (room_in t) (Append time tips roots stack) ps
    unfolding of_append refused_on first_of
    append_number =
        by_test (not (both (whole_words roots) (whole_words stack))) 1 n _ _
        (λ e. inl (torn_words roots stack (not-true _ e)))
        (λ e. ⊎_elim (λ bad. bad (whole_words_are roots stack (not-false _ e))) (λ q. omega (arith, q, surveys)))
        (log_promises.append_refusal f faithful base first time tips roots stack m)
        (λ x.
        by_test (leb 4096 (length roots / 4)) 3 n _ _ (leb-true _ _) (λ e many. omega (arith, many, leb-false 4096 (length roots / 4) e)) (first_past _ _ _ x (λ q. omega (arith, q, surveys)))
        (λ y.
        by_test (ltb 64 (length stack / 4)) 4 n _ _ (ltb-true _ _) (λ e much. omega (arith, much, ltb-false 64 (length stack / 4) e)) y
        (λ z.
        by_test (leb (room_in t) (length ps)) 9 n 0 _
        (λ e. let none_fits = no_room t base h first ps l.only long (leb-true _ _ e) in (none_fits, subst (λ (g : Heap). NoFit g 2) (sym idle.0) none_fits))
        (λ e none_fits. some_room t base h first ps l.only long (leb-false (room_in t) (length ps) e) none_fits.0)
        (first_past _ _ _ z (λ no_log. no_log (record { entries = es; chain = l.only.chain })))
        (by_none n))))
      where
        n : ℕ
        n = a.reply.refusal

    pub append_does : Does (Append time tips roots stack)
    unfolding done_on Lowest
    append_does = record { number = append_number; acts = acts; idles = λ z. idles z (ℕ_discrete a.reply.refusal 9) }
      where
        -- an accepted append has found room without its collection
        had_room : a.reply.refusal ≡ 0 → ¬ NoFit h 2
        had_room z none_fits =
            let x = log_promises.appended_after f faithful base first time tips roots stack m small small' z none_fits in
            let start = (x.0.longer es (x.2 es l.only.chain)).start in
            subst (λ (g : Heap). NoFit g 2) (sym idle.0) none_fits _ start.0

        acts : a.reply.refusal ≡ 0 → Only base (heap_in f a.memory) a.reply.first (ps ++ record { time = time; tips = tips } ∷ []) × (a.reply.change ≡ pos 2)
        acts z =
            let x = (log_promises.appended f faithful base first time tips roots stack m small small' z (had_room z)).0 in
            (only_longer base h (heap_in f a.memory) first ps l.only x.block time tips a.reply.first (x.longer es l.only.chain) x.good, ap (λ (y : Reply). y.change) x.reply)

        idles : a.reply.refusal ≢ 0 → Dec (a.reply.refusal ≡ 9) → (heap_in f a.memory ≡ h) × (a.reply.change ≡ pos 0)
        idles z (yes nine) =
            let x = log_promises.append_no_room f faithful base first time tips roots stack m bytes nine in
            (ap (heap_in f) x.1 ∙ idle.0, ap (λ (y : Reply). y.change) x.0 ∙ idle.1)
        idles z (no nine) =
            let x = log_promises.append_declined f faithful base first time tips roots stack m bytes z nine in
            (ap (heap_in f) x.memory, ap (λ (y : Reply). y.change) x.reply)

  -- ---- drop

  abbrev o : Ran Reply
  o = run f (drop base first) [] m

  -- the log has no first entry exactly if the list is empty
  no_entry : length ps ≤ 0 → NoEntry base h first 0
  no_entry none-there ds other = omega (arith, none-there, length_pairs es ps l.only.are, ap length (chain_one base high h l.only.chain other))

  an_entry : 0 < length ps → ¬ NoEntry base h first 0
  an_entry some-there none-there = omega (arith, some-there, length_pairs es ps l.only.are, none-there es l.only.chain)

  drop_number : o.reply.refusal ≡ refused_on (room_in t) Drop ps
  unfolding of_drop of_read refused_on first_of
  drop_number =
      by_test (leb (length ps) 0) 19 o.reply.refusal 0 _ (λ e. no_entry (leb-true _ _ e)) (λ e. an_entry (leb-false (length ps) 0 e))
      (first_past _ _ _ (first_past _ _ _ (first_past _ _ _ (log_promises.drop_refusal f faithful base first [] m) (λ q. omega (arith, q, surveys))) (λ q. omega (arith, q, surveys)))
      (λ no_log. no_log (record { entries = es; chain = l.only.chain })))
      (by_none o.reply.refusal)

  pub drop_does : Does Drop
  unfolding refused_on first_of
  drop_does = record { number = drop_number; acts = λ z. acts z es refl; idles = idles }
    where
      acts : o.reply.refusal ≡ 0 → (ds : List Entry) → es ≡ ds → Only base (heap_in f o.memory) o.reply.first (done_on Drop ps) × (o.reply.change ≡ neg_ℤ (pos 2))
      acts z [] these =
          let nineteen : refused_on (room_in t) Drop ps ≡ 19 = rw (le-leb (length ps) 0 (omega (arith, length_pairs es ps l.only.are, ap length these))) refl in
          absurd (omega (arith, z, drop_number, nineteen))
      acts z (e ∷ ds) these =
          let x = (log_promises.dropped f faithful base first [] m z e ds (subst (Chain base h first) these l.only.chain)).0 in
          let rest : done_on Drop ps ≡ pairs ds = behind_first e ds ps (sym (ap pairs these) ∙ l.only.are) in
          (rw rest (only_shorter base h (heap_in f o.memory) first ps l.only e ds o.reply these x), ap (λ (y : Reply). y.change) x.reply)

      idles : o.reply.refusal ≢ 0 → (heap_in f o.memory ≡ h) × (o.reply.change ≡ pos 0)
      idles z =
          let x = log_promises.drop_declined f faithful base first [] m bytes z in
          (ap (heap_in f) x.memory, ap (λ (y : Reply). y.change) x.reply)
