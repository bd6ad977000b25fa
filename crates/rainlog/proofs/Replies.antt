-- Each way a call of the log can end, as what its program comes to.
-- Assumes nothing.
use mathlib.Core.Path.{◌≡◌, refl, sym, ap, ◌∙◌}
use mathlib.Core.Bool.{Bool, true, false}
use mathlib.Core.List.{List, [], ◌∷◌, Memᴰ}
use mathlib.Core.Option.{Option, some, none, none-ne-some, some-injective}
use Prim.Native.Nat.{ℕ, zero, suc, ◌/◌, ◌%◌, ◌^◌, ◌≤◌, ◌<◌}
use native.Mathlib.Omega.{arith}
use lib.Dec.{leb, ltb}
use lib.IntN.{ℤ}
use lib.ListN.{length}
use borrow.Author.Tests.{eq-eqb, ne_eqb, lt-ltb, le-ltb, le-leb, lt-leb}
use Rattle.std.specs.Prelude.{Option as Maybe, Some, None, Result as Returned, Ok, Err}
use Rattle.std.specs.Option.{ok_or}
use Rattle.rules.specs.Tests.{both}
use Rattle.laws.specs.Meaning.{AllBytes}
use Rattle.rules.specs.Refusals.{whole_words}
use Rattle.rules.specs.Runs.{Free, Survey, Load}
use Rattle.rules.specs.Planes.{planes}
use Rattle.rules.specs.Memory.{Memory, memory, Result, AcceptedIn, perform}
use Rattle.laws.proofs.Refusals.{true_not_false}
use Rattle.laws.proofs.Planes.{planes_faithful}
use Rattle.programs.specs.Programs.{Program, give, ask, Ran, ran, run}
use Rattle.logs.specs.Log.{Reply, logged, readout, declined, decline_if, checked, on_log, last_of, at_index, append_to, append, read_from, read, drop_from, drop}
use Rattle.numbers.specs.Places.{found}
use Rattle.numbers.specs.declared.Block.{Block}
use Rattle.refusals.specs.Codes.{code, refused_by}
use Rattle.refusals.specs.declared.Refusal.{Refusal}
use Rattle.refusals.specs.declared.Refusal.TheVariants.{NoLog, NoEntry}
use Rattle.refusals.proofs.Codes.{not_accepted}
use Rattle.heap.specs.Answers.{loaded}
use Rattle.allocator.specs.Answers.{freed}
use Rattle.chain.specs.declared.Walk.{Walk}
use Rattle.logs.specs.Heads.{heads_from}
use Rattle.chain.specs.Walks.{loads_in, last_by, Found, Walked}
use Rattle.appender.specs.Answers.{declined_by, logs}
use Rattle.appender.proofs.Asking.{asked}
use Rattle.rainlog.specs.Answers.{tested, Tests, Present, Sought, looked_up, reads, drops}
use Rattle.rainlog.proofs.Looking.{checked_refused, checked_passed, runs_on_log}
use Rattle.rainlog.proofs.Bounds.{first_small, entry_is, load_accepted, dropped_accepted}

-- ---- the walk

-- a walk that broke off found no log
no_log : (index : ℕ) (x : Option (List ℕ)) → Walked index None x → x ≡ none
no_log index none e = refl
no_log index (some ks) e = absurd e

-- one that came to the end found the heads
pub record Heads (index : ℕ) (w : Walk) (x : Option (List ℕ)) : Type 0 where
  pub all : List ℕ
  pub are : x ≡ some all
  pub found : Found index w all

the_log : (x : Option (List ℕ)) {index : ℕ} {w : Walk} → Walked index (Some w) x → Heads index w x
the_log none e = absurd (true_not_false refl e)
the_log (some ks) f = record { all = ks; are = refl; found = f }

-- what was missing is refused by the number that `ok_or` was given
missing : {A : Type 0} (o : Maybe A) (r e : Refusal) → o ≡ None → Err e ≡ ok_or o r → code e ≡ code r
missing o r e n q = ap refused_by (q ∙ ap (λ (o : Maybe _). ok_or o r) n)

-- the entry at an index is one of all
among : (ks : List ℕ) (i k : ℕ) → at_index ks i ≡ some k → Memᴰ k ks
unfolding at_index
among [] i k e = absurd (none-ne-some k e)
among (j ∷ ks) zero k e = Memᴰ.head (some-injective k j (sym e))
among (j ∷ ks) (suc i) k e = Memᴰ.tail (among ks i k e)

-- lists of whole words
pub whole_lists : (roots stack : List ℕ) → length roots % 4 ≡ 0 → length stack % 4 ≡ 0 → both (whole_words roots) (whole_words stack) ≡ true
unfolding whole_words
whole_lists roots stack z y = ap (λ (b : Bool). both b (whole_words stack)) (eq-eqb _ 0 z) ∙ eq-eqb _ 0 y

module _ (t base : ℕ) (pool table : List ℕ) (bytes : AllBytes table) where
  abbrev m : Memory
  m = memory pool table

  abbrev heads : ℕ → Option (List ℕ)
  heads first = heads_from (loads_in base t pool table) base 4096 first

  -- ---- the search for an entry

  -- 1 and 2
  pub sought_refused : (first index : ℕ) (e : Refusal) → code e ≡ (perform (planes t) (Survey base) [] m).answer.refusal → Sought t base first index pool table (Err e)
  sought_refused first index e same go last = checked_refused (planes t) (planes_faithful t) m bytes base (on_log base first (λ ks. go (at_index ks index))) [] same (not_accepted e)

  module _ (ok : AcceptedIn (perform (planes t) (Survey base) [] m)) (first : ℕ) where
    no_chain : (go : List ℕ → Program Reply) (stack : List ℕ) → heads first ≡ none → ran (declined 18) m stack ≡ run (planes t) (on_log base first go) stack m
    unfolding run
    no_chain go stack e = runs_on_log (planes t) (planes_faithful t) m bytes base first go stack none e

    with_heads : (go : List ℕ → Program Reply) (stack ks : List ℕ) → heads first ≡ some ks → run (planes t) (go ks) stack m ≡ run (planes t) (on_log base first go) stack m
    with_heads go stack ks e = runs_on_log (planes t) (planes_faithful t) m bytes base first go stack (some ks) e

    behind_checks : (next : Program Reply) → run (planes t) next [] m ≡ run (planes t) (checked base true next) [] m
    behind_checks next = checked_passed (planes t) (planes_faithful t) m bytes base next [] ok

    -- 18
    pub sought_no_log : (index : ℕ) {x : Maybe Walk} (e : Refusal) → Walked index x (heads first) → x ≡ None → Err e ≡ ok_or x NoLog → Sought t base first index pool table (Err e)
    sought_no_log index {x} e walked n q go last =
        let broken : Walked index None (heads first) = rw n at walked in
        rw (missing x NoLog e n q) (no_chain (λ ks. go (at_index ks index)) [] (no_log index (heads first) broken) ∙ behind_checks (on_log base first (λ ks. go (at_index ks index))))

    -- the entry, or 19
    module _ (index : ℕ) {x : Maybe Walk} (walked : Walked index x (heads first)) {w : Walk} (came : x ≡ Some w) where
      abbrev log : Heads index w (heads first)
      log = the_log (heads first) (rw came at walked)

      done : (go : Option ℕ → Program Reply) (y : Option ℕ) → at_index log.all index ≡ y → run (planes t) (go y) [] m ≡ run (planes t) (looked_up base first index go) [] m
      done go y e =
          rw e at (with_heads (λ ks. go (at_index ks index)) [] log.all log.are ∙ behind_checks (on_log base first (λ ks. go (at_index ks index))))

      sought_by : (o : Maybe Block) → at_index log.all index ≡ found o → Sought t base first index pool table (ok_or o NoEntry)
      unfolding run
      sought_by None e = λ go last. ap (λ (p : Program Reply). run (planes t) p [] m) (sym last) ∙ done go none e
      sought_by (Some k) e =
          let is = entry_is t base pool table ok first log.all log.are k.0 (among log.all index k.0 e) in
          record { accepted = ok; object = is.0; blocks = is.1; does = λ go. done go (some k.0) e }

      pub sought : {r : Returned Block Refusal} → r ≡ ok_or w.wanted NoEntry → Sought t base first index pool table r
      sought e = rw e (sought_by w.wanted log.found.wanted)

  -- ---- read and drop

  pub read_refused : (first index : ℕ) (e : Refusal) → Sought t base first index pool table (Err e) → reads (Err e) pool table ≡ run (planes t) (read base first index) [] m
  unfolding read read_from
  read_refused first index e declines = declines (read_from base) refl

  pub drop_refused : (first : ℕ) (e : Refusal) → Sought t base first 0 pool table (Err e) → drops (Err e) pool table ≡ run (planes t) (drop base first) [] m
  unfolding drop drop_from
  drop_refused first e declines = declines (drop_from base) refl

  module _ {first index k : ℕ} (there : Present t base first index pool table k) where
    -- no load of a word of an entry is refused, and neither is that it is freed
    pub load_stands : (i : ℕ) → i < 8 → (e : Refusal) → loaded (Err e) pool table ≡ perform (planes t) (Load base k i) [] m → ⊥
    load_stands i l e says = not_accepted e (ap (λ (x : Result). x.answer.refusal) says ∙ load_accepted t base pool table there.accepted k there.object i l there.blocks)

    pub free_stands : (table' : List ℕ) (e : Refusal) → freed (Err e) pool table' ≡ perform (planes t) (Free base k) [] m → ⊥
    free_stands table' e says = not_accepted e (ap (λ (x : Result). x.answer.refusal) says ∙ dropped_accepted t base pool table there.accepted k there.object)

    pub read_done : (a b : ℕ) → loaded (Ok a) pool table ≡ perform (planes t) (Load base k 1) [] m → loaded (Ok b) pool table ≡ perform (planes t) (Load base k 2) [] m
        → reads (Ok (record { time = a; tips = b })) pool table ≡ run (planes t) (read base first index) [] m
    unfolding read read_from run
    read_done a b ea eb =
        sym (asked (planes t) (Load base k 1) (λ x. ask (Load base k 2) (λ y. give (readout 0 x.value y.value))) [] m _ refl ea
        ∙ asked (planes t) (Load base k 2) (λ y. give (readout 0 a y.value)) [] m _ refl eb)
        ∙ there.does (read_from base)

  module _ {first k : ℕ} (there : Present t base first 0 pool table k) where
    pub drop_done : (a : ℕ) (b : ℤ) (table' : List ℕ) {d : ℤ} → loaded (Ok a) pool table ≡ perform (planes t) (Load base k 0) [] m → freed (Ok b) pool table' ≡ perform (planes t) (Free base k) [] m → d ≡ b
        → drops (Ok (record { first = a; change = d })) pool table' ≡ run (planes t) (drop base first) [] m
    unfolding drop drop_from run
    drop_done a b table' ea eb d =
        ap (λ (z : ℤ). ran (logged 0 a z) (memory pool table') []) d
        ∙ sym (asked (planes t) (Load base k 0) (λ x. ask (Free base k) (λ y. give (logged 0 x.value y.change))) [] m _ refl ea
        ∙ asked (planes t) (Free base k) (λ y. give (logged 0 a y.change)) [] m _ refl eb)
        ∙ there.does (drop_from base)

  -- ---- the first tests of an append

  module _ (roots stack : List ℕ) where
    abbrev Gives : ℕ → Type 0
    Gives r = Tests (planes t) base roots stack m r

    -- lists that are not whole words
    torn : both (whole_words roots) (whole_words stack) ≡ false → Gives 1
    unfolding checked run
    torn e = record { declines = λ _ next. rw e; passes = λ z. absurd (omega (arith, z)); accepts = λ z. absurd (omega (arith, z)) }

    pub torn_roots : (length roots % 4 ≡ 0 → ⊥) → Gives 1
    unfolding whole_words
    torn_roots ne = torn (ap (λ (b : Bool). both b (whole_words stack)) (ne_eqb _ 0 ne))

    pub torn_stack : length roots % 4 ≡ 0 → (length stack % 4 ≡ 0 → ⊥) → Gives 1
    unfolding whole_words
    torn_stack z ne = torn (ap (λ (b : Bool). both b (whole_words stack)) (eq-eqb _ 0 z) ∙ ne_eqb _ 0 ne)

    module _ (good : both (whole_words roots) (whole_words stack) ≡ true) where
      pub bad_heap : {r : ℕ} → r ≡ (perform (planes t) (Survey base) [] m).answer.refusal → (r ≡ 0 → ⊥) → Gives r
      bad_heap e ne = record { declines = λ _ next. rw good (checked_refused (planes t) (planes_faithful t) m bytes base _ stack e ne); passes = λ z. absurd (ne z); accepts = λ z. absurd (ne z) }

      module _ (ok : AcceptedIn (perform (planes t) (Survey base) [] m)) where
        behind : (next : Program Reply) → run (planes t) (decline_if (leb 4096 (length roots / 4)) 3 (decline_if (ltb 64 (length stack / 4)) 4 next)) stack m
            ≡ run (planes t) (tested base roots stack next) stack m
        behind next = rw good (checked_passed (planes t) (planes_faithful t) m bytes base _ stack ok)

        pub many_roots : 4096 ≤ length roots / 4 → Gives 3
        unfolding run
        many_roots e = record { declines = λ _ next. sym (ap (λ (b : Bool). run (planes t) (decline_if b 3 (decline_if (ltb 64 (length stack / 4)) 4 next)) stack m) (le-leb 4096 _ e)) ∙ behind next; passes = λ z. absurd (omega (arith, z)); accepts = λ z. absurd (omega (arith, z)) }

        module _ (few : length roots / 4 < 4096) where
          behind_roots : (next : Program Reply) → run (planes t) (decline_if (ltb 64 (length stack / 4)) 4 next) stack m ≡ run (planes t) (tested base roots stack next) stack m
          behind_roots next = sym (ap (λ (b : Bool). run (planes t) (decline_if b 3 (decline_if (ltb 64 (length stack / 4)) 4 next)) stack m) (lt-leb 4096 _ few)) ∙ behind next

          pub long_stack : 64 < length stack / 4 → Gives 4
          unfolding run
          long_stack e = record { declines = λ _ next. sym (ap (λ (b : Bool). run (planes t) (decline_if b 4 next) stack m) (lt-ltb 64 _ e)) ∙ behind_roots next; passes = λ z. absurd (omega (arith, z)); accepts = λ z. absurd (omega (arith, z)) }

          pub all_passed : length stack / 4 ≤ 64 → Gives 0
          all_passed e = record { declines = λ ne. absurd (ne refl); passes = λ _ next. sym (ap (λ (b : Bool). run (planes t) (decline_if b 4 next) stack m) (le-ltb 64 _ e)) ∙ behind_roots next; accepts = λ _. ok }

    -- ---- append

    module _ (first time tips : ℕ) where
      pub append_refused : (e : Refusal) → Gives (code e) → logs (Err (declined_by e)) pool table stack ≡ run (planes t) (append base first time tips roots stack) stack m
      unfolding append
      append_refused e tests = tests.declines (not_accepted e) _

      module _ (tests : Gives 0) {x : Maybe Walk} (walked : Walked 0 x (heads first)) where
        pub append_no_log : (e : Refusal) → x ≡ None → Err e ≡ ok_or x NoLog → logs (Err (declined_by e)) pool table stack ≡ run (planes t) (append base first time tips roots stack) stack m
        unfolding append
        append_no_log e n q =
            let broken : Walked 0 None (heads first) = rw n at walked in
            rw (missing x NoLog e n q)
            (no_chain (tests.accepts refl) first (append_to base first time tips roots) stack (no_log 0 (heads first) broken) ∙ tests.passes refl _)

        module _ {w : Walk} (came : x ≡ Some w) where
          abbrev chained : Heads 0 w (heads first)
          chained = the_log (heads first) (rw came at walked)

          pub append_word : first < 2 ^ 32
          append_word = first_small t base pool table (tests.accepts refl) first chained.all chained.are

          -- what is done with the heads comes to y
          pub append_done : {y : Ran Reply} {word : ℕ} → word ≡ first
              → ((ks : List ℕ) → last_of ks ≡ last_by w → y ≡ run (planes t) (append_to base word time tips roots ks) stack m)
              → y ≡ run (planes t) (append base first time tips roots stack) stack m
          unfolding append
          append_done e done =
              done chained.all chained.found.last
              ∙ ap (λ (n : ℕ). run (planes t) (append_to base n time tips roots chained.all) stack m) e
              ∙ with_heads (tests.accepts refl) first (append_to base first time tips roots) stack chained.all chained.are
              ∙ tests.passes refl _
