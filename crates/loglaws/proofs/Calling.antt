-- The calls of the log behind their first tests, on a heap that has passed 1 and 2: what each does, by cases.
-- Assumes nothing.
use mathlib.Core.Path.{◌≡◌, refl, ap, sym, subst, ◌∙◌}
use mathlib.Core.Logic.{⊎_elim}
use mathlib.Core.List.{List, [], ◌++◌, Memᴰ}
use mathlib.Core.Option.{Option, some, none, none-ne-some}
use Prim.Native.Nat.{ℕ, ◌+◌, ◌/◌, ◌%◌, ◌^◌, ◌≤◌, ◌<◌}
use native.Mathlib.Omega.{arith}
use lib.Dec.{eqb}
use lib.IntN.{ℤ, ◌+ℤ◌}
use lib.ListN.{length, length-append}
use Rattle.rules.specs.Tests.{pick}
use Rattle.rules.specs.Words.{bytes_of, words_of}
use Rattle.laws.specs.Meaning.{Passed, Accepted}
use Rattle.rules.specs.Outcomes.{Heap, Answer, Outcome}
use Rattle.rules.specs.Calls.{blocks_for, allocate, free, collect, store}
use Rattle.rules.specs.Runs.{Allocate, Free, Collect, Load, Store, step}
use Rattle.rules.specs.Forms.{Form}
use Rattle.laws.specs.Faithful.{Faithful}
use Rattle.rules.specs.Memory.{Memory, heap_in}
use Rattle.laws.proofs.Words.{length_bytes_of, words_first}
use Rattle.laws.proofs.Tables.{well_says}
use Rattle.keeping.specs.Keeping.{GoodStack}
use Rattle.keeping.proofs.Collections.{collect_accepts}
use Rattle.promises.specs.Conditions.{First, of_allocate, NoFit}
use Rattle.promises.proofs.Promised.{promises}
use Rattle.programs.specs.Programs.{Program, give, ask}
use Rattle.programs.proofs.OnHeaps.{RanOn, run_on}
use Rattle.logs.specs.Log.{Reply, logged, readout, declined, decline, on_log, join, enter, append_to, read_from, drop_from, last_of}
use Rattle.loglaws.specs.Chains.{Entry, Chain, Log, heads}
use Rattle.loglaws.specs.Promises.{Longer}
use Rattle.loglaws.proofs.Chaining.{chain_word, chain_reachable, chain_same}
use Rattle.loglaws.proofs.Distinct.{chain_4096}
use Rattle.logs.specs.Heads.{heads_from}
use Rattle.loglaws.proofs.Following.{looks, load_on, follow_on}
use Rattle.loglaws.proofs.Finding.{found_says, chain_found}
use Rattle.loglaws.proofs.Entering.{New, new_object, joined_none, joined_last, linked_good}

-- what is left of a heap
abbrev pub resting : Reply → Heap → List ℕ → RanOn Reply
resting r h stack = record { reply = r; heap = h; stack = stack }

-- ---- there is a log, or there is none

-- a program that wants a log is refused by 18, or goes on with its heads
pub data Followed (base first : ℕ) (go : List ℕ → Program Reply) (stack : List ℕ) (h : Heap) : Type 0 where
  lost : ¬ Log base h first → run_on (on_log base first go) stack h ≡ resting (declined 18) h stack → Followed base first go stack h
  found : (es : List Entry) → Chain base h first es → run_on (on_log base first go) stack h ≡ run_on (go (heads es)) stack h → Followed base first go stack h

pub followed : (base first : ℕ) (go : List ℕ → Program Reply) (stack : List ℕ) (h : Heap) → Passed base h → Followed base first go stack h
unfolding on_log run_on
followed base first go stack h good = to (heads_from (looks base h) base 4096 first) refl
  where
    then : Option (List ℕ) → Program Reply
    then x = elim x [ none ↦ decline 18 | some ks ↦ go ks ]

    on : run_on (on_log base first go) stack h ≡ run_on (then (heads_from (looks base h) base 4096 first)) stack h
    on = follow_on base stack h 4096 first then

    to : (x : Option (List ℕ)) → heads_from (looks base h) base 4096 first ≡ x → Followed base first go stack h
    to none e =
        lost (λ log. none-ne-some (heads log.entries) (sym e ∙ chain_found base h good 4096 log.chain (chain_4096 base h good.shape log.chain)))
        (on ∙ ap (λ (x : Option (List ℕ)). run_on (then x) stack h) e)
    to (some ks) e =
        let f = found_says base h good 4096 first ks e in
        found f.entries f.chain (on ∙ ap (λ (x : Option (List ℕ)). run_on (then x) stack h) (e ∙ ap some (sym f.are)))

-- ---- read and drop

module _ (base : ℕ) (stack : List ℕ) (h : Heap) where
  pub read_none : (x : Option ℕ) → x ≡ none → run_on (read_from base x) stack h ≡ resting (declined 19) h stack
  unfolding read_from run_on
  read_none x e = rw e

  pub read_some : (k : ℕ) → run_on (read_from base (some k)) stack h ≡ resting (readout 0 (looks base h k 1).value (looks base h k 2).value) h stack
  unfolding read_from run_on
  read_some k =
      load_on base stack h k 1 (λ a. ask (Load base k 2) (λ b. give (readout 0 a.value b.value)))
      ∙ load_on base stack h k 2 (λ b. give (readout 0 (looks base h k 1).value b.value))

  pub drop_none : (x : Option ℕ) → x ≡ none → run_on (drop_from base x) stack h ≡ resting (declined 19) h stack
  unfolding drop_from run_on
  drop_none x e = rw e

  pub drop_some : (k : ℕ) → run_on (drop_from base (some k)) stack h
      ≡ resting (logged 0 (looks base h k 0).value (free base h k).answer.change) (free base h k).heap stack
  unfolding drop_from run_on step
  drop_some k = load_on base stack h k 0 (λ a. ask (Free base k) (λ b. give (logged 0 a.value b.change)))

-- ---- append

-- a new entry was made on the heap g, and d was answered as the change
pub record Entered (base first time tips : ℕ) (es : List Entry) (g : Heap) (k : ℕ) (d : ℤ) (lent : List ℕ) (o : RanOn Reply) : Type 0 where
  pub reply : o.reply ≡ logged 0 o.reply.first d
  pub longer : Longer base first g es k time tips o.heap o.reply.first
  pub good : Passed base o.heap
  pub stack : o.stack ≡ lent

module _ (base first time tips : ℕ) (stack : List ℕ) (d : ℤ) where
  -- it is accepted, whatever the time and the tip count are
  pub enter_refusal : (ks : List ℕ) (k : ℕ) (h : Heap) → (run_on (enter base first time tips ks k d) stack h).reply.refusal ≡ 0
  unfolding enter join run_on
  enter_refusal ks k h = go (last_of ks)
    where
      go : (x : Option ℕ) → (run_on (ask (Store base k 1 time) (λ a. ask (Store base k 2 tips) (λ b. join base first x k d))) stack h).reply.refusal ≡ 0
      go none = refl
      go (some l) = refl

  pub entered : (g : Heap) → 16 ≤ base → (es : List Entry) → Chain base g first es → time < 2 ^ 32 → tips < 2 ^ 32 → Accepted (allocate base g 32)
      → let a : Outcome = allocate base g 32 in
      Entered base first time tips es g a.answer.block d stack (run_on (enter base first time tips (heads es) a.answer.block d) stack a.heap)
  unfolding enter join run_on step
  entered g high es chain small small' accepted = go (last_of (heads es)) refl
    where
      k : ℕ
      k = (allocate base g 32).answer.block

      g' : Heap
      g' = (store base (store base (allocate base g 32).heap k 1 time).heap k 2 tips).heap

      n : New base g k time tips g'
      n = new_object base g time tips small small' accepted

      go : (x : Option ℕ) → last_of (heads es) ≡ x
          → Entered base first time tips es g k d stack (run_on (ask (Store base k 1 time) (λ a. ask (Store base k 2 tips) (λ b. join base first x k d))) stack (allocate base g 32).heap)
      go none e = record { reply = refl; longer = joined_none base g g' first k time tips es high chain n e; good = n.good; stack = refl }
      go (some l) e = record { reply = refl; longer = joined_last base g g' first k time tips es high chain n l e; good = linked_good base g g' first k time tips es high chain n l e; stack = refl }

-- an allocation of an entry is accepted, or there is no room and nothing was done
data Roomy (base : ℕ) (h : Heap) : Type 0 where
  room : Accepted (allocate base h 32) → Roomy base h
  full : (allocate base h 32).answer.refusal ≡ 9 → NoFit h 2 → (allocate base h 32).heap ≡ h → Roomy base h

roomy : (base : ℕ) (h : Heap) → Passed base h → Roomy base h
unfolding First of_allocate blocks_for step
roomy base h good =
    ⊎_elim (λ x. absurd (x.0 good.shape))
    (λ x. ⊎_elim (λ y. absurd (y.0 (well_says h.entries good.well)))
    (λ y. ⊎_elim (λ z. absurd (omega (arith, z.0)))
    (λ z. ⊎_elim (λ u. full u.1 u.0 (promises.refused (Allocate base 32) [] h (λ e. omega (arith, e, u.1))).heap)
    (λ u. room u.1)
    z.1) y.1) x.1) (promises.allocate_refusal base h 32)

-- a program that goes on in one way if a call was accepted, and else in another
module _ (x y : Program Reply) (stack : List ℕ) (h : Heap) where
  if_accepted : (n : ℕ) → n ≡ 0 → run_on (pick (eqb n 0) x y) stack h ≡ run_on x stack h
  if_accepted n e = rw e

  if_refused : (n : ℕ) → n ≡ 9 → run_on (pick (eqb n 0) x y) stack h ≡ run_on y stack h
  if_refused n e = rw e

module _ (f : Form) (faithful : Faithful f) (base first time tips : ℕ) (roots stack : List ℕ) (m : Memory) (good : Passed base (heap_in f m))
    (whole : length roots % 4 ≡ 0) (few : length roots / 4 < 4096) (stacked : GoodStack stack) where
  abbrev h : Heap
  h = heap_in f m

  abbrev lists : List ℕ
  lists = bytes_of first ++ roots

  -- the collection that append makes
  abbrev pub kept : Outcome
  kept = collect base h lists stack

  -- it is accepted
  pub kept_accepted : Accepted kept
  kept_accepted =
      let long : length lists ≡ 4 + length roots = length-append (bytes_of first) roots ∙ ap (λ (n : ℕ). n + length roots) (length_bytes_of first) in
      collect_accepts base h lists stack
      (record { passed = good; good_roots = record { whole = omega (arith, long, whole); few = omega (arith, long, whole, few) }; good_stack = stacked })

  -- what append does: it enters the new object where there is room, or where the collection has made it, or it is refused by 9
  pub data Asked (ks : List ℕ) : Type 0 where
    at_once : Accepted (allocate base h 32)
        → (let a : Outcome = allocate base h 32 in
        run_on (append_to base first time tips roots ks) stack h ≡ run_on (enter base first time tips ks a.answer.block a.answer.change) stack a.heap)
        → Asked ks
    after_all : NoFit h 2 → Accepted (allocate base kept.heap 32)
        → (let a : Outcome = allocate base kept.heap 32 in
        run_on (append_to base first time tips roots ks) stack h
        ≡ run_on (enter base first time tips ks a.answer.block (kept.answer.change +ℤ a.answer.change)) kept.stack a.heap)
        → Asked ks
    not_even : NoFit h 2 → NoFit kept.heap 2
        → run_on (append_to base first time tips roots ks) stack h ≡ resting (logged 9 0 kept.answer.change) kept.heap kept.stack
        → Asked ks

  pub asked : (ks : List ℕ) → Asked ks
  unfolding append_to run_on step
  asked ks = go (roomy base h good)
    where
      -- the new object is entered, by the block and the change that were answered
      enters : ℤ → Answer → Program Reply
      enters d b = enter base first time tips ks b.block (d +ℤ b.change)

      no_more : ℤ → Program Reply
      no_more d = give (logged 9 0 d)

      second : Program Reply
      second = ask (Collect base lists) (λ c. ask (Allocate base 32) (λ b. pick (eqb b.refusal 0) (enter base first time tips ks b.block (c.change +ℤ b.change)) (give (logged 9 0 c.change))))

      first_try : (allocate base h 32).answer.refusal ≡ 9 → (allocate base h 32).heap ≡ h → run_on (append_to base first time tips roots ks) stack h ≡ run_on second stack h
      first_try nine same =
          let a : Outcome = allocate base h 32 in
          if_refused (enter base first time tips ks a.answer.block a.answer.change) second stack a.heap a.answer.refusal nine ∙ ap (run_on second stack) same

      again : NoFit h 2 → (allocate base h 32).answer.refusal ≡ 9 → (allocate base h 32).heap ≡ h → Roomy base kept.heap → Asked ks
      again none_before nine same (room accepted) =
          let b : Outcome = allocate base kept.heap 32 in
          after_all none_before accepted
          (first_try nine same
          ∙ if_accepted (enters kept.answer.change b.answer) (no_more kept.answer.change) kept.stack b.heap b.answer.refusal accepted)
      again none_before nine same (full nine' none_after same') =
          let b : Outcome = allocate base kept.heap 32 in
          not_even none_before none_after
          (first_try nine same
          ∙ if_refused (enters kept.answer.change b.answer) (no_more kept.answer.change) kept.stack b.heap b.answer.refusal nine'
          ∙ ap (run_on (no_more kept.answer.change) kept.stack) same')

      go : Roomy base h → Asked ks
      go (room accepted) =
          let a : Outcome = allocate base h 32 in
          at_once accepted (if_accepted (enter base first time tips ks a.answer.block a.answer.change) second stack a.heap a.answer.refusal accepted)
      go (full nine none_before same) = again none_before nine same (roomy base kept.heap (promises.reclaimed f faithful base m lists stack kept_accepted).good)

  -- the first address is among the roots
  pub first_among : {es : List Entry} → Chain base h first es → Memᴰ first (words_of lists)
  first_among chain = subst (Memᴰ first) (sym (words_first first (chain_word base h good chain) roots)) (Memᴰ.head refl)

  -- so the log outlives the collection
  pub log_kept : (es : List Entry) → Chain base h first es → Chain base kept.heap first es
  log_kept es chain =
      chain_same base h kept.heap chain
      (λ k among. (promises.reclaimed f faithful base m lists stack kept_accepted).others k (chain_reachable base h (words_of lists) chain (first_among chain) k among))
