-- What a caller sees of the promises through later calls, to the last word, the last block and the exact number.
-- Only the promises are used, never how a call is defined, so a promise that said less would not give these laws.
-- Assumes nothing.
use mathlib.Core.Path.{◌≡◌, refl, ap, ap₂, sym, ◌∙◌}
use mathlib.Core.Logic.{◌≢◌, ◌↔◌, ◌⊎◌, ⊎_elim, inl, inr}
use mathlib.Core.Bool.{Bool, true, false}
use mathlib.Core.List.{List, [], ◌∷◌}
use mathlib.Core.Option.{Option, none}
use Prim.Native.Nat.{ℕ, zero, suc, ◌+◌, ◌-◌, ◌*◌, ◌/◌, ◌%◌, ◌≤◌, ◌<◌}
use native.Mathlib.Decide.{dec_lt}
use native.Mathlib.Omega.{arith}
use lib.IntN.{ℤ, pos, neg_ℤ, sub_ℕ, ◌+ℤ◌, nat_abs}
use lib.ListN.{get_or, set}
use lib.Seq.{get_or-set_other}
use Rattle.rules.specs.Words.{number, word_at, words_of}
use Rattle.rules.specs.Entries.{FREE}
use Rattle.rules.specs.Tables.{entry_at, used, objects}
use Rattle.rules.specs.Pointers.{target_of, leads_to}
use Rattle.laws.specs.Meaning.{Points, Leads, Longest, ShapeInBytes, Passed, Accepted}
use Rattle.rules.specs.Outcomes.{Heap, Answer, Outcome, placement, collection, findings, only_refusal, placed_at, collected_to, surveyed, loaded, opening, opened_at}
use Rattle.rules.specs.Reach.{Reachable}
use Rattle.rules.specs.Calls.{blocks_for, init, allocate, free, reallocate, collect, survey, load, store, write_image, open_image}
use Rattle.rules.specs.Runs.{Call, Init, Allocate, Free, Reallocate, Collect, Survey, Load, Store, WriteImage, OpenImage, step}
use Rattle.rules.specs.Forms.{Form}
use Rattle.laws.specs.Faithful.{Faithful}
use Rattle.rules.specs.Planes.{entries_in, spare_free, planes, heap_at}
use Rattle.rules.specs.Memory.{Memory, memory, heap_in, lengths_fit, Result, AcceptedIn, reads_table, fault_in, perform}
use Rattle.laws.proofs.Words.{word_at_same}
use Rattle.laws.proofs.Refusals.{true_not_false}
use Rattle.laws.proofs.Tables.{entry_inside, well_says, run_shorter}
use Rattle.laws.proofs.Pointers.{points_one, leads_one}
use Rattle.laws.proofs.Twice.{twin_load}
use Rattle.keeping.proofs.Owners.{reachable_head}
use Rattle.promises.specs.Conditions.{when, First, RoomAfter, NoFit, of_init, of_allocate, of_free, of_reallocate, of_collect, of_survey, of_word, of_write_image, base_in, root_count, of_open_image}
use Rattle.promises.specs.Promises.{Object, blocks_of, Same, Counts, Surveyed}
use Rattle.promises.specs.Determined.{parts_of}
use Rattle.promises.proofs.Promised.{promises}
use Rattle.promises.proofs.Images.{pools_match, image_says_all}
use Rattle.promises.proofs.Bytes.{on_bytes, first_at, first_past}
use Rattle.promises.proofs.Determined.{first_one, refused_one}
use Rattle.promises.proofs.Whole.{whole}

-- ---- a call answers the number that its conditions give

module _ (base : ℕ) (h : Heap) where
  pub init_number : (n : ℕ) → First (of_init base h) n → (init base h).answer.refusal ≡ n
  init_number n = first_one (of_init base h) _ n (promises.init_refusal base h)

  pub allocate_number : (bytes n : ℕ) → First (of_allocate base h bytes) n → (allocate base h bytes).answer.refusal ≡ n
  allocate_number bytes n = first_one (of_allocate base h bytes) _ n (promises.allocate_refusal base h bytes)

  pub free_number : (k n : ℕ) → First (of_free base h k) n → (free base h k).answer.refusal ≡ n
  free_number k n = first_one (of_free base h k) _ n (promises.free_refusal base h k)

  pub reallocate_number : (k bytes n : ℕ) → First (of_reallocate base h k bytes) n → (reallocate base h k bytes).answer.refusal ≡ n
  reallocate_number k bytes n = first_one (of_reallocate base h k bytes) _ n (promises.reallocate_refusal base h k bytes)

  pub collect_number : (roots stack : List ℕ) (n : ℕ) → First (of_collect base h roots stack) n → (collect base h roots stack).answer.refusal ≡ n
  collect_number roots stack n = first_one (of_collect base h roots stack) _ n (promises.collect_refusal base h roots stack)

  pub survey_number : (n : ℕ) → First (of_survey base h) n → (survey base h).answer.refusal ≡ n
  survey_number n = first_one (of_survey base h) _ n (promises.survey_refusal base h)

  pub load_number : (k i n : ℕ) → First (of_word base h k i) n → (load base h k i).answer.refusal ≡ n
  load_number k i n = first_one (of_word base h k i) _ n (promises.load_refusal base h k i)

  pub store_number : (k i w n : ℕ) → First (of_word base h k i) n → (store base h k i w).answer.refusal ≡ n
  store_number k i w n = first_one (of_word base h k i) _ n (promises.store_refusal base h k i w)

  pub image_number : (roots : List ℕ) (room n : ℕ) → First (of_write_image base h roots room) n → (write_image base h roots room).answer.refusal ≡ n
  image_number roots room n = first_one (of_write_image base h roots room) _ n (promises.image_refusal base h roots room)

  pub open_number : (image : List ℕ) (room n : ℕ) → First (of_open_image h image room) n → (open_image h image room).answer.refusal ≡ n
  open_number image room n = first_one (of_open_image h image room) _ n (promises.open_refusal h image room)

-- a refusal tells nothing but its number: two refused calls with one number answer alike, and leave the heap and a buffer alike
pub refusals_alike : (c c' : Call) (stack stack' : List ℕ) (h : Heap) → ¬ Accepted (step c stack h) → (step c stack h).answer.refusal ≡ (step c' stack' h).answer.refusal
    → ((step c stack h).answer ≡ (step c' stack' h).answer) × ((step c stack h).heap ≡ (step c' stack' h).heap) × ((step c stack h).filled ≡ (step c' stack' h).filled)
refusals_alike c c' stack stack' h no_number e =
    refused_one h (step c stack h) (step c' stack' h) (promises.refused c stack h no_number) (promises.refused c' stack' h (λ none. no_number (e ∙ none))) e

-- ---- shape, table and addresses

-- a pool and two planes are accepted by init exactly if their shape is good
module _ (base t : ℕ) (pool table : List ℕ) where
  abbrev lent : Memory
  lent = memory pool table

  -- its number, where r is that of the heap's
  init_in : (n : ℕ) → let r : ℕ = (init base (heap_at t pool table)).answer.refusal in
      First
      (when 1 ((r ≡ 1) ⊎ (lengths_fit (planes t) lent ≡ false)) ∷ when 2 ((r ≡ 2) ⊎ ((false ≡ true) × (spare_free t table ≡ false))) ∷ when r (r ≢ 0) ∷ []) n
      → (perform (planes t) (Init base) [] lent).answer.refusal ≡ n
  unfolding step
  init_in n = first_one _ _ n (first_past _ _ _ (on_bytes.number (planes t) (Init base) [] lent) (λ fault. fault refl))

  pub init_shape : ShapeInBytes base t pool table → AcceptedIn (perform (planes t) (Init base) [] lent)
  unfolding First of_init
  init_shape s =
      let g = (on_bytes.shape_in_bytes base t pool table).1 s in
      let r : (init base (heap_at t pool table)).answer.refusal ≡ 0 = init_number base (heap_at t pool table) 0 (inr (λ bad. bad g.0, refl)) in
      init_in 0
      (inr (
        ⊎_elim (λ e. omega (arith, e, r)) (λ e. true_not_false g.1 e),
        inr (⊎_elim (λ e. omega (arith, e, r)) (λ e. true_not_false e.0 refl), inr (λ some_number. some_number r, refl)),
      ))

  pub init_bad_shape : ¬ ShapeInBytes base t pool table → (perform (planes t) (Init base) [] lent).answer.refusal ≡ 1
  unfolding First of_init
  init_bad_shape bad = go ((planes t).fits table) refl
    where
      go : (b : Bool) → (planes t).fits table ≡ b → (perform (planes t) (Init base) [] lent).answer.refusal ≡ 1
      go true e = init_in 1 (inl (inl (init_number base (heap_at t pool table) 1 (inl (λ s. bad ((on_bytes.shape_in_bytes base t pool table).0 (s, e)), refl))), refl))
      go false e = init_in 1 (inl (inr e, refl))

-- an accepted call leaves the bytes that its entries are written as
pub table_written : (f : Form) (c : Call) (stack : List ℕ) (m : Memory) → AcceptedIn (perform f c stack m)
    → (perform f c stack m).memory.table ≡ f.write (step c stack (heap_in f m)).heap.entries
table_written f c stack m accepted = ap (λ (r : Result). r.memory.table) (on_bytes.accepted_bytes f c stack m accepted).1

-- bytes that are not clean are 2 to a call that reads them, whatever else it would be refused for but 1
pub unclean_number : (f : Form) (c : Call) (stack : List ℕ) (m : Memory) → fault_in c ≡ 0 → f.fits m.table ≡ true → f.clean m.table ≡ false → reads_table c ≡ true
    → (step c stack (heap_in f m)).answer.refusal ≢ 1 → (perform f c stack m).answer.refusal ≡ 2
unclean_number f c stack m faultless fits clean reads other =
    let x = first_past _ _ _ (on_bytes.number f c stack m) (λ fault. fault faultless) in
    first_at _ _ _ (first_past _ _ _ x (⊎_elim other (true_not_false fits))) (inr (reads, clean))

-- a word has one target
pub target_one : (base n w : ℕ) (x : Option ℕ) → Points base n w x → target_of base n w ≡ x
target_one base n w x = points_one base n w (target_of base n w) x (promises.target_points base n w)

-- and leads to one object
pub lead_one : (base : ℕ) (es : List ℕ) (w : ℕ) (x : Option ℕ) → Leads base es w x → leads_to base es w ≡ x
lead_one base es w x = leads_one base es w (leads_to base es w) x (promises.leads_says base es w)

-- ---- loads

module _ (base : ℕ) (h : Heap) (good : Passed base h) where
  word_number : (k i n : ℕ) → Object h k → First (when 8 (4 * blocks_of h k ≤ i) ∷ []) n → (load base h k i).answer.refusal ≡ n
  unfolding First of_word
  word_number k i n head last =
      load_number base h k i n
      (inr (
        λ bad. bad good.shape,
        inr (
          λ bad. bad (well_says h.entries good.well),
          inr (λ out. omega (arith, entry_inside h.entries k (λ f. omega arith)), inr (λ other. other head, last)),
        ),
      ))

  -- a word of an object is read from its four bytes
  pub load_inside : (k i : ℕ) → Object h k → i < 4 * blocks_of h k → (load base h k i).answer ≡ loaded (word_at h.pool (4 * k + i))
  unfolding First word_at
  load_inside k i head l =
      let p = promises.read base h k i (word_number k i 0 head (inr (λ past. omega arith, refl))) in
      let e : 4 * (4 * k + i) ≡ 16 * k + 4 * i = omega arith in
      p.only ∙ ap loaded (rw e p.value)

  -- and past the last word it is 8
  pub load_beyond : (k i : ℕ) → Object h k → 4 * blocks_of h k ≤ i → (load base h k i).answer ≡ only_refusal 8
  unfolding First step
  load_beyond k i head l =
      let e = word_number k i 8 head (inl (l, refl)) in
      (promises.refused (Load base k i) [] h (λ none. omega arith)).answer ∙ ap only_refusal e

-- an object that stays has the same words, to the last
pub same_words : (h h' : Heap) (o : ℕ) → Same h h' o → (i : ℕ) → i < 4 * blocks_of h o → word_at h'.pool (4 * o + i) ≡ word_at h.pool (4 * o + i)
same_words h h' o s i l =
    word_at_same h'.pool h.pool (4 * o + i) (4 * o + i)
    (λ j m. let e : 16 * o + (4 * i + j) ≡ 4 * (4 * o + i) + j = omega arith in rw e at (s.bytes (4 * i + j) (omega arith)))

-- so every load of it answers as before, those past its last word too
pub same_loads : (base : ℕ) (h h' : Heap) (o : ℕ) → Passed base h → Passed base h' → Object h o → Same h h' o
    → (i : ℕ) → (load base h' o i).answer ≡ (load base h o i).answer
same_loads base h h' o good good' head s i = go (dec_lt i (4 * blocks_of h o))
  where
    go : Dec (i < 4 * blocks_of h o) → (load base h' o i).answer ≡ (load base h o i).answer
    go (yes l) =
        load_inside base h' good' o i s.head (omega (arith, s.blocks))
        ∙ ap loaded (same_words h h' o s i l)
        ∙ sym (load_inside base h good o i head l)
    go (no l) = load_beyond base h' good' o i s.head (omega (arith, s.blocks)) ∙ sym (load_beyond base h good o i head (omega arith))

-- no call but a store changes what loads of another object answer, a collection none of a reachable one
module _ (base : ℕ) (h : Heap) (good : Passed base h) where
  pub allocate_loads : (bytes : ℕ) → Accepted (allocate base h bytes) → (o : ℕ) → Object h o
      → (i : ℕ) → (load base (allocate base h bytes).heap o i).answer ≡ (load base h o i).answer
  allocate_loads bytes accepted o head =
      let p = promises.allocated base h bytes accepted in
      same_loads base h (allocate base h bytes).heap o good p.good head (p.others o head)

  pub free_loads : (k : ℕ) → Accepted (free base h k) → (o : ℕ) → Object h o → o ≢ k → (i : ℕ) → (load base (free base h k).heap o i).answer ≡ (load base h o i).answer
  free_loads k accepted o head other =
      let p = promises.freed base h k accepted in
      same_loads base h (free base h k).heap o good p.good head (p.others o head other)

  pub reallocate_loads : (k bytes : ℕ) → Accepted (reallocate base h k bytes) → (o : ℕ) → Object h o → o ≢ k
      → (i : ℕ) → (load base (reallocate base h k bytes).heap o i).answer ≡ (load base h o i).answer
  reallocate_loads k bytes accepted o head other =
      let p = promises.reallocated base h k bytes accepted in
      same_loads base h (reallocate base h k bytes).heap o good p.good head (p.others o head other)

  pub store_loads : (k j w : ℕ) → Accepted (store base h k j w) → (o : ℕ) → Object h o → o ≢ k → (i : ℕ) → (load base (store base h k j w).heap o i).answer ≡ (load base h o i).answer
  store_loads k j w accepted o head other =
      let p = promises.stored base h k j w accepted in
      same_loads base h (store base h k j w).heap o good p.good head (p.others o head other)

pub collect_loads : (f : Form) → Faithful f → (base : ℕ) (m : Memory) (roots stack : List ℕ) → Passed base (heap_in f m) → Accepted (collect base (heap_in f m) roots stack)
    → (o : ℕ) → Reachable base (heap_in f m) (words_of roots) o
    → (i : ℕ) → (load base (collect base (heap_in f m) roots stack).heap o i).answer ≡ (load base (heap_in f m) o i).answer
collect_loads f faithful base m roots stack good accepted o reach =
    let kept = promises.reclaimed f faithful base m roots stack accepted in
    same_loads base (heap_in f m) (collect base (heap_in f m) roots stack).heap o good kept.good
    (reachable_head base (heap_in f m) (words_of roots) good.well o reach) (kept.others o reach)

-- ---- the new object

zero_word : (bs : List ℕ) (i : ℕ) → ((j : ℕ) → j < 4 → get_or bs (4 * i + j) 0 ≡ 0) → word_at bs i ≡ 0
unfolding word_at number
zero_word bs i zeros = word_at_same bs [] i 0 zeros

-- every word of it is 0, and it has no more words than it should
module _ (base : ℕ) (h : Heap) (bytes : ℕ) (accepted : Accepted (allocate base h bytes)) where
  abbrev new : Outcome
  new = allocate base h bytes

  pub new_zero : (i : ℕ) → i < 4 * blocks_for bytes → (load base new.heap new.answer.block i).answer ≡ loaded 0
  new_zero i l =
      let p = promises.allocated base h bytes accepted in
      load_inside base new.heap p.good new.answer.block i p.head (omega (arith, p.blocks))
      ∙ ap loaded
      (zero_word new.heap.pool (4 * new.answer.block + i)
      (λ j m. let e : 16 * new.answer.block + (4 * i + j) ≡ 4 * (4 * new.answer.block + i) + j = omega arith in rw e at (p.zero (4 * i + j) (omega arith))))

  pub new_beyond : (i : ℕ) → 4 * blocks_for bytes ≤ i → (load base new.heap new.answer.block i).answer ≡ only_refusal 8
  new_beyond i l =
      let p = promises.allocated base h bytes accepted in
      load_beyond base new.heap p.good new.answer.block i p.head (omega (arith, p.blocks))

-- a reallocated object has the old words as far as both reach, zeros after them, and no more words than it should
module _ (base : ℕ) (h : Heap) (k bytes : ℕ) (good : Passed base h) (head : Object h k) (accepted : Accepted (reallocate base h k bytes)) where
  abbrev again : Outcome
  again = reallocate base h k bytes

  pub again_kept : (i : ℕ) → i < 4 * blocks_of h k → i < 4 * blocks_for bytes → (load base again.heap again.answer.block i).answer ≡ (load base h k i).answer
  again_kept i l m =
      let p = promises.reallocated base h k bytes accepted in
      let s = again.answer.block in
      load_inside base again.heap p.good s i p.head (omega (arith, p.blocks))
      ∙ ap loaded
      (word_at_same again.heap.pool h.pool (4 * s + i) (4 * k + i)
      (λ j n.
      let e : 16 * s + (4 * i + j) ≡ 4 * (4 * s + i) + j = omega arith in
      let f : 16 * k + (4 * i + j) ≡ 4 * (4 * k + i) + j = omega arith in
      rw (e, f) at (p.kept (4 * i + j) (omega arith) (omega arith))))
      ∙ sym (load_inside base h good k i head l)

  pub again_zero : (i : ℕ) → 4 * blocks_of h k ≤ i → i < 4 * blocks_for bytes → (load base again.heap again.answer.block i).answer ≡ loaded 0
  again_zero i l m =
      let p = promises.reallocated base h k bytes accepted in
      let s = again.answer.block in
      load_inside base again.heap p.good s i p.head (omega (arith, p.blocks))
      ∙ ap loaded
      (zero_word again.heap.pool (4 * s + i)
      (λ j n. let e : 16 * s + (4 * i + j) ≡ 4 * (4 * s + i) + j = omega arith in rw e at (p.zero (4 * i + j) (omega arith) (omega arith))))

  pub again_beyond : (i : ℕ) → 4 * blocks_for bytes ≤ i → (load base again.heap again.answer.block i).answer ≡ only_refusal 8
  again_beyond i l =
      let p = promises.reallocated base h k bytes accepted in
      load_beyond base again.heap p.good again.answer.block i p.head (omega (arith, p.blocks))

-- ---- counts

survey_says : (base : ℕ) (h : Heap) → Passed base h → Surveyed h (survey base h)
unfolding First of_survey
survey_says base h good =
    promises.surveyed base h (survey_number base h 0 (inr (λ bad. bad good.shape, inr (λ bad. bad (well_says h.entries good.well), refl))))

-- the used blocks that a survey finds after a call are those that one finds before it, and the answered change
abbrev pub Sums : ℕ → Heap → Outcome → Type 0
Sums base h r = pos (survey base r.heap).answer.used ≡ pos (survey base h).answer.used +ℤ r.answer.change

used_sum : (base : ℕ) (h : Heap) (r : Outcome) → Passed base h → Passed base r.heap → Counts h r → Sums base h r
used_sum base h r good good' c = rw ((survey_says base r.heap good').used, (survey_says base h good).used) c.sum

module _ (base : ℕ) (h : Heap) (good : Passed base h) where
  pub allocate_sums : (bytes : ℕ) → Accepted (allocate base h bytes) → Sums base h (allocate base h bytes)
  allocate_sums bytes accepted = let p = promises.allocated base h bytes accepted in used_sum base h _ good p.good p.counts

  pub free_sums : (k : ℕ) → Accepted (free base h k) → Sums base h (free base h k)
  free_sums k accepted = let p = promises.freed base h k accepted in used_sum base h _ good p.good p.counts

  pub reallocate_sums : (k bytes : ℕ) → Accepted (reallocate base h k bytes) → Sums base h (reallocate base h k bytes)
  reallocate_sums k bytes accepted = let p = promises.reallocated base h k bytes accepted in used_sum base h _ good p.good p.counts

pub collect_sums : (f : Form) → Faithful f → (base : ℕ) (m : Memory) (roots stack : List ℕ) → Passed base (heap_in f m) → Accepted (collect base (heap_in f m) roots stack)
    → Sums base (heap_in f m) (collect base (heap_in f m) roots stack)
collect_sums f faithful base m roots stack good accepted =
    let p = promises.reclaimed f faithful base m roots stack accepted in used_sum base (heap_in f m) _ good p.good p.counts

-- after an init none are used
pub init_none_used : (base : ℕ) (h : Heap) → Accepted (init base h) → (survey base (init base h).heap).answer.used ≡ 0
init_none_used base h accepted =
    let p = promises.initialised base h accepted in (survey_says base (init base h).heap p.good).used ∙ p.none_used

-- no accepted request is larger than the largest heap
pub allocate_most : (base : ℕ) (h : Heap) (bytes : ℕ) → Accepted (allocate base h bytes) → bytes ≤ 65536
allocate_most base h bytes accepted =
    let p = promises.allocated base h bytes accepted in
    (promises.rounded_up bytes 4096).0 (rw p.change at p.counts.range)

size_of : (n : ℕ) → nat_abs (neg_ℤ (pos n)) ≡ n
size_of zero = refl
size_of (suc n) = refl

-- what a collection no longer uses and what it still uses are together what was used
pub collect_less : (f : Form) → Faithful f → (base : ℕ) (m : Memory) (roots stack : List ℕ) → Accepted (collect base (heap_in f m) roots stack)
    → used (collect base (heap_in f m) roots stack).heap.entries + nat_abs (collect base (heap_in f m) roots stack).answer.change ≡ used (f.read m.table)
collect_less f faithful base m roots stack accepted =
    let p = promises.reclaimed f faithful base m roots stack accepted in
    rw (p.change, size_of) (omega (arith, p.fewer))

-- ---- room

-- as many bytes as a freed object had, or fewer, can be allocated again: from a block divisible by four, or up to 48 bytes
pub free_again : (base : ℕ) (h : Heap) (k bytes : ℕ) → Accepted (free base h k) → 0 < bytes → bytes ≤ 16 * blocks_of h k → (k % 4 ≡ 0) ⊎ (bytes ≤ 48)
    → Accepted (allocate base (free base h k).heap bytes)
free_again base h k bytes accepted more fits place =
    (promises.freed base h k accepted).room bytes more ((promises.rounded_up bytes (blocks_of h k)).1 fits)
    (⊎_elim inr (λ few. inl (omega (arith, (promises.rounded_up bytes 3).1 few))) place)

module _ (base : ℕ) (h : Heap) (good : Passed base h) where
  longest_is : Longest h.entries (survey base h).answer.longest
  longest_is = (survey_says base h good).longest

  -- b blocks may start nowhere if the longest run that a survey finds is shorter
  short_nowhere : (b : ℕ) → (survey base h).answer.longest < b → NoFit h b
  short_nowhere b less s f = omega (arith, longest_is.most b s f.run)

  -- and somewhere if it is three blocks longer than they are, for then it goes on long enough from an aligned block
  long_somewhere : (b : ℕ) → b + 3 ≤ (survey base h).answer.longest → ¬ NoFit h b
  long_somewhere b more nowhere =
      let l = longest_is in
      let s : ℕ = 4 * ((l.start + 3) / 4) in
      nowhere s (record {
        aligned = inr (omega arith);
        run = record {
          room = omega (arith, l.run.room);
          free = λ j h''. let e : l.start + (s - l.start + j) ≡ s + j = omega arith in rw e at (l.run.free (s - l.start + j) (omega arith));
        };
      })

  -- fewer than four exactly if it is not shorter
  few_short : (b : ℕ) → b < 4 → NoFit h b → (survey base h).answer.longest < b
  few_short b few nowhere = go (dec_lt (survey base h).answer.longest b)
    where
      go : Dec ((survey base h).answer.longest < b) → (survey base h).answer.longest < b
      go (yes less) = less
      go (no more) =
          absurd (nowhere longest_is.start
          (record { aligned = inl few; run = run_shorter h.entries (survey base h).answer.longest b longest_is.start (omega arith) longest_is.run }))

  -- so a survey tells whether an allocate of up to 48 bytes finds room
  pub allocate_survey : (bytes : ℕ) → 0 < bytes → bytes ≤ 48 → ((allocate base h bytes).answer.refusal ≡ 9) ↔ ((survey base h).answer.longest < blocks_for bytes)
  allocate_survey bytes more few =
      let n = promises.allocate_no_room base h bytes in
      (λ e. few_short (blocks_for bytes) (omega (arith, (promises.rounded_up bytes 3).1 few)) (n.0 e).2, λ less. n.1 (good, more, short_nowhere (blocks_for bytes) less))

  -- of a larger one it tells so where the run is too short, and where it has three blocks to spare
  pub allocate_short : (bytes : ℕ) → 0 < bytes → (survey base h).answer.longest < blocks_for bytes → (allocate base h bytes).answer.refusal ≡ 9
  allocate_short bytes more less = (promises.allocate_no_room base h bytes).1 (good, more, short_nowhere (blocks_for bytes) less)

  pub allocate_spare : (bytes : ℕ) → blocks_for bytes + 3 ≤ (survey base h).answer.longest → (allocate base h bytes).answer.refusal ≢ 9
  allocate_spare bytes more e = long_somewhere (blocks_for bytes) more ((promises.allocate_no_room base h bytes).0 e).2

  pub reallocate_spare : (k bytes : ℕ) → blocks_for bytes + 3 ≤ (survey base h).answer.longest → (reallocate base h k bytes).answer.refusal ≢ 9
  reallocate_spare k bytes more e = long_somewhere (blocks_for bytes) more ((promises.reallocate_no_room base h k bytes).0 e).3.2

  -- and whether a reallocate to up to 48 bytes does
  pub reallocate_survey : (k bytes : ℕ) → 0 < bytes → bytes ≤ 48 → Object h k
      → ((reallocate base h k bytes).answer.refusal ≡ 9)
      ↔ ((blocks_of h k < blocks_for bytes) × ¬ RoomAfter h k (blocks_for bytes) × ((survey base h).answer.longest < blocks_for bytes))
  reallocate_survey k bytes more few head =
      let n = promises.reallocate_no_room base h k bytes in (
        λ e. let w = (n.0 e).3 in (w.0, w.1, few_short (blocks_for bytes) (omega (arith, (promises.rounded_up bytes 3).1 few)) w.2),
        λ w. n.1 (good, more, head, (w.0, w.1, short_nowhere (blocks_for bytes) w.2)),
      )

-- ---- calls that leave all as it is

-- after a survey every call goes as without it, and so after a load
pub survey_then : (c : Call) (stack : List ℕ) (base : ℕ) (h : Heap) → step c stack (survey base h).heap ≡ step c stack h
survey_then c stack base h = ap (step c stack) (promises.survey_leaves base h)

pub load_then : (c : Call) (stack : List ℕ) (base : ℕ) (h : Heap) (k i : ℕ) → step c stack (load base h k i).heap ≡ step c stack h
load_then c stack base h k i = ap (step c stack) (promises.load_leaves base h k i)

-- and after a reallocate to as many blocks
pub equal_then : (c : Call) (stack : List ℕ) (base : ℕ) (h : Heap) (k bytes : ℕ) → Accepted (reallocate base h k bytes) → blocks_for bytes ≡ blocks_of h k
    → step c stack (reallocate base h k bytes).heap ≡ step c stack h
equal_then c stack base h k bytes accepted same = ap (step c stack) ((promises.reallocated base h k bytes accepted).equal same)

-- ---- the whole answer of an accepted call: what its record gives, and zero in every other part

module _ (base : ℕ) (h : Heap) where
  pub init_answer : Accepted (init base h) → (init base h).answer ≡ only_refusal 0
  unfolding step parts_of
  init_answer accepted = whole.only_parts (Init base) [] h ∙ ap only_refusal accepted

  pub allocate_answer : (bytes : ℕ) → Accepted (allocate base h bytes) → (allocate base h bytes).answer ≡ placed_at (allocate base h bytes).answer.block (pos (blocks_for bytes))
  unfolding step parts_of
  allocate_answer bytes accepted =
      let p = promises.allocated base h bytes accepted in
      whole.only_parts (Allocate base bytes) [] h ∙ ap₂ (λ (r : ℕ) (d : ℤ). placement r (allocate base h bytes).answer.block d) accepted p.change

  pub free_answer : (k : ℕ) → Accepted (free base h k) → (free base h k).answer ≡ placed_at 0 (neg_ℤ (pos (blocks_of h k)))
  unfolding step parts_of
  free_answer k accepted =
      whole.only_parts (Free base k) [] h ∙ ap₂ (λ (r : ℕ) (d : ℤ). placement r 0 d) accepted (promises.freed base h k accepted).change

  pub reallocate_answer : (k bytes : ℕ) → Accepted (reallocate base h k bytes)
      → (reallocate base h k bytes).answer ≡ placed_at (reallocate base h k bytes).answer.block (sub_ℕ (blocks_for bytes) (blocks_of h k))
  unfolding step parts_of
  reallocate_answer k bytes accepted =
      let p = promises.reallocated base h k bytes accepted in
      whole.only_parts (Reallocate base k bytes) [] h ∙ ap₂ (λ (r : ℕ) (d : ℤ). placement r (reallocate base h k bytes).answer.block d) accepted p.change

  pub collect_answer : (roots stack : List ℕ) → Accepted (collect base h roots stack)
      → (collect base h roots stack).answer
      ≡ collected_to (collect base h roots stack).answer.kept (collect base h roots stack).answer.rescans (collect base h roots stack).answer.change
  unfolding step parts_of
  collect_answer roots stack accepted =
      let a : Answer = (collect base h roots stack).answer in
      whole.only_parts (Collect base roots) stack h ∙ ap (λ (r : ℕ). collection r a.kept a.rescans a.change) accepted

  pub survey_answer : Accepted (survey base h) → (survey base h).answer ≡ surveyed (used h.entries) (objects h.entries) (survey base h).answer.longest
  unfolding step parts_of
  survey_answer accepted =
      let p = promises.surveyed base h accepted in
      whole.only_parts (Survey base) [] h ∙ (λ i. findings (accepted i) (p.used i) (p.objects i) (survey base h).answer.longest)

  pub store_answer : (k i w : ℕ) → Accepted (store base h k i w) → (store base h k i w).answer ≡ only_refusal 0
  unfolding step parts_of
  store_answer k i w accepted = whole.only_parts (Store base k i w) [] h ∙ ap only_refusal accepted

-- an opening answers the base and the number of roots, and nothing else
pub open_answer : (h : Heap) (image : List ℕ) (room : ℕ) → Accepted (open_image h image room) → (open_image h image room).answer ≡ opened_at (base_in image) (root_count image)
unfolding step parts_of
open_answer h image room accepted =
    let o = promises.opened h image room accepted in
    let a : Answer = (open_image h image room).answer in
    let e : a ≡ opening a.refusal a.base a.roots = whole.only_parts (OpenImage image room) [] h in
    e ∙ rw (accepted, o.base, o.roots)

-- ---- images

-- heaps with the same image answer every load alike
pub image_loads : (t t' base base' room room' : ℕ) (roots roots' : List ℕ) (m m' : Memory)
    → let c : Call = WriteImage base roots room in
    let c' : Call = WriteImage base' roots' room' in
    AcceptedIn (perform (planes t) c [] m) → AcceptedIn (perform (planes t') c' [] m') → (perform (planes t) c [] m).filled ≡ (perform (planes t') c' [] m').filled
    → (k i : ℕ) → (load base (heap_in (planes t) m) k i).answer ≡ (load base' (heap_in (planes t') m') k i).answer
unfolding step
image_loads t t' base base' room room' roots roots' m m' z z' same k i =
    let (_, eb, _, allocated) = (image_says_all t t' base base' room room' roots roots' m m' z z').0 same in
    let x = (on_bytes.accepted_bytes (planes t) (WriteImage base roots room) [] m z).0 in
    let x' = (on_bytes.accepted_bytes (planes t') (WriteImage base' roots' room') [] m' z').0 in
    let h = heap_in (planes t) m in
    let h'' = heap_in (planes t') m' in
    rw (← eb, ← allocated.entries) (twin_load base h.entries h.pool h''.pool (pools_match base base' room room' roots roots' h h'' x x' allocated) k i).answer

-- a byte of a FREE block is in no image
pub free_byte_unseen : (t base room : ℕ) (roots pool table : List ℕ) (i v : ℕ)
    → let c : Call = WriteImage base roots room in
    AcceptedIn (perform (planes t) c [] (memory pool table)) → AcceptedIn (perform (planes t) c [] (memory (set pool i v) table)) → entry_at (entries_in t table) (i / 16) ≡ FREE
    → (perform (planes t) c [] (memory pool table)).filled ≡ (perform (planes t) c [] (memory (set pool i v) table)).filled
free_byte_unseen t base room roots pool table i v z z' free =
    (image_says_all t t base base room room roots roots (memory pool table) (memory (set pool i v) table) z z').1 (
      refl,
      refl,
      refl,
      record {
        entries = refl;
        bytes = λ k held j l. sym (get_or-set_other pool i (16 * k + j) v 0 (λ e. let q : (16 * k + j) / 16 ≡ k = omega arith in held (rw (sym q ∙ ap (λ (n : ℕ). n / 16) e) free)));
      },
    )
