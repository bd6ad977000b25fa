-- The laws used on the sample heap, in two planes, with spare bits, and in the packed form. One order is computed, with few roots and no mark stack;
-- the other follows, with 4,096 roots and 64 mark stack entries, the most that there may be, and back from there to few roots and no mark stack.
-- Assumes nothing.
use mathlib.Core.Path.{◌≡◌, refl, sym, ap, subst, ◌∙◌}
use mathlib.Core.Logic.{inl, inr, ⊎_elim}
use mathlib.Core.List.{List, [], ◌∷◌, ◌++◌, Memᴰ}
use Prim.Native.Nat.{ℕ, ◌/◌, ◌≤◌, ◌<◌}
use native.Mathlib.Decide.{dec_lt}
use native.Mathlib.Omega.{arith}
use lib.Dec.{eqb, eqb→eq}
use lib.IntN.{pos, neg_ℤ}
use lib.ListN.{length, length-append}
use Rattle.rules.specs.Tests.{count, leading, tabulate}
use Rattle.rules.specs.Bits.{bit_of, bit_at, byte_of}
use Rattle.rules.specs.Words.{number, bytes_of, word_at, with_word, words_of}
use Rattle.rules.specs.Entries.{entry_of, entries_of, table_of}
use Rattle.rules.specs.Tables.{entry_at, may_follow, well_after, well_formed, block_count, start_of, released, used, objects, longest}
use Rattle.rules.specs.Forms.{Form, packed}
use Rattle.laws.specs.Faithful.{Faithful}
use Rattle.rules.specs.Planes.{plane_bytes, entry_in as entry_of_block, entries_in, spare, spare_free, plane, planes_of, planes}
use Rattle.rules.specs.Pointers.{address_of, good_base, target_of, heads_object, head_at, leads_to}
use Rattle.rules.specs.Outcomes.{Answer, change_from, placed_at, collected_to, unless_refused}
use Rattle.rules.specs.Refusals.{first_of, good_shape, whole_words}
use Rattle.rules.specs.Marking.{pushed, visit_to, visit, walk_words, walk, drain_for, drain, trace, root_to, mark_root, mark_roots, pass_block, pass_from, pass, rescan_for, rescan, mark_all, swept_entry, freeing_after, sweep_from, sweep}
use Rattle.rules.specs.Calls.{placing, freed as freed_heap, free, collecting, collect, survey}
use Rattle.rules.specs.Runs.{step}
use Rattle.rules.specs.Memory.{Memory, Result, AcceptedIn, or_refused, perform}
use Rattle.laws.proofs.Below.{below}
use Rattle.laws.proofs.Tables.{entry_outside}
use Rattle.keeping.specs.Keeping.{but_rescans, GoodRoots, GoodStack}
use Rattle.keeping.specs.Samples.{sample_base, address_at}
use Rattle.algebra.specs.Algebra.{free_in, collect_in, Usable, entry_in, ObjectIn, Commute, SameMembers, SameCollection, unless_free, Union, NothingMore}
use Rattle.algebra.proofs.Algebra.{frees_commute, roots_are_a_set, roots_join, collect_idempotent}
use Rattle.algebra.proofs.Times.{times_length, times_same}
use Rattle.algebra.specs.Samples.{sample_in, without_bc, without_ae, with_cde, entries_ab, entries_acde, entries_abcde, root_b, roots_ac, roots_ce, roots_ec, times, stack_of}

-- ---- what is computed

abbrev pub freed : ℕ → Answer
freed b = placed_at 0 (neg_ℤ (pos b))

pub record Computed (f : Form) : Type 0 where
  -- the heap is accepted, and A, B, C and E are objects of it
  pub usable : Usable f sample_base (sample_in f)
  pub objects : ObjectIn f (sample_in f) 0 × ObjectIn f (sample_in f) 1 × ObjectIn f (sample_in f) 4 × ObjectIn f (sample_in f) 8
  -- B is freed, and then C, which lies behind it
  pub b_c : ((free_in f sample_base 1 (sample_in f)).answer ≡ freed 3)
      × ((free_in f sample_base 4 (free_in f sample_base 1 (sample_in f)).memory).answer ≡ freed 2)
      × ((free_in f sample_base 4 (free_in f sample_base 1 (sample_in f)).memory).memory ≡ without_bc f)
  -- E is freed, and then A, which lies far before it
  pub e_a : ((free_in f sample_base 8 (sample_in f)).answer ≡ freed 2)
      × ((free_in f sample_base 0 (free_in f sample_base 8 (sample_in f)).memory).answer ≡ freed 1)
      × ((free_in f sample_base 0 (free_in f sample_base 8 (sample_in f)).memory).memory ≡ without_ae f)
  -- what is kept from C and E, with two rescans; from B; and from A and C
  pub ce : ((collect_in f sample_base roots_ce [] (sample_in f)).answer ≡ collected_to 3 2 (neg_ℤ (pos 6)))
      × ((collect_in f sample_base roots_ce [] (sample_in f)).memory ≡ with_cde f)
  pub b : AcceptedIn (collect_in f sample_base root_b [] (sample_in f)) × (f.read (collect_in f sample_base root_b [] (sample_in f)).memory.table ≡ entries_ab)
  pub ac : AcceptedIn (collect_in f sample_base roots_ac [] (sample_in f)) × (f.read (collect_in f sample_base roots_ac [] (sample_in f)).memory.table ≡ entries_acde)

pub planes_computed : Computed (planes 3)
unfolding count leading tabulate number bytes_of word_at with_word words_of bit_of bit_at byte_of plane_bytes entry_of_block entries_in spare spare_free plane planes_of may_follow well_after well_formed block_count start_of released used objects longest address_of good_base target_of heads_object head_at leads_to change_from unless_refused first_of good_shape whole_words pushed visit_to visit walk_words walk drain_for drain trace root_to mark_root mark_roots pass_block pass_from pass rescan_for rescan mark_all swept_entry freeing_after sweep_from sweep placing freed_heap free collecting collect survey step or_refused perform
planes_computed =
    record { usable = refl; objects = (refl, refl, refl, refl); b_c = (refl, refl, refl); e_a = (refl, refl, refl); ce = (refl, refl); b = (refl, refl); ac = (refl, refl) }

pub packed_computed : Computed packed
unfolding count leading tabulate number bytes_of word_at with_word words_of entry_of entries_of table_of may_follow well_after well_formed block_count start_of released used objects longest address_of good_base target_of heads_object head_at leads_to change_from unless_refused first_of good_shape whole_words pushed visit_to visit walk_words walk drain_for drain trace root_to mark_root mark_roots pass_block pass_from pass rescan_for rescan mark_all swept_entry freeing_after sweep_from sweep placing freed_heap free collecting collect survey step or_refused perform
packed_computed =
    record { usable = refl; objects = (refl, refl, refl, refl); b_c = (refl, refl, refl); e_a = (refl, refl, refl); ce = (refl, refl); b = (refl, refl); ac = (refl, refl) }

-- ---- what follows

-- 4,096 roots, in the other order and 2,048 times over
abbrev pub many_ec : List ℕ
many_ec = times 2048 roots_ec

-- B 4,094 times over; A and C joined to that are 4,096
abbrev pub many_b : List ℕ
many_b = times 4094 root_b

pub record Concluded (f : Form) : Type 0 where
  -- C is freed, and then B
  pub all_accepted : AcceptedIn (free_in f sample_base 1 (sample_in f)) × AcceptedIn (free_in f sample_base 4 (free_in f sample_base 1 (sample_in f)).memory)
      × AcceptedIn (free_in f sample_base 4 (sample_in f)) × AcceptedIn (free_in f sample_base 1 (free_in f sample_base 4 (sample_in f)).memory)
  pub c_first : (free_in f sample_base 4 (sample_in f)).answer ≡ freed 2
  pub b_second : (free_in f sample_base 1 (free_in f sample_base 4 (sample_in f)).memory).answer ≡ freed 3
  pub c_b : (free_in f sample_base 1 (free_in f sample_base 4 (sample_in f)).memory).memory ≡ without_bc f
  -- A is freed, and then E
  pub a_first : (free_in f sample_base 0 (sample_in f)).answer ≡ freed 1
  pub e_second : (free_in f sample_base 8 (free_in f sample_base 0 (sample_in f)).memory).answer ≡ freed 2
  pub a_e : (free_in f sample_base 8 (free_in f sample_base 0 (sample_in f)).memory).memory ≡ without_ae f
  -- what is kept from the many roots, whatever the rescans
  pub many_accepted : AcceptedIn (collect_in f sample_base many_ec (stack_of 64) (sample_in f))
  pub many_answer : but_rescans (collect_in f sample_base many_ec (stack_of 64) (sample_in f)).answer ≡ collected_to 3 0 (neg_ℤ (pos 6))
  pub many : (collect_in f sample_base many_ec (stack_of 64) (sample_in f)).memory ≡ with_cde f
  -- and so from E and C, once and with no mark stack
  pub ec_answer : but_rescans (collect_in f sample_base roots_ec [] (sample_in f)).answer ≡ collected_to 3 0 (neg_ℤ (pos 6))
  pub ec : (collect_in f sample_base roots_ec [] (sample_in f)).memory ≡ with_cde f
  -- what is kept from the joined list: B and E, but not F; and the entry of each block
  pub joined_accepted : AcceptedIn (collect_in f sample_base (many_b ++ roots_ac) (stack_of 64) (sample_in f))
  pub joined_b : ObjectIn f (collect_in f sample_base (many_b ++ roots_ac) (stack_of 64) (sample_in f)).memory 1
  pub joined_e : ObjectIn f (collect_in f sample_base (many_b ++ roots_ac) (stack_of 64) (sample_in f)).memory 8
  pub joined_f : ¬ ObjectIn f (collect_in f sample_base (many_b ++ roots_ac) (stack_of 64) (sample_in f)).memory 10
  pub joined_blocks : (k : ℕ) → entry_in f (collect_in f sample_base (many_b ++ roots_ac) (stack_of 64) (sample_in f)).memory k ≡ entry_at entries_abcde k
  -- a second collection from C and E, with the most mark stack entries after none
  pub second_accepted : AcceptedIn (collect_in f sample_base roots_ce (stack_of 64) (with_cde f))
  pub second : (collect_in f sample_base roots_ce (stack_of 64) (with_cde f)).memory ≡ with_cde f
  pub second_kept : (collect_in f sample_base roots_ce (stack_of 64) (with_cde f)).answer.kept ≡ 3
  pub second_change : (collect_in f sample_base roots_ce (stack_of 64) (with_cde f)).answer.change ≡ pos 0
  -- a second one from the many roots, with none after the most
  pub second_many : (collect_in f sample_base many_ec [] (with_cde f)).memory ≡ with_cde f

-- two root words have the same members in either order
members_swapped : (u v : ℕ) → SameMembers (u ∷ v ∷ []) (v ∷ u ∷ [])
members_swapped u v x = (swap, swap)
  where
    swap : {a b : ℕ} → Memᴰ x (a ∷ b ∷ []) → Memᴰ x (b ∷ a ∷ [])
    swap (Memᴰ.head e) = Memᴰ.tail (Memᴰ.head e)
    swap (Memᴰ.tail (Memᴰ.head e)) = Memᴰ.head e
    swap (Memᴰ.tail (Memᴰ.tail m)) = elim m [ ]

members_trans : {xs ys zs : List ℕ} → SameMembers xs ys → SameMembers ys zs → SameMembers xs zs
members_trans s t x = (λ m. (t x).0 ((s x).0 m), λ m. (s x).1 ((t x).1 m))

pub stack_good : GoodStack (stack_of 64)
stack_good = record { whole = refl; short = omega arith }

pub none_good : GoodStack []
none_good = record { whole = refl; short = omega arith }

-- the words of both, and of one of them so many times over
pub members_ec : SameMembers (words_of roots_ce) (words_of many_ec)
unfolding tabulate number bytes_of word_at words_of
members_ec = members_trans (members_swapped (address_at 4) (address_at 8)) (times_same 2047 roots_ec refl)

pub members_once : SameMembers (words_of many_ec) (words_of roots_ec)
unfolding bytes_of
members_once x = let s = times_same 2047 roots_ec refl x in (s.1, s.0)

members_b : SameMembers (words_of root_b) (words_of many_b)
unfolding bytes_of
members_b = times_same 4093 root_b refl

-- 4,096 and 4,094 of them, and two
pub good_many : GoodRoots many_ec
unfolding bytes_of
good_many = let l = times_length 2048 roots_ec in record { whole = omega arith; few = omega arith }

good_b : GoodRoots many_b
unfolding bytes_of
good_b = let l = times_length 4094 root_b in record { whole = omega arith; few = omega arith }

pub good_two : GoodRoots roots_ec × GoodRoots roots_ac
unfolding bytes_of
good_two = (record { whole = refl; few = omega arith }, record { whole = refl; few = omega arith })

-- 16,384 bytes joined
joined_words : length (many_b ++ roots_ac) ≡ 16384
unfolding bytes_of
joined_words = rw (length-append many_b roots_ac) (let l = times_length 4094 root_b in omega arith)

-- block by block, what one or the other keeps
either_block : (k : ℕ) → unless_free (entry_at entries_ab k) (entry_at entries_acde k) ≡ entry_at entries_abcde k
either_block k = go (dec_lt k 12)
  where
    go : Dec (k < 12) → unless_free (entry_at entries_ab k) (entry_at entries_acde k) ≡ entry_at entries_abcde k
    go (yes l) = eqb→eq _ _ (below 12 (λ (k : ℕ). eqb (unless_free (entry_at entries_ab k) (entry_at entries_acde k)) (entry_at entries_abcde k)) tt k l)
    go (no l) = rw (entry_outside entries_ab k (omega arith), entry_outside entries_acde k (omega arith), entry_outside entries_abcde k (omega arith)) refl

module _ {f : Form} (faithful : Faithful f) (c : Computed f) where
  abbrev m : Memory
  m = sample_in f

  abbrev from : List ℕ → List ℕ → Result
  from roots stack = collect_in f sample_base roots stack m

  pub concluded : Concluded f
  concluded =
      let near : Commute (free_in f sample_base 1 m) (free_in f sample_base 4 (free_in f sample_base 1 m).memory) (free_in f sample_base 4 m) (free_in f sample_base 1 (free_in f sample_base 4 m).memory) =
      frees_commute f faithful sample_base 1 4 m c.usable c.objects.1 c.objects.2 (λ e. omega arith) in
      let far : Commute (free_in f sample_base 8 m) (free_in f sample_base 0 (free_in f sample_base 8 m).memory) (free_in f sample_base 0 m) (free_in f sample_base 8 (free_in f sample_base 0 m).memory) =
      frees_commute f faithful sample_base 8 0 m c.usable c.objects.3 c.objects.0 (λ e. omega arith) in
      let ce_accepted : AcceptedIn (from roots_ce []) =
      ap (λ (a : Answer). a.refusal) c.ce.0 in
      let to_many : SameCollection (from roots_ce []) (from many_ec (stack_of 64)) =
      roots_are_a_set f sample_base roots_ce many_ec [] (stack_of 64) m ce_accepted members_ec good_many stack_good in
      let to_few : SameCollection (from many_ec (stack_of 64)) (from roots_ec []) =
      roots_are_a_set f sample_base many_ec roots_ec (stack_of 64) [] m to_many.accepted members_once good_two.0 none_good in
      let b_many : SameCollection (from root_b []) (from many_b []) =
      roots_are_a_set f sample_base root_b many_b [] [] m c.b.0 members_b good_b none_good in
      let ac_stack : SameCollection (from roots_ac []) (from roots_ac (stack_of 64)) =
      roots_are_a_set f sample_base roots_ac roots_ac [] (stack_of 64) m c.ac.0 (λ x. (λ i. i, λ i. i)) good_two.1 stack_good in
      let few_joined : length (many_b ++ roots_ac) / 4 ≤ 4096 =
      omega (arith, joined_words) in
      let union : Union f (from many_b []) (from roots_ac (stack_of 64)) (from (many_b ++ roots_ac) (stack_of 64)) =
      roots_join f faithful sample_base many_b roots_ac [] (stack_of 64) (stack_of 64) m b_many.accepted ac_stack.accepted few_joined stack_good in
      -- the entries that the parts leave
      let b_entry : (k : ℕ) → entry_in f (from many_b []).memory k ≡ entry_at entries_ab k =
      λ k. ap (λ (n : Memory). entry_in f n k) (sym b_many.same) ∙ ap (λ (es : List ℕ). entry_at es k) c.b.1 in
      let ac_entry : (k : ℕ) → entry_in f (from roots_ac (stack_of 64)).memory k ≡ entry_at entries_acde k =
      λ k. ap (λ (n : Memory). entry_in f n k) (sym ac_stack.same) ∙ ap (λ (es : List ℕ). entry_at es k) c.ac.1 in
      let many_left : (from many_ec (stack_of 64)).memory ≡ with_cde f =
      sym to_many.same ∙ c.ce.1 in
      let again : NothingMore (from roots_ce []) (collect_in f sample_base roots_ce (stack_of 64) (with_cde f)) =
      subst (λ (n : Memory). NothingMore (from roots_ce []) (collect_in f sample_base roots_ce (stack_of 64) n)) c.ce.1
      (collect_idempotent f faithful sample_base roots_ce [] (stack_of 64) m ce_accepted stack_good) in
      let again_many : NothingMore (from many_ec (stack_of 64)) (collect_in f sample_base many_ec [] (with_cde f)) =
      subst (λ (n : Memory). NothingMore (from many_ec (stack_of 64)) (collect_in f sample_base many_ec [] n)) many_left
      (collect_idempotent f faithful sample_base many_ec (stack_of 64) [] m to_many.accepted none_good) in
      record {
        all_accepted = near.accepted;
        c_first = near.answers.1 ∙ c.b_c.1;
        b_second = sym near.answers.0 ∙ c.b_c.0;
        c_b = sym near.same ∙ c.b_c.2;
        a_first = far.answers.1 ∙ c.e_a.1;
        e_second = sym far.answers.0 ∙ c.e_a.0;
        a_e = sym far.same ∙ c.e_a.2;
        many_accepted = to_many.accepted;
        many_answer = sym to_many.answer ∙ ap but_rescans c.ce.0;
        many = many_left;
        ec_answer = sym to_few.answer ∙ sym to_many.answer ∙ ap but_rescans c.ce.0;
        ec = sym to_few.same ∙ many_left;
        joined_accepted = union.accepted;
        joined_b = (union.kept 1).1 (inl (b_entry 1));
        joined_e = (union.kept 8).1 (inr (ac_entry 8));
        joined_f = λ e. ⊎_elim (λ p. omega (arith, b_entry 10, p)) (λ p. omega (arith, ac_entry 10, p)) ((union.kept 10).0 e);
        joined_blocks = λ k. union.blocks k ∙ rw (b_entry k, ac_entry k) (either_block k);
        second_accepted = again.accepted;
        second = again.same ∙ c.ce.1;
        second_kept = again.kept ∙ ap (λ (a : Answer). a.kept) c.ce.0;
        second_change = again.change;
        second_many = again_many.same ∙ many_left;
      }
