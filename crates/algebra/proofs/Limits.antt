-- What each hypothesis of the laws is there for: the others are met on the sample heap, and without this one the conclusion fails.
-- Assumes nothing.
use mathlib.Core.Path.{◌≡◌, refl, sym, ap, ◌∙◌}
use mathlib.Core.Logic.{◌≢◌, inl, inr}
use mathlib.Core.List.{List, [], ◌++◌}
use Prim.Native.Nat.{ℕ, ◌+◌, ◌%◌, ◌/◌, ◌≤◌, ◌<◌}
use native.Mathlib.Omega.{arith}
use lib.ListN.{length, length-append}
use Rattle.rules.specs.Tests.{count, leading, tabulate}
use Rattle.rules.specs.Bits.{bit_of, bit_at, byte_of}
use Rattle.rules.specs.Words.{number, bytes_of, word_at, with_word, words_of}
use Rattle.rules.specs.Entries.{FREE}
use Rattle.rules.specs.Tables.{may_follow, well_after, well_formed, block_count, start_of, released, used, objects, longest}
use Rattle.rules.specs.Forms.{Form}
use Rattle.rules.specs.Planes.{plane_bytes, entry_in as entry_of_block, entries_in, spare, spare_free, plane, planes_of, planes}
use Rattle.rules.specs.Pointers.{address_of, good_base, target_of, heads_object, head_at, leads_to}
use Rattle.rules.specs.Outcomes.{Answer, change_from, unless_refused}
use Rattle.rules.specs.Refusals.{first_of, good_shape, whole_words}
use Rattle.rules.specs.Marking.{pushed, visit_to, visit, walk_words, walk, drain_for, drain, trace, root_to, mark_root, mark_roots, pass_block, pass_from, pass, rescan_for, rescan, mark_all, swept_entry, freeing_after, sweep_from, sweep}
use Rattle.rules.specs.Calls.{init, placing, freed, free, collecting, collect, survey, store}
use Rattle.rules.specs.Runs.{Init, Collect, Store, step}
use Rattle.rules.specs.Memory.{Memory, heap_in, Result, AcceptedIn, or_refused, perform}
use Rattle.laws.proofs.Tables.{well_says}
use Rattle.laws.proofs.Memory.{accepted_sound, refusal_in}
use Rattle.laws.proofs.Planes.{planes_faithful}
use Rattle.keeping.specs.Keeping.{GoodRoots, GoodStack}
use Rattle.keeping.specs.Samples.{sample_base}
use Rattle.keeping.proofs.Collections.{collect_asks}
use Rattle.promises.specs.Conditions.{First, of_collect}
use Rattle.promises.proofs.Observed.{collect_number}
use Rattle.algebra.specs.Algebra.{free_in, collect_in, Usable, entry_in, ObjectIn, Commute, SameMembers, SameCollection, Union, NothingMore}
use Rattle.algebra.proofs.Algebra.{roots_are_a_set}
use Rattle.algebra.proofs.Times.{times_length, times_same}
use Rattle.algebra.proofs.Samples.{planes_computed, none_good}
use Rattle.algebra.specs.Samples.{sample_in, root_b, root_e, roots_ac, roots_ce, roots_ec, torn, times, stack_of, tail_first, lossy}

abbrev m : Memory
m = sample_in (planes 3)

-- the frees of j and k in both orders
abbrev Both : Form → ℕ → ℕ → ℕ → Memory → Type 0
Both f base j k n = Commute (free_in f base j n) (free_in f base k (free_in f base j n).memory) (free_in f base k n) (free_in f base j (free_in f base k n).memory)

-- a collection from roots, and one of what it leaves
abbrev from : List ℕ → List ℕ → Result
from roots stack = collect_in (planes 3) sample_base roots stack m

abbrev again : ℕ → List ℕ → List ℕ → Result
again base roots stack = collect_in (planes 3) base roots stack (from roots_ce []).memory

-- ---- what is computed

pub record Computed : Type 0 where
  pub usable_lossy : Usable lossy sample_base m
  -- a second free of B, a free of its TAIL, one at base 0, one in a table that only init and an opening accept, and one of B after C in the form that loses its table
  pub b_twice : (free_in (planes 3) sample_base 1 (free_in (planes 3) sample_base 1 m).memory).answer.refusal ≡ 7
  pub tail : (free_in (planes 3) sample_base 2 m).answer.refusal ≡ 7
  pub base_0 : (free_in (planes 3) 0 1 m).answer.refusal ≡ 1
  pub init_ill : AcceptedIn (perform (planes 3) (Init sample_base) [] tail_first)
  pub heads_ill : ObjectIn (planes 3) tail_first 1 × ObjectIn (planes 3) tail_first 4
  pub b_ill : (free_in (planes 3) sample_base 1 tail_first).answer.refusal ≡ 2
  pub b_lost : (free_in lossy sample_base 1 (free_in lossy sample_base 4 m).memory).answer.refusal ≡ 1
  -- collections from E and C; from E; from C and E with a byte too many among the roots; with a stack entry too many; and with a byte too many there
  pub ec_rescans : (from roots_ec []).answer.rescans ≡ 1
  pub e_kept : (from root_e []).answer.kept ≡ 2
  pub ce_torn : (from (torn roots_ce) []).answer.refusal ≡ 1
  pub torn_words : words_of (torn roots_ce) ≡ words_of roots_ce
  pub ce_long : (from roots_ce (stack_of 65)).answer.refusal ≡ 4
  pub ce_torn_stack : (from roots_ce (torn [])).answer.refusal ≡ 1
  -- from B joined with A and C, with a byte too many in either part; with a stack entry too many; and where the table is lost
  pub torn_left : (from (torn root_b ++ roots_ac) []).answer.refusal ≡ 1
  pub torn_right : (from (root_b ++ torn roots_ac) []).answer.refusal ≡ 1
  pub joined_long : (from (root_b ++ roots_ac) (stack_of 65)).answer.refusal ≡ 4
  pub b_lossy : AcceptedIn (collect_in lossy sample_base root_b [] m)
  pub ac_lossy : AcceptedIn (collect_in lossy sample_base roots_ac [] m)
  pub a_kept : ObjectIn lossy (collect_in lossy sample_base roots_ac [] m).memory 0
  pub a_lost : entry_in lossy (collect_in lossy sample_base (root_b ++ roots_ac) [] m).memory 0 ≡ FREE
  -- a second collection: of one that is refused; from E; at another base; after a store into E; with a stack entry too many; and where the table is lost
  pub torn_again : (collect_in (planes 3) sample_base (torn roots_ce) [] (from (torn roots_ce) []).memory).answer.refusal ≡ 1
  pub e_again : (again sample_base root_e []).answer.kept ≡ 2
  pub other_base : (again (sample_base + 16) roots_ce []).answer.kept ≡ 0
  pub stored : (collect_in (planes 3) sample_base roots_ce [] (perform (planes 3) (Store sample_base 8 0 0) [] (from roots_ce []).memory).memory).answer.kept ≡ 2
  pub long_again : (again sample_base roots_ce (stack_of 65)).answer.refusal ≡ 4
  pub lossy_again : (collect_in lossy sample_base root_b [] (collect_in lossy sample_base root_b [] m).memory).answer.refusal ≡ 1

pub computed : Computed
unfolding count leading tabulate number bytes_of word_at with_word words_of bit_of bit_at byte_of plane_bytes entry_of_block entries_in spare spare_free plane planes_of may_follow well_after well_formed block_count start_of released used objects longest address_of good_base target_of heads_object head_at leads_to change_from unless_refused first_of good_shape whole_words pushed visit_to visit walk_words walk drain_for drain trace root_to mark_root mark_roots pass_block pass_from pass rescan_for rescan mark_all swept_entry freeing_after sweep_from sweep init placing freed free collecting collect survey store step or_refused perform
computed =
    record {
      usable_lossy = refl;
      b_twice = refl;
      tail = refl;
      base_0 = refl;
      init_ill = refl;
      heads_ill = (refl, refl);
      b_ill = refl;
      b_lost = refl;
      ec_rescans = refl;
      e_kept = refl;
      ce_torn = refl;
      torn_words = refl;
      ce_long = refl;
      ce_torn_stack = refl;
      torn_left = refl;
      torn_right = refl;
      joined_long = refl;
      b_lossy = refl;
      ac_lossy = refl;
      a_kept = refl;
      a_lost = refl;
      torn_again = refl;
      e_again = refl;
      other_base = refl;
      stored = refl;
      long_again = refl;
      lossy_again = refl;
    }

-- the collection from C and E is accepted, keeps three objects and takes two rescans
ce : AcceptedIn (from roots_ce [])
ce = ap (λ (a : Answer). a.refusal) planes_computed.ce.0

ce_kept : (from roots_ce []).answer.kept ≡ 3
ce_kept = ap (λ (a : Answer). a.kept) planes_computed.ce.0

ce_rescans : (from roots_ce []).answer.rescans ≡ 2
ce_rescans = ap (λ (a : Answer). a.rescans) planes_computed.ce.0

-- one byte more leaves the members
members_torn : SameMembers (words_of roots_ce) (words_of (torn roots_ce))
members_torn = rw computed.torn_words (λ x. (λ i. i, λ i. i))

-- more than 4,096 roots are 3
too_many : (roots : List ℕ) → length roots % 4 ≡ 0 → 4096 < length roots / 4 → (from roots []).answer.refusal ≡ 3
unfolding step First of_collect
too_many roots whole many =
    let c = Collect sample_base root_b in
    let s = accepted_sound (planes 3) c [] m refl planes_computed.b.0 in
    let h = heap_in (planes 3) m in
    let p = (collect_asks sample_base h root_b [] (sym (refusal_in (planes 3) (planes_faithful 3) c [] m s) ∙ planes_computed.b.0)).passed in
    refusal_in (planes 3) (planes_faithful 3) (Collect sample_base roots) [] m s
    ∙ collect_number sample_base h roots [] 3
    (inr (λ bad. bad (p.shape, whole, refl), inr (λ bad. bad (well_says h.entries p.well), inl (many, refl))))

-- ---- frees

-- of one object, not of two
pub same_object : Usable (planes 3) sample_base m × ObjectIn (planes 3) m 1 × ¬ Both (planes 3) sample_base 1 1 m
same_object = (planes_computed.usable, planes_computed.objects.1, λ c. omega (arith, computed.b_twice, c.accepted.1))

-- of a block that is no head, the second or the first
pub no_object : Usable (planes 3) sample_base m × ObjectIn (planes 3) m 1 × (◌≢◌ {A = ℕ} 1 2) × ¬ Both (planes 3) sample_base 1 2 m
no_object = (planes_computed.usable, planes_computed.objects.1, λ e. omega arith, λ c. omega (arith, computed.tail, c.accepted.2))

pub no_object_first : Usable (planes 3) sample_base m × ObjectIn (planes 3) m 1 × (◌≢◌ {A = ℕ} 2 1) × ¬ Both (planes 3) sample_base 2 1 m
no_object_first = (planes_computed.usable, planes_computed.objects.1, λ e. omega arith, λ c. omega (arith, computed.tail, c.accepted.0))

-- at a base that is refused
pub bad_base : ObjectIn (planes 3) m 1 × ObjectIn (planes 3) m 4 × (◌≢◌ {A = ℕ} 1 4) × ¬ Both (planes 3) 0 1 4 m
bad_base = (planes_computed.objects.1, planes_computed.objects.2, λ e. omega arith, λ c. omega (arith, computed.base_0, c.accepted.0))

-- in a table that is not well-formed
pub bad_table : AcceptedIn (perform (planes 3) (Init sample_base) [] tail_first) × ObjectIn (planes 3) tail_first 1 × ObjectIn (planes 3) tail_first 4 × (◌≢◌ {A = ℕ} 1 4)
    × ¬ Both (planes 3) sample_base 1 4 tail_first
bad_table = (computed.init_ill, computed.heads_ill.0, computed.heads_ill.1, λ e. omega arith, λ c. omega (arith, computed.b_ill, c.accepted.0))

-- in a form that is not faithful
pub lossy_frees : Usable lossy sample_base m × ObjectIn lossy m 1 × ObjectIn lossy m 4 × (◌≢◌ {A = ℕ} 1 4) × ¬ Both lossy sample_base 1 4 m
lossy_frees = (computed.usable_lossy, planes_computed.objects.1, planes_computed.objects.2, λ e. omega arith, λ c. omega (arith, computed.b_lost, c.accepted.3))

-- ---- roots with the same members

-- the first collection is refused
pub refused_roots : SameMembers (words_of (torn roots_ce)) (words_of roots_ce) × GoodRoots roots_ce × GoodStack [] × ¬ SameCollection (from (torn roots_ce) []) (from roots_ce [])
unfolding bytes_of
refused_roots = (
  λ x. ((members_torn x).1, (members_torn x).0),
  record { whole = refl; few = omega arith },
  none_good,
  λ s. omega (arith, computed.ce_torn, ce, ap (λ (a : Answer). a.refusal) s.answer),
)

-- a member is missing
pub other_members : AcceptedIn (from roots_ce []) × GoodRoots root_e × GoodStack [] × ¬ SameCollection (from roots_ce []) (from root_e [])
unfolding bytes_of
other_members = (
  ce,
  record { whole = refl; few = omega arith },
  none_good,
  λ s. omega (arith, ce_kept, computed.e_kept, ap (λ (a : Answer). a.kept) s.answer),
)

-- the other list is not one of whole words
pub torn_roots : AcceptedIn (from roots_ce []) × SameMembers (words_of roots_ce) (words_of (torn roots_ce)) × (length (torn roots_ce) / 4 ≤ 4096) × GoodStack []
    × ¬ SameCollection (from roots_ce []) (from (torn roots_ce) [])
unfolding bytes_of
torn_roots = (ce, members_torn, omega arith, none_good, λ s. omega (arith, computed.ce_torn, s.accepted))

-- it has one root more than 4,096
pub many_roots : AcceptedIn (from root_b []) × SameMembers (words_of root_b) (words_of (times 4097 root_b)) × (length (times 4097 root_b) % 4 ≡ 0) × GoodStack []
    × ¬ SameCollection (from root_b []) (from (times 4097 root_b) [])
unfolding bytes_of
many_roots =
    let l = times_length 4097 root_b in
    let whole : length (times 4097 root_b) % 4 ≡ 0 = omega arith in
    (planes_computed.b.0, times_same 4096 root_b refl, whole, none_good, λ s. omega (arith, too_many (times 4097 root_b) whole (omega arith), s.accepted))

-- the mark stack has one entry more than 64, or a piece of one
pub long_stack : AcceptedIn (from roots_ce []) × SameMembers (words_of roots_ce) (words_of roots_ce) × GoodRoots roots_ce × ¬ SameCollection (from roots_ce []) (from roots_ce (stack_of 65))
unfolding bytes_of
long_stack = (ce, λ x. (λ i. i, λ i. i), record { whole = refl; few = omega arith }, λ s. omega (arith, computed.ce_long, s.accepted))

pub torn_stack : AcceptedIn (from roots_ce []) × SameMembers (words_of roots_ce) (words_of roots_ce) × GoodRoots roots_ce × ¬ SameCollection (from roots_ce []) (from roots_ce (torn []))
unfolding bytes_of
torn_stack = (ce, λ x. (λ i. i, λ i. i), record { whole = refl; few = omega arith }, λ s. omega (arith, computed.ce_torn_stack, s.accepted))

-- no form is asked to be faithful: here is one that is not
pub lossy_roots : SameCollection (collect_in lossy sample_base root_b [] m) (collect_in lossy sample_base (times 2 root_b) [] m)
unfolding bytes_of
lossy_roots =
    let l = times_length 2 root_b in
    roots_are_a_set lossy sample_base root_b (times 2 root_b) [] [] m computed.b_lossy (times_same 1 root_b refl) (record { whole = omega arith; few = omega arith }) none_good

-- the rescans do depend on the order of the roots
pub rescans_differ : (from roots_ce []).answer ≢ (from roots_ec []).answer
rescans_differ e = omega (arith, ce_rescans, computed.ec_rescans, ap (λ (a : Answer). a.rescans) e)

-- ---- joined roots

-- one part is refused, or the other
pub refused_left : AcceptedIn (from roots_ac []) × (length (torn root_b ++ roots_ac) / 4 ≤ 4096) × GoodStack [] × ¬ Union (planes 3) (from (torn root_b) []) (from roots_ac []) (from (torn root_b ++ roots_ac) [])
unfolding bytes_of
refused_left = (planes_computed.ac.0, omega arith, none_good, λ u. omega (arith, computed.torn_left, u.accepted))

pub refused_right : AcceptedIn (from root_b []) × (length (root_b ++ torn roots_ac) / 4 ≤ 4096) × GoodStack [] × ¬ Union (planes 3) (from root_b []) (from (torn roots_ac) []) (from (root_b ++ torn roots_ac) [])
unfolding bytes_of
refused_right = (planes_computed.b.0, omega arith, none_good, λ u. omega (arith, computed.torn_right, u.accepted))

-- there is one root more than 4,096 in all
pub many_joined : AcceptedIn (from (times 4095 root_b) []) × AcceptedIn (from roots_ac []) × GoodStack []
    × ¬ Union (planes 3) (from (times 4095 root_b) []) (from roots_ac []) (from (times 4095 root_b ++ roots_ac) [])
unfolding bytes_of
many_joined =
    let l = times_length 4095 root_b in
    let n = length-append (times 4095 root_b) roots_ac in (
      (roots_are_a_set (planes 3) sample_base root_b (times 4095 root_b) [] [] m planes_computed.b.0 (times_same 4094 root_b refl) (record { whole = omega arith; few = omega arith }) none_good).accepted,
      planes_computed.ac.0,
      none_good,
      λ u. omega (arith, too_many (times 4095 root_b ++ roots_ac) (omega arith) (omega arith), u.accepted),
    )

-- the mark stack has one entry more than 64
pub joined_long_stack : AcceptedIn (from root_b []) × AcceptedIn (from roots_ac []) × (length (root_b ++ roots_ac) / 4 ≤ 4096)
    × ¬ Union (planes 3) (from root_b []) (from roots_ac []) (from (root_b ++ roots_ac) (stack_of 65))
unfolding bytes_of
joined_long_stack = (planes_computed.b.0, planes_computed.ac.0, omega arith, λ u. omega (arith, computed.joined_long, u.accepted))

-- in a form that is not faithful
pub lossy_join : AcceptedIn (collect_in lossy sample_base root_b [] m) × AcceptedIn (collect_in lossy sample_base roots_ac [] m) × (length (root_b ++ roots_ac) / 4 ≤ 4096) × GoodStack []
    × ¬ Union lossy (collect_in lossy sample_base root_b [] m) (collect_in lossy sample_base roots_ac [] m) (collect_in lossy sample_base (root_b ++ roots_ac) [] m)
unfolding bytes_of
lossy_join = (computed.b_lossy, computed.ac_lossy, omega arith, none_good, λ u. omega (arith, computed.a_lost, (u.kept 0).1 (inr computed.a_kept)))

-- ---- a second collection

-- after one that is refused
pub refused_collection : GoodStack [] × ¬ NothingMore (from (torn roots_ce) []) (collect_in (planes 3) sample_base (torn roots_ce) [] (from (torn roots_ce) []).memory)
refused_collection = (none_good, λ n. omega (arith, computed.torn_again, n.accepted))

-- from other roots, at another base, or not at once
pub other_roots : AcceptedIn (from roots_ce []) × GoodStack [] × ¬ NothingMore (from roots_ce []) (again sample_base root_e [])
other_roots = (ce, none_good, λ n. omega (arith, ce_kept, computed.e_again, n.kept))

pub other_base : AcceptedIn (from roots_ce []) × GoodStack [] × ¬ NothingMore (from roots_ce []) (again (sample_base + 16) roots_ce [])
other_base = (ce, none_good, λ n. omega (arith, ce_kept, computed.other_base, n.kept))

pub not_at_once : AcceptedIn (from roots_ce []) × GoodStack []
    × ¬ NothingMore (from roots_ce []) (collect_in (planes 3) sample_base roots_ce [] (perform (planes 3) (Store sample_base 8 0 0) [] (from roots_ce []).memory).memory)
not_at_once = (ce, none_good, λ n. omega (arith, ce_kept, computed.stored, n.kept))

-- the mark stack has one entry more than 64
pub again_long_stack : AcceptedIn (from roots_ce []) × ¬ NothingMore (from roots_ce []) (again sample_base roots_ce (stack_of 65))
again_long_stack = (ce, λ n. omega (arith, computed.long_again, n.accepted))

-- in a form that is not faithful
pub lossy_again : AcceptedIn (collect_in lossy sample_base root_b [] m) × GoodStack []
    × ¬ NothingMore (collect_in lossy sample_base root_b [] m) (collect_in lossy sample_base root_b [] (collect_in lossy sample_base root_b [] m).memory)
lossy_again = (computed.b_lossy, none_good, λ n. omega (arith, computed.lossy_again, n.accepted))
