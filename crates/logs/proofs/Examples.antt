-- The examples hold, computed.
-- Assumes nothing.
use mathlib.Core.Path.{◌≡◌, refl}
use mathlib.Core.List.{[], ◌∷◌}
use mathlib.Core.Option.{some, none}
use lib.ListN.{length}
use Rattle.rules.specs.Tests.{count, leading, tabulate}
use Rattle.rules.specs.Bits.{bit_of, bit_at, byte_of}
use Rattle.rules.specs.Words.{number, bytes_of, word_at, words_of, with_word}
use Rattle.rules.specs.Tables.{may_follow, well_after, well_formed, block_count, start_of, free_from, aligned, fits, first_from, first_fit, placed, released, used, objects, longest}
use Rattle.rules.specs.Pointers.{address_of, good_base, target_of, heads_object, head_at, leads_to}
use Rattle.rules.specs.Planes.{plane_bytes, entry_in, entries_in, spare, spare_free, plane, planes_of}
use Rattle.rules.specs.Outcomes.{change_from, unless_refused, cleared_blocks}
use Rattle.rules.specs.Refusals.{first_of, good_shape, whole_words}
use Rattle.rules.specs.Marking.{pushed, visit_to, visit, walk_words, walk, drain_for, drain, trace, root_to, mark_root, mark_roots, pass_block, pass_from, pass, rescan_for, rescan, mark_all, swept_entry, freeing_after, sweep_from, sweep}
use Rattle.rules.specs.Calls.{blocks_for, taken, placing, allocate, freed, free, collecting, collect, survey, load, store}
use Rattle.rules.specs.Runs.{step}
use Rattle.rules.specs.Memory.{or_refused, perform}
use Rattle.programs.specs.Programs.{run}
use Rattle.logs.specs.Log.{link_in, link_to, link_at, follow, on_log, checked, last_of, at_index, join, enter, append_to, append, read_from, read, drop_from, drop}
use Rattle.logs.specs.Examples.{double, linked, walked, accepted, refused, found, expected}

-- there are so many
pub examples_number : (length accepted ≡ 13) × (length refused ≡ 27)
unfolding accepted refused
examples_number = (refl, refl)

-- a log of two entries is found within two, and not within one; and a chain that comes back is none, however far it is followed
pub walked_hold : (walked 2 double ≡ some (0 ∷ 2 ∷ [])) × (walked 1 double ≡ none) × (walked 5 (linked 4128 4096) ≡ none)
unfolding count leading tabulate number bytes_of word_at bit_of bit_at byte_of plane_bytes entry_in entries_in spare spare_free plane planes_of may_follow well_after well_formed block_count start_of used address_of good_base target_of heads_object head_at unless_refused first_of good_shape load step or_refused perform run link_in link_to link_at follow
walked_hold = (refl, refl, refl)

pub accepted_hold : found accepted ≡ expected accepted
unfolding accepted count leading tabulate number bytes_of word_at words_of with_word bit_of bit_at byte_of plane_bytes entry_in entries_in spare spare_free plane planes_of may_follow well_after well_formed block_count start_of free_from aligned fits first_from first_fit placed released used objects longest address_of good_base target_of heads_object head_at leads_to change_from unless_refused cleared_blocks first_of good_shape whole_words pushed visit_to visit walk_words walk drain_for drain trace root_to mark_root mark_roots pass_block pass_from pass rescan_for rescan mark_all swept_entry freeing_after sweep_from sweep blocks_for taken placing allocate freed free collecting collect survey load store step or_refused perform run link_in link_to link_at follow on_log checked last_of at_index join enter append_to append read_from read drop_from drop
accepted_hold = refl

pub refused_hold : found refused ≡ expected refused
unfolding refused count leading tabulate number bytes_of word_at words_of bit_of bit_at byte_of plane_bytes entry_in entries_in spare spare_free plane planes_of may_follow well_after well_formed block_count start_of free_from aligned fits first_from first_fit placed released used objects longest address_of good_base target_of heads_object head_at leads_to change_from unless_refused cleared_blocks first_of good_shape whole_words pushed visit_to visit walk_words walk drain_for drain trace root_to mark_root mark_roots pass_block pass_from pass rescan_for rescan mark_all swept_entry freeing_after sweep_from sweep blocks_for taken placing allocate freed free collecting collect survey load store step or_refused perform run link_in link_to link_at follow on_log checked last_of at_index join enter append_to append read_from read drop_from drop
refused_hold = refl
