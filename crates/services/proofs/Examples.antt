-- The worked list of services comes out.
-- Assumes nothing.
use mathlib.Core.Path.{◌≡◌, refl}
use Rattle.rules.specs.Bits.{bit_of, bit_at, byte_of}
use Rattle.rules.specs.Calls.{blocks_for, taken, placing, init, allocate, survey, load, store}
use Rattle.rules.specs.Lent.{tests_beside, beside_after, or_unserved, serve_call}
use Rattle.rules.specs.Memory.{or_refused, perform}
use Rattle.rules.specs.Outcomes.{change_from, unless_refused, cleared_blocks}
use Rattle.rules.specs.Planes.{plane_bytes, entry_in, entries_in, spare, spare_free, plane, planes_of}
use Rattle.rules.specs.Pointers.{address_of, good_base, target_of}
use Rattle.rules.specs.Refusals.{first_of, good_shape, whole_words}
use Rattle.rules.specs.Runs.{step}
use Rattle.rules.specs.Tables.{may_follow, well_after, well_formed, block_count, start_of, free_from, aligned, fits, first_from, first_fit, placed, used, objects, longest}
use Rattle.rules.specs.Tests.{count, leading, tabulate}
use Rattle.rules.specs.Words.{number, bytes_of, word_at, with_word, words_of}
use Rattle.logs.specs.Log.{link_in, link_to, link_at, follow, on_log, checked, last_of, at_index, join, enter, append_to, append, read_from, read}
use Rattle.services.specs.Services.{responses, serve_program, serve_in, responses_by}
use Rattle.services.specs.Examples.{anything, some_services, some_responses}

pub services_respond : responses some_services anything ≡ some_responses
unfolding count leading tabulate number bytes_of word_at with_word words_of bit_of bit_at byte_of plane_bytes entry_in entries_in spare spare_free plane planes_of may_follow well_after well_formed block_count start_of free_from aligned fits first_from first_fit placed used objects longest address_of good_base target_of change_from unless_refused cleared_blocks first_of good_shape whole_words blocks_for taken placing init allocate survey load store step or_refused perform tests_beside beside_after or_unserved serve_call link_in link_to link_at follow on_log checked last_of at_index join enter append_to append read_from read serve_program serve_in responses_by
services_respond = refl
