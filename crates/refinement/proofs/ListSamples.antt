-- The runs on lent memory: what the list responds and fills is computed, and what the memory does, how many blocks are used and what a collection keeps follow by the theorem.
-- Assumes nothing.
use mathlib.Core.Path.{◌≡◌, refl, ◌∙◌}
use mathlib.Core.Bool.{not}
use mathlib.Core.List.{List, [], ◌∷◌, ◌++◌, Memᴰ}
use native.Mathlib.Omega.{arith}
use lib.Dec.{eqb}
use lib.IntN.{pos}
use lib.ListN.{replicate, drop}
use Rattle.rules.specs.Tests.{count, tabulate}
use Rattle.rules.specs.Words.{first_two}
use Rattle.rules.specs.Entries.{entry_of, entries_of}
use Rattle.rules.specs.Tables.{used}
use Rattle.rules.specs.Pointers.{address_of}
use Rattle.rules.specs.Planes.{entries_in}
use Rattle.rules.specs.Outcomes.{only_refusal, placed_at}
use Rattle.rules.specs.Files.{section_in, file_of}
use Rattle.rules.specs.Runs.{Init, OpenImage}
use Rattle.laws.specs.Meaning.{AllBytes}
use Rattle.laws.proofs.Lists.{bounded_replicate}
use Rattle.plain.specs.Objects.{Object}
use Rattle.plain.specs.Tracing.{is_in, led_to, follow_to, follow, follow_all, empty_for, empty, subtree, from_root_to, from_roots, again_for, trace, among}
use Rattle.plain.specs.Reaching.{Reachable, root, edge, Keeps}
use Rattle.plain.specs.Examples.{run_base, filling, run_c as c, run_d as d, run_e as e, run_f as f, filled, run_roots, ending, twelve, run_answers, imaging, strewn, scraps, reopened, open_answers, four}
use Rattle.simulation.proofs.Reached.{of_at}
use Rattle.services.specs.Services.{responses, buffers, lent_after}
use Rattle.refinement.specs.AsList.{counted_in, AllOpenBytes}
use Rattle.refinement.specs.ListSamples.{garbage, garbage_accepted, spent, spent_accepted, calls, answers, others, run, run_responses, run_responses_are, filling_left, image_run, image_responses, images_filled, image_run_answers, open_run, open_responses, open_filled, init_run, open_run_answers, init_run_answers, open_left, log_run, log_responses, log_run_answers, log_imaging, log_image, log_image_answers}
use Rattle.refinement.proofs.AsList.{as_list}
use Rattle.refinement.proofs.ListUses.{summed, used_answered, files_of, all_of, leads_into, Closed, reachable_in}

-- ---- calls of the heap

-- as the list does, whatever memory and list held before
pub garbage_responses : responses run garbage ≡ run_responses
garbage_responses = as_list.same_responses 3 (Init run_base) garbage twelve (calls 3 filling ++ others ++ calls 3 ending) refl garbage_accepted.0 refl ∙ run_responses_are

-- ten blocks are used then, whatever was counted before the init
pub garbage_used : used (entries_in 3 (lent_after run garbage).memory.table) ≡ 10
unfolding summed counted_in filling ending run_answers tabulate
garbage_used =
    let s = rw garbage_responses at (used_answered 3 (Init run_base) garbage (calls 3 filling ++ others ++ calls 3 ending) (pos 99) refl garbage_accepted.0) in
    cc

-- ---- images

-- a pool of ones is one of bytes
ones_bytes : AllBytes garbage.memory.pool
ones_bytes = bounded_replicate 192 255 (omega arith)

image_files : AllOpenBytes image_run
unfolding all_of imaging tabulate
image_files = files_of image_run tt

-- the images are those of the list's objects: no byte of them is one that the pool held before
pub garbage_images : (responses image_run garbage ≡ image_responses) × (buffers image_run garbage ≡ images_filled)
garbage_images = (
  as_list.same_responses 3 (Init run_base) garbage twelve (others ++ calls 3 imaging) refl garbage_accepted.0 refl ∙ image_run_answers.0,
  as_list.same_buffers 3 (Init run_base) garbage twelve (others ++ calls 3 imaging) refl garbage_accepted.0 refl ones_bytes image_files ∙ image_run_answers.1,
)

-- ---- from an opening on

spent_bytes : AllBytes spent.memory.pool
spent_bytes = bounded_replicate 64 255 (omega arith)

open_files : AllOpenBytes open_run
unfolding all_of reopened tabulate
open_files = files_of open_run tt

-- the run is answered and written as on the list
pub opened_run : (responses open_run spent ≡ open_responses) × (buffers open_run spent ≡ open_filled)
opened_run = (
  as_list.same_responses 1 (OpenImage strewn 8) spent four (drop 1 open_run) refl spent_accepted.0 refl ∙ open_run_answers.0,
  as_list.same_buffers 1 (OpenImage strewn 8) spent four (drop 1 open_run) refl spent_accepted.0 refl spent_bytes open_files ∙ open_run_answers.1,
)

-- of the three blocks that the file uses one is left, whatever was counted before
pub opened_used : used (entries_in 1 (lent_after open_run spent).memory.table) ≡ 1
unfolding summed counted_in count tabulate first_two used entry_of entries_of section_in file_of reopened open_answers
opened_used =
    let s = rw opened_run.0 at (used_answered 1 (OpenImage strewn 8) spent (drop 1 open_run) (pos 99) refl spent_accepted.0) in
    cc

-- the same behind an init and four blocks that were allocated
init_files : AllOpenBytes init_run
unfolding all_of reopened tabulate
init_files = files_of init_run tt

pub begun_run : (responses init_run spent ≡ answers (only_refusal 0 ∷ placed_at 0 (pos 4) ∷ []) ++ open_responses) × (buffers init_run spent ≡ [] ∷ [] ∷ open_filled)
begun_run = (
  as_list.same_responses 1 (Init 4096) spent four (drop 1 init_run) refl spent_accepted.1 refl ∙ init_run_answers.0,
  as_list.same_buffers 1 (Init 4096) spent four (drop 1 init_run) refl spent_accepted.1 refl spent_bytes init_files ∙ init_run_answers.1,
)

pub begun_used : used (entries_in 1 (lent_after init_run spent).memory.table) ≡ 1
unfolding summed counted_in count tabulate first_two used entry_of entries_of section_in file_of reopened open_answers
begun_used =
    let s = rw begun_run.0 at (used_answered 1 (Init 4096) spent (drop 1 init_run) (pos 99) refl spent_accepted.1) in
    cc

-- ---- calls of the log

pub garbage_logs : responses log_run garbage ≡ log_responses
garbage_logs = as_list.same_responses 3 (Init run_base) garbage twelve (drop 1 log_run) refl garbage_accepted.0 refl ∙ log_run_answers

-- nine blocks are used then: an append that is refused by 9 has freed one
pub logs_used : used (entries_in 3 (lent_after log_run garbage).memory.table) ≡ 9
unfolding summed counted_in
logs_used =
    let s = rw garbage_logs at (used_answered 3 (Init run_base) garbage (drop 1 log_run) (pos 77) refl garbage_accepted.0) in
    cc

log_files : AllOpenBytes log_imaging
unfolding all_of
log_files = files_of log_imaging tt

-- the image behind appends and drops
pub spent_image : buffers log_imaging spent ≡ replicate 5 [] ++ log_image ∷ []
spent_image = as_list.same_buffers 1 (Init 4096) spent four (drop 1 log_imaging) refl spent_accepted.1 refl spent_bytes log_files ∙ log_image_answers

-- ---- what a collection keeps

-- what the collection of the run keeps, with one mark stack entry
abbrev kept : List Object
kept = among (trace (record { base = run_base; objects = filled; room = 1 }) run_roots).reached filled

-- it keeps exactly what is reachable
pub run_keeps : Keeps run_base filled run_roots kept
run_keeps = rw filling_left at (as_list.keeps_reachable 12 (calls 3 filling ++ others) run_base 1 run_roots (omega arith) (omega arith))

-- a chain of two words from the second root
pub c_reachable : Reachable run_base filled run_roots c
unfolding tabulate is_in led_to address_of
c_reachable =
    let r : Reachable run_base filled run_roots e = root {w = address_of run_base 8} (Memᴰ.tail (Memᴰ.head refl)) refl in
    let q : Reachable run_base filled run_roots d = edge {x = e} {w = address_of run_base 5} r (of_at e.words 15 (omega arith)) refl in
    edge {x = d} {w = address_of run_base 4} q (of_at d.words 7 (omega arith)) refl

-- so c is kept
pub c_kept : Memᴰ c kept
c_kept = run_keeps.all c c_reachable

-- no root and no word of another object leads to f
all_but_f : Closed run_base filled run_roots (λ o. not (eqb o.start 7))
unfolding all_of leads_into tabulate is_in led_to address_of
all_but_f = record { roots_in = tt; words_in = tt }

-- so f is not kept
pub f_lost : Memᴰ f kept → ⊥
f_lost m = reachable_in run_base filled run_roots _ all_but_f (run_keeps.only f m)

-- of the opened heap: its address keeps the object that is left, and the root of the file does not
pub open_keeps : Keeps 4096 (drop 1 scraps) (address_of 4096 3 ∷ []) (drop 1 scraps) × Keeps 4096 (drop 1 scraps) (0xdead_beef ∷ []) []
unfolding tabulate address_of is_in led_to follow_to follow follow_all empty_for empty subtree from_root_to from_roots again_for trace among
open_keeps = (
  rw open_left at (as_list.keeps_reachable 4 open_run 4096 1 (address_of 4096 3 ∷ []) (omega arith) (omega arith)),
  rw open_left at (as_list.keeps_reachable 4 open_run 4096 1 (0xdead_beef ∷ []) (omega arith) (omega arith)),
)
