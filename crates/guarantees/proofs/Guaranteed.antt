-- All guarantees, each by its theorem.
-- Assumes nothing.
use Rattle.rules.specs.Examples.{examples_hold, examples_number, words_hold}
use Rattle.rules.specs.Limits.{limits_hold, limits_number, lengths_hold}
use Rattle.rules.specs.Orders.{orders_hold, orders_number}
use Rattle.rules.specs.PlaneExamples.{plane_examples_hold, plane_examples_number, plane_refusals}
use Rattle.rules.specs.ImageExamples.{image_examples_hold, image_examples_number, many_roots}
use Rattle.rules.specs.FileExamples.{file_examples_hold, file_examples_number, long_list, prefixes_cut_short}
use Rattle.keeping.proofs.Collections.{keeps_exactly, any_stack}
use Rattle.promises.proofs.Bytes.{on_bytes}
use Rattle.promises.proofs.Images.{image_says_all}
use Rattle.promises.proofs.RoundTrips.{write_then_open, open_then_write, opens_exactly, one_file}
use Rattle.promises.proofs.Promised.{promises}
use Rattle.promises.proofs.Determined.{determined}
use Rattle.promises.proofs.Whole.{whole}
use Rattle.promises.proofs.Alignment.{new_objects_aligned, aligned_from_start}
use Rattle.algebra.proofs.Algebra.{frees_commute, roots_are_a_set, roots_join, collect_idempotent}
use Rattle.logs.proofs.Examples.{accepted_hold, refused_hold, examples_number as log_number}
use Rattle.loglaws.proofs.Promised.{log_promises}
use Rattle.loglaws.proofs.Cycle.{log_is_list}
use Rattle.services.proofs.Entries.{on_memory}
use Rattle.noninterference.proofs.Noninterference.{noninterference}
use Rattle.refinement.proofs.AsList.{as_list}
use Rattle.packed.proofs.AsPacked.{as_packed}
use Rattle.lasting.proofs.Reading.{log_lasts}
use Rattle.guarantees.specs.Guarantees.{Guarantees}
use Rattle.guarantees.proofs.EntryPoints.{entry_points}

pub guarantees : Guarantees
guarantees = record {
  examples_hold = examples_hold;
  orders_hold = orders_hold;
  examples_number = examples_number;
  orders_number = orders_number;
  words_hold = words_hold;
  limits_hold = limits_hold;
  limits_number = limits_number;
  lengths_hold = lengths_hold;
  plane_examples_hold = plane_examples_hold;
  plane_examples_number = plane_examples_number;
  plane_refusals = plane_refusals;
  image_examples_hold = image_examples_hold;
  image_examples_number = image_examples_number;
  many_roots = many_roots;
  file_examples_hold = file_examples_hold;
  file_examples_number = file_examples_number;
  long_list = long_list;
  prefixes_cut_short = prefixes_cut_short;
  log_examples_accepted = accepted_hold;
  log_examples_refused = refused_hold;
  log_examples_number = log_number;
  entry_points = entry_points;
  on_memory = on_memory;
  on_bytes = on_bytes;
  as_packed = as_packed;
  promises = promises;
  determined = determined;
  whole = whole;
  image_says_all = image_says_all;
  write_then_open = write_then_open;
  open_then_write = open_then_write;
  opens_exactly = opens_exactly;
  one_file = one_file;
  new_objects_aligned = new_objects_aligned;
  aligned_from_start = aligned_from_start;
  keeps_exactly = keeps_exactly;
  any_stack = any_stack;
  frees_commute = frees_commute;
  roots_are_a_set = roots_are_a_set;
  roots_join = roots_join;
  collect_idempotent = collect_idempotent;
  noninterference = noninterference;
  as_list = as_list;
  log_promises = log_promises;
  log_lasts = log_lasts;
  log_is_list = log_is_list;
}
