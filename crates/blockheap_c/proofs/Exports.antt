-- The contracts of each pair are the same terms.
-- Assumes nothing.
use Rattle.std.proofs.Common.{refl}
use Rattle.blockheap_c.specs.Exports.{Exports}

pub exports : Exports
exports = record {
  init_same = refl;
  allocate_same = refl;
  free_same = refl;
  reallocate_same = refl;
  collect_same = refl;
  survey_same = refl;
  load_same = refl;
  store_same = refl;
  write_image_same = refl;
  open_image_same = refl;
  log_append_same = refl;
  log_read_same = refl;
  log_drop_same = refl;
}
