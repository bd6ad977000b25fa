-- The entry points, each by the proof of its function; what its contract says holds by computing.
-- Assumes nothing.
use mathlib.Core.Path.{refl}
use Rattle.guarantees.specs.EntryPoints.{EntryPoints}
use Rattle.blockheap.proofs.blockheap_init.Met as init
use Rattle.blockheap.proofs.blockheap_allocate.Met as allocate
use Rattle.blockheap.proofs.blockheap_free.Met as free
use Rattle.blockheap.proofs.blockheap_reallocate.Met as reallocate
use Rattle.blockheap.proofs.blockheap_collect.Met as collect
use Rattle.blockheap.proofs.blockheap_survey.Met as survey
use Rattle.blockheap.proofs.blockheap_load.Met as load
use Rattle.blockheap.proofs.blockheap_store.Met as store
use Rattle.blockheap.proofs.blockheap_write_image.Met as write_image
use Rattle.blockheap.proofs.blockheap_open_image.Met as open_image
use Rattle.blockheap.proofs.blockheap_log_append.Met as log_append
use Rattle.blockheap.proofs.blockheap_log_read.Met as log_read
use Rattle.blockheap.proofs.blockheap_log_drop.Met as log_drop

pub entry_points : EntryPoints
entry_points = record {
  init_meets = init.met;
  init_asks_nothing = λ M 𝓤 𝓛 mem run κs a. (tt, refl);
  init_says = λ M 𝓤 𝓛 mem run κs a g r. refl;
  allocate_meets = allocate.met;
  allocate_asks_nothing = λ M 𝓤 𝓛 mem run κs a. (tt, refl);
  allocate_says = λ M 𝓤 𝓛 mem run κs a g r. refl;
  free_meets = free.met;
  free_asks_nothing = λ M 𝓤 𝓛 mem run κs a. (tt, refl);
  free_says = λ M 𝓤 𝓛 mem run κs a g r. refl;
  reallocate_meets = reallocate.met;
  reallocate_asks_nothing = λ M 𝓤 𝓛 mem run κs a. (tt, refl);
  reallocate_says = λ M 𝓤 𝓛 mem run κs a g r. refl;
  collect_meets = collect.met;
  collect_asks_nothing = λ M 𝓤 𝓛 mem run κs a. (tt, refl);
  collect_says = λ M 𝓤 𝓛 mem run κs a g r. refl;
  survey_meets = survey.met;
  survey_asks_nothing = λ M 𝓤 𝓛 mem run κs a. (tt, refl);
  survey_says = λ M 𝓤 𝓛 mem run κs a g r. refl;
  load_meets = load.met;
  load_asks_nothing = λ M 𝓤 𝓛 mem run κs a. (tt, refl);
  load_says = λ M 𝓤 𝓛 mem run κs a g r. refl;
  store_meets = store.met;
  store_asks_nothing = λ M 𝓤 𝓛 mem run κs a. (tt, refl);
  store_says = λ M 𝓤 𝓛 mem run κs a g r. refl;
  write_image_meets = write_image.met;
  write_image_asks_nothing = λ M 𝓤 𝓛 mem run κs a. (tt, refl);
  write_image_says = λ M 𝓤 𝓛 mem run κs a g r. refl;
  open_image_meets = open_image.met;
  open_image_asks_nothing = λ M 𝓤 𝓛 mem run κs a. (tt, refl);
  open_image_says = λ M 𝓤 𝓛 mem run κs a g r. refl;
  log_append_meets = log_append.met;
  log_append_asks_nothing = λ M 𝓤 𝓛 mem run κs a. (tt, refl);
  log_append_says = λ M 𝓤 𝓛 mem run κs a g r. refl;
  log_read_meets = log_read.met;
  log_read_asks_nothing = λ M 𝓤 𝓛 mem run κs a. (tt, refl);
  log_read_says = λ M 𝓤 𝓛 mem run κs a g r. refl;
  log_drop_meets = log_drop.met;
  log_drop_asks_nothing = λ M 𝓤 𝓛 mem run κs a. (tt, refl);
  log_drop_says = λ M 𝓤 𝓛 mem run κs a g r. refl;
}
