-- The promises, all together.
-- Assumes nothing.
use Rattle.laws.proofs.Pointers.{target_points, leads_says}
use Rattle.promises.specs.Promises.{Promises}
use Rattle.promises.proofs.Numbers.{init_refusal, allocate_refusal, free_refusal, reallocate_refusal, collect_refusal, survey_refusal, load_refusal, store_refusal, image_refusal, rounded_up, allocate_no_room, reallocate_no_room, allocate_larger, reallocate_larger, refused, refused_stack}
use Rattle.promises.proofs.Initialising.{initialised}
use Rattle.promises.proofs.Allocating.{allocated}
use Rattle.promises.proofs.Freeing.{freed}
use Rattle.promises.proofs.Reallocating.{reallocated}
use Rattle.promises.proofs.Storing.{read, stored, surveyed, survey_leaves, load_leaves}
use Rattle.promises.proofs.Collecting.{reclaimed}
use Rattle.promises.proofs.Opening.{opened}
use Rattle.promises.proofs.Refusing.{open_refusal}
use Rattle.promises.proofs.Imaging.{imaged, image_leaves}

pub promises : Promises
promises = record {
  target_points = target_points;
  leads_says = leads_says;
  init_refusal = init_refusal;
  allocate_refusal = allocate_refusal;
  free_refusal = free_refusal;
  reallocate_refusal = reallocate_refusal;
  collect_refusal = collect_refusal;
  survey_refusal = survey_refusal;
  load_refusal = load_refusal;
  store_refusal = store_refusal;
  image_refusal = image_refusal;
  open_refusal = open_refusal;
  rounded_up = rounded_up;
  allocate_no_room = allocate_no_room;
  reallocate_no_room = reallocate_no_room;
  allocate_larger = allocate_larger;
  reallocate_larger = reallocate_larger;
  refused = refused;
  refused_stack = refused_stack;
  initialised = initialised;
  allocated = allocated;
  freed = freed;
  reallocated = reallocated;
  read = read;
  stored = stored;
  surveyed = surveyed;
  reclaimed = reclaimed;
  imaged = imaged;
  opened = opened;
  survey_leaves = survey_leaves;
  load_leaves = load_leaves;
  image_leaves = image_leaves;
}
