-- The promises of the log, together.
-- Assumes nothing.
use Rattle.loglaws.specs.Promises.{LogPromises}
use Rattle.loglaws.proofs.Reading.{read_refusal, read_declined, was_read, drop_refusal, drop_declined, dropped}
use Rattle.loglaws.proofs.Appending.{append_refusal, append_declined, append_no_room, appended, appended_after}

pub log_promises : LogPromises
log_promises = record {
  append_refusal = append_refusal;
  read_refusal = read_refusal;
  drop_refusal = drop_refusal;
  read_declined = read_declined;
  drop_declined = drop_declined;
  append_declined = append_declined;
  append_no_room = append_no_room;
  appended = λ f faithful base first time tips roots stack m. appended f faithful base first time tips roots stack m;
  appended_after = λ f faithful base first time tips roots stack m. appended_after f faithful base first time tips roots stack m;
  was_read = was_read;
  dropped = dropped;
}
