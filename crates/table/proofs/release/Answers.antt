-- `release`: the run of stores is what released says.
-- Assumes nothing.
use Rattle.rules.specs.Tables.{released}
use Rattle.table.proofs.release.Goals as goal

pub returns : goal.returns
unfolding released
returns c = c.set_run.ensures
