-- `extend`: the run of stores is what extended says.
-- Assumes nothing.
use Rattle.rules.specs.Tables.{extended}
use Rattle.table.proofs.extend.Goals as goal

pub returns : goal.returns
unfolding extended
returns c = c.set_run.ensures
