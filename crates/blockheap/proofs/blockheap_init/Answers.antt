-- `blockheap::blockheap_init` meets its contract: clamping changes no answer. Assumes nothing.
use mathlib.Core.Path.{refl, ap, ◌∙◌}
use mathlib.Core.List.{[]}
use Rattle.rules.specs.Outcomes.{Answer}
use Rattle.rules.specs.Runs.{Init}
use Rattle.rules.specs.Lent.{lending, served}
use Rattle.services.specs.Services.{answered}
use Rattle.blockheap.proofs.Served.{by_call, number_is}
use Rattle.blockheap.proofs.blockheap_init.Goals as goal

pub returns : goal.returns
returns c =
    let a = c.args in
    ap (λ (x : Answer). served (answered x) (lending a.pool.now c.init.new.table) [] []) (number_is _ c.number_of.ensures)
    ∙ by_call a.t (Init a.base) [] _ _ c.init.ensures c.clamped.ensures (rw c.from.ensures refl)
