-- `blockheap::blockheap_store` meets its contract: clamping changes no answer. Assumes nothing.
use mathlib.Core.Path.{refl, ap, ◌∙◌}
use mathlib.Core.List.{[]}
use Rattle.rules.specs.Outcomes.{Answer}
use Rattle.rules.specs.Runs.{Store}
use Rattle.rules.specs.Lent.{lending, served}
use Rattle.services.specs.Services.{answered}
use Rattle.blockheap.proofs.Served.{by_call, number_is}
use Rattle.blockheap.proofs.blockheap_store.Goals as goal

pub returns : goal.returns
returns c =
    let a = c.args in
    ap (λ (x : Answer). served (answered x) (lending c.store.new.pool a.table.now) [] []) (number_is _ c.number_of.ensures)
    ∙ by_call a.t (Store a.base a.block a.word a.value) [] _ _ c.store.ensures c.clamped.ensures (rw (c.from.ensures, c.of_number.ensures, c.clamped-2.ensures) refl)
