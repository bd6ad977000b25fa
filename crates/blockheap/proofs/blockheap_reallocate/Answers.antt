-- `blockheap::blockheap_reallocate` meets its contract: the block fits 32 bits, being a block of the table, and clamping changes no answer. Assumes nothing.
use mathlib.Core.Path.{refl, ap, ◌∙◌}
use mathlib.Core.List.{[]}
use Rattle.rules.specs.Outcomes.{Answer}
use Rattle.rules.specs.Runs.{Reallocate}
use Rattle.rules.specs.Lent.{lending, served}
use Rattle.laws.proofs.Blocks.{reallocated_small}
use Rattle.services.specs.Services.{answered}
use Rattle.blockheap.proofs.Served.{by_call, fits_word}
use Rattle.blockheap.proofs.blockheap_reallocate.Goals as goal

pub write_place-requires : goal.write_place-requires
write_place-requires c = fits_word _ (reallocated_small _ _ _ _ _ _ c.reallocate-place.ensures)

pub returns : goal.returns
returns c =
    let a = c.args in
    ap (λ (x : Answer). served (answered x) (lending c.reallocate-place.new.pool c.reallocate-place.new.table) [] []) c.write_place.ensures
    ∙ by_call a.t (Reallocate a.base a.block a.bytes) [] _ _ c.reallocate-place.ensures c.clamped.ensures (rw (c.from.ensures, c.of_number.ensures, c.of_number-2.ensures) refl)
