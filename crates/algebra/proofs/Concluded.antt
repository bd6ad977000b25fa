-- What follows on the sample heap, in two planes and in the packed form; and the laws that it is drawn from, read both ways round.
-- Assumes nothing.
use mathlib.Core.Path.{ap}
use mathlib.Core.List.{[]}
use native.Mathlib.Omega.{arith}
use Rattle.rules.specs.Forms.{Form, packed}
use Rattle.laws.specs.Faithful.{Faithful}
use Rattle.rules.specs.Planes.{planes}
use Rattle.rules.specs.Outcomes.{Answer}
use Rattle.keeping.specs.Samples.{sample_base}
use Rattle.algebra.specs.Algebra.{free_in, collect_in, Commute, SameCollection}
use Rattle.algebra.proofs.Algebra.{frees_commute, roots_are_a_set}
use Rattle.algebra.specs.Samples.{sample_in, roots_ce, roots_ec, stack_of}
use Rattle.laws.proofs.Memory.{packed_faithful}
use Rattle.laws.proofs.Planes.{planes_faithful}
use Rattle.algebra.proofs.Samples.{Computed, Concluded, planes_computed, packed_computed, concluded, many_ec, stack_good, none_good, members_ec, members_once, good_many, good_two}

module _ {f : Form} (faithful : Faithful f) (c : Computed f) where
  -- two frees, the lower block first, and the higher one
  pub near : Commute (free_in f sample_base 1 (sample_in f)) (free_in f sample_base 4 (free_in f sample_base 1 (sample_in f)).memory) (free_in f sample_base 4 (sample_in f)) (free_in f sample_base 1 (free_in f sample_base 4 (sample_in f)).memory)
  near = frees_commute f faithful sample_base 1 4 (sample_in f) c.usable c.objects.1 c.objects.2 (λ e. omega arith)

  pub far : Commute (free_in f sample_base 8 (sample_in f)) (free_in f sample_base 0 (free_in f sample_base 8 (sample_in f)).memory) (free_in f sample_base 0 (sample_in f)) (free_in f sample_base 8 (free_in f sample_base 0 (sample_in f)).memory)
  far = frees_commute f faithful sample_base 8 0 (sample_in f) c.usable c.objects.3 c.objects.0 (λ e. omega arith)

  -- a root list and one with the same members, longer, and shorter
  pub to_many : SameCollection (collect_in f sample_base roots_ce [] (sample_in f)) (collect_in f sample_base many_ec (stack_of 64) (sample_in f))
  to_many = roots_are_a_set f sample_base roots_ce many_ec [] (stack_of 64) (sample_in f) (ap (λ (a : Answer). a.refusal) c.ce.0) members_ec good_many stack_good

  pub to_few : SameCollection (collect_in f sample_base many_ec (stack_of 64) (sample_in f)) (collect_in f sample_base roots_ec [] (sample_in f))
  to_few = roots_are_a_set f sample_base many_ec roots_ec (stack_of 64) [] (sample_in f) to_many.accepted members_once good_two.0 none_good

pub planes_concluded : Concluded (planes 3)
planes_concluded = concluded (planes_faithful 3) planes_computed

pub packed_concluded : Concluded packed
packed_concluded = concluded packed_faithful packed_computed
