-- References found in front are counted: the lists stay.
use Rattle.std.proofs.Common.{arith}
use Rattle.profile_core.proofs.profile.Fronts.{counted_after, counted_sound, front_fits, front_few}
use Rattle.profile_core.proofs.profile.Fronts.{counted_fed}
use Rattle.profile_core.proofs.profile.stack_profile.StackProfile.count_fronts.Goals as goal

pub index_mut-requires : goal.index_mut-requires
index_mut-requires g c = omega (
  arith,
  front_fits c.self.invariant c.self.view_is,
  c.self.inside.histograms.distances.ok.0,
)

pub overflow_add-index_mut : goal.overflow_add-index_mut
overflow_add-index_mut g c = omega (
  arith,
  front_few c.self.invariant c.self.view_is c.index_mut.ensures.value c.args.count c.requires,
)

pub invariant_of-self : goal.invariant_of-self
invariant_of-self g c =
    counted_sound c.self.invariant c.self.view_is c.index_mut.ensures.value c.args.count c.requires

pub returns-clause-step : goal.returns-clause-step
returns-clause-step g c =
    counted_after c.self.invariant c.self.view_is c.index_mut.ensures.value c.args.count

pub returns-clause-more : goal.returns-clause-more
returns-clause-more g c =
    counted_fed c.self.invariant c.self.view_is c.index_mut.ensures.value c.args.count
