-- References that are settled are counted: the lists stay.
use Rattle.std.proofs.Common.{◌∙◌, ap, arith}
use Rattle.profile_core.specs.profile.State.{fed_of}
use Rattle.profile_core.proofs.profile.Fronts.{counted_fed, front_fits, front_few}
use Rattle.full_profile.proofs.profile.Sounds.{settled_is, settled_sound}
use Rattle.full_profile.specs.Batches.{after_settled}
use Rattle.full_profile.proofs.profile.stack_profile.FullStackProfile.count_settled.Goals as goal

pub index_mut-requires : goal.index_mut-requires
index_mut-requires g c = omega (
  arith,
  front_fits c.self.invariant.plain (ap (λ v. v.plain) c.self.view_is),
  c.self.inside.numbers.distances.ok.0,
)

pub overflow_add-index_mut : goal.overflow_add-index_mut
overflow_add-index_mut g c = omega (
  arith,
  front_few c.self.invariant.plain (ap (λ v. v.plain) c.self.view_is) c.index_mut.ensures.value
      c.args.count c.requires,
)

pub invariant_of-self : goal.invariant_of-self
invariant_of-self g c = settled_sound c.self.invariant c.index_mut.ensures.value c.args.count
    (omega (arith, c.requires, ap (λ v. fed_of v.plain) c.self.view_is))

pub returns-clause-step : goal.returns-clause-step
returns-clause-step g c = settled_is c.self.invariant c.index_mut.ensures.value c.args.count
    ∙ ap (after_settled c.args.count) c.self.view_is

pub returns-clause-more : goal.returns-clause-more
returns-clause-more g c =
    counted_fed c.self.invariant.plain (ap (λ v. v.plain) c.self.view_is)
    c.index_mut.ensures.value c.args.count
