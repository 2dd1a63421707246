-- The comparisons, added up from both histograms: so few that no sum wraps.
use Rattle.std.proofs.Common.{◌∙◌, sum, ap, arith}
use Rattle.profile_core.specs.internal.profile.StackProfile.{weighed}
use Rattle.profile_core.proofs.profile.Comparing.{few}
use Rattle.profile_core.proofs.profile.Weighing.{weighed-more}
use Rattle.full_profile.specs.State.{FullState}
use Rattle.full_profile.proofs.profile.stack_profile.FullStackProfile.probes.Goals as goal

pub weighed-requires : goal.weighed-requires
weighed-requires g c = omega (
  arith,
  weighed-more 0 c.self.inside.numbers.distances.items,
  few c.self.invariant.plain,
  ap (weighed 0) c.deref-2.ensures.value,
)

pub weighed-requires-2 : goal.weighed-requires-2
weighed-requires-2 g c = omega (
  arith,
  weighed-more 0 c.self.inside.numbers.distances.items,
  few c.self.invariant.plain,
  ap (weighed 0) c.deref-3.ensures.value,
)

pub overflow_add-found : goal.overflow_add-found
overflow_add-found g c = omega (
  arith,
  weighed-more 0 c.self.inside.numbers.distances.items,
  few c.self.invariant.plain,
  c.total.ensures ∙ ap sum c.deref.ensures.value,
  c.weighed.ensures ∙ ap (weighed 0) c.deref-2.ensures.value,
)

pub overflow_add-result : goal.overflow_add-result
overflow_add-result g c = omega (
  arith,
  weighed-more 0 c.self.inside.numbers.distances.items,
  few c.self.invariant.plain,
  c.total.ensures ∙ ap sum c.deref.ensures.value,
  c.weighed.ensures ∙ ap (weighed 0) c.deref-2.ensures.value,
  c.weighed-2.ensures ∙ ap (weighed 0) c.deref-3.ensures.value,
)

pub returns : goal.returns
returns g c = omega (
  arith,
  weighed-more 0 c.self.inside.numbers.distances.items,
  c.total.ensures ∙ ap sum c.deref.ensures.value,
  c.weighed.ensures ∙ ap (weighed 0) c.deref-2.ensures.value,
  c.weighed-2.ensures ∙ ap (weighed 0) c.deref-3.ensures.value,
  ap (λ (v : FullState). v.plain.probes) c.self.view_is,
)
