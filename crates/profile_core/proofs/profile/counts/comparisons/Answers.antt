-- The comparisons, added up from both histograms.
use Rattle.std.proofs.Common.{◌∙◌, sum, ap, arith}
use Rattle.profile_core.specs.internal.profile.StackProfile.{weighed}
use Rattle.profile_core.proofs.profile.Weighing.{weighed-more}
use Rattle.profile_core.proofs.profile.counts.comparisons.Goals as goal

pub total-requires : goal.total-requires
total-requires c = omega (
  arith,
  c.requires,
  weighed-more 0 c.args.histograms.now.distances.items,
  ap sum c.deref.ensures.value,
)

pub weighed-requires : goal.weighed-requires
weighed-requires c = omega (
  arith,
  c.requires,
  weighed-more 0 c.args.histograms.now.distances.items,
  ap (weighed 0) c.deref-2.ensures.value,
)

pub weighed-requires-2 : goal.weighed-requires-2
weighed-requires-2 c = omega (arith, c.requires, ap (weighed 0) c.deref-3.ensures.value)

pub overflow_add-found : goal.overflow_add-found
overflow_add-found c = omega (
  arith,
  c.requires,
  weighed-more 0 c.args.histograms.now.distances.items,
  c.total.ensures ∙ ap sum c.deref.ensures.value,
  c.weighed.ensures ∙ ap (weighed 0) c.deref-2.ensures.value,
)

pub overflow_add-result : goal.overflow_add-result
overflow_add-result c = omega (
  arith,
  c.requires,
  weighed-more 0 c.args.histograms.now.distances.items,
  c.total.ensures ∙ ap sum c.deref.ensures.value,
  c.weighed.ensures ∙ ap (weighed 0) c.deref-2.ensures.value,
  c.weighed-2.ensures ∙ ap (weighed 0) c.deref-3.ensures.value,
)

pub returns : goal.returns
returns c = omega (
  arith,
  weighed-more 0 c.args.histograms.now.distances.items,
  c.total.ensures ∙ ap sum c.deref.ensures.value,
  c.weighed.ensures ∙ ap (weighed 0) c.deref-2.ensures.value,
  c.weighed-2.ensures ∙ ap (weighed 0) c.deref-3.ensures.value,
)
