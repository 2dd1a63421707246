-- The counts by the sums.
use Rattle.std.proofs.Common.{◌∙◌, ap, arith}
use Rattle.full_profile.specs.Sums.{FullSumsState}
use Rattle.full_profile.proofs.profile.Counts.{counts_are}
use Rattle.full_profile.proofs.profile.stack_profile.FullStackProfile.counts_next.Goals as goal

pub overflow_sub-result-2 : goal.overflow_sub-result-2
overflow_sub-result-2 g c = omega (
  arith,
  c.raise.ensures.in_order,
  ap (λ (u : FullSumsState). u.copied_above) c.sums.view_is,
  ap (λ (u : FullSumsState). u.copied_up_to) c.sums.view_is,
)

pub returns-clause-value : goal.returns-clause-value
returns-clause-value g c = counts_are c.args.self.now _ c.args.e
    (c.sums.view_is ∙ c.raise.ensures.sums)
