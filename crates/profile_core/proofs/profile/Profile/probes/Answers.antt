-- The comparisons that the histograms tell, at most so many for each reference as a list has
-- blocks.
use Rattle.std.proofs.Common.{◌*◌, ap, arith}
use Rattle.profile_core.specs.profile.State.{fed_of}
use Rattle.profile_core.proofs.profile.Comparing.{at_most, few}
use Rattle.profile_core.proofs.profile.Profile.probes.Goals as goal

pub comparisons-requires : goal.comparisons-requires
comparisons-requires c = few c.histograms.ensures.sound

pub returns-clause-at_most : goal.returns-clause-at_most
returns-clause-at_most c = omega (
  arith,
  at_most c.histograms.ensures.sound,
  ap (λ w. w.probes) c.histograms.ensures.whole,
  ap (λ w. fed_of w * w.geometry.e) c.histograms.ensures.whole,
)
