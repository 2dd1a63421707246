-- The references fed: those found, and those not found.
use Rattle.std.proofs.Common.{◌≡◌, ◌+◌, ◌∙◌, sum, ap, arith}
use Rattle.profile_core.specs.profile.State.{fed_of}
use Rattle.profile_core.proofs.profile.Counting.{fed_is}
use Rattle.profile_core.proofs.profile.Profile.fed.Goals as goal
use Rattle.profile_core.proofs.profile.Profile.fed.Goals.{After-total-2}

all_fed : (c : After-total-2) → c.total.result + c.total-2.result ≡ fed_of c.args.self.now
all_fed c = omega (
  arith,
  c.total.ensures ∙ ap sum c.deref.ensures.value,
  c.total-2.ensures ∙ ap sum c.deref-2.ensures.value,
  ap fed_of c.histograms-histograms.ensures.whole,
)

pub returns-clause-trace : goal.returns-clause-trace
returns-clause-trace c = λ es h. all_fed (goal.at.returns-clause-trace c).After-total-2 ∙
    fed_is es c.args.self.now h
