use Rattle.full_profile.proofs.laws.Fit.{fit_new, fit_event, fit_after}
use Rattle.full_profile.proofs.laws.events_keep_the_lengths.Goals as goal

pub returns-clause-new : goal.returns-clause-new
returns-clause-new c = fit_new

pub returns-clause-event : goal.returns-clause-event
returns-clause-event c = fit_event

pub returns-clause-events : goal.returns-clause-events
returns-clause-events c = fit_after
