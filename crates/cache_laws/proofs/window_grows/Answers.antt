-- The window of a list with one event more.
use Rattle.cache_core.proofs.Occurrences.{window-nil, window-push}
use Rattle.cache_laws.proofs.window_grows.Goals as goal

pub returns-clause-start : goal.returns-clause-start
returns-clause-start c = window-nil

pub returns-clause-more : goal.returns-clause-more
returns-clause-more c = window-push
