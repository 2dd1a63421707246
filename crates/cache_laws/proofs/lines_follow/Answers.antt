-- What a line of a cache must send arrives next at the level below.
use Rattle.cache_laws.proofs.FollowLaw.{follow_law}
use Rattle.cache_laws.proofs.lines_follow.Goals as goal

pub returns : goal.returns
returns c = follow_law
