-- A first-level cache that holds the block is seen as the machine has it.
use Rattle.std.proofs.Common.{List, subst}
use Rattle.cache_core.specs.declared.system.arrival.Arrival.{Arrival}
use Rattle.cache_core.specs.system.Arrivals.{Saw}
use Rattle.cache_core.specs.system.SystemStands.{PlannedCacheStandsFor}
use Rattle.cache_core.proofs.system.Observed.{entered}
use Rattle.cache_core.proofs.system.first_level.hit_first.Goals as goal

pub returns-in-Some-hit-clause-seen : goal.returns-in-Some-hit-clause-seen
returns-in-Some-hit-clause-seen g c = λ hit seed planned events good stands.
    let s = subst (PlannedCacheStandsFor seed planned events) c.in-Some.is stands in
    subst (λ (xs : List Arrival). Saw g.O.Observer.has_seen c.args.observer.now xs
    c.hit.new.observer)
    (entered seed c.args.name planned events _ _ _ _ good s c.in-Some-hit.ensures.value).seen
    c.in-Some-hit.ensures.seen
