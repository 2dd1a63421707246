-- A first-level cache, where it is there, is seen as the machine has it.
use Rattle.std.proofs.Common.{List, subst}
use Rattle.cache_core.specs.declared.system.arrival.Arrival.{Arrival}
use Rattle.cache_core.specs.system.Arrivals.{Saw}
use Rattle.cache_core.specs.system.SystemStands.{PlannedCacheStandsFor}
use Rattle.cache_core.proofs.system.Observed.{entered}
use Rattle.cache_core.proofs.system.first_level.miss_first.Goals as goal

pub returns-in-Some-clause-seen : goal.returns-in-Some-clause-seen
returns-in-Some-clause-seen g c = λ seed planned events good stands.
    let s = subst (PlannedCacheStandsFor seed planned events) c.in-Some.is stands in
    subst (λ (xs : List Arrival). Saw g.O.Observer.has_seen c.args.observer.now xs
    c.miss.new.observer)
    (entered seed c.args.name planned events _ _ _ _ good s c.miss.ensures.value).seen
    c.miss.ensures.seen
