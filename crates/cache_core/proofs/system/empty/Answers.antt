-- A cache that is there is emptied, and seen so.
use Rattle.std.proofs.Common.{List, refl, subst}
use Rattle.cache_core.specs.declared.system.arrival.Arrival.{Arrival}
use Rattle.cache_core.specs.system.Arrivals.{Saw}
use Rattle.cache_core.specs.system.SystemStands.{PlannedCacheStandsFor}
use Rattle.cache_core.proofs.system.Observed.{emptied}
use Rattle.cache_core.proofs.system.empty.Goals as goal

pub returns-in-Some-clause-value : goal.returns-in-Some-clause-value
returns-in-Some-clause-value g c = rw c.in-Some.is (
  c.flush-dirty.new.self,
  refl,
  c.flush-dirty.ensures,
)

pub returns-in-Some-clause-seen : goal.returns-in-Some-clause-seen
returns-in-Some-clause-seen g c = λ seed planned events stands.
    let s = subst (PlannedCacheStandsFor seed planned events) c.in-Some.is stands in
    subst (λ (xs : List Arrival). Saw g.O.Observer.has_seen c.args.observer.now xs c.see.new.self)
    (emptied seed c.args.name planned events _ _ _ s c.flush-dirty.ensures) c.see.ensures.seen
