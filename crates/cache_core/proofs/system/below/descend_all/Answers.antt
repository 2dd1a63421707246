-- Two references that are sent down are seen one after the other.
use Rattle.std.proofs.Common.{arith, sym, subst, List, append-nil, ◌∙◌, ap, ◌++◌, ◌∷◌, []}
use Rattle.trace_core.specs.declared.events.Event.TheVariants as event
use Rattle.cache_core.specs.declared.system.arrival.Arrival.{Arrival}
use Rattle.cache_core.specs.system.SystemStands.{PlannedCacheStandsFor}
use Rattle.cache_core.specs.system.Arrivals.{Saw, arrivals_below, all_arrivals_below}
use Rattle.cache_core.proofs.system.Observed.{descended, first_sent, second_sent, saw_both}
use Rattle.cache_core.proofs.system.below.descend_all.Goals as goal
use Rattle.cache_core.proofs.system.below.descend_all.Goals.{in-Some, in_default}

pub returns-in-Some-next-clause-seen : goal.returns-in-Some-next-clause-seen
returns-in-Some-next-clause-seen g c = λ seed planned events good stands.
    let Seen = λ (xs : List Arrival). Saw g.O.Observer.has_seen c.args.observer.now xs
    c.descend-in-Some-next.new.observer in
    elim c.match-first.branch [
      | in-Some w ↦
          let more = events ++ event.Reference w.in-Some.reference ∷ [] in
          let s =
          descended seed planned events w.in-Some.reference c.args.second.now c.args.memory.now
          w.descend.new.second w.descend.new.memory good stands
          w.descend.ensures.value in
          let two = c.descend-in-Some-next.ensures.seen seed planned more good
          (subst (PlannedCacheStandsFor seed planned more) (sym w.second-is) s) in
          let both = saw_both g.O.Observer.has_seen
          (w.descend.ensures.seen seed planned events good stands)
          (subst (λ o. Saw g.O.Observer.has_seen o
          (arrivals_below seed planned more c.in-Some-next.reference)
          c.descend-in-Some-next.new.observer)
          w.observer-is two) in
          subst Seen (ap (λ (xs : List Arrival). arrivals_below seed planned events
          w.in-Some.reference ++ xs) (sym (append-nil _))
          ∙ ap (all_arrivals_below seed planned events)
          (sym (first_sent c.args.down w.in-Some.reference c.in-Some-next.reference (omega arith)
          w.in-Some.is c.in-Some-next.is))) both
      | in_default w ↦
          let one = c.descend-in-Some-next.ensures.seen seed planned events good
          (subst (PlannedCacheStandsFor seed planned events) (sym w.second-is) stands) in
          let saw =
          subst (λ o. Saw g.O.Observer.has_seen o
          (arrivals_below seed planned events c.in-Some-next.reference)
          c.descend-in-Some-next.new.observer)
          w.observer-is one in
          subst Seen (sym (append-nil _)
          ∙ ap (all_arrivals_below seed planned events)
          (sym (second_sent c.args.down c.in-Some-next.reference (omega arith) w.in_default.is
          c.in-Some-next.is))) saw
    ]
