-- A step keeps the bounds on the counts, and is one reference at the first level and what is sent
-- down from it. So it is seen.
use Rattle.std.proofs.Common.{List, Some, None, arith, refl, sym, subst}
use Rattle.cache_core.specs.declared.system.arrival.Arrival.{Arrival}
use Rattle.cache_core.specs.system.Arrivals.{Saw}
use Rattle.cache_core.specs.system.Systems.{lower_events}
use Rattle.cache_core.specs.system.SystemStands.{SystemStandsFor}
use Rattle.cache_core.specs.internal.system.SystemSteps.{present_refs}
use Rattle.cache_core.proofs.system.Counters.{first_level_grows, all_grow}
use Rattle.cache_core.proofs.system.Observed.{saw_both, seen_below, seen_bypassed}
use Rattle.cache_core.proofs.system.SystemLaw.{first_after, step_law}
use Rattle.cache_core.proofs.system.System.step_missed.Goals as goal

pub invariant_of-self : goal.invariant_of-self
invariant_of-self g c = grind (arith, first_level_grows, all_grow)

pub returns-in-Some-clause-stands : goal.returns-in-Some-clause-stands
returns-in-Some-clause-stands g c = λ plan seed events good stands.
    step_law plan seed events _ c.args.reference _ (Some c.in-Some.down) good
    (subst (SystemStandsFor plan seed events) (sym c.self.view_is) stands)
    c.in-Some.ensures.value c.descend_all.ensures.value (omega arith) refl

pub returns-in-None-clause-stands : goal.returns-in-None-clause-stands
returns-in-None-clause-stands g c = λ plan seed events good stands.
    step_law plan seed events _ c.args.reference _ None good
    (subst (SystemStandsFor plan seed events) (sym c.self.view_is) stands)
    c.in-None.ensures.value (refl, refl) (omega arith) refl

pub returns-in-Some-clause-seen : goal.returns-in-Some-clause-seen
returns-in-Some-clause-seen g c = λ plan seed events good stands.
    let s = subst (SystemStandsFor plan seed events) (sym c.self.view_is) stands in
    let after = first_after plan seed events _ c.args.reference (Some c.in-Some.down) _ _ _ good s
    c.in-Some.ensures.value in
    let lower = c.descend_all.ensures.seen seed plan.second (lower_events plan seed events)
    good.second s.second in
    saw_both g.O.Observer.has_seen (c.in-Some.ensures.seen plan seed events good s.i s.d s.u)
    (subst (λ (xs : List Arrival). Saw g.O.Observer.has_seen c.miss_first_level-down.new.observer xs
    c.descend_all.new.observer)
    (seen_below plan seed events c.args.reference (present_refs c.in-Some.down)
    after.all_sent after.untaken)
    lower)

pub returns-in-None-clause-seen : goal.returns-in-None-clause-seen
returns-in-None-clause-seen g c = λ plan seed events good stands.
    let s = subst (SystemStandsFor plan seed events) (sym c.self.view_is) stands in
    let after = first_after plan seed events _ c.args.reference None _ _ _ good s
    c.in-None.ensures.value in
    saw_both g.O.Observer.has_seen (c.in-None.ensures.seen plan seed events good s.i s.d s.u)
    (subst (λ (xs : List Arrival). Saw g.O.Observer.has_seen c.miss_first_level-down.new.observer xs
    c.see.new.self)
    (seen_bypassed plan seed events c.args.reference after.untaken) c.see.ensures.seen)
