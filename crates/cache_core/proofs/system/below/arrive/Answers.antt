-- What the second level sends down reaches memory, and is seen there after the second level.
use Rattle.std.proofs.Common.{refl, ap, ap₂, subst, ◌∙◌, get_or, List, None, [], ◌∷◌, ◌++◌}
use Rattle.trace_core.specs.declared.events.Ref.{Ref}
use Rattle.cache_core.specs.declared.system.arrival.Arrival.{Arrival}
use Rattle.cache_core.specs.declared.system.plan.CacheName.TheVariants.{L2U}
use Rattle.cache_core.specs.system.Arrivals.{Saw, at_memory}
use Rattle.cache_core.specs.internal.system.SystemSteps.{present_refs, memory_after_all}
use Rattle.cache_core.proofs.system.Counters.{sent_reach, sent_two}
use Rattle.cache_core.proofs.system.Observed.{entered, saw_below}
use Rattle.cache_core.proofs.system.below.arrive.Goals as goal

pub returns-clause-value : goal.returns-clause-value
returns-clause-value g c =
    let next = present_refs (get_or c.access.result.down 1 None ∷ []) in
    let after = c.count-2.ensures.value ∙ ap (λ memory. memory_after_all memory next)
    c.count.ensures.value
    ∙ sent_reach c.args.memory.now c.args.second.now c.args.reference c.access.result
    c.access.new.self c.access.ensures.value in
    (c.access.result, c.access.new.self, c.access.ensures.value, refl, after)

pub returns-clause-seen : goal.returns-clause-seen
returns-clause-seen g c = λ seed planned events good stands.
    let e = entered seed L2U planned events _ _ _ _ good stands c.access.ensures.value in
    let saw = saw_below g.O.Observer.has_seen _ _ c.access.ensures.seen c.count.ensures.seen
    c.count-2.ensures.seen in
    let sent = sent_two c.args.second.now c.args.reference c.access.result c.access.new.self
    c.access.ensures.value ∙ e.sends in
    let seen = ap₂ (λ (here : List Arrival) (refs : List Ref). here ++ at_memory refs)
    e.seen sent in
    subst (λ (xs : List Arrival). Saw g.O.Observer.has_seen c.args.observer.now xs
    c.count-2.new.observer) seen saw
