-- A reference at the first level is made at the one cache that takes it, and is seen there.
use Rattle.std.proofs.Common.{List, subst, ap, ◌∙◌}
use Rattle.cache_core.specs.declared.system.arrival.Arrival.{Arrival}
use Rattle.cache_core.specs.declared.system.plan.CacheName.TheVariants.{L1I, L1D, L1U}
use Rattle.cache_core.specs.system.Arrivals.{Saw, cache_arrivals}
use Rattle.cache_core.specs.system.Systems.{events_for}
use Rattle.cache_core.proofs.system.FirstLevelLaw.{unified_takes, fetch_cache_takes}
use Rattle.cache_core.proofs.system.FirstLevelLaw.{data_cache_takes}
use Rattle.cache_core.proofs.system.Observed.{is_planned, seen_unified, seen_fetch, seen_data}
use Rattle.cache_core.proofs.system.first_level.miss_first_level.Goals as goal

pub returns-in-L1U-clause-seen : goal.returns-in-L1U-clause-seen
returns-in-L1U-clause-seen g c = λ plan seed events good i d u.
    let ref = c.args.reference in
    let there = unified_takes c.args.u.now ref _ c.first_name-name.ensures c.in-L1U.is in
    let seen = ap (λ n. cache_arrivals seed n plan.u (events_for L1U events) ref) c.in-L1U.is ∙
    seen_unified plan seed events ref good (is_planned seed plan.u _ c.args.u.now u ∙ there) in
    subst (λ (xs : List Arrival). Saw g.O.Observer.has_seen c.args.observer.now xs
    c.miss_first.new.observer) seen (c.miss_first.ensures.seen seed plan.u _ good.u u)

pub returns-in-L1I-clause-seen : goal.returns-in-L1I-clause-seen
returns-in-L1I-clause-seen g c = λ plan seed events good i d u.
    let ref = c.args.reference in
    let takes = fetch_cache_takes c.args.u.now ref _ c.first_name-name.ensures c.in-L1I.is in
    let seen = ap (λ n. cache_arrivals seed n plan.i (events_for L1I events) ref) c.in-L1I.is ∙
    seen_fetch plan seed events ref good (is_planned seed plan.u _ c.args.u.now u ∙ takes.0)
    takes.1 in
    subst (λ (xs : List Arrival). Saw g.O.Observer.has_seen c.args.observer.now xs
    c.miss_first-in-L1I.new.observer) seen
    (c.miss_first-in-L1I.ensures.seen seed plan.i _ good.i i)

pub returns-in_default-clause-seen : goal.returns-in_default-clause-seen
returns-in_default-clause-seen g c = λ plan seed events good i d u.
    let ref = c.args.reference in
    let takes = data_cache_takes c.args.u.now ref _ c.first_name-name.ensures
    c.in_default.not-L1U c.in_default.not-L1I in
    let seen = ap (λ n. cache_arrivals seed n plan.d (events_for L1D events) ref) takes.2 ∙
    seen_data plan seed events ref good (is_planned seed plan.u _ c.args.u.now u ∙ takes.0)
    takes.1 in
    subst (λ (xs : List Arrival). Saw g.O.Observer.has_seen c.args.observer.now xs
    c.miss_first-in_default.new.observer) seen
    (c.miss_first-in_default.ensures.seen seed plan.d _ good.d d)
