-- A reference that finds its block in front is made at the one cache that takes it, and is seen
-- there.
use Rattle.std.proofs.Common.{true, None, [], ◌∷◌, sym, ap, ◌∙◌}
use Rattle.cache_core.specs.declared.system.arrival.Arrival.TheVariants.{Cache}
use Rattle.cache_core.specs.declared.system.plan.CacheName.TheVariants.{L1I, L1D, L1U}
use Rattle.cache_core.specs.system.Systems.{events_for}
use Rattle.cache_core.proofs.system.FirstLevelLaw.{unified_takes, fetch_cache_takes}
use Rattle.cache_core.proofs.system.FirstLevelLaw.{data_cache_takes}
use Rattle.cache_core.proofs.system.Observed.{is_planned, seen_unified, seen_fetch, seen_data}
use Rattle.cache_core.proofs.system.first_level.access_first_level_in_front.Goals as goal

pub returns-in-L1U-clause-seen : goal.returns-in-L1U-clause-seen
returns-in-L1U-clause-seen c = λ hit plan seed events good i d u.
    let ref = c.args.reference in
    let there = unified_takes c.args.u.now ref _ c.first_name-name.ensures c.in-L1U.is in
    sym (seen_unified plan seed events ref good (is_planned seed plan.u _ c.args.u.now u ∙ there)) ∙
    c.access_first_in_front.ensures.seen hit seed L1U plan.u (events_for L1U events) good.u u ∙
    ap (λ n. Cache n ref true None ∷ []) (sym c.in-L1U.is ∙ c.first_name-name.ensures)

pub returns-in-L1I-clause-seen : goal.returns-in-L1I-clause-seen
returns-in-L1I-clause-seen c = λ hit plan seed events good i d u.
    let ref = c.args.reference in
    let takes = fetch_cache_takes c.args.u.now ref _ c.first_name-name.ensures c.in-L1I.is in
    sym (seen_fetch plan seed events ref good (is_planned seed plan.u _ c.args.u.now u ∙ takes.0)
    takes.1) ∙
    c.access_first_in_front-in-L1I.ensures.seen hit seed L1I plan.i (events_for L1I events) good.i
    i ∙ ap (λ n. Cache n ref true None ∷ []) (sym c.in-L1I.is ∙ c.first_name-name.ensures)

pub returns-in_default-clause-seen : goal.returns-in_default-clause-seen
returns-in_default-clause-seen c = λ hit plan seed events good i d u.
    let ref = c.args.reference in
    let takes = data_cache_takes c.args.u.now ref _ c.first_name-name.ensures
    c.in_default.not-L1U c.in_default.not-L1I in
    sym (seen_data plan seed events ref good (is_planned seed plan.u _ c.args.u.now u ∙ takes.0)
    takes.1) ∙
    c.access_first_in_front-in_default.ensures.seen hit seed L1D plan.d (events_for L1D events)
    good.d d ∙ ap (λ n. Cache n ref true None ∷ []) (sym takes.2 ∙ c.first_name-name.ensures)
