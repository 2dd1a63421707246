-- The cache that is there is accessed, or stays.
use Rattle.std.proofs.Common.{◌≡◌, ℕ, List, [], ◌∷◌, Bool, true, false, Option, Some, None, refl}
use Rattle.std.proofs.Common.{sym, ap, ◌∙◌, subst}
use Rattle.std.proofs.lemmas.Bool.{true≢false}
use Rattle.trace_core.specs.declared.events.Event.{Event}
use Rattle.cache_core.specs.declared.system.arrival.Arrival.TheVariants.{Cache}
use Rattle.cache_core.specs.declared.system.plan.CacheName.{CacheName}
use Rattle.cache_core.specs.declared.system.plan.PlannedCache.{PlannedCache}
use Rattle.cache_core.specs.system.Arrivals.{cache_arrivals}
use Rattle.cache_core.specs.system.Plans.{IsPlannedCache}
use Rattle.cache_core.specs.system.SystemStands.{PlannedCacheStandsFor}
use Rattle.cache_core.proofs.system.Observed.{entered}
use Rattle.std.specs.Prelude.{MatchBool}
use Rattle.trace_core.specs.declared.events.Ref.{Ref}
use Rattle.cache_core.specs.declared.system.system_cache.SystemCache.{SystemCache}
use Rattle.cache_core.specs.internal.system.CacheSteps.{Enters}
use Rattle.cache_core.specs.internal.cache.Order.{hit_in_front}
use Rattle.cache_core.specs.internal.system.SystemSteps.{AccessesFirst, nothing_down}
use Rattle.cache_core.proofs.system.first_level.access_first_in_front.Goals as goal

held : (b : Bool) (cache : Option SystemCache) (old new : SystemCache) (ref : Ref) →
    cache ≡ Some old →
    MatchBool b (Enters old ref hit_in_front new) (new ≡ old) →
    MatchBool b (AccessesFirst cache ref (Some nothing_down) (Some new)) (Some new ≡ cache)
held true cache old new ref is e = (old, new, hit_in_front, is, refl, refl, e)
held false cache old new ref is e = ap Some e ∙ sym is

pub returns-in-Some-clause-value : goal.returns-in-Some-clause-value
returns-in-Some-clause-value c =
    held c.access_in_front.result c.args.cache.now _ c.access_in_front.new.self
    c.args.reference c.in-Some.is c.access_in_front.ensures.value

seen_in_front : (b : Bool) (cache : Option SystemCache) (old new : SystemCache) (ref : Ref) →
    cache ≡ Some old →
    MatchBool b (Enters old ref hit_in_front new) (new ≡ old) → b ≡ true →
    (seed : ℕ) (name : CacheName) (planned : Option PlannedCache) (events : List Event) →
    IsPlannedCache planned → PlannedCacheStandsFor seed planned events cache →
    cache_arrivals seed name planned events ref ≡ Cache name ref true None ∷ []
seen_in_front true cache old new ref is e there = λ seed name planned events good stands.
    let s = subst (PlannedCacheStandsFor seed planned events) is stands in
    sym (entered seed name planned events old ref hit_in_front new good s e).seen
seen_in_front false cache old new ref is e there = absurd (true≢false (sym there))

pub returns-in-Some-clause-seen : goal.returns-in-Some-clause-seen
returns-in-Some-clause-seen c =
    seen_in_front c.access_in_front.result c.args.cache.now _ c.access_in_front.new.self
    c.args.reference c.in-Some.is c.access_in_front.ensures.value
