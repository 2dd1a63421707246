-- A reference that finds its block in the first slot of its set is a step that sends nothing down,
-- and is seen once.
use Rattle.std.proofs.Common.{◌≡◌, List, [], ◌∷◌, ◌++◌, Some, None, true, arith, sym, ap, ◌∙◌}
use Rattle.std.proofs.Common.{subst, refl, append-nil}
use Rattle.cache_core.specs.declared.system.arrival.Arrival.{Arrival}
use Rattle.cache_core.specs.declared.system.arrival.Arrival.TheVariants.{Cache}
use Rattle.cache_core.specs.system.Arrivals.{Saw, first_arrivals, lower_arrivals}
use Rattle.cache_core.specs.system.SystemStands.{SystemStandsFor}
use Rattle.cache_core.specs.internal.system.SystemSteps.{nothing_down}
use Rattle.cache_core.proofs.system.Counters.{first_level_grows}
use Rattle.cache_core.proofs.system.Observed.{seen_below}
use Rattle.cache_core.proofs.system.SystemLaw.{first_after, step_law}
use Rattle.cache_core.proofs.system.System.step_observed.Goals as goal

pub invariant_of-self : goal.invariant_of-self
invariant_of-self g c =
    let first = rw c.if-access_first_level_in_front.true
    at c.access_first_level_in_front.ensures.value in
    grind (arith, first_level_grows)

pub returns-then-access_first_level_in_front-clause-stands
    : goal.returns-then-access_first_level_in_front-clause-stands
returns-then-access_first_level_in_front-clause-stands g c = λ plan seed events good stands.
    step_law plan seed events _ c.args.reference _ (Some nothing_down) good
    (subst (SystemStandsFor plan seed events) (sym c.self.view_is) stands)
    (rw c.if-access_first_level_in_front.true at c.access_first_level_in_front.ensures.value)
    (refl, refl) (omega arith) refl

pub returns-then-access_first_level_in_front-clause-seen
    : goal.returns-then-access_first_level_in_front-clause-seen
returns-then-access_first_level_in_front-clause-seen g c = λ plan seed events good stands.
    let ref = c.args.reference in
    let s = subst (SystemStandsFor plan seed events) (sym c.self.view_is) stands in
    let hit = c.if-access_first_level_in_front.true in
    let value = rw hit at c.access_first_level_in_front.ensures.value in
    let first = c.access_first_level_in_front.ensures.seen hit plan seed events good s.i s.d s.u in
    let after = first_after plan seed events _ ref (Some nothing_down) _ _ _ good s value in
    let lower : [] ≡ lower_arrivals plan seed events ref =
    seen_below plan seed events ref [] after.all_sent after.untaken in
    let once : Cache c.first_name-cache.result ref true None ∷ [] ≡
    first_arrivals plan seed events ref ++ lower_arrivals plan seed events ref =
    ap (λ name. Cache name ref true None ∷ []) c.first_name-cache.ensures ∙ sym first ∙
    sym (append-nil (first_arrivals plan seed events ref)) ∙
    ap (λ l. first_arrivals plan seed events ref ++ l) lower in
    subst (λ (xs : List Arrival). Saw g.O.Observer.has_seen c.args.observer.now xs c.see.new.self)
    once c.see.ensures.seen
