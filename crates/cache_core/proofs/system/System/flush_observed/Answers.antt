-- A flush of a system is one of each of its caches, and is seen so.
use Rattle.std.proofs.Common.{refl, subst, sym}
use Rattle.cache_core.specs.system.SystemStands.{SystemStandsFor}
use Rattle.cache_core.proofs.system.Observed.{saw_both}
use Rattle.cache_core.proofs.system.SystemLaw.{system_flush_law}
use Rattle.cache_core.proofs.system.System.flush_observed.Goals as goal

pub returns-clause-stands : goal.returns-clause-stands
returns-clause-stands g c = λ plan seed events stands. system_flush_law plan seed events _ _
    c.empty-i.result c.empty-d.result c.empty-u.result c.empty-second.result
    (subst (SystemStandsFor plan seed events) (sym c.self.view_is) stands)
    c.empty-i.ensures.value c.empty-d.ensures.value c.empty-u.ensures.value
    c.empty-second.ensures.value refl refl refl

pub returns-clause-seen : goal.returns-clause-seen
returns-clause-seen g c = λ plan seed events stands.
    let s = subst (SystemStandsFor plan seed events) (sym c.self.view_is) stands in
    saw_both g.O.Observer.has_seen (saw_both g.O.Observer.has_seen
    (saw_both g.O.Observer.has_seen (c.empty-i.ensures.seen seed plan.i _ s.i)
    (c.empty-d.ensures.seen seed plan.d _ s.d))
    (c.empty-u.ensures.seen seed plan.u _ s.u))
    (c.empty-second.ensures.seen seed plan.second _ s.second)
