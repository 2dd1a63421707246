-- An entry leads the cache and its counts to the list with the events of its data references, or a
-- flush, behind it.
use Rattle.std.proofs.Common.{refl, sym, ap, subst, ◌∙◌, ◌++◌, [], ◌∷◌}
use Rattle.trace_core.specs.declared.events.Kind.TheVariants.{DataOnly}
use Rattle.trace_core.specs.declared.events.Event.TheVariants as event
use Rattle.trace_core.specs.Events.{events_of, is_kept}
use Rattle.cache_core.specs.Windows.{occurrences_after}
use Rattle.commands.proofs.DataSteps.{Follows, follows_none, follows_one, follows_both, no_data}
use Rattle.commands.proofs.DataSteps.{one_datum, two_data}
use Rattle.commands.proofs.csim.step.Goals as goal

pub returns-in_default : goal.returns-in_default
unfolding occurrences_after
returns-in_default c = λ g events h. rw c.in_default.is (c.flush.ensures.stands g events h, refl)

pub returns-then-not-keeps : goal.returns-then-not-keeps
returns-then-not-keeps c = λ g events.
    let item = c.in-Item.item in
    let left = ap (λ p. is_kept DataOnly p.0.access) (sym c.refs_of-second.ensures) ∙
    sym c.keeps.ensures ∙ c.if-not-keeps.true in
    follows_none g events c.args.simulation.now (events_of DataOnly c.args.entry)
    (ap (events_of DataOnly) c.in-Item.is ∙ no_data item.addr item.op left)

pub returns-in-Some : goal.returns-in-Some
returns-in-Some c = λ g events.
    let item = c.in-Item.item in
    let refs = c.refs_of-second.result in
    let first = event.Reference refs.0 ∷ [] in
    let second = event.Reference c.in-Some.second ∷ [] in
    let one = c.access-first.result ∷ [] in
    let two = c.access.result ∷ [] in
    let is = ap (events_of DataOnly) c.in-Item.is
    ∙ two_data item.addr item.op c.in-Some.second (ap (λ p. p.1) (sym c.refs_of-second.ensures) ∙
    c.in-Some.is)
    ∙ ap (λ p. event.Reference p.0 ∷ second) (sym c.refs_of-second.ensures) in
    subst (λ es. Follows g events c.args.simulation.now es c.access.new.self (one ++ two)) (sym is)
    (follows_both g events c.args.simulation.now c.access-first.new.self c.access.new.self first
    second one two
    (follows_one g events c.args.simulation.now c.access-first.new.self refs.0 first
    c.access-first.result refl (c.access-first.ensures.stands g events))
    (follows_one g (events ++ first) c.access-first.new.self c.access.new.self c.in-Some.second
    second c.access.result refl
    (c.access.ensures.stands g (events ++ first))))

pub returns-in-None : goal.returns-in-None
returns-in-None c = λ g events.
    let item = c.in-Item.item in
    let refs = c.refs_of-second.result in
    let kept = ap (λ p. is_kept DataOnly p.0.access) (sym c.refs_of-second.ensures) ∙
    sym c.keeps.ensures ∙ c.if-not-keeps.false in
    let none = ap (λ p. p.1) (sym c.refs_of-second.ensures) ∙ c.in-None.is in
    let is = ap (events_of DataOnly) c.in-Item.is ∙ one_datum item.addr item.op kept none
    ∙ ap (λ p. event.Reference p.0 ∷ []) (sym c.refs_of-second.ensures) in
    follows_one g events c.args.simulation.now c.access-first.new.self refs.0
    (events_of DataOnly c.args.entry) c.access-first.result is
    (c.access-first.ensures.stands g events)
