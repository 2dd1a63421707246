-- How a system follows the events of a trace.
use Rattle.std.proofs.Common.{List, [], ◌∷◌, ◌++◌, append_assoc, subst}
use Rattle.trace_core.specs.declared.events.Event.{Event}
use Rattle.cache_core.specs.system.SystemSteps.{SystemValue}
use Rattle.cache_core.specs.system.SystemStands.{SystemStandsFor}
use Rattle.commands.specs.internal.DinPass.{AddsEvents}

-- some events after others
pub adds-append : {old mid new : SystemValue} {xs ys : List Event} → AddsEvents old xs mid →
    AddsEvents mid ys new → AddsEvents old (xs ++ ys) new
adds-append {new = new} {xs} {ys} first second = λ plan seed events good stands.
    subst (λ es. SystemStandsFor plan seed es new) (append_assoc events xs ys)
    (second plan seed _ good (first plan seed events good stands))

-- one event after another
pub adds_both : {old mid new : SystemValue} {a b : Event} → AddsEvents old (a ∷ []) mid →
    AddsEvents mid (b ∷ []) new
    → AddsEvents old (a ∷ b ∷ []) new
adds_both {a = a} {b} first second = adds-append {xs = a ∷ []} {ys = b ∷ []} first second
