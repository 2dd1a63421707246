-- A touch and a placing keep the slots, whatever the policy.
use Rattle.cache_core.proofs.replacement.Lawful.{lawful_touch, lawful_place}
use Rattle.cache_laws.proofs.slots_are_kept.Goals as goal

pub returns-clause-touch : goal.returns-clause-touch
returns-clause-touch c = lawful_touch

pub returns-clause-place : goal.returns-clause-place
returns-clause-place c = λ policy number capacity old slot gone new some t. lawful_place policy
    number 0 capacity old slot gone new some t
