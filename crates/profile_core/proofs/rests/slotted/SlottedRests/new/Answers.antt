-- Rests of zeros, of which none has slots of its own.
use Rattle.std.proofs.Common.{◌≡◌, ◌∙◌, ◌∷◌, ◌++◌, [], ap, arith}
use Rattle.std.specs.Prelude.{replicate}
use Rattle.profile_core.specs.declared.slots.TheConstants.{BLANK}
use Rattle.profile_core.proofs.rests.SlottedRestLemmas.{new_slotted, new_rests}
use Rattle.profile_core.proofs.rests.slotted.SlottedRests.new.Goals as goal
use Rattle.profile_core.proofs.rests.slotted.SlottedRests.new.Goals.{In_ok-vec}

places : (c : In_ok-vec) → c.in_ok-vec.field-0.items ≡ replicate c.args.sets 0
places c = c.in_ok-vec.ensures.items_if_clones_equal (λ y e. e)

rests : (c : In_ok-vec) → c.push.new.self.items ≡ BLANK ∷ []
rests c = c.in_ok-push.ensures.items ∙ ap (λ rs. rs ++ BLANK ∷ []) c.in_ok-rests.ensures.items

pub invariant_of-result : goal.invariant_of-result
invariant_of-result c =
    let at = (goal.at.invariant_of-result c).In_ok-vec in
    new_slotted c.args.stride c.args.sets c.requires.some c.requires.most (places at) (rests at)
    c.requires.few
    (omega (arith, c.in_ok-rests.ensures.exact, c.in_ok-push.ensures.capacity))

pub returns : goal.returns
returns c =
    let at = (goal.at.returns c).In_ok-vec in
    ap (λ rows. record { stride = c.args.stride; rows = rows })
    (new_rests c.args.stride c.args.sets c.requires.some c.requires.most (places at) (rests at))
