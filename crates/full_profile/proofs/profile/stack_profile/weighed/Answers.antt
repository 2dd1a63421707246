-- One more number of a histogram is added up.
use Rattle.std.proofs.Common.{◌≡◌, ◌+◌, ◌*◌, drop, get_or, ◌∙◌, sym, ap, arith}
use Rattle.std.proofs.lemmas.List.{drop_all}
use Rattle.profile_core.specs.internal.profile.StackProfile.{weighed}
use Rattle.profile_core.proofs.profile.Weighing.{weighed-next, weighed-none}
use Rattle.full_profile.proofs.profile.stack_profile.weighed.Goals as goal
use Rattle.full_profile.proofs.profile.stack_profile.weighed.Goals.{In-loop-index}

-- what was added up, with the next number
next : (c : In-loop-index) → c.loop-index.sum + (get_or c.args.numbers.now c.loop-index.index
    0 * c.loop-index.index
    + weighed (c.loop-index.index + 1) (drop (c.loop-index.index + 1) c.args.numbers.now)) ≡ weighed
    0 c.args.numbers.now
next c =
    ap (λ n. c.loop-index.sum + n)
    (sym (weighed-next c.loop-index.index c.args.numbers.now c.loop-index.index
    c.loop-index-test.true))
    ∙ c.loop-index.invariant

pub overflow_mul-sum : goal.overflow_mul-sum
overflow_mul-sum c = omega (arith, next (goal.at.overflow_mul-sum c).In-loop-index, c.requires)

pub overflow_add-sum : goal.overflow_add-sum
overflow_add-sum c = omega (arith, next (goal.at.overflow_add-sum c).In-loop-index, c.requires)

pub loop-index-preserved : goal.loop-index-preserved
loop-index-preserved c = omega (arith, next (goal.at.loop-index-preserved c).In-loop-index)

pub returns : goal.returns
returns c =
    let none = drop_all c.loop-index.index c.args.numbers.now (omega arith) in
    omega (
      arith,
      c.loop-index.invariant,
      ap (weighed c.loop-index.index) none,
      weighed-none c.loop-index.index,
    )
