-- The options so far are added.
use Rattle.std.proofs.Common.{◌≡◌, ◌++◌, map, take}
use Rattle.options.specs.internal.OptionsInCode.{own_rule, rule_and_global, rule_of_option}
use Rattle.options.proofs.app.push_options.Given as goal

abbrev pub invariant-loop-option : goal.invariant-loop-option
invariant-loop-option l = map rule_and_global l.args.items
    ≡ map rule_and_global l.fn.args.items ++ map own_rule (map (λ option. rule_of_option option.now)
    (take l.option-index l.options))
