-- The options of the caches so far are added.
use Rattle.std.proofs.Common.{◌≡◌, ◌++◌, map, take}
use Rattle.options.proofs.OptionLemmas.{rules_of_caches}
use Rattle.options.specs.internal.OptionsInCode.{own_rule, rule_and_global}
use Rattle.options.proofs.app.din_args.Given as goal

abbrev pub invariant-loop-cache : goal.invariant-loop-cache
invariant-loop-cache l = map rule_and_global l.args.items
    ≡ map rule_and_global l.initial.args.items ++
    map own_rule (rules_of_caches (take l.cache-index l.cache-items))
