-- The commands so far are made.
use Rattle.std.proofs.Common.{◌≡◌, map, take}
use Rattle.options.specs.internal.OptionsInCode.{app_and_global, leaf_of, own_leaf}
use Rattle.options.proofs.app.leaf_commands.Given as goal

abbrev pub invariant-loop-text : goal.invariant-loop-text
invariant-loop-text l = map app_and_global l.commands.items ≡ map (λ text. own_leaf (leaf_of text))
    (take l.text-index l.texts)
