-- The commands so far and the next one.
use Rattle.std.proofs.Common.{rules, ◌∙◌, ◌++◌, [], ◌∷◌, ap, ap₂, map, sym}
use Rattle.std.proofs.lemmas.List.{map_more, map-append}
use Rattle.options.specs.internal.OptionsInCode.{app_and_global, leaf_of, own_leaf}
use Rattle.options.proofs.app.leaf_commands.Goals as goal

pub loop-text-preserved : goal.loop-text-preserved
loop-text-preserved c =
    ap (map app_and_global) c.in_ok-push.ensures.items
    ∙ map-append app_and_global c.loop-text.commands.items (c.in_ok-leaf_command.field-0 ∷ [])
    ∙ ap₂ (λ made next. made ++ next ∷ []) c.loop-text.invariant c.in_ok-leaf_command.ensures
    ∙ sym (map_more (λ text. own_leaf (leaf_of text)) c.args.texts.now c.loop-text.text-index _
    (search rules))
