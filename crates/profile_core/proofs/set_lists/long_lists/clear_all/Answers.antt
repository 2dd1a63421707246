-- One list more is emptied.
use Rattle.std.proofs.Common.{◌∙◌, set, ap, sym}
use Rattle.std.proofs.Common.{arith}
use Rattle.std.proofs.lemmas.List.Edits.{map_over_more}
use Rattle.profile_core.specs.internal.set_lists.LongLists.{empty_deep}
use Rattle.profile_core.proofs.set_lists.long_lists.clear_all.Goals as goal

pub loop-list-preserved : goal.loop-list-preserved
loop-list-preserved c =
    let i = c.loop-list.list-index in
    ap (set c.loop-list.far i) (c.clear.ensures ∙ ap empty_deep (sym c.list-item.is))
    ∙ map_over_more empty_deep c.args.far.now c.loop-list.far i c.list-item.result
    (omega (arith, c.loop-list-test.true)) c.loop-list.invariant c.list-item.is
