-- None of the blocks that were passed is the one that is looked for.
use Rattle.full_profile.proofs.marked_lists.Shifting.{ArePassed}
use Rattle.full_profile.proofs.marked_lists.row.shift_by_one.Given as goal

abbrev pub invariant-loop-index : goal.invariant-loop-index
invariant-loop-index l =
    ArePassed l.fn.block l.fn.clean l.index l.carried l.carried_clean l.fn.blocks l.fn.cleans
    l.blocks l.cleans
