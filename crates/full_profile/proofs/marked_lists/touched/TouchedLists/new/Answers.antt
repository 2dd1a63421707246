-- No set has a block.
use Rattle.std.proofs.Common.{◌/◌, refl}
use Rattle.full_profile.proofs.marked_lists.Touching.{none_touched}
use Rattle.full_profile.proofs.marked_lists.touched.TouchedLists.new.Goals as goal

pub invariant_of-result : goal.invariant_of-result
invariant_of-result g c =
    let lists = g.S.ListStore.view c.args.lists in
    none_touched lists.depth c.args.sets c.args.sets c.in_ok-new.field-0 (c.args.sets / 16) lists
    c.requires.empty refl c.requires.few c.requires.small c.in_ok-new.ensures
