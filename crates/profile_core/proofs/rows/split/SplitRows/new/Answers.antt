-- Rows of zeros.
use Rattle.std.proofs.Common.{◌≡◌}
use Rattle.std.specs.Prelude.{replicate}
use Rattle.profile_core.proofs.rows.SplitRowLemmas.{new_rows}
use Rattle.profile_core.proofs.rows.split.SplitRows.new.Goals as goal
use Rattle.profile_core.proofs.rows.split.SplitRows.new.Goals.{In_ok-vec}
use Rattle.profile_core.proofs.rows.split.SplitRows.new.Given.{Over}

none : (g : Over) (c : In_ok-vec g) → c.in_ok-vec.field-0.items ≡ replicate c.args.sets 0
none g c = c.in_ok-vec.ensures.items_if_clones_equal (λ y e. e)

pub returns : goal.returns
returns g c =
    new_rows c.args.sets (none g (goal.at.returns g c).In_ok-vec) c.requires.blank
