-- An array of zeros is rows of zeros.
use Rattle.std.proofs.Common.{ap}
use Rattle.profile_core.proofs.rows.PlainRowLemmas.{blank_rows_in}
use Rattle.profile_core.proofs.rows.plain.PlainRows.new.Goals as goal

pub returns : goal.returns
returns c =
    ap (λ rows. record { stride = c.args.stride; rows = rows })
    (blank_rows_in c.args.stride c.args.sets (c.in_ok-vec.ensures.items_if_clones_equal (λ y e. e)))
