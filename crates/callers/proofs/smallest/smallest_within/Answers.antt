use Rattle.callers.proofs.Choosing.{smallest_read}
use Rattle.callers.proofs.smallest.smallest_within.Goals as goal

pub returns : goal.returns
returns g c =
    smallest_read c.args.most c.args.request.now (g.S.Source.view c.args.source.now).remaining _
    c.rows.result c.smallest_of.result
    c.rows.ensures.rows c.in_ok-counts.ensures.counts c.smallest_of.ensures
