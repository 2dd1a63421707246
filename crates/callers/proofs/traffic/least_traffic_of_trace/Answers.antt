use Rattle.std.proofs.Common.{◌≤◌, ap, sym, subst}
use Rattle.std.specs.List.{AllByRecursion}
use Rattle.full_profile.specs.declared.counts.FullCounts.{FullCounts}
use Rattle.sweep_core.specs.Space.{largest_block}
use Rattle.sweep_core.specs.FullRows.{FullCountedSweep}
use Rattle.sweep_core.specs.Rows.{events_read}
use Rattle.sweep_core.specs.declared.space.Config.{Config}
use Rattle.callers.proofs.Blocks.{is_small, block_is_power, of_rows, least_read}
use Rattle.callers.proofs.traffic.least_traffic_of_trace.Goals as goal

-- each row is a valid configuration of the space, whose block is within the limit
pub least_traffic-requires : goal.least_traffic-requires
least_traffic-requires g c =
    let r = c.args.request.now in
    let read = c.in_ok-counts.ensures.reads in
    let limited = c.configs.ensures.limits in
    subst (AllByRecursion (λ (row : Config × FullCounts). row.0.bsize ≤ largest_block))
    (sym (ap (λ (counts : FullCountedSweep). counts.rows) read.1))
    (of_rows (λ d. d.bsize ≤ largest_block) r (events_read r.kind read.0.read) (λ d among.
    let valid = ((c.table_is.ensures.members r.space r.after d limited).0 among).0 in
    is_small d (c.log2_is.ensures d.bsize (block_is_power r.space d valid))
    (c.configs_are_geometries.ensures.limits r.space d limited valid).blocks))

pub returns : goal.returns
returns g c =
    least_read c.args.size c.args.request.now (g.S.Source.view c.args.source.now).remaining _
    c.least_traffic.result c.in_ok-counts.ensures.counts c.least_traffic.ensures
