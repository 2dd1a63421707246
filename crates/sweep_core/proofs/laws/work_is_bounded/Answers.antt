-- The bound of one profile, summed up over the pairs.
use Rattle.trace_core.specs.Reading.{events}
use Rattle.sweep_core.specs.SweepText.{configs_of, rows_of}
use Rattle.sweep_core.specs.Work.{sweep_work}
use Rattle.sweep_core.proofs.WorkLaws.{work-most}
use Rattle.sweep_core.proofs.laws.work_is_bounded.Goals as goal

pub returns : goal.returns
unfolding sweep_work
returns c r text =
    let es = events r.format r.kind text in
    work-most es (configs_of r) (rows_of r) (λ g. c.probes_bounded.ensures g es)
