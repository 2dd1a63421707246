-- A fault of a sweep is passed on.
use Rattle.trace_core.proofs.Performing.{err_is, Performs-passed_on}
use Rattle.commands.proofs.execute.execute.Goals as goal

pub returns-in_err-sweep-in-Sweep : goal.returns-in_err-sweep-in-Sweep
returns-in_err-sweep-in-Sweep g c =
    rw c.in-Sweep.is (Performs-passed_on c.in_err-sweep-in-Sweep.field-0.0
    (err_is c.from_residual.ensures.1) c.in_err-sweep-in-Sweep.ensures.performs)

pub returns-in_err-sweep_full-in-FullSweep : goal.returns-in_err-sweep_full-in-FullSweep
returns-in_err-sweep_full-in-FullSweep g c =
    rw c.in-FullSweep.is (Performs-passed_on c.in_err-sweep_full-in-FullSweep.field-0.0
    (err_is c.from_residual-in_err-sweep_full-in-FullSweep.ensures.1)
    c.in_err-sweep_full-in-FullSweep.ensures.performs)
