-- The task of each job.
use Rattle.trace_core.specs.Task.{Task}
use Rattle.sweep_core.specs.SweepText.{sweep_task}
use Rattle.sweep_core.specs.FullText.{full_sweep_task}
use Rattle.arguments.specs.declared.job.Job.{Job}
use Rattle.arguments.specs.declared.job.Job.TheVariants.{Csim, Din, Log, Sweep}
use Rattle.arguments.specs.declared.job.Job.TheVariants.{FullSweep}
use Rattle.commands.specs.CsimText.{csim_task}
use Rattle.commands.specs.DinText.{din_task}
use Rattle.commands.specs.LogText.{log_task}

-- the task of a job
abbrev pub task_of : Job → Task
task_of (Csim geometry verbose max_lines) = csim_task geometry verbose max_lines
task_of (Din plan seed format max_lines) = din_task plan seed format max_lines
task_of (Log plan seed format max_lines) = log_task plan seed format max_lines
task_of (Sweep request) = sweep_task request
task_of (FullSweep request) = full_sweep_task request
