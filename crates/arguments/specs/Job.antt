-- The work that a command line asks for.
use Rattle.std.specs.Prelude.{ℕ, ◌^◌}
use Rattle.arguments.specs.declared.job.Job.{Job}
use Rattle.arguments.specs.declared.job.Job.TheVariants.{Csim, Din, Log, Sweep}
use Rattle.arguments.specs.declared.job.Job.TheVariants.{FullSweep}

-- the most lines that a trace of the program may have: the manual's limit
abbrev pub longest_trace : ℕ
longest_trace = 2 ^ 40

-- the most lines that a job takes
abbrev pub max_lines_of : Job → ℕ
max_lines_of (Csim geometry verbose max_lines) = max_lines
max_lines_of (Din plan seed format max_lines) = max_lines
max_lines_of (Log plan seed format max_lines) = max_lines
max_lines_of (Sweep request) = request.max_lines
max_lines_of (FullSweep request) = request.max_lines
