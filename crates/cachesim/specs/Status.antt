-- The status that the program ends with.
use Rattle.std.specs.Prelude.{ℕ}
use Rattle.arguments.specs.Faults.{status_of}
use Rattle.cachesim.specs.declared.faults.ProgramFault.{ProgramFault}
use Rattle.cachesim.specs.declared.faults.ProgramFault.TheVariants.{Arguments, NotText}

-- the status of a fault of the arguments, 2 for an argument that is not UTF-8, and else 1: the job
-- stopped, or its file or memory for it could not be had
abbrev pub program_status : ProgramFault → ℕ
program_status (Arguments f) = status_of f
program_status NotText = 2
program_status _ = 1
