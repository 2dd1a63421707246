-- The command that the arguments give.
use Rattle.std.specs.Prelude.{Bool, true, false, List, Option, Some, None, Result, Ok, Err, codes}
use Rattle.std.specs.Prelude.{if◌then◌else◌, option_and_then, option_map, string_bytes}
use Rattle.std.specs.Str.{bytes_eq}
use Rattle.clap.specs.Words.{Row, Text, first_of, subcommand_of}
use Rattle.clap.specs.declared.error.kind.ErrorKind.{ErrorKind}
use Rattle.clap.specs.declared.error.kind.ErrorKind.TheVariants as kind
use Rattle.arguments.specs.CsimJob.{csim_of}
use Rattle.arguments.specs.DinJob.{din_of, log_of}
use Rattle.arguments.specs.Faults.{JobFault, job_fault_of}
use Rattle.options.specs.Options.{cachesim_app, file_option}
use Rattle.arguments.specs.Readings.{and_then}
use Rattle.options.specs.Respell.{respelling_of}
use Rattle.arguments.specs.SweepJob.{sweep_of}
use Rattle.arguments.specs.declared.faults.WordsFault.{WordsFault}
use Rattle.arguments.specs.declared.faults.WordsFault.TheVariants as fault
use Rattle.arguments.specs.declared.parse.Command.{Command}
use Rattle.arguments.specs.declared.job.Job.{Job}

-- a job, and the name of the trace's file
pub record CommandValue : Type 0 where
  pub job : Job
  pub trace : Option Text

-- the value of a `Command` of `parse`
abbrev pub command_value : Command → CommandValue
command_value c = record { job = c.job; trace = option_map string_bytes c.trace }

-- the job that the entries of a subcommand of this name give; none of another name
abbrev pub job_named : Text → List Row → Option (Result Job JobFault)
job_named name rows = if bytes_eq name (codes "csim") then Some (csim_of rows)
    else (if bytes_eq name (codes "din") then Some (din_of rows)
    else (if bytes_eq name (codes "log") then Some (log_of rows)
    else (if bytes_eq name (codes "sweep") then Some (sweep_of rows) else None)))

-- the job that was read, with the file of `-t`
abbrev pub with_trace : List Row → Result Job JobFault → Result CommandValue JobFault
with_trace rows read = and_then read
    (λ j. Ok (record { job = j; trace = first_of file_option.id rows }))

-- a subcommand of this name with these entries, read; none of another name
abbrev pub chosen_command : Text × List Row → Option (Result CommandValue JobFault)
chosen_command s = option_map (with_trace s.1) (job_named s.0 s.1)

-- the subcommand and the entries that clap gives for the respelled arguments, read
abbrev pub command_of : List Text → Option (Result CommandValue JobFault)
command_of arguments = option_and_then chosen_command
    (subcommand_of cachesim_app (respelling_of arguments))

-- the result of `parse`; none for lack of memory or if clap refused the arguments
abbrev pub command_result : Result Command WordsFault → Option (Result CommandValue JobFault)
command_result (Ok c) = Some (Ok (command_value c))
command_result (Err e) = option_map Err (job_fault_of e)

-- if clap refused the arguments, whether it says that help was asked for
abbrev pub usage_of : WordsFault → Option Bool
usage_of (fault.Usage text help) = Some help
usage_of _ = None

-- if `parse` returned such a refusal, whether it says that help was asked for
abbrev pub refusal_of : Result Command WordsFault → Option Bool
refusal_of (Ok c) = None
refusal_of (Err e) = usage_of e

-- clap says that help was asked for
abbrev pub is_help : ErrorKind → Bool
is_help kind.DisplayHelp = true
is_help _ = false
