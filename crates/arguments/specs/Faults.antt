-- The faults of the arguments that are neither lack of memory nor clap's.
use Rattle.std.specs.Prelude.{ℕ, true, Option, Some, None, Result, Ok, Err, option_map}
use Rattle.clap.specs.Words.{Text}
use Rattle.cache_core.specs.declared.system.plan.CacheName.{CacheName}
use Rattle.cache_core.specs.declared.system.plan.PlanFault.{PlanFault}
use Rattle.sweep_core.specs.declared.space.SpaceFault.{SpaceFault}
use Rattle.arguments.specs.declared.faults.WordsFault.{WordsFault}
use Rattle.arguments.specs.declared.faults.WordsFault.TheVariants as fault

-- why arguments that clap takes give no job
pub data JobFault : Type 0 where
  value : Text → JobFault
  incomplete : CacheName → JobFault
  bad_geometry : JobFault
  plan : PlanFault → JobFault
  space : SpaceFault → JobFault

-- which of them a fault is, if it is one
abbrev pub job_fault_of : WordsFault → Option JobFault
job_fault_of fault.Memory = None
job_fault_of (fault.Usage text help) = None
job_fault_of (fault.Value option) = Some (value option.now)
job_fault_of (fault.Incomplete cache) = Some (incomplete cache)
job_fault_of fault.BadShape = Some bad_geometry
job_fault_of (fault.Plan p) = Some (plan p)
job_fault_of (fault.Space s) = Some (space s)

-- the result: a value or such a fault, and none if it is lack of memory or clap's
abbrev pub job_result : {A : Type 0} → Result A WordsFault → Option (Result A JobFault)
job_result (Ok x) = Some (Ok x)
job_result (Err e) = option_map Err (job_fault_of e)

-- the status of the program: 0 if help was asked for, 1 for lack of memory, and else 2
abbrev pub status_of : WordsFault → ℕ
status_of fault.Memory = 1
status_of (fault.Usage text true) = 0
status_of _ = 2
