-- The meaning of the arguments after `csim`.
use Rattle.std.specs.Prelude.{List, Result, Ok, ok_or}
use Rattle.clap.specs.Words.{Row}
use Rattle.cache_core.specs.Geometry.{geometry_of}
use Rattle.arguments.specs.Faults.{JobFault, bad_geometry}
use Rattle.arguments.specs.Job.{longest_trace}
use Rattle.arguments.specs.Numbers.{number_of}
use Rattle.options.specs.Options.{block_bits_option, lines_option, set_bits_option, verbose_option}
use Rattle.arguments.specs.Readings.{and_then, is_flagged, required_value}
use Rattle.arguments.specs.declared.job.Job.{Job}
use Rattle.arguments.specs.declared.job.Job.TheVariants.{Csim}

-- The job of these entries, or the first fault: bad values in the table's order, then numbers that
-- no cache has. The options are those of the CS:APP cache lab's csim.
abbrev pub csim_of : List Row → Result Job JobFault
csim_of rows =
    and_then (required_value set_bits_option.id number_of rows) (λ s.
    and_then (required_value lines_option.id number_of rows) (λ e.
    and_then (required_value block_bits_option.id number_of rows) (λ b.
    and_then (ok_or (geometry_of s e b) bad_geometry)
    (λ g. Ok (Csim g (is_flagged verbose_option.id rows) longest_trace)))))
