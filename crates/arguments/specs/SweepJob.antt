-- The meaning of the arguments after `sweep`.
use Rattle.std.specs.Prelude.{ℕ, List, Option, Result, Ok, Bool, if◌then◌else◌}
use Rattle.std.specs.Result.{result_map_both}
use Rattle.clap.specs.Words.{Row}
use Rattle.sweep_core.specs.Space.{space_of}
use Rattle.sweep_core.specs.declared.space.Config.{Config}
use Rattle.sweep_core.specs.declared.request.Request.{Request}
use Rattle.trace_core.specs.declared.events.Kind.{Kind}
use Rattle.trace_core.specs.declared.events.Kind.TheVariants.{All}
use Rattle.trace_core.specs.declared.line.Format.{Format}
use Rattle.trace_core.specs.declared.line.Format.TheVariants.{Din}
use Rattle.arguments.specs.Faults.{JobFault, space}
use Rattle.arguments.specs.Job.{longest_trace}
use Rattle.arguments.specs.Numbers.{number_of, range_of, triple_of}
use Rattle.options.specs.Options.{after_option, assoc_option, bsize_option, format_option}
use Rattle.options.specs.Options.{full_option}
use Rattle.options.specs.Options.{kind_option, pow2_option, rows_option, sets_option, size_option}
use Rattle.arguments.specs.Readings.{and_then, format_named, is_flagged, kind_named, optional_value}
use Rattle.arguments.specs.Readings.{required_value, value_or}
use Rattle.arguments.specs.declared.job.Job.{Job}
use Rattle.arguments.specs.declared.job.Job.TheVariants.{Sweep, FullSweep}

-- the ranges of block sizes, set counts, associativities and sizes
abbrev pub ranges_of : List Row → Result ((ℕ × ℕ) × (ℕ × ℕ) × (ℕ × ℕ) × (ℕ × ℕ)) JobFault
ranges_of rows =
    and_then (required_value bsize_option.id range_of rows) (λ bsize.
    and_then (required_value sets_option.id range_of rows) (λ sets.
    and_then (required_value assoc_option.id range_of rows) (λ assoc.
    and_then (required_value size_option.id range_of rows) (λ size.
    Ok (bsize, sets, assoc, size)))))

-- the references that count, and the format of the trace
abbrev pub trace_of : List Row → Result (Kind × Format) JobFault
trace_of rows =
    and_then (value_or All kind_option.id kind_named rows) (λ kind.
    and_then (value_or Din format_option.id format_named rows) (λ format.
    Ok (kind, format)))

-- after which row a page of the table begins, and how many it may have
abbrev pub page_of : List Row → Result (Option Config × Option ℕ) JobFault
page_of rows =
    and_then (optional_value after_option.id triple_of rows) (λ after.
    and_then (optional_value rows_option.id number_of rows) (λ count.
    Ok (after, count)))

-- the job of a request, with the full table or without
abbrev pub sweep_for : Bool → Request → Job
sweep_for full request = if full then FullSweep request else Sweep request

-- The job of these entries, or the first fault: bad values in the table's order, then the space's.
-- The options are this project's.
abbrev pub sweep_of : List Row → Result Job JobFault
sweep_of rows =
    and_then (ranges_of rows) (λ ranges.
    and_then (trace_of rows) (λ trace.
    and_then (page_of rows) (λ page.
    and_then (result_map_both (λ s. s) space (space_of ranges.0 ranges.1 ranges.2 ranges.3
    (is_flagged pow2_option.id rows)))
    (λ s. Ok (sweep_for (is_flagged full_option.id rows) (record {
      space = s;
      kind = trace.0;
      format = trace.1;
      after = page.0;
      rows = page.1;
      max_lines = longest_trace;
    }))))))
