-- How the text of an option is read over the entries that clap gives.
use Rattle.std.specs.Prelude.{Bool, false, List, Option, Some, None, Result, Ok, Err}
use Rattle.std.specs.Prelude.{codes, if◌then◌else◌, ok_or, option_map, option_and_then, unwrap_or}
use Rattle.std.specs.Option.{option_map_or}
use Rattle.std.specs.Str.{bytes_eq}
use Rattle.clap.specs.Words.{Row, Text, first_of, found_of, rows_of}
use Rattle.clap.specs.declared.parser.matches.ArgMatches.{ArgMatches}
use Rattle.trace_core.specs.declared.line.Format.{Format}
use Rattle.trace_core.specs.declared.line.Format.TheVariants.{Din, Lackey}
use Rattle.trace_core.specs.declared.events.Kind.{Kind}
use Rattle.trace_core.specs.declared.events.Kind.TheVariants.{All, DataOnly, FetchOnly}
use Rattle.arguments.specs.Faults.{JobFault, value}

-- the entries that clap gives for the arguments of a subcommand
abbrev pub rows_given : ArgMatches → List Row
rows_given m = rows_of (found_of m)

-- one reading after another: the first fault counts
abbrev pub and_then : {A B : Type 0} → Result A JobFault → (A → Result B JobFault) →
    Result B JobFault
and_then (Ok x) next = next x
and_then (Err e) next = Err e

-- the value of an option's text, or the fault that names the option; none if it was not given
abbrev pub value_of_text : {A : Type 0} → Text → (Text → Option A) → Option Text →
    Result (Option A) JobFault
value_of_text name reader None = Ok None
value_of_text name reader (Some text) = ok_or (option_map Some (reader text)) (value name)

-- the value of an option that may be left out
abbrev pub optional_value : {A : Type 0} → Text → (Text → Option A) → List Row →
    Result (Option A) JobFault
optional_value name reader rows = value_of_text name reader (first_of name rows)

-- the value of an option, or this value if it is left out
abbrev pub value_or : {A : Type 0} → A → Text → (Text → Option A) → List Row → Result A JobFault
value_or default name reader rows = and_then (optional_value name reader rows)
    (λ v. Ok (unwrap_or v default))

-- the value of an option that has to be there
abbrev pub required_value : {A : Type 0} → Text → (Text → Option A) → List Row → Result A JobFault
required_value name reader rows = ok_or (option_and_then reader (first_of name rows)) (value name)

-- the flag was given: clap then keeps the text "true"
abbrev pub is_flagged : Text → List Row → Bool
is_flagged name rows = option_map_or (λ text. bytes_eq text (codes "true"))
    (first_of name rows) false

-- this project's letters: u all references, d data, i instruction fetches
abbrev pub kind_named : Text → Option Kind
kind_named text = if bytes_eq text (codes "u") then Some All
    else (if bytes_eq text (codes "d") then Some DataOnly
    else (if bytes_eq text (codes "i") then Some FetchOnly else None))

-- d din, which is Dinero IV's letter for -informat; l lackey, which is this project's
abbrev pub format_named : Text → Option Format
format_named text = if bytes_eq text (codes "d") then Some Din
    else (if bytes_eq text (codes "l") then Some Lackey else None)
