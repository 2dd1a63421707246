-- Dinero IV spells the options of its caches with one dash; here they may have one or two.
use Rattle.std.specs.Prelude.{Bool, false, List, ◌++◌, ◌||◌, map, take, drop, slice_get, nat_eq}
use Rattle.std.specs.Prelude.{codes, if◌then◌else◌}
use Rattle.std.specs.List.{starts_with}
use Rattle.std.specs.Option.{option_map_or}
use Rattle.std.specs.Str.{bytes_eq}
use Rattle.clap.specs.Words.{Text}

-- the argument is an option of `din` or `log` that Dinero writes with one dash
abbrev pub is_dinero_option : Text → Bool
is_dinero_option argument = starts_with nat_eq argument (codes "-l1-")
    || (starts_with nat_eq argument (codes "-l2-") || bytes_eq argument (codes "-informat"))

-- such an option with one dash more, and any other argument as it is
abbrev pub with_two_dashes : Text → Text
with_two_dashes argument = if is_dinero_option argument then codes "-" ++ argument else argument

-- `din` and `log` have such options
abbrev pub has_dinero_options : Text → Bool
has_dinero_options command = bytes_eq command (codes "din") || bytes_eq command (codes "log")

-- the second argument is such a command; the first is the program's name
abbrev pub is_dinero_command : List Text → Bool
is_dinero_command arguments = option_map_or has_dinero_options (slice_get arguments 1) false

-- an argument after the command's name, as clap gets it
abbrev pub spelling_of : Bool → Text → Text
spelling_of is_dinero_command argument = if is_dinero_command then with_two_dashes argument
    else argument

-- the arguments as clap gets them
abbrev pub respelling_of : List Text → List Text
respelling_of arguments = take 2 arguments ++ map (spelling_of (is_dinero_command arguments))
    (drop 2 arguments)
