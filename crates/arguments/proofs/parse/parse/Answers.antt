-- What `parse` answers, by what `clap` answers for the respelled arguments.
use Rattle.std.proofs.Common.{subst, ◌≡◌, List, Option, Some, IfSome, option_and_then, map}
use Rattle.std.proofs.Common.{string_bytes}
use Rattle.clap.specs.Words.{Row, Text}
use Rattle.arguments.proofs.HelpLemmas.{help_told, refusal_told}
use Rattle.arguments.proofs.Parsing.{accepted, refused, rows_are, rows_ordered, taken}
use Rattle.arguments.specs.CommandLine.{command_result, chosen_command}
use Rattle.options.specs.Respell.{respelling_of}
use Rattle.arguments.proofs.parse.parse.Goals as goal

pub read_command-requires : goal.read_command-requires
read_command-requires c =
    rows_ordered string_bytes _ _ c.in_ok-command.ensures.app c.as_slice.ensures.value
    c.in_ok-respelled.ensures c.in-Ok.matches c.in-Ok.ensures.matches
    c.in_ok-command.ensures.local c.in-Ok.ensures.parsed

pub returns-in-Ok-clause-means : goal.returns-in-Ok-clause-means
returns-in-Ok-clause-means c =
    subst (λ (rows : Option (Text × List Row)).
    IfSome (command_result c.read_command.result)
    (λ returned. option_and_then chosen_command rows ≡ Some returned))
    (rows_are string_bytes _ _ c.in_ok-command.ensures.app c.as_slice.ensures.value
    c.in_ok-respelled.ensures c.in-Ok.matches c.in-Ok.ensures.matches)
    c.read_command.ensures.means

pub returns-in-Ok-clause-accepted : goal.returns-in-Ok-clause-accepted
returns-in-Ok-clause-accepted c =
    accepted string_bytes _ _ c.in_ok-command.ensures.app c.as_slice.ensures.value
    c.in_ok-respelled.ensures (command_result c.read_command.result)
    c.in-Ok.ensures.kinds

pub returns-clause-taken : goal.returns-clause-taken
returns-clause-taken c takes_all =
    c.usage_fault.ensures.memory
    (c.in-Err.ensures.passes (taken string_bytes _ _ c.in_ok-command.ensures.app
    c.as_slice.ensures.value c.in_ok-respelled.ensures takes_all))

pub returns-clause-refused : goal.returns-clause-refused
returns-clause-refused c =
    refusal_told c.usage_fault.result _ _ c.usage_fault.ensures.memory
    (refused string_bytes _ _ c.in_ok-command.ensures.app c.as_slice.ensures.value
    c.in_ok-respelled.ensures c.in-Err.error c.in-Err.ensures.kinds)

pub returns-clause-help : goal.returns-clause-help
returns-clause-help c =
    help_told c.usage_fault.result _ (respelling_of (map string_bytes c.args.arguments.now))
    c.usage_fault.ensures.memory c.usage_fault.ensures.help
    (refused string_bytes _ _ c.in_ok-command.ensures.app c.as_slice.ensures.value
    c.in_ok-respelled.ensures c.in-Err.error c.in-Err.ensures.kinds)
