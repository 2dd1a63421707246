-- What `clap` is given by `parse`, the respelled arguments, and what its answers for them say of
-- the program's command.
use Rattle.std.proofs.Common.{ap, ap₂, ◌∙◌, ◌≡◌, sym, subst, true, false, List, [], Option, map}
use Rattle.std.specs.Prelude.{IfSome, is_some, option_and_then}
use Rattle.clap.specs.Words.{HasKind, HasMatchesOf, IsParsedFrom, Text, app_of, fault_of, is_simple}
use Rattle.clap.specs.Words.{is_simple_and_free, subcommand_of, subcommand_rows_of, takes}
use Rattle.clap.specs.declared.builder.command.Command.{Command}
use Rattle.clap.specs.declared.builder.command.Command.TheViews.{out-Command}
use Rattle.clap.specs.declared.error.Error.{Error}
use Rattle.clap.specs.declared.parser.matches.ArgMatches.{ArgMatches}
use Rattle.arguments.proofs.AppFacts.{IfSome-always, app_is_free, app_is_simple, parse_ordered}
use Rattle.arguments.specs.CommandLine.{chosen_command}
use Rattle.options.specs.Options.{cachesim_app}
use Rattle.options.specs.Respell.{respelling_of}

module _ {A : Type 0} (text_of : A → Text) (command : Command) (arguments : List Text)
    {given list : List A}
    (app_is : app_of command ≡ cachesim_app) (value : given ≡ list)
    (respells : map text_of list ≡ respelling_of arguments) where
  given_are : map text_of given ≡ respelling_of arguments
  given_are = ap (map text_of) value ∙ respells

  faults_are : fault_of (app_of command) (map text_of given) ≡ fault_of cachesim_app
      (respelling_of arguments)
  faults_are = ap₂ fault_of app_is given_are

  -- the subcommand and its entries are those that the arguments mean
  pub rows_are : (m : ArgMatches) → HasMatchesOf (app_of command) (map text_of given) m
      → subcommand_rows_of m ≡ subcommand_of cachesim_app (respelling_of arguments)
  rows_are m matches = (matches (ap is_simple app_is ∙ app_is_simple)).1 ∙
      ap₂ subcommand_of app_is given_are

  -- and so are one that has a job
  pub rows_ordered : (m : ArgMatches) → HasMatchesOf (app_of command) (map text_of given) m →
      (out-Command command).has_globals ≡ false
      → IsParsedFrom command m → is_some (option_and_then chosen_command
      (subcommand_rows_of m)) ≡ true
  rows_ordered m matches local parsed = parse_ordered command m (respelling_of arguments) app_is
      local parsed (rows_are m matches)

  -- what is not refused has no fault
  pub accepted : {B : Type 0} (answer : Option B)
      → (is_simple_and_free (app_of command) ≡ true →
      fault_of (app_of command) (map text_of given) ≡ [])
      → IfSome answer (λ _. fault_of cachesim_app (respelling_of arguments) ≡ [])
  accepted answer kinds = IfSome-always answer (sym faults_are ∙
      kinds (ap is_simple_and_free app_is ∙ app_is_free))

  -- what is refused has one of the arguments' faults
  pub refused : (e : Error) → (is_simple_and_free (app_of command) ≡ true →
      HasKind (fault_of (app_of command) (map text_of given)) e)
      → HasKind (fault_of cachesim_app (respelling_of arguments)) e
  refused e kinds = subst (λ ks. HasKind ks e) faults_are
      (kinds (ap is_simple_and_free app_is ∙ app_is_free))

  -- what the definition of a simple command takes is taken by this one
  pub taken : takes cachesim_app (respelling_of arguments) ≡ true →
      takes (app_of command) (map text_of given) ≡ true
  taken takes_all = ap₂ takes app_is given_are ∙ takes_all
