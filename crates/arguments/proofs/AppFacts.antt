-- The command of `cachesim` is one of which `clap` says the matches exactly.
use Rattle.std.proofs.Common.{ap, ◌∙◌, ◌≡◌, true, refl, List, [], ◌∷◌, Bool, false, is_some, Option}
use Rattle.std.proofs.Common.{Some, None}
use Rattle.std.specs.Prelude.{IfSome, find, option_and_then, option_map, ⊤}
use Rattle.clap.specs.Simple.{argument_words, built, entered, is_simple, label_of, names_of}
use Rattle.clap.specs.Simple.{rows_at}
use Rattle.clap.specs.Walk.{answers_to, stop_after}
use Rattle.clap.proofs.CallerLemmas.{subcommand_required}
use Rattle.clap.specs.Words.{is_simple_and_free, App, IsParsedFrom, Row, Shape, Text, app_of}
use Rattle.clap.specs.Words.{subcommand_of, subcommand_rows_of}
use Rattle.clap.specs.declared.builder.command.Command.{Command}
use Rattle.clap.specs.declared.builder.command.Command.TheViews.{out-Command}
use Rattle.clap.specs.declared.parser.matches.ArgMatches.{ArgMatches}
use Rattle.clap.specs.declared.parser.matches.ArgMatches.TheViews.{out-ArgMatches}
use Rattle.arguments.specs.CommandLine.{job_named, chosen_command, with_trace}
use Rattle.options.specs.Options.{cachesim_app}

pub app_is_simple : is_simple cachesim_app ≡ true
app_is_simple = refl

pub app_is_free : is_simple_and_free cachesim_app ≡ true
app_is_free = refl

-- what holds anyway holds of a value
pub IfSome-always : {X : Type 0} {P : Type 0} (o : Option X) → P → IfSome o (λ _. P)
IfSome-always (Some x) p = p
IfSome-always None p = tt

-- each of the subcommands has a job
abbrev AllNamed : List Shape → Type 0
AllNamed [] = ⊤
AllNamed (s ∷ rest) = ((rows : List Row) → is_some (job_named s.name rows) ≡ true) × AllNamed rest

-- what a value is mapped to is a value
is_some-map : {X Y : Type 0} (f : X → Y) (o : Option X) → is_some (option_map f o) ≡ is_some o
is_some-map f (Some x) = refl
is_some-map f None = refl

ordered_where : (name : Text) (rows : List Row) → is_some (job_named name rows) ≡ true →
    is_some (chosen_command (name, rows)) ≡ true
ordered_where name rows h = is_some-map (with_trace rows) (job_named name rows) ∙ h

found_ordered : (p : Shape → Bool) (subs : List Shape) (arguments : List Text) → AllNamed subs
    → is_some (option_map (λ s. rows_at s arguments) (find p subs)) ≡ true
    → is_some (option_and_then chosen_command (option_map (λ s. rows_at s arguments)
    (find p subs))) ≡ true
found_ordered p [] arguments named h = h
found_ordered p (s ∷ rest) arguments named h =
    go (p s) refl (found_ordered p rest arguments named.1) h
  where
    go : (b : Bool) → p s ≡ b
        → (is_some (option_map (λ s. rows_at s arguments) (find p rest)) ≡ true
        → is_some (option_and_then chosen_command (option_map (λ s. rows_at s arguments)
        (find p rest))) ≡ true)
        → is_some (option_map (λ s. rows_at s arguments) (find p (s ∷ rest))) ≡ true
        → is_some (option_and_then chosen_command (option_map (λ s. rows_at s arguments)
        (find p (s ∷ rest)))) ≡ true
    go true e rec h = rw e (ordered_where s.name (rows_at s arguments).1
        (named.0 (rows_at s arguments).1))
    go false e rec h = rw e (rec (rw e at h))

entered_ordered : (stop : Option (Text × List Text)) →
    is_some (entered (built cachesim_app) stop) ≡ true
    → is_some (option_and_then chosen_command (entered (built cachesim_app) stop)) ≡ true
entered_ordered None h = h
entered_ordered (Some p) h =
    found_ordered (λ s. answers_to p.0 (label_of s)) (built cachesim_app).subs p.1 (
      (λ _. refl),
      ((λ _. refl), ((λ _. refl), ((λ _. refl), tt))),
    ) h

-- a subcommand that the arguments name has a job
pub subcommand_ordered : (arguments : List Text) →
    is_some (subcommand_of cachesim_app arguments) ≡ true
    → is_some (option_and_then chosen_command (subcommand_of cachesim_app arguments)) ≡ true
subcommand_ordered arguments h =
    entered_ordered (stop_after (built cachesim_app).top.rules (names_of (built cachesim_app))
    (argument_words cachesim_app arguments)) h

-- a parse of the command has met a subcommand
pub subcommand_met : (c : Command) (m : ArgMatches) → app_of c ≡ cachesim_app →
    (out-Command c).has_globals ≡ false → IsParsedFrom c m
    → is_some (subcommand_rows_of m) ≡ true
subcommand_met c m app local parsed =
    is_some-map _ (out-ArgMatches m).subcommand ∙ subcommand_required c m parsed local
    (ap (λ (a : App). a.top.subcommand_required) app)

-- so it has read one that has a job
pub parse_ordered : (c : Command) (m : ArgMatches) (arguments : List Text) →
    app_of c ≡ cachesim_app → (out-Command c).has_globals ≡ false
    → IsParsedFrom c m → subcommand_rows_of m ≡ subcommand_of cachesim_app arguments
    → is_some (option_and_then chosen_command (subcommand_rows_of m)) ≡ true
parse_ordered c m arguments app local parsed rows =
    rw rows (subcommand_ordered arguments (rw rows at (subcommand_met c m app local parsed)))
