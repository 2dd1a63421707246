-- The command gains its four subcommands.
use Rattle.std.proofs.Common.{rules, [], ◌∙◌, ◌≡◌, ap, false}
use Rattle.std.proofs.lemmas.Result.{IfOk-weaker}
use Rattle.clap.specs.Words.{App, app_of}
use Rattle.clap.specs.declared.builder.command.Command.TheViews.{out-Command}
use Rattle.options.proofs.OptionLemmas.{leaves_added, with_leaves}
use Rattle.options.specs.Options.{cachesim_app, cachesim_top}
use Rattle.options.proofs.app.cachesim_command.Goals as goal

pub returns : goal.returns
returns c =
    let app : app_of c.disable_help_subcommand.result ≡ record { top = cachesim_top; subs = [] } =
    search rules in
    let local : (out-Command c.disable_help_subcommand.result).has_globals ≡ false = search rules in
    let commands = c.in_ok-commands.ensures in
    let leaves : (App → App) = λ (a : App). with_leaves a cachesim_app.subs in
    record {
      app = IfOk-weaker c.subcommands.result _ _
          (λ m added. (leaves_added cachesim_app.subs _ _ m commands added).0 ∙ ap leaves app)
          c.subcommands.ensures;
      local = IfOk-weaker c.subcommands.result _ _
          (λ m added. (leaves_added cachesim_app.subs _ _ m commands added).1 ∙ local)
          c.subcommands.ensures;
    }
