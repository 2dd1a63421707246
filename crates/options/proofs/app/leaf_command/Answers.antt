-- The command has the options of its table.
use Rattle.std.proofs.Common.{rules}
use Rattle.options.proofs.OptionLemmas.{leaf_made}
use Rattle.options.proofs.app.leaf_command.Goals as goal

pub returns : goal.returns
returns c = leaf_made _ _ _ _ _ (search rules) (search rules)
    c.in_ok-args.ensures c.args-2.ensures
