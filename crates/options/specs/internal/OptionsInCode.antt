-- The options and commands of the code as those of the definitions. Only the proofs need these
-- definitions.
use Rattle.std.specs.Prelude.{◌≡◌, Bool, false, List, [], ◌∷◌, map, Some}
use Rattle.clap.specs.Words.{App, Rule, Shape, app_of, new_rule, rule_of}
use Rattle.clap.specs.declared.builder.arg.Arg.{Arg}
use Rattle.clap.specs.declared.builder.command.Command.{Command}
use Rattle.clap.specs.declared.builder.command.Command.TheViews.{out-Command}
use Rattle.cache_core.specs.declared.system.plan.CacheName.{CacheName}
use Rattle.options.specs.declared.app.CommandText.{CommandText}
use Rattle.options.specs.declared.app.OptionsOf.{OptionsOf}
use Rattle.options.specs.declared.app.OptionsOf.TheVariants.{Csim, Din, Sweep}
use Rattle.options.specs.declared.caches.CacheOptions.{CacheOptions}
use Rattle.options.specs.declared.table.CommandOption.{CommandOption}
use Rattle.options.specs.declared.table.Spelling.{Spelling}
use Rattle.options.specs.declared.table.Spelling.TheVariants.{Long, Short}
use Rattle.options.specs.declared.table.Presence.{Presence}
use Rattle.options.specs.declared.table.Presence.TheVariants.{Required, Optional, Flag}
use Rattle.options.specs.Options.{required, optional, flag, csim_rules, din_rules, sweep_rules}
use Rattle.options.specs.Options.{leaf, cache_rules, size_option_of, sets_option_of}
use Rattle.options.specs.Options.{bsize_option_of, assoc_option_of, repl_option_of}
use Rattle.options.specs.Options.{walloc_option_of, wback_option_of}

-- the rule of an option that is written so
abbrev pub with_spelling : Spelling → Rule → Rule
with_spelling (Long name) r = record r { long = Some name.now }
with_spelling (Short letter) r = record r { short = Some letter }

-- the rule of an option that has to be given, may be given, or is a flag
abbrev pub with_presence : Presence → Rule → Rule
with_presence (Required value) r = required r
with_presence (Optional value) r = optional r
with_presence Flag r = flag r

-- an option of the tables, as clap sees it
abbrev pub rule_of_option : CommandOption → Rule
rule_of_option o = with_presence o.presence (with_spelling o.spelling (new_rule o.name.now))

-- the rules of a command that has these options
abbrev pub rules_of : OptionsOf → List Rule
rules_of Csim = csim_rules
rules_of Din = din_rules
rules_of Sweep = sweep_rules

-- a command of the table, as clap sees it
abbrev pub leaf_of : CommandText → Shape
leaf_of c = leaf c.name.now (rules_of c.options)

-- the rule of an argument, and whether it is global
abbrev pub rule_and_global : Arg → Rule × Bool
rule_and_global a = (rule_of a, a.global)

-- a rule of an argument that is not global
abbrev pub own_rule : Rule → Rule × Bool
own_rule r = (r, false)

-- a command as clap sees it, and whether an argument of it is global
abbrev pub app_and_global : Command → App × Bool
app_and_global c = (app_of c, (out-Command c).has_globals)

-- a command without subcommands and without a global argument
abbrev pub own_leaf : Shape → App × Bool
own_leaf s = (record { top = s; subs = [] }, false)

-- the seven entries of a cache are its options, by name and by rule
pub record IsOptionsOf (cache : CacheName) (o : CacheOptions) : Type 0 where
  pub size : o.size.name.now ≡ (size_option_of cache).id
  pub sets : o.sets.name.now ≡ (sets_option_of cache).id
  pub bsize : o.bsize.name.now ≡ (bsize_option_of cache).id
  pub assoc : o.assoc.name.now ≡ (assoc_option_of cache).id
  pub repl : o.repl.name.now ≡ (repl_option_of cache).id
  pub walloc : o.walloc.name.now ≡ (walloc_option_of cache).id
  pub wback : o.wback.name.now ≡ (wback_option_of cache).id
  pub rules : map rule_of_option
      (o.size ∷ o.sets ∷ o.bsize ∷ o.assoc ∷ o.repl ∷ o.walloc ∷ o.wback ∷ []) ≡ cache_rules cache
