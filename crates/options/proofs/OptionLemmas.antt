-- How a command gains a list of options or of subcommands.
use Rattle.std.proofs.Common.{Bool, true, false, refl, ◌||◌, ◌≡◌, ◌∙◌, ap, ap₂, sym, List, [], ◌∷◌}
use Rattle.std.proofs.Common.{◌++◌, map, append_assoc, IfOk, Result}
use Rattle.std.specs.Borrow.{Bor}
use Rattle.std.specs.Prelude.{flat_map}
use Rattle.std.proofs.lemmas.List.{append-nil}
use Rattle.std.proofs.lemmas.Result.{IfOk-weaker}
use Rattle.clap.specs.Words.{AddsArg, AddsInTurn, AddsSubcommand, App, Rule, app_of, rule_of}
use Rattle.clap.specs.Words.{with_rule, with_subcommand, Shape, Text, new_app}
use Rattle.cache_core.specs.declared.system.plan.CacheName.{CacheName}
use Rattle.clap.specs.declared.builder.arg.Arg.{Arg}
use Rattle.clap.specs.declared.builder.command.Command.{Command}
use Rattle.clap.specs.declared.builder.command.Command.TheViews.{out-Command}
use Rattle.options.specs.Options.{leaf}
use Rattle.options.specs.internal.OptionsInCode.{app_and_global, own_leaf, own_rule}
use Rattle.options.specs.internal.OptionsInCode.{rule_and_global}
use Rattle.options.specs.Options.{cache_rules}

-- what has no global argument adds none
or_none : (a b : Bool) → b ≡ false → (a || b) ≡ a
or_none true b e = refl
or_none false b e = e

-- equal lists have equal heads and equal tails
heads : {X : Type 0} (x y : X) (xs ys : List X) → x ∷ xs ≡ y ∷ ys → (x ≡ y) × (xs ≡ ys)
heads x y xs ys e = (cc, cc)

-- the command with these options after its own
abbrev with_rules : App → List Rule → App
with_rules a rules = record a { top = record a.top { rules = a.top.rules ++ rules } }

-- options that are added one by one are added as a list
pub args_added : (rules : List Rule) (args : List Arg) (old new : Command) →
    map rule_and_global args ≡ map own_rule rules
    → AddsInTurn AddsArg old args new
    → (app_of new ≡ with_rules (app_of old) rules) ×
    ((out-Command new).has_globals ≡ (out-Command old).has_globals)
args_added [] [] old new e h = (
  ap app_of (sym h) ∙ ap (λ (rs : List Rule). record (app_of old) {
    top =
        record (app_of old).top { rules = rs };
  }) (sym (append-nil (app_of old).top.rules)),
  ap (λ (c : Command). (out-Command c).has_globals) (sym h),
)
args_added [] (x ∷ xs) old new e h = absurd cc
args_added (r ∷ rs) [] old new e h = absurd cc
args_added (r ∷ rs) (x ∷ xs) old new e (m, added, more) =
    let parts = heads (rule_and_global x) (own_rule r) (map rule_and_global xs)
    (map own_rule rs) e in
    let local : x.global ≡ false = ap (λ (p : Rule × Bool). p.1) parts.0 in
    let rule : rule_of x ≡ r = ap (λ (p : Rule × Bool). p.0) parts.0 in
    let rest = args_added rs xs m new parts.1 more in (
      rest.0
          ∙ ap (λ (a : App). with_rules a rs) (added.shape local ∙ ap (with_rule (app_of old)) rule)
          ∙ ap (λ (all : List Rule). record (app_of old) {
            top = record (app_of old).top {
              rules =
                  all;
            };
          }) (append_assoc (app_of old).top.rules (r ∷ []) rs),
      rest.1 ∙ added.globals ∙ or_none _ _ local,
    )

-- the command with these subcommands after its own
abbrev pub with_leaves : App → List Shape → App
with_leaves a [] = a
with_leaves a (s ∷ ss) = with_leaves (with_subcommand a s) ss

-- so are subcommands without a global argument
pub leaves_added : (shapes : List Shape) (subs : List Command) (old new : Command) →
    map app_and_global subs ≡ map own_leaf shapes
    → AddsInTurn AddsSubcommand old subs new
    → (app_of new ≡ with_leaves (app_of old) shapes) ×
    ((out-Command new).has_globals ≡ (out-Command old).has_globals)
leaves_added [] [] old new e h =
    (ap app_of (sym h), ap (λ (c : Command). (out-Command c).has_globals) (sym h))
leaves_added [] (x ∷ xs) old new e h = absurd cc
leaves_added (s ∷ ss) [] old new e h = absurd cc
leaves_added (s ∷ ss) (x ∷ xs) old new e (m, added, more) =
    let parts = heads (app_and_global x) (own_leaf s) (map app_and_global xs) (map own_leaf ss) e in
    let local : (out-Command x).has_globals ≡ false = ap (λ (p : App × Bool). p.1) parts.0 in
    let app : app_of x ≡ record { top = s; subs = [] } = ap (λ (p : App × Bool). p.0) parts.0 in
    let rest = leaves_added ss xs m new parts.1 more in (
      rest.0 ∙ ap (λ (a : App). with_leaves a ss) (added.shape local ∙
          ap (λ (y : App). with_subcommand (app_of old) y.top) app),
      rest.1 ∙ added.globals ∙ or_none _ _ local,
    )

-- a command that was only named, with these options, is such a leaf
pub leaf_made : {E : Type 0} (name : Text) (rules : List Rule) (args : List Arg) (old : Command)
    (r : Result Command E) → app_of old ≡ new_app name
    → (out-Command old).has_globals ≡ false → map rule_and_global args ≡ map own_rule rules →
    IfOk r (AddsInTurn AddsArg old args)
    → IfOk r (λ c. app_and_global c ≡ own_leaf (leaf name rules))
leaf_made name rules args old r app local are =
    IfOk-weaker r _ _ (λ new added.
    let is = args_added rules args old new are added in
    ap₂ (λ (a : App) (b : Bool). (a, b)) (is.0 ∙ ap (λ (a : App). with_rules a rules) app)
    (is.1 ∙ local))

-- the rules of the options of these caches
abbrev pub rules_of_caches : List (CacheName × Bor Text) → List Rule
rules_of_caches = flat_map (λ p. cache_rules p.0)
