-- Where `clap` refuses the arguments of this program because help was asked for, it has no other
-- reason.
use Rattle.std.proofs.Common.{◌≡◌, ℕ, zero, suc, Bool, true, false, not, ◌&&◌, ◌||◌, cond, List, []}
use Rattle.std.proofs.Common.{◌∷◌, Option, Some, None, length, drop, refl, sym, ap, ◌∙◌, inl, inr}
use Rattle.std.specs.Prelude.{⊤, ◌==◌, nat_lt, IfSome, ◌⊎◌, ◌≢◌, codes, encode_utf8, find, is_some}
use Rattle.std.specs.Prelude.{slice_get}
use Rattle.std.specs.List.{list_any}
use Rattle.std.specs.Option.{option_map_or}
use Rattle.std.specs.Str.{bytes_eq, chars}
use Rattle.clap.specs.Lexer.{long_of, short_of}
use Rattle.clap.specs.Facts.{parser_of_value, unwrap_or_range}
use Rattle.clap.specs.Walk.{Held, Names, Row, Rule, Step, Text, Walk, action_of, answers_to}
use Rattle.clap.specs.Walk.{arg_by_id, arg_by_index, arg_by_long, arg_by_short, attached_value}
use Rattle.clap.specs.Walk.{has_row, is_empty, is_pending, most_values, next, nothing_held, reacted}
use Rattle.clap.specs.Walk.{settled, subcommand, subcommand_met, takes_several, takes_values}
use Rattle.clap.specs.Walk.{trailing, value, values_or_missing, walk, walk_from, walked}
use Rattle.clap.specs.Walk.{with_default, word_met}
use Rattle.clap.specs.Simple.{App, Shape, argument_words, built, entered, label_of, names_of}
use Rattle.clap.specs.Kinds.{IsAmong, Kinds, check_kinds, or_else, range_kinds, request_kinds}
use Rattle.clap.specs.Kinds.{value_kinds, values_kinds}
use Rattle.clap.specs.Faults.{action_fault, bundle_step_fault, count_fault, defaults_fault}
use Rattle.clap.specs.Faults.{entered_fault, fault_of, flag_word_fault, flags_fault, level_fault}
use Rattle.clap.specs.Faults.{long_fault, option_fault, other_fault, react_fault, set_fault}
use Rattle.clap.specs.Faults.{settle_fault, short_fault, step_fault, turn_fault, use_fault}
use Rattle.clap.specs.Faults.{walk_fault, stray_fault}
use Rattle.clap.specs.declared.builder.action.ArgAction.{ArgAction}
use Rattle.clap.specs.declared.builder.action.ArgAction.TheVariants.{Set, Append, SetTrue, SetFalse}
use Rattle.clap.specs.declared.builder.action.ArgAction.TheVariants.{Count, Help, HelpShort}
use Rattle.clap.specs.declared.builder.action.ArgAction.TheVariants.{HelpLong, Version}
use Rattle.clap.specs.declared.builder.value_parser.ValueParser.{ValueParser}
use Rattle.clap.specs.declared.error.kind.ErrorKind.{ErrorKind}
use Rattle.clap.specs.declared.error.kind.ErrorKind.TheVariants as kind
use Rattle.std.proofs.lemmas.Option.{IfSome_then}
use Rattle.arguments.specs.CommandLine.{is_help, usage_of}
use Rattle.arguments.specs.declared.faults.WordsFault.{WordsFault}
use Rattle.arguments.proofs.AppFacts.{IfSome-always}
use Rattle.options.specs.Options.{cachesim_app}

-- each kind says the same of help
abbrev AllSay : Bool → Kinds → Type 0
AllSay b [] = ⊤
AllSay b (k ∷ ks) = (is_help k ≡ b) × AllSay b ks

-- all kinds say the same of help
abbrev Same : Kinds → Type 0
Same [] = ⊤
Same (k ∷ ks) = AllSay (is_help k) ks

record Agree (ks : Kinds) : Type 0 where
  same : Same ks

none : Agree []
none = record { same = tt }

one : (k : ErrorKind) → Agree (k ∷ [])
one k = record { same = tt }

agree_or : (a b : Kinds) → Agree a → Agree b → Agree (or_else a b)
agree_or [] b h k = k
agree_or (x ∷ xs) b h k = h

agree_if : (t : Bool) (a b : Kinds) → Agree a → Agree b → Agree (cond t a b)
agree_if true a b h k = h
agree_if false a b h k = k

agree_option : {A : Type 0} (f : A → Kinds) (o : Option A) (d : Kinds) → ((x : A) → Agree (f x)) →
    Agree d → Agree (option_map_or f o d)
agree_option f None d h k = k
agree_option f (Some x) d h k = h x

agree_value : (i : Bool) (parser : ValueParser) (text : Text) → Agree (value_kinds i parser text)
agree_value i parser text = agree_if _ _ _ none (one _)

agree_values : (i : Bool) (parser : ValueParser) (vs : List Text) → Agree (values_kinds i parser vs)
agree_values i parser [] = none
agree_values i parser (v ∷ vs) = agree_or _ _ (agree_value i parser v) (agree_values i parser vs)

agree_range : (least most n : ℕ) → Agree (range_kinds least most n)
agree_range least most n =
    agree_if (nat_lt 0 least && n == 0) _ _ (one _)
    (agree_if (least == most) _ _ (agree_if (least == n) _ _ none (one _))
    (agree_if (nat_lt n least) _ _ (one _) (agree_if (nat_lt most n) _ _ (one _) none)))

agree_request : (a : ArgAction) → Agree (request_kinds a)
agree_request Set = none
agree_request Append = none
agree_request SetTrue = none
agree_request SetFalse = none
agree_request Count = none
agree_request Help = one _
agree_request HelpShort = one _
agree_request HelpLong = one _
agree_request Version = one _

agree_check : (a b c : Bool) → Agree (check_kinds a b c)
agree_check a b c = agree_if a _ _ (one _) (agree_if b _ _ (one _) (agree_if c _ _ (one _) none))

agree_count : (a : Rule) (vs : List Text) (rows : List Row) → Agree (count_fault a vs rows)
agree_count a [] rows = agree_value a.ignore_case (parser_of_value a.parser) _
agree_count a (v ∷ vs) rows = agree_values a.ignore_case (parser_of_value a.parser) (v ∷ vs)

agree_set : (again : Bool) (a : Rule) (vs : List Text) (rows : List Row) →
    Agree (set_fault again a vs rows)
agree_set again a vs rows = agree_or _ _ (agree_if _ _ _ (one _) none)
    (agree_values a.ignore_case (parser_of_value a.parser) vs)

agree_action : (act : ArgAction) (again : Bool) (a : Rule) (vs : List Text) (rows : List Row) →
    Agree (action_fault act again a vs rows)
agree_action Set again a vs rows = agree_set again a vs rows
agree_action Append again a vs rows = agree_values a.ignore_case (parser_of_value a.parser) vs
agree_action SetTrue again a vs rows = agree_set again a vs rows
agree_action SetFalse again a vs rows = agree_set again a vs rows
agree_action Count again a vs rows = agree_count a vs rows
agree_action Help again a vs rows = one _
agree_action HelpShort again a vs rows = one _
agree_action HelpLong again a vs rows = one _
agree_action Version again a vs rows = one _

agree_use : (again : Bool) (a : Rule) (vs : List Text) (rows : List Row) →
    Agree (use_fault again a vs rows)
agree_use again a vs rows =
    agree_or _ _ (agree_range (unwrap_or_range a.range).start_inclusive (most_values a) (length vs))
    (agree_action (action_of a) again a (values_or_missing a vs) rows)

agree_settle : (c : List Rule) (again : Bool) (h : Held) → Agree (settle_fault c again h)
agree_settle c again h = agree_option _ h.pending [] (λ p. agree_option _ (arg_by_id c p.0) []
    (λ a. agree_use again a p.1 h.rows) none) none

agree_react : (c : List Rule) (again : Bool) (a : Rule) (vs : List Text) (h : Held) →
    Agree (react_fault c again a vs h)
agree_react c again a vs h = agree_or _ _ (agree_settle c again h)
    (agree_use again a vs (settled c h).rows)

agree_given : (c : List Rule) (again : Bool) (a : Rule) (v : Option Text) (h : Held) →
    Agree (option_fault c again a v h)
agree_given c again a (Some v) h = agree_react c again a (v ∷ []) h
agree_given c again a None h = agree_settle c again h

agree_long : (c : List Rule) (again : Bool) (a : Option Rule) (v : Option Text) (h : Held) →
    Agree (long_fault c again a v h)
agree_long c again None v h = one _
agree_long c again (Some a) v h = agree_if (takes_values a) _ _ (agree_given c again a v h)
    (agree_if (is_some v) _ _ (one _) (agree_react c again a [] h))

agree_short : (c : List Rule) (again : Bool) (a : Option Rule) (rest : Text) (h : Held)
    (more : Held → Kinds)
    → ((x : Held) → Agree (more x)) → Agree (short_fault c again a rest h more)
agree_short c again None rest h more all = one _
agree_short c again (Some a) rest h more all =
    agree_if (takes_values a) _ _ (agree_given c again a (attached_value rest) h)
    (agree_or _ _ (agree_react c again a [] h) (all (reacted c a [] h)))

agree_letter : (c : List Rule) (again : Bool) (x : Option ℕ) (flags : Text) (skip : ℕ) (h : Held)
    (more : Text → ℕ → Held → Kinds)
    → ((f : Text) (s : ℕ) (y : Held) → Agree (more f s y)) →
    Agree (bundle_step_fault c again x flags skip h more)
agree_letter c again None flags skip h more all = none
agree_letter c again (Some x) flags zero h more all =
    let rest = drop (length (encode_utf8 x)) flags in
    agree_short c again (arg_by_short c x) rest h (more rest 0) (all rest 0)
agree_letter c again (Some x) flags (suc skip) h more all =
    all (drop (length (encode_utf8 x)) flags) skip h

agree_flags : (c : List Rule) (again : Bool) (k : ℕ) (flags : Text) (skip : ℕ) (h : Held) →
    Agree (flags_fault c again k flags skip h)
unfolding flags_fault
agree_flags c again zero flags skip h = none
agree_flags c again (suc k) flags skip h = agree_letter c again (slice_get (chars flags) 0) flags
    skip h (flags_fault c again k) (agree_flags c again k)

agree_word : (c : List Rule) (again : Bool) (long : Option (Text × Option Text)) (word : Text)
    (h : Held) → Agree (flag_word_fault c again long word h)
agree_word c again (Some p) word h = agree_long c again (arg_by_long c p.0) p.1 h
agree_word c again None word h =
    agree_option _ (short_of word) [] (λ flags. agree_flags c again (length flags) flags h.skip
    (record h { skip = 0 })) none

module _ (s : Shape) (no_help_command : s.disable_help_subcommand ≡ true) where
  agree_other : (name : Option Text) (word : Text) (h : Held) → Agree (other_fault s name word h)
  agree_other (Some name) word h = never (bytes_eq name (codes "help")) s.disable_help_subcommand
      no_help_command
    where
      never : (a b : Bool) → b ≡ true →
          Agree (cond (a && not b) (kind.DisplayHelp ∷ kind.InvalidSubcommand ∷ []) [])
      never true true e = none
      never false b e = none
      never true false e = cc
  agree_other None word h = agree_if (bytes_eq word (45 ∷ 45 ∷ [])) _ _ none
      (agree_word s.rules s.args_override_self (long_of word) word h)

  agree_stray : Agree (stray_fault s)
  agree_stray = agree_if s.is_leaf _ _ (one _) (record { same = (refl, tt) })

  agree_step : (position : ℕ) (h : Held) (step : Step) → Agree (step_fault s position h step)
  agree_step position h (next w) = none
  agree_step position h (trailing n) = none
  agree_step position h (subcommand t) = none
  agree_step position h value =
      agree_option _ (arg_by_index s.rules position) _
      (λ a. agree_if (is_pending a h.pending && takes_several a) _ _ none
      (agree_settle s.rules s.args_override_self h)) agree_stray

  agree_turn : (names : Names) (w : Walk) (word : Text) → Agree (turn_fault s names w word)
  agree_turn names w word =
      let met = word_met s.rules names w.is_trailing w.waiting w.position word w.held in
      agree_if (is_some w.stopped) _ _ none
      (agree_or _ _ (agree_if w.is_trailing _ _ none
      (agree_other (subcommand_met names w.waiting word) word w.held))
      (agree_step w.position met.0 met.1))

  agree_walk : (names : Names) (w : Walk) (arguments : List Text) →
      Agree (walk_fault s names w arguments)
  unfolding walk_fault
  agree_walk names w [] = none
  agree_walk names w (word ∷ rest) = agree_or _ _ (agree_turn names w word)
      (agree_walk names (walked s.rules names w word) rest)

  agree_defaults : (rows : List Row) (rules : List Rule) → Agree (defaults_fault rows rules)
  unfolding defaults_fault
  agree_defaults rows [] = none
  agree_defaults rows (a ∷ rest) =
      agree_or _ _
      (agree_if (has_row a.id rows || is_empty a.defaults) _ _ none
      (agree_or _ _ (agree_request (action_of a))
      (agree_values a.ignore_case (parser_of_value a.parser) a.defaults)))
      (agree_defaults (with_default rows a) rest)

  agree_level : (names : Names) (h : Held) (arguments : List Text) (entered_one : Bool)
      (below : Kinds)
      → Agree below → Agree (level_fault s names h arguments entered_one below)
  agree_level names h arguments entered_one below agrees =
      let end = (walk s.rules names h arguments).held in
      agree_or _ _ (agree_walk names (walk_from h) arguments)
      (agree_or _ _ agrees (agree_or _ _ (agree_settle s.rules s.args_override_self end)
      (agree_or _ _ (agree_defaults (settled s.rules end).rows s.rules) (agree_check _ _ _))))

-- no command of them has a command `help`
abbrev AreHelpless : List Shape → Type 0
AreHelpless [] = ⊤
AreHelpless (s ∷ rest) = (s.disable_help_subcommand ≡ true) × AreHelpless rest

agree_found : (p : Shape → Bool) (subs : List Shape) (arguments : List Text) → AreHelpless subs
    → Agree (option_map_or (λ s. level_fault s [] nothing_held arguments false []) (find p subs) [])
agree_found p [] arguments h = none
agree_found p (s ∷ rest) arguments h =
    elim (p s) as (λ b. Agree (option_map_or (λ t. level_fault t [] nothing_held arguments false [])
    (cond b (Some s) (find p rest)) [])) [
      | true ↦ agree_level s h.0 [] nothing_held arguments false [] none
      | false ↦
          agree_found p rest arguments h.1
    ]

agree_entered : (stop : Option (Text × List Text)) → Agree (entered_fault (built cachesim_app) stop)
agree_entered stop =
    agree_option _ stop [] (λ p. agree_found (λ s. answers_to p.0 (label_of s))
    (built cachesim_app).subs p.1 (refl, (refl, (refl, (refl, tt))))) none

faults_agree : (arguments : List Text) → Agree (fault_of cachesim_app arguments)
faults_agree arguments =
    let a : App = built cachesim_app in
    let given : List Text = argument_words cachesim_app arguments in
    let stop : Option (Text × List Text) =
    (walk a.top.rules (names_of a) nothing_held given).stopped in
    agree_level a.top refl (names_of a) nothing_held given (is_some (entered a stop))
    (entered_fault a stop) (agree_entered stop)

-- a kind among them says what they say
says : (ks : Kinds) (b : Bool) (k : ErrorKind) → AllSay b ks → IsAmong k ks → is_help k ≡ b
says [] b k all among = absurd among
says (x ∷ xs) b k all (inl e) = ap is_help e ∙ all.0
says (x ∷ xs) b k all (inr later) = says xs b k all.1 later

none_says : (ks : Kinds) → AllSay false ks → list_any is_help ks ≡ false
none_says [] all = refl
none_says (k ∷ ks) all = rw all.0 (none_says ks all.1)

-- where all kinds say the same of help, one of them says what any says
among_exactly : (ks : Kinds) (k : ErrorKind) → Agree ks → IsAmong k ks →
    is_help k ≡ list_any is_help ks
among_exactly [] k agrees among = absurd among
among_exactly (x ∷ xs) k agrees among = says (x ∷ xs) (is_help x) k (refl, agrees.same) among ∙
    first (is_help x) agrees.same
  where
    first : (b : Bool) → AllSay b xs → b ≡ (b || list_any is_help xs)
    first true all = refl
    first false all = sym (none_says xs all)

-- a fault of clap's is told as lack of memory, or it says whether help was asked for
pub help_told : (e : WordsFault) (k : ErrorKind) (arguments : List Text) →
    (k ≡ kind.OutOfMemory → usage_of e ≡ None)
    → IfSome (usage_of e) (λ help. help ≡ is_help k) → (k ≡ kind.OutOfMemory) ⊎
    IsAmong k (fault_of cachesim_app arguments)
    → IfSome (usage_of e) (λ help. help ≡ list_any is_help (fault_of cachesim_app arguments))
help_told e k arguments memory help (inl m) = rw (memory m) tt
help_told e k arguments memory help (inr among) =
    IfSome_then (usage_of e) help (λ h told. told ∙ among_exactly (fault_of cachesim_app arguments)
    k (faults_agree arguments) among)

nonempty : (k : ErrorKind) (ks : Kinds) → IsAmong k ks → ks ≢ []
nonempty k [] among = absurd among
nonempty k (x ∷ xs) among = λ e. cc

-- a refusal is one of clap's
pub refusal_told : (e : WordsFault) (k : ErrorKind) (ks : Kinds) →
    (k ≡ kind.OutOfMemory → usage_of e ≡ None)
    → (k ≡ kind.OutOfMemory) ⊎ IsAmong k ks → IfSome (usage_of e) (λ _. ks ≢ [])
refusal_told e k ks memory (inl m) = rw (memory m) tt
refusal_told e k ks memory (inr among) = IfSome-always (usage_of e) (nonempty k ks among)
