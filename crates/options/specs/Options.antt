-- The commands and their options, as clap sees them.
use Rattle.std.specs.Prelude.{ℕ, true, false, List, [], ◌∷◌, ◌++◌, Some, codes}
use Rattle.clap.specs.Words.{App, Rule, Shape, Text, new_rule}
use Rattle.clap.specs.Simple.{new_shape}
use Rattle.clap.specs.declared.builder.action.ArgAction.TheVariants.{Set, SetTrue}
use Rattle.cache_core.specs.system.Plans.{cache_name}
use Rattle.cache_core.specs.declared.system.plan.CacheName.{CacheName}
use Rattle.cache_core.specs.declared.system.plan.CacheName.TheVariants.{L1I, L1D, L1U, L2U}

-- an option of one letter, with this name
abbrev pub by_letter : Text → ℕ → Rule
by_letter name letter = record (new_rule name) { short = Some letter }

-- an option with this long name, to which a fault adds these dashes
abbrev pub by_name : Text → Text → Rule
by_name dashes long = record (new_rule (dashes ++ long)) { long = Some long }

-- the option with a value, which may be left out
abbrev pub optional : Rule → Rule
optional r = record r { action = Some Set; value_names = 1 }

-- the option with a value, which has to be given
abbrev pub required : Rule → Rule
required r = record (optional r) { required = true }

-- the option without a value
abbrev pub flag : Rule → Rule
flag r = record r { action = Some SetTrue }

-- ---- the options of `csim`, which are those of the CS:APP cache lab

abbrev pub set_bits_option : Rule
set_bits_option = required (by_letter (codes "-s") 115)

abbrev pub lines_option : Rule
lines_option = required (by_letter (codes "-E") 69)

abbrev pub block_bits_option : Rule
block_bits_option = required (by_letter (codes "-b") 98)

abbrev pub lackey_file_option : Rule
lackey_file_option = required (by_letter (codes "-t") 116)

abbrev pub verbose_option : Rule
verbose_option = flag (by_letter (codes "-v") 118)

abbrev pub csim_rules : List Rule
csim_rules = set_bits_option ∷ lines_option ∷ block_bits_option ∷ lackey_file_option ∷
    verbose_option ∷ []

-- ---- the options of `din` and of `log`: those of the caches and -informat are Dinero IV's, but
-- for the number of sets

abbrev pub informat_option : Rule
informat_option = optional (by_name (codes "-") (codes "informat"))

abbrev pub seed_option : Rule
seed_option = optional (by_name (codes "--") (codes "seed"))

abbrev pub file_option : Rule
file_option = optional (by_letter (codes "-t") 116)

-- the option of a cache with this ending
abbrev pub cache_option : CacheName → Text → Rule
cache_option cache ending = optional (by_name (codes "-") (cache_name cache ++ ending))

abbrev pub size_option_of : CacheName → Rule
size_option_of cache = cache_option cache (codes "size")

abbrev pub sets_option_of : CacheName → Rule
sets_option_of cache = cache_option cache (codes "sets")

abbrev pub bsize_option_of : CacheName → Rule
bsize_option_of cache = cache_option cache (codes "bsize")

abbrev pub assoc_option_of : CacheName → Rule
assoc_option_of cache = cache_option cache (codes "assoc")

abbrev pub repl_option_of : CacheName → Rule
repl_option_of cache = cache_option cache (codes "repl")

abbrev pub walloc_option_of : CacheName → Rule
walloc_option_of cache = cache_option cache (codes "walloc")

abbrev pub wback_option_of : CacheName → Rule
wback_option_of cache = cache_option cache (codes "wback")

-- the seven options of a cache
abbrev pub cache_rules : CacheName → List Rule
cache_rules cache = size_option_of cache ∷ sets_option_of cache ∷ bsize_option_of
    cache ∷ assoc_option_of cache
    ∷ repl_option_of cache ∷ walloc_option_of cache ∷ wback_option_of cache ∷ []

abbrev pub din_rules : List Rule
din_rules = (informat_option ∷ seed_option ∷ file_option ∷ [])
    ++ cache_rules L1I ++ cache_rules L1D ++ cache_rules L1U ++ cache_rules L2U

-- ---- the options of `sweep`, which are this project's

abbrev pub bsize_option : Rule
bsize_option = required (by_name (codes "--") (codes "bsize"))

abbrev pub sets_option : Rule
sets_option = required (by_name (codes "--") (codes "sets"))

abbrev pub assoc_option : Rule
assoc_option = required (by_name (codes "--") (codes "assoc"))

abbrev pub size_option : Rule
size_option = required (by_name (codes "--") (codes "size"))

abbrev pub kind_option : Rule
kind_option = optional (by_name (codes "--") (codes "kind"))

abbrev pub format_option : Rule
format_option = optional (by_name (codes "--") (codes "format"))

abbrev pub after_option : Rule
after_option = optional (by_name (codes "--") (codes "after"))

abbrev pub rows_option : Rule
rows_option = optional (by_name (codes "--") (codes "rows"))

abbrev pub pow2_option : Rule
pow2_option = flag (by_name (codes "--") (codes "pow2"))

abbrev pub full_option : Rule
full_option = flag (by_name (codes "--") (codes "full"))

abbrev pub sweep_rules : List Rule
sweep_rules = bsize_option ∷ sets_option ∷ assoc_option ∷ size_option ∷ kind_option ∷ format_option
    ∷ after_option ∷ rows_option ∷ pow2_option ∷ full_option ∷ file_option ∷ []

-- ---- the commands

-- a command with these options and no subcommand
abbrev pub leaf : Text → List Rule → Shape
leaf name rules = record (new_shape name) { rules = rules }

-- one of the commands has to be given, and `help` is not one of them
abbrev pub cachesim_top : Shape
cachesim_top = record (new_shape (codes "cachesim")) {
  subcommand_required = true;
  disable_help_subcommand = true;
}

-- the program's command line
abbrev pub cachesim_app : App
cachesim_app = record {
  top = record cachesim_top { is_leaf = false };
  subs = leaf (codes "csim") csim_rules ∷ leaf (codes "din") din_rules ∷ leaf (codes "log")
      din_rules ∷ leaf (codes "sweep") sweep_rules ∷ [];
}
