-- A cache of a system: its policy.
use Rattle.std.specs.Prelude.{ℕ, Option, Some}
use Rattle.cache_core.specs.declared.design.Repl.{Repl}
use Rattle.cache_core.specs.declared.design.Repl.TheVariants.{Lru as LruRepl, Fifo as FifoRepl}
use Rattle.cache_core.specs.declared.design.Repl.TheVariants.{Random as RandomRepl}
use Rattle.cache_core.specs.declared.replacement.chosen.ChosenPolicy.{ChosenPolicy}
use Rattle.cache_core.specs.declared.replacement.chosen.ChosenPolicy.TheVariants.{Lru, Fifo, Random}
use Rattle.cache_core.specs.replacement.RandomNumbers.{random_number}

-- the name of a policy that was chosen
abbrev pub policy_of : ChosenPolicy → Option Repl
policy_of (Lru p) = Some LruRepl
policy_of (Fifo p) = Some FifoRepl
policy_of (Random p) = Some RandomRepl

-- the random numbers still to come: for Random those of its generator
abbrev pub random_numbers_of : ChosenPolicy → ℕ → ℕ
random_numbers_of (Lru p) = λ n. 0
random_numbers_of (Fifo p) = λ n. 0
random_numbers_of (Random p) = random_number p
