-- The random numbers of a generator: PCG32 (O'Neill 2014), of stream 54.
use Rattle.std.specs.Prelude.{ℕ}
use Rattle.rand_pcg.specs.Lcg.{Lcg, advance, started, increment_of}
use Rattle.rand_pcg.specs.Pcg.{pcg32, multiplier_64}

-- random number n that the generator gives, from 0
abbrev pub random_number : Lcg → ℕ → ℕ
random_number g n = (pcg32 (advance 64 multiplier_64 n g)).0

-- the generator of a seed
abbrev pub generator_of : ℕ → Lcg
generator_of seed = started 64 multiplier_64 seed (increment_of 64 54)
